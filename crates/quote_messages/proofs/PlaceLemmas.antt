-- The table of places says where each tag stands among those that the tables look at.
use Rattle.std.proofs.Common.{◌≡◌, ℕ, ◌<◌, ◌==◌, Bool, true, get_or, not, refl, arith}
use Rattle.std.proofs.lemmas.Bool.{agree_below_at}
use Rattle.std.proofs.lemmas.Bool.Decides.{nat_tests}
use Rattle.std.proofs.lemmas.List.Sums.{prefix_len-le-length}
use Rattle.quote_messages.specs.Slots.{checked_tags, place_of}
use Rattle.quote_messages.specs.declared.slots.TheConstants.{PLACES}

abbrev is_right : ℕ → Bool
is_right tag = get_or PLACES tag 0 == place_of tag

pub place_at : (tag : ℕ) → tag < 150 → get_or PLACES tag 0 ≡ place_of tag
place_at tag inside =
    let right : is_right tag ≡ true = agree_below_at is_right (λ _. true) 150 tag refl inside in
    grind (arith, nat_tests)

-- and each has a slot
pub few_places : (tag : ℕ) → place_of tag < 26
few_places tag = let within = prefix_len-le-length (λ known. not (known == tag)) checked_tags in omega arith
