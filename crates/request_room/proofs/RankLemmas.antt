-- The place at which a quote ranks in a book that is kept best first, and whether some quote is
-- kept there.
use Rattle.std.proofs.Common.{◌≡◌, ℕ, suc, ◌+◌, ◌≤◌, Bool, true, false, ◌||◌, not, cond, nat_lt}
use Rattle.std.proofs.Common.{List, [], ◌∷◌, length, Some, None, fold, refl, ap, ◌∙◌, arith}
use Rattle.std.proofs.Common.{unwrap_or}
use Rattle.std.specs.List.{list_any, insert, position, position_or_len}
use Rattle.std.proofs.lemmas.Bool.Decides.{nat_tests}
use Rattle.std.proofs.lemmas.List.Sums.{prefix_len-le-length}
use Rattle.market_terms.specs.declared.asks.Side.{Side}
use Rattle.request_room.specs.declared.book.RankedQuote.{RankedQuote}
use Rattle.request_room.specs.declared.quotes.PostedQuote.{PostedQuote}
use Rattle.request_room.specs.Book.{is_better}
use Rattle.request_room.specs.Kept.{rank_in, ranked, quotes_in}

-- The place at which a quote ranks.

pub within : {X : Type 0} (p : X → Bool) (xs : List X) → position_or_len p xs ≤ length xs
within p xs = prefix_len-le-length (λ x. not (p x)) xs

place_by_test : (b : Bool) (n len : ℕ) → nat_lt n len ≡ b → n ≤ len
    → unwrap_or (cond b (Some n) None) len ≡ n
place_by_test true n len h within = refl
place_by_test false n len h within = grind (arith, nat_tests)

pub place_or_end : {X : Type 0} (p : X → Bool) (xs : List X) → unwrap_or (position p xs) (length xs)
    ≡ position_or_len p xs
place_or_end p xs =
    place_by_test (nat_lt (position_or_len p xs) (length xs)) (position_or_len p xs) (length xs)
    refl (within p xs)

insert_by_test : (b : Bool) (place : ℕ) (one new : RankedQuote) (others with_new : List RankedQuote)
    → insert others place new ≡ with_new → insert (one ∷ others) (cond (not b) (1 + place) 0) new
    ≡ cond b (new ∷ one ∷ others) (one ∷ with_new)
insert_by_test true place one new others with_new h = refl
insert_by_test false place one new others with_new h = let next : 1 + place ≡ suc place =
    omega arith in rw next (ap (λ left. one ∷ left) h)

-- a quote that is put there ranks there
pub insert_at_rank : (side : Side) (quotes : List RankedQuote) (new : RankedQuote)
    → insert quotes (position_or_len (λ one. is_better side new.quote.price one.quote.price) quotes)
    new ≡ rank_in side quotes new
insert_at_rank side [] new = refl
insert_at_rank side (one ∷ others) new =
    insert_by_test (is_better side new.quote.price one.quote.price)
    (position_or_len (λ other. is_better side new.quote.price other.quote.price) others) one new
    others (rank_in side others new) (insert_at_rank side others new)

-- Whether some quote is kept.

or_swap : (a b c : Bool) → (a || (b || c)) ≡ (b || (a || c))
or_swap true true c = refl
or_swap true false c = refl
or_swap false b c = refl

any-rank_in : (side : Side) (p : RankedQuote → Bool) (new : RankedQuote) (quotes : List RankedQuote)
    → list_any p (rank_in side quotes new) ≡ (p new || list_any p quotes)
any-rank_in side p new [] = refl
any-rank_in side p new (one ∷ others) =
    elim (is_better side new.quote.price one.quote.price) as
    (λ b. list_any p (cond b (new ∷ one ∷ others) (one ∷ rank_in side others new))
    ≡ (p new || (p one || list_any p others))) [
      | true ↦ refl
      | false ↦ ap (λ rest. p one || rest) (any-rank_in side p new others)
          ∙ or_swap (p one) (p new) (list_any p others)
    ]

or_moved : (a b c : Bool) → ((a || b) || c) ≡ (b || (a || c))
or_moved true true c = refl
or_moved true false c = refl
or_moved false true c = refl
or_moved false false c = refl

or_end : (b : Bool) → b ≡ (b || false)
or_end true = refl
or_end false = refl

any-ranked_on : (side : Side) (p : RankedQuote → Bool) (best posted : List RankedQuote)
    → list_any p (fold (rank_in side) best posted) ≡ (list_any p best || list_any p posted)
any-ranked_on side p best [] = or_end (list_any p best)
any-ranked_on side p best (new ∷ later) =
    any-ranked_on side p (rank_in side best new) later
    ∙ ap (λ b. b || list_any p later) (any-rank_in side p new best)
    ∙ or_moved (p new) (list_any p best) (list_any p later)

any-map : (p : PostedQuote → Bool) (posted : List RankedQuote)
    → list_any (λ one. p one.quote) posted ≡ list_any p (quotes_in posted)
any-map p [] = refl
any-map p (one ∷ others) = ap (λ b. p one.quote || b) (any-map p others)

-- some quote is kept where it was posted
pub any-ranked : (side : Side) (p : PostedQuote → Bool) (posted : List RankedQuote)
    → list_any (λ one. p one.quote) (ranked side posted) ≡ list_any p (quotes_in posted)
any-ranked side p posted = any-ranked_on side (λ one. p one.quote) [] posted ∙ any-map p posted
