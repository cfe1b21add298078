-- The text of a price, as the code puts it together.
use Rattle.std.proofs.Common.{◌≡◌, ◌≢◌, ℕ, ◌/◌, ◌%◌, List, [], ◌∷◌, ◌++◌, refl, sym, append_assoc}
use Rattle.std.proofs.lemmas.List.{append-nil}
use Rattle.std.proofs.lemmas.Bool.{eq-eqb, ne_eqb}
use Rattle.std.specs.Prelude.{decimal}
use Rattle.bond_prices.specs.Price.{fraction_digits, price_digits}

pub price_digits-whole : (n : ℕ) → n % 256 ≡ 0 → price_digits n ≡ decimal (n / 256)
unfolding price_digits
price_digits-whole n none = rw (eq-eqb (n % 256) 0 none) (append-nil (decimal (n / 256)))

pub price_digits-fraction : (n : ℕ) → n % 256 ≢ 0 → price_digits n ≡ (decimal (n / 256) ++ 46 ∷ []) ++ fraction_digits (n % 256)
unfolding price_digits
price_digits-fraction n some = rw (ne_eqb (n % 256) 0 some, append_assoc) refl

-- the whole points alone
pub written-whole : (n : ℕ) (text whole empty : List ℕ) → n % 256 ≡ 0 → whole ≡ decimal (n / 256) → empty ≡ [] → text ≡ empty ++ whole → text ≡ price_digits n
written-whole n text whole empty none is nil built = rw (built, nil, is) (sym (price_digits-whole n none))

-- the point, and the decimals
pub written-fraction : (n : ℕ) (text front whole empty decimals : List ℕ) → n % 256 ≢ 0 → whole ≡ decimal (n / 256) → empty ≡ [] → front ≡ empty ++ whole → decimals ≡ fraction_digits (n % 256) → text ≡ (front ++ 46 ∷ []) ++ decimals → text ≡ price_digits n
written-fraction n text front whole empty decimals some is nil before digits built = rw (built, before, nil, is, digits) (sym (price_digits-fraction n some))
