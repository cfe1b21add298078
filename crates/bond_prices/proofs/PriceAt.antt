-- What `price_at` answers, by the quotient and the remainder that the code has.
use Rattle.std.proofs.Common.{◌≡◌, ◌≢◌, ℕ, ◌*◌, ◌/◌, ◌%◌, ◌<◌, ◌≤◌, ◌⊎◌, inl, inr, Bool, true}
use Rattle.std.proofs.Common.{false, Ok, Err, refl, arith}
use Rattle.std.proofs.lemmas.Bool.{lt-ltb, le-ltb, eq-eqb, ne_eqb}
use Rattle.std.proofs.Math.Nat.{mod-add-div, mod-lt, mul-le-mul_left}
use Rattle.std.specs.Prelude.{nat_lt}
use Rattle.bond_prices.specs.declared.fault.PriceFault.TheVariants.{Range, Grid}
use Rattle.bond_prices.specs.Price.{price_at}

-- below one 256th

pub price_at-low : (a s : ℕ) → a < s → price_at a s ≡ Err Range
price_at-low a s low = rw (lt-ltb a s low) refl

-- above 255,999
pub price_at-high : (a s : ℕ) → 255999 * s < a → price_at a s ≡ Err Range
price_at-high a s high =
    let cases : (t : Bool) → nat_lt a s ≡ t → price_at a s ≡ Err Range =
    λ t. elim t as (λ t. nat_lt a s ≡ t → price_at a s ≡ Err Range) [ true ↦ λ e. rw e refl | false ↦ λ e. rw (e, lt-ltb (255999 * s) a high) refl ]
    in cases (nat_lt a s) refl

-- no whole number
pub price_at-grid : (a s : ℕ) → s ≤ a → a ≤ 255999 * s → a % s ≢ 0 → price_at a s ≡ Err Grid
price_at-grid a s low high rest =
    rw (le-ltb a s low, le-ltb (255999 * s) a high, ne_eqb (a % s) 0 rest) refl

-- a whole number
pub price_at-ok : (a s : ℕ) → s ≤ a → a ≤ 255999 * s → a % s ≡ 0 → price_at a s ≡ Ok (a / s)
price_at-ok a s low high rest = rw (le-ltb a s low, le-ltb (255999 * s) a high, eq-eqb (a % s) 0 rest) refl

-- a quotient of 1 or more
pub low_from_quotient : (a s : ℕ) → 1 ≤ a / s → s ≤ a
low_from_quotient a s one = omega (arith, mod-add-div a s, mul-le-mul_left s one)

-- a quotient of at most 255,999, which is met with no rest alone
pub high_from_quotient : (a s : ℕ) → 1 ≤ s → a / s ≤ 255999 → ((a / s ≡ 255999) × (a % s ≤ 0)) ⊎ (a / s ≢ 255999) → a ≤ 255999 * s
high_from_quotient a s pos most either = elim either [ inl none ↦ omega (arith, mod-add-div a s, mul-le-mul_left s most) | inr less ↦ at_most (omega arith) ]
  where
    at_most : a / s ≤ 255998 → a ≤ 255999 * s
    at_most less = omega (arith, mod-add-div a s, mod-lt a pos, mul-le-mul_left s less)
