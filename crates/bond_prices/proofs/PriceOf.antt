-- What `price_of` answers, by what the unsigned text spells.
use Rattle.std.proofs.Common.{◌≡◌, ◌≢◌, ℕ, ◌*◌, Bool, true, false, List, [], ◌∷◌, length, Some}
use Rattle.std.proofs.Common.{None, Err, refl, ap, arith, if◌then◌else◌, get_or}
use Rattle.std.proofs.lemmas.Bool.{ne_eqb}
use Rattle.std.specs.Prelude.{◌==◌}
use Rattle.bond_prices.specs.Price.{Parts, cut_at_point, parts_of, price_at, price_of}
use Rattle.bond_prices.specs.Decimal.{decimal_of}
use Rattle.bond_prices.specs.declared.decimal.Decimal.{Decimal}
use Rattle.bond_prices.specs.declared.fault.PriceFault.TheVariants.{Form, Range}

-- a value that is there by a test
some_by_test : (t : Bool) (x d : Decimal) → (if t then Some x else None) ≡ Some d → (t ≡ true) × (x ≡ d)
some_by_test true x d e = (refl, cc)
some_by_test false x d e = cc

none_by_test : (t : Bool) (x : Decimal) → (if t then Some x else None) ≡ None → t ≡ false
none_by_test true x e = cc
none_by_test false x e = refl

-- a cut text has no sign
pub cut_at_point-unsigned : (text : List ℕ) → (cut_at_point text).is_negative ≡ false
cut_at_point-unsigned [] = refl
cut_at_point-unsigned (c ∷ text) = by_test (c == 46) _ _ refl refl
  where
    by_test : (t : Bool) (p q : Parts) → p.is_negative ≡ false → q.is_negative ≡ false → (if t then p else q).is_negative ≡ false
    by_test true p q e f = e
    by_test false p q e f = f

-- a text that does not begin with a minus sign
pub parts_of-unsigned : (text : List ℕ) → get_or text 0 0 ≢ 45 → parts_of text ≡ cut_at_point text
parts_of-unsigned [] other = refl
parts_of-unsigned (c ∷ text) other = rw (ne_eqb c 45 other) refl

pub price_of-negative : (text : List ℕ) (d : Decimal) → decimal_of text ≡ Some d → price_of (45 ∷ text) ≡ Err Range
unfolding price_of decimal_of
price_of-negative text d e = rw ((some_by_test _ _ _ e).0) refl

pub price_of-negative_none : (text : List ℕ) → decimal_of text ≡ None → price_of (45 ∷ text) ≡ Err Form
unfolding price_of decimal_of
price_of-negative_none text e = rw (none_by_test _ _ e) refl

pub price_of-unsigned : (text : List ℕ) (d : Decimal) → get_or text 0 0 ≢ 45 → decimal_of text ≡ Some d → price_of text ≡ price_at (256 * d.number) d.scale
unfolding price_of decimal_of
price_of-unsigned text d other e =
    let is = some_by_test _ _ _ e in
    rw (parts_of-unsigned text other, is.0, cut_at_point-unsigned text) (ap (λ (x : Decimal). price_at (256 * x.number) x.scale) is.1)

pub price_of-unsigned_none : (text : List ℕ) → get_or text 0 0 ≢ 45 → decimal_of text ≡ None → price_of text ≡ Err Form
unfolding price_of decimal_of
price_of-unsigned_none text other e = rw (parts_of-unsigned text other, none_by_test _ _ e) refl

pub price_of-empty : (text : List ℕ) → length text ≡ 0 → price_of text ≡ Err Form
unfolding price_of
price_of-empty [] e = refl
price_of-empty (c ∷ text) e = absurd (omega arith)
