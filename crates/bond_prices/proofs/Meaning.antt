-- `price_of` is what the definitions by parts say.
use Rattle.std.proofs.Common.{◌≡◌, ◌≢◌, ℕ, ◌+◌, ◌*◌, ◌/◌, ◌%◌, ◌<◌, ◌≤◌, ◌⊎◌, inl, inr, Bool, true}
use Rattle.std.proofs.Common.{false, List, length, Result, Ok, Err, refl, sym, ◌∙◌, ap, subst}
use Rattle.std.proofs.Common.{arith, if◌then◌else◌, lit<, ◌↔◌}
use Rattle.std.proofs.lemmas.Bool.{eqb-true, eqb-false, cases_lt}
use Rattle.std.proofs.Math.Nat.{mod-add-div, mul-le-mul_right, mul-mod_left, mul-div_cancel}
use Rattle.std.proofs.Math.Nat.{one-le-pow, mul_comm, le-div_iff_mul-le, div-le_of_le-mul}
use Rattle.std.specs.Prelude.{◌==◌}
use Rattle.bond_prices.specs.declared.fault.PriceFault.{PriceFault}
use Rattle.bond_prices.specs.declared.fault.PriceFault.TheVariants.{Form, Range, Grid}
use Rattle.bond_prices.specs.Price.{Parts, text_of, behind_point, digits_of, number_of, scale_of}
use Rattle.bond_prices.specs.Price.{parts_of, are_lawful, price_at, price_of, IsLawful, IsPriceForm}
use Rattle.bond_prices.specs.Price.{IsReadAs, IsOutOfRange, IsOffGrid}
use Rattle.bond_prices.proofs.PriceAt.{price_at-low, price_at-high, price_at-grid, price_at-ok}
use Rattle.bond_prices.proofs.Built.{lawful_test, lawful_from_test, parts_of-text_of}
use Rattle.bond_prices.proofs.Built.{text_of-parts_of}

-- what holds of a / s 256ths where `price_at` answers r
abbrev pub NumberMeans : ℕ → ℕ → Result ℕ PriceFault → Type 0
NumberMeans a s (Ok n) = (a ≡ n * s) × (1 ≤ n) × (n ≤ 255999)
NumberMeans a s (Err Form) = ⊥
NumberMeans a s (Err Range) = (a < s) ⊎ (255999 * s < a)
NumberMeans a s (Err Grid) = Unit {0}

same_or_not : (a b : ℕ) → (a ≡ b) ⊎ (a ≢ b)
same_or_not a b = by_test (a == b) refl
  where
    by_test : (t : Bool) → (a == b) ≡ t → (a ≡ b) ⊎ (a ≢ b)
    by_test true e = inl (eqb-true a b e)
    by_test false e = inr (eqb-false a b e)

-- a whole quotient in range
whole_means : (a s : ℕ) → 1 ≤ s → s ≤ a → a ≤ 255999 * s → a % s ≡ 0 → NumberMeans a s (Ok (a / s))
whole_means a s pos low high none =
    let split : a % s + s * (a / s) ≡ a = mod-add-div a s in
    let whole : 0 + s * (a / s) ≡ a = rw none at split in
    let is : s * (a / s) ≡ a / s * s = mul_comm s (a / s) in
    let one : 1 ≤ a / s = (le-div_iff_mul-le pos).1 (omega arith) in
    let most : a / s ≤ 255999 = div-le_of_le-mul s (omega arith) in
    (omega arith, one, most)

-- what `price_at` answers holds
pub price_at_means : (a s : ℕ) → 1 ≤ s → NumberMeans a s (price_at a s)
price_at_means a s pos = elim (cases_lt a s) [
  | inl low ↦ rw (price_at-low a s low) (inl low)
  | inr low ↦ elim (cases_lt (255999 * s) a) [
    | inl high ↦ rw (price_at-high a s high) (inr high)
    | inr high ↦ elim (same_or_not (a % s) 0) [
      | inl none ↦ rw (price_at-ok a s low high none) (whole_means a s pos low high none)
      | inr some ↦ rw (price_at-grid a s low high some) tt
    ]
  ]
]

-- a whole number in range is answered
pub price_at-exact : (a s n : ℕ) → 1 ≤ s → a ≡ n * s → 1 ≤ n → n ≤ 255999 → price_at a s ≡ Ok n
price_at-exact a s n pos is one most =
    let low : s ≤ a = omega (arith, mul-le-mul_right s one) in
    let high : a ≤ 255999 * s = omega (arith, mul-le-mul_right s most) in
    let none : a % s ≡ 0 = rw is (mul-mod_left n s) in
    let quotient : a / s ≡ n = rw is (mul-div_cancel n pos) in
    price_at-ok a s low high none ∙ ap Ok quotient

-- the scale is positive
pub scale_of-positive : (p : Parts) → 1 ≤ scale_of p
scale_of-positive p = one-le-pow (length (behind_point p.decimals)) 10 (lit< tt)

-- what lawful parts are
price_of-text_of : (p : Parts) → IsLawful p → price_of (text_of p) ≡ (if p.is_negative then Err Range else price_at (256 * number_of p) (scale_of p))
unfolding price_of
price_of-text_of p lawful = rw (parts_of-text_of p lawful, lawful_test p lawful) refl

-- a text that is read as n
pub price_of-read : (text : List ℕ) (n : ℕ) → IsReadAs text n → price_of text ≡ Ok n
price_of-read text n h =
    let p = h.parts in
    rw (h.built, price_of-text_of h.parts h.lawful, h.unsigned) (price_at-exact (256 * number_of h.parts) (scale_of h.parts) n (scale_of-positive h.parts) h.exact h.at_least_one h.at_most)

-- a text that is out of range
pub price_of-range : (text : List ℕ) → IsOutOfRange text → price_of text ≡ Err Range
price_of-range text h = rw (h.built, price_of-text_of h.parts h.lawful) (outside h.parts.is_negative h.outside)
  where
    outside : (negative : Bool) → (negative ≡ true) ⊎ (256 * number_of h.parts < scale_of h.parts) ⊎ (255999 * scale_of h.parts < 256 * number_of h.parts) → (if negative then Err Range else price_at (256 * number_of h.parts) (scale_of h.parts)) ≡ Err Range
    outside true why = refl
    outside false (inl negative) = absurd cc
    outside false (inr (inl low)) = price_at-low _ _ low
    outside false (inr (inr high)) = price_at-high _ _ high

-- what a text is where `price_of` answers r
abbrev pub TextMeans : List ℕ → Result ℕ PriceFault → Type 0
TextMeans text (Ok n) = IsReadAs text n
TextMeans text (Err Form) = ¬ IsPriceForm text
TextMeans text (Err Range) = IsOutOfRange text
TextMeans text (Err Grid) = IsPriceForm text

-- lawful parts without a sign
unsigned_means : (text : List ℕ) (p : Parts) → IsLawful p → text ≡ text_of p → p.is_negative ≡ false → (r : Result ℕ PriceFault) → NumberMeans (256 * number_of p) (scale_of p) r → TextMeans text r
unsigned_means text p lawful built unsigned (Ok n) h = record { parts = p; lawful = lawful; built = built; unsigned = unsigned; exact = h.0; at_least_one = h.1; at_most = h.2 }
unsigned_means text p lawful built unsigned (Err Form) h = absurd h
unsigned_means text p lawful built unsigned (Err Range) h = record { parts = p; lawful = lawful; built = built; outside = inr h }
unsigned_means text p lawful built unsigned (Err Grid) h = record { parts = p; lawful = lawful; built = built }

-- unlawful parts
unlawful_means : (text : List ℕ) → are_lawful (digits_of (parts_of text)) ≡ false → ¬ IsPriceForm text
unlawful_means text none form =
    let test : are_lawful (digits_of form.parts) ≡ true = lawful_test form.parts form.lawful in
    let same : parts_of text ≡ form.parts = ap parts_of form.built ∙ parts_of-text_of form.parts form.lawful in
    let wrong : are_lawful (digits_of (parts_of text)) ≡ true = rw same test in
    absurd cc

-- what `price_of` answers holds
pub price_of_means : (text : List ℕ) → TextMeans text (price_of text)
unfolding price_of
price_of_means text = by_form (are_lawful (digits_of (parts_of text))) refl
  where
    by_sign : IsLawful (parts_of text) → (t : Bool) → (parts_of text).is_negative ≡ t → TextMeans text (if t then Err Range else price_at (256 * number_of (parts_of text)) (scale_of (parts_of text)))
    by_sign lawful true e = record { parts = parts_of text; lawful = lawful; built = sym (text_of-parts_of text); outside = inl e }
    by_sign lawful false e = unsigned_means text (parts_of text) lawful (sym (text_of-parts_of text)) e (price_at (256 * number_of (parts_of text)) (scale_of (parts_of text))) (price_at_means _ _ (scale_of-positive (parts_of text)))

    by_form : (t : Bool) → are_lawful (digits_of (parts_of text)) ≡ t → TextMeans text (if t then (if (parts_of text).is_negative then Err Range else price_at (256 * number_of (parts_of text)) (scale_of (parts_of text))) else Err Form)
    by_form true e = by_sign (lawful_from_test (parts_of text) e) (parts_of text).is_negative refl
    by_form false e = unlawful_means text e

-- what is read, and what is out of range, has the form of a price
read_form : (text : List ℕ) (n : ℕ) → IsReadAs text n → IsPriceForm text
read_form text n h = record { parts = h.parts; lawful = h.lawful; built = h.built }

range_form : (text : List ℕ) → IsOutOfRange text → IsPriceForm text
range_form text h = record { parts = h.parts; lawful = h.lawful; built = h.built }

-- the clauses of `read_price`
pub price_of-ok_iff : (text : List ℕ) (n : ℕ) → (price_of text ≡ Ok n) ↔ IsReadAs text n
price_of-ok_iff text n = ((λ e. subst (TextMeans text) e (price_of_means text)), price_of-read text n)

pub price_of-range_iff : (text : List ℕ) → (price_of text ≡ Err Range) ↔ IsOutOfRange text
price_of-range_iff text = ((λ e. subst (TextMeans text) e (price_of_means text)), price_of-range text)

pub price_of-form_iff : (text : List ℕ) → (price_of text ≡ Err Form) ↔ (¬ IsPriceForm text)
price_of-form_iff text = ((λ e. subst (TextMeans text) e (price_of_means text)), λ none. by_answer none (price_of text) (price_of_means text))
  where
    by_answer : ¬ IsPriceForm text → (r : Result ℕ PriceFault) → TextMeans text r → r ≡ Err Form
    by_answer none (Ok n) h = absurd (none (read_form text n h))
    by_answer none (Err Form) h = refl
    by_answer none (Err Range) h = absurd (none (range_form text h))
    by_answer none (Err Grid) h = absurd (none h)

pub price_of-grid_iff : (text : List ℕ) → (price_of text ≡ Err Grid) ↔ IsOffGrid text
price_of-grid_iff text = ((λ e. off_grid e), λ off. by_answer off (price_of text) (price_of_means text))
  where
    off_grid : price_of text ≡ Err Grid → IsOffGrid text
    off_grid e = record {
      form = subst (TextMeans text) e (price_of_means text);
      in_range = λ out. let r = price_of-range text out in absurd cc;
      read_as_none = λ n read. let r = price_of-read text n read in absurd cc;
    }

    by_answer : IsOffGrid text → (r : Result ℕ PriceFault) → TextMeans text r → r ≡ Err Grid
    by_answer off (Ok n) h = absurd (off.read_as_none n h)
    by_answer off (Err Form) h = absurd (h off.form)
    by_answer off (Err Range) h = absurd (off.in_range h)
    by_answer off (Err Grid) h = refl
