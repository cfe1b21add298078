-- What the venue is given has the firm's fields.
use Rattle.std.proofs.Common.{◌≡◌, ℕ, ◌==◌, ◌||◌, Bool, true, false, List, [], ◌∷◌, ap, sym, subst, ◌∙◌, refl, arith, inl, inr}
use Rattle.std.specs.Prelude.{decimal}
use Rattle.std.specs.Option.{option_map}
use Rattle.std.proofs.lemmas.Bool.{cases_Bool, false≢true}
use Rattle.std.proofs.lemmas.Bool.Decides.{nat_tests}
use Rattle.fix_fields.specs.Frame.{Field, value_of}
use Rattle.wire_messages.specs.ToVenue.{cut_to_milliseconds, has_tag, is_left_out, is_named, to_venue, unnamed}

-- What a field is: left out, 34, 52, or another.
data Kind (tag : ℕ) : Type 0 where
  Out : is_left_out tag ≡ true → (tag == 34) ≡ false → (tag == 52) ≡ false → Kind tag
  Number : tag ≡ 34 → Kind tag
  Time : tag ≡ 52 → Kind tag
  Other : is_left_out tag ≡ false → (tag == 34) ≡ false → (tag == 52) ≡ false → Kind tag

out_apart : (tag : ℕ) → is_left_out tag ≡ true → ((tag == 34) ≡ false) × ((tag == 52) ≡ false)
out_apart tag h =
    elim (cases_Bool (tag == 43)) [
      | inl a ↦ (grind (arith, nat_tests), grind (arith, nat_tests))
      | inr na ↦ elim (cases_Bool (tag == 97)) [
        | inl b ↦ (grind (arith, nat_tests), grind (arith, nat_tests))
        | inr nb ↦ elim (cases_Bool (tag == 122)) [
          | inl d ↦ (grind (arith, nat_tests), grind (arith, nat_tests))
          | inr nd ↦ absurd (false≢true (sym (none (tag == 43) (tag == 97) (tag == 122) na nb nd) ∙ h))
        ]
      ]
    ] where
      none : (a b d : Bool) → a ≡ false → b ≡ false → d ≡ false → a || b || d ≡ false
      none true b d p q r = absurd (false≢true (sym p))
      none false true d p q r = absurd (false≢true (sym q))
      none false false d p q r = r

kind_of : (tag : ℕ) → Kind tag
kind_of tag =
    elim (cases_Bool (is_left_out tag)) [
      | inl out ↦ (let apart = out_apart tag out in Out out apart.0 apart.1)
      | inr stays ↦ elim (cases_Bool (tag == 34)) [
        | inl number ↦ Number (grind (arith, nat_tests))
        | inr other ↦ elim (cases_Bool (tag == 52)) [
          | inl time ↦ Time (grind (arith, nat_tests))
          | inr last ↦ Other stays other last
        ]
      ]
    ]

-- What each adds to what the venue is given.

given_out : (number tag : ℕ) (value : List ℕ) (fields : List Field) → is_left_out tag ≡ true
    → to_venue number ((tag, value) ∷ fields) ≡ to_venue number fields
given_out number tag value fields out = rw out refl

given_number : (number tag : ℕ) (value : List ℕ) (fields : List Field) → tag ≡ 34
    → to_venue number ((tag, value) ∷ fields) ≡ (34, decimal number) ∷ to_venue number fields
given_number number tag value fields is = ap (λ (t : ℕ). to_venue number ((t, value) ∷ fields)) is

given_time : (number tag : ℕ) (value : List ℕ) (fields : List Field) → tag ≡ 52
    → to_venue number ((tag, value) ∷ fields) ≡ (52, cut_to_milliseconds value) ∷ to_venue number fields
given_time number tag value fields is = ap (λ (t : ℕ). to_venue number ((t, value) ∷ fields)) is

given_other : (number tag : ℕ) (value : List ℕ) (fields : List Field) → is_left_out tag ≡ false → (tag == 34) ≡ false → (tag == 52) ≡ false
    → to_venue number ((tag, value) ∷ fields) ≡ (tag, value) ∷ to_venue number fields
given_other number tag value fields stays a b = rw (stays, a, b) refl

or_left : (a b c : Bool) → a ≡ true → a || b || c ≡ true
or_left true b c h = refl
or_left false b c h = absurd (false≢true h)

or_none : (a b c : Bool) → a ≡ false → b ≡ false → c ≡ false → a || b || c ≡ false
or_none true b c p q r = absurd (false≢true (sym p))
or_none false true c p q r = absurd (false≢true (sym q))
or_none false false c p q r = r

named : (tag : ℕ) (value : List ℕ) (fields : List Field) → is_named tag ≡ true → unnamed ((tag, value) ∷ fields) ≡ unnamed fields
named tag value fields h = rw h refl

not_named : (tag : ℕ) (value : List ℕ) (fields : List Field) → is_named tag ≡ false → unnamed ((tag, value) ∷ fields) ≡ (tag, value) ∷ unnamed fields
not_named tag value fields h = rw h refl

pub rest_same : (number : ℕ) (fields : List Field) → unnamed (to_venue number fields) ≡ unnamed fields
rest_same number [] = refl
rest_same number ((tag, value) ∷ fields) = go (kind_of tag) (rest_same number fields) where
  go : Kind tag → unnamed (to_venue number fields) ≡ unnamed fields → unnamed (to_venue number ((tag, value) ∷ fields)) ≡ unnamed ((tag, value) ∷ fields)
  go (Out out a b) rec =
      ap unnamed (given_out number tag value fields out) ∙ rec
      ∙ sym (named tag value fields (or_left (is_left_out tag) (tag == 34) (tag == 52) out))
  go (Number is) rec =
      ap unnamed (given_number number tag value fields is) ∙ rec
      ∙ sym (ap (λ (t : ℕ). unnamed ((t, value) ∷ fields)) is)
  go (Time is) rec =
      ap unnamed (given_time number tag value fields is) ∙ rec
      ∙ sym (ap (λ (t : ℕ). unnamed ((t, value) ∷ fields)) is)
  go (Other stays a b) rec =
      (let name = or_none (is_left_out tag) (tag == 34) (tag == 52) stays a b in
      ap unnamed (given_other number tag value fields stays a b) ∙ not_named tag value (to_venue number fields) name
      ∙ ap (λ (fs : List Field). (tag, value) ∷ fs) rec ∙ sym (not_named tag value fields name))

past : (wanted tag : ℕ) (value : List ℕ) (fields : List Field) → (tag == wanted) ≡ false
    → value_of wanted ((tag, value) ∷ fields) ≡ value_of wanted fields
past wanted tag value fields h = rw h refl

pub number_same : (number : ℕ) (fields : List Field)
    → value_of 34 (to_venue number fields) ≡ option_map (λ _. decimal number) (value_of 34 fields)
number_same number [] = refl
number_same number ((tag, value) ∷ fields) = go (kind_of tag) (number_same number fields) where
  go : Kind tag → value_of 34 (to_venue number fields) ≡ option_map (λ _. decimal number) (value_of 34 fields) → value_of 34 (to_venue number ((tag, value) ∷ fields)) ≡ option_map (λ _. decimal number) (value_of 34 ((tag, value) ∷ fields))
  go (Out out a b) rec =
      ap (value_of 34) (given_out number tag value fields out) ∙ rec
      ∙ ap (λ v. option_map (λ _. decimal number) v) (sym (past 34 tag value fields a))
  go (Number is) rec =
      ap (value_of 34) (given_number number tag value fields is)
      ∙ sym (ap (λ (t : ℕ). option_map (λ _. decimal number) (value_of 34 ((t, value) ∷ fields))) is)
  go (Time is) rec =
      ap (value_of 34) (given_time number tag value fields is) ∙ rec
      ∙ sym (ap (λ (t : ℕ). option_map (λ _. decimal number) (value_of 34 ((t, value) ∷ fields))) is)
  go (Other stays a b) rec =
      ap (value_of 34) (given_other number tag value fields stays a b) ∙ past 34 tag value (to_venue number fields) a
      ∙ rec ∙ ap (λ v. option_map (λ _. decimal number) v) (sym (past 34 tag value fields a))

pub moment_same : (number : ℕ) (fields : List Field)
    → value_of 52 (to_venue number fields) ≡ option_map cut_to_milliseconds (value_of 52 fields)
moment_same number [] = refl
moment_same number ((tag, value) ∷ fields) = go (kind_of tag) (moment_same number fields) where
  go : Kind tag → value_of 52 (to_venue number fields) ≡ option_map cut_to_milliseconds (value_of 52 fields) → value_of 52 (to_venue number ((tag, value) ∷ fields)) ≡ option_map cut_to_milliseconds (value_of 52 ((tag, value) ∷ fields))
  go (Out out a b) rec =
      ap (value_of 52) (given_out number tag value fields out) ∙ rec
      ∙ ap (λ v. option_map cut_to_milliseconds v) (sym (past 52 tag value fields b))
  go (Number is) rec =
      ap (value_of 52) (given_number number tag value fields is) ∙ rec
      ∙ sym (ap (λ (t : ℕ). option_map cut_to_milliseconds (value_of 52 ((t, value) ∷ fields))) is)
  go (Time is) rec =
      ap (value_of 52) (given_time number tag value fields is)
      ∙ sym (ap (λ (t : ℕ). option_map cut_to_milliseconds (value_of 52 ((t, value) ∷ fields))) is)
  go (Other stays a b) rec =
      ap (value_of 52) (given_other number tag value fields stays a b) ∙ past 52 tag value (to_venue number fields) b
      ∙ rec ∙ ap (λ v. option_map cut_to_milliseconds v) (sym (past 52 tag value fields b))

out_by : (a b d : Bool) → a || b || d ≡ false → (a ≡ false) × (b ≡ false) × (d ≡ false)
out_by true b d h = absurd (false≢true (sym h))
out_by false true d h = absurd (false≢true (sym h))
out_by false false d h = (refl, refl, h)

pub record AreLeftOut (fields : List Field) : Type 0 where
  pub no_43 : has_tag 43 fields ≡ false
  pub no_97 : has_tag 97 fields ≡ false
  pub no_122 : has_tag 122 fields ≡ false

another : (tag : ℕ) (value : List ℕ) (fields : List Field) → (tag == 43) ≡ false → (tag == 97) ≡ false → (tag == 122) ≡ false
    → AreLeftOut fields → AreLeftOut ((tag, value) ∷ fields)
another tag value fields a b d rest = record {
  no_43 = rw a rest.no_43;
  no_97 = rw b rest.no_97;
  no_122 = rw d rest.no_122;
}

pub left_out : (number : ℕ) (fields : List Field) → AreLeftOut (to_venue number fields)
left_out number [] = record { no_43 = refl; no_97 = refl; no_122 = refl }
left_out number ((tag, value) ∷ fields) = go (kind_of tag) (left_out number fields) where
  go : Kind tag → AreLeftOut (to_venue number fields) → AreLeftOut (to_venue number ((tag, value) ∷ fields))
  go (Out out a b) rec = subst AreLeftOut (sym (given_out number tag value fields out)) rec
  go (Number is) rec =
      subst AreLeftOut (sym (given_number number tag value fields is))
      (another 34 (decimal number) (to_venue number fields) refl refl refl rec)
  go (Time is) rec =
      subst AreLeftOut (sym (given_time number tag value fields is))
      (another 52 (cut_to_milliseconds value) (to_venue number fields) refl refl refl rec)
  go (Other stays a b) rec =
      (let apart = out_by (tag == 43) (tag == 97) (tag == 122) stays in
      subst AreLeftOut (sym (given_other number tag value fields stays a b))
      (another tag value (to_venue number fields) apart.0 apart.1 apart.2 rec))
