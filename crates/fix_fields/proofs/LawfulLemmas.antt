-- The field at the front of a text that begins with a lawful one.
use Rattle.std.proofs.Common.{◌≡◌, ◌≢◌, ℕ, ◌+◌, ◌<◌, ◌≤◌, true, List, [], ◌∷◌, length}
use Rattle.std.proofs.Common.{take, drop, get_or, sym, ap, ◌∙◌, refl, arith, inl, inr}
use Rattle.std.specs.Char.{is_ascii_digit}
use Rattle.std.specs.List.{AllByRecursion}
use Rattle.std.specs.Str.Parse.{digits_value}
use Rattle.std.proofs.lemmas.Bool.Decides.{nat_tests}
use Rattle.std.proofs.lemmas.Bool.{cases_lt}
use Rattle.std.proofs.lemmas.List.{get_or-take, length-take}
use Rattle.std.proofs.lemmas.List.Sums.{prefix_len-le-length, prefix_len_passes}
use Rattle.fix_fields.specs.Frame.{Field, IsField, fields_text, pieces_of, fields_of}
use Rattle.fix_fields.specs.Scan.{BeginsWithField, IsFieldsText}
use Rattle.fix_fields.proofs.Digits.{small}
use Rattle.fix_fields.proofs.FieldLemmas.{tag_len, HasParts, IsFieldAt, parts_of, field_at}
use Rattle.fix_fields.proofs.PlaceLemmas.{place_of}

-- the parts of the field
pub lawful_parts : (text : List ℕ) → BeginsWithField text → HasParts text (tag_len text) (place_of 1 (drop (tag_len text + 1) text))
lawful_parts text begins = parts_of text (tag_len text) _ refl refl begins

pub few_digits : (text : List ℕ) → tag_len text ≤ 9
few_digits text = omega (arith, prefix_len-le-length is_ascii_digit (take 9 text), length-take 9 text)

-- the bytes in front of the equals sign are digits
pub tag_digit : (text : List ℕ) (k : ℕ) → k < tag_len text → is_ascii_digit (get_or text k 0) ≡ true
tag_digit text k inside =
    let few = few_digits text in
    sym (ap is_ascii_digit (get_or-take 9 text k 0 (omega arith))) ∙ prefix_len_passes is_ascii_digit (take 9 text) k 0 inside

-- and the first equals sign stands behind the tag
pub at_equals : (text : List ℕ) (n : ℕ) → n ≤ tag_len text → get_or text n 0 ≡ 61 → n ≡ tag_len text
at_equals text n most equals =
    elim (cases_lt n (tag_len text)) [
      | inl less ↦ (let digit = tag_digit text n less in absurd (grind (arith, nat_tests)))
      | inr all ↦ omega arith
    ]

-- a byte of the tag
pub record IsInTag (text : List ℕ) (n : ℕ) : Type 0 where
  pub less : n < tag_len text
  pub inside : n < length text
  pub digit : is_ascii_digit (get_or text n 0) ≡ true
  pub small : digits_value 10 (take n text) < 100000000

-- a byte stands in the tag where no byte up to it is the equals sign
pub in_tag : (text : List ℕ) (n : ℕ) → BeginsWithField text → n ≤ tag_len text → get_or text n 0 ≢ 61 → IsInTag text n
in_tag text n begins most other =
    let few = few_digits text in
    let more = (lawful_parts text begins).more in
    elim (cases_lt n (tag_len text)) [
      | inl less ↦ record {
        less = less;
        inside = omega arith;
        digit = tag_digit text n less;
        small = small text n (omega arith) (omega arith) (λ k before. tag_digit text k (omega arith));
      }
      | inr all ↦
          (let end : n ≡ tag_len text = omega arith in
          absurd (other (ap (λ k. get_or text k 0) end ∙ (lawful_parts text begins).equals)))
    ]

-- the first byte is a digit
pub first_digit : (text : List ℕ) → BeginsWithField text → IsInTag text 0
first_digit text begins =
    let some = (lawful_parts text begins).some in
    in_tag text 0 begins (omega arith) (λ equals. let digit = tag_digit text 0 some in absurd (grind (arith, nat_tests)))

-- a text of lawful fields that is not empty begins with one
pub begins_with : (text : List ℕ) → IsFieldsText text → 0 < length text → BeginsWithField text
begins_with text cut some = go (fields_of text) cut.lawful cut.is where
  go : (fields : List Field) → AllByRecursion IsField fields → text ≡ fields_text fields → BeginsWithField text
  go [] lawful is = absurd (omega (arith, ap length is))
  go (field ∷ fields) lawful is = record { field = field; lawful = lawful.0; rest = fields_text fields; is = is }

-- the field is made of its parts
pub lawful_field_at : (text : List ℕ) (n m : ℕ) → BeginsWithField text → n ≡ tag_len text → m ≡ place_of 1 (drop (n + 1) text)
    → IsFieldAt text n m
lawful_field_at text n m begins n_is m_is = field_at text n m n_is m_is (parts_of text n m n_is m_is begins)

-- an empty text is no field
pub none_in : (text : List ℕ) → length text ≡ 0 → fields_of text ≡ []
unfolding fields_of pieces_of
none_in [] none = refl
none_in (x ∷ text) none = absurd (omega arith)
