-- A piece of a body that the session reads as a field is that field as it is written.
use Rattle.std.proofs.Common.{◌≡◌, ◌≢◌, ◌≤◌, ◌<◌, ◌+◌, ℕ, Bool, true, false, not, ◌&&◌, cond, nat_le, nat_lt, List, [], ◌∷◌, ◌++◌, length, take, drop, get_or, Option, Some, None}
use Rattle.std.proofs.Common.{refl, sym, ◌∙◌, ap, subst, arith, inl, inr}
use Rattle.std.specs.Prelude.{decimal}
use Rattle.std.specs.List.{list_all}
use Rattle.std.specs.Char.{is_ascii_digit}
use Rattle.std.specs.Str.Parse.{digits_value}
use Rattle.std.proofs.lemmas.Bool.{cases_Bool, and_parts}
use Rattle.std.proofs.lemmas.Bool.Decides.{nat_tests}
use Rattle.std.proofs.lemmas.Str.Parse.{digits_value_short}
use Rattle.std.proofs.lemmas.Fmt.{decimal-digits_value}
use Rattle.fix_fields.specs.Frame.{Field}
use Rattle.fix_fields.specs.TextLaws.{digits_if_all}
use Rattle.fix_fields.proofs.Digits.{plain}
use Rattle.fix_fields.proofs.FieldLemmas.{positive}
use Rattle.fix_fields.proofs.PlaceLemmas.{place_of, cut_at}
use Rattle.fix_sessions.specs.Fields.{leads, is_tag_text, equals_place, field_at, piece_field}

-- a tag of 1 to 9 digits without a leading zero, an equals sign, and the value
pub record IsPiece (piece : List ℕ) (field : Field) : Type 0 where
  pub some : 0 < field.0
  pub small : field.0 < 1000000000
  pub text : piece ≡ decimal field.0 ++ (61 ∷ field.1)
  pub value : (place : ℕ) × (field.1 ≡ drop place piece)

chosen_some : (b : Bool) (n place : ℕ) → cond b (Some n) None ≡ Some place → (b ≡ true) × (n ≡ place)
chosen_some true n place h = (refl, cc)
chosen_some false n place h = cc

no_zero : (text : List ℕ) → leads 48 text ≡ false → get_or text 0 0 ≢ 48
no_zero [] h = λ e. absurd (omega (arith, e))
no_zero (x ∷ xs) h = λ e. absurd (grind (arith, nat_tests))

not_false : (b : Bool) → not b ≡ true → b ≡ false
not_false true h = cc
not_false false h = refl

-- what is_tag_text says
pub record IsTagText (digits : List ℕ) : Type 0 where
  pub some : 1 ≤ length digits
  pub few : length digits ≤ 9
  pub all : list_all is_ascii_digit digits ≡ true
  pub first : get_or digits 0 0 ≢ 48

tag_text : (digits : List ℕ) → is_tag_text digits ≡ true → IsTagText digits
tag_text digits h =
    let outer = and_parts (nat_le 1 (length digits) && nat_le (length digits) 9 && list_all is_ascii_digit digits) (not (leads 48 digits)) h in
    let inner = and_parts (nat_le 1 (length digits) && nat_le (length digits) 9) (list_all is_ascii_digit digits) outer.0 in
    let sizes = and_parts (nat_le 1 (length digits)) (nat_le (length digits) 9) inner.0 in
    record {
      some = (let t = sizes.0 in grind (arith, nat_tests));
      few = (let t = sizes.1 in grind (arith, nat_tests));
      all = inner.1;
      first = no_zero digits (not_false (leads 48 digits) outer.1);
    }

-- such digits are what their number is written as
pub record IsCanonical (digits : List ℕ) : Type 0 where
  pub some : 0 < digits_value 10 digits
  pub small : digits_value 10 digits < 1000000000
  pub same : decimal (digits_value 10 digits) ≡ digits

canonical : (digits : List ℕ) → IsTagText digits → IsCanonical digits
canonical digits is =
    let all = digits_if_all digits is.all in
    let first = is.first in
    let some = is.some in
    let few = is.few in
    let small : digits_value 10 digits < 1000000000 = digits_value_short plain digits 9 all few in
    let same : decimal (digits_value 10 digits) ≡ digits =
    decimal-digits_value plain digits all (omega (arith, some)) (λ e. absurd (first e)) (omega (arith, small)) in
    record { some = positive digits same first; small = small; same = same }

pub piece_is : (piece : List ℕ) (field : Field) → piece_field piece ≡ Some field → IsPiece piece field
piece_is piece field h = go (equals_place piece) refl h where
  here : (k : ℕ) → equals_place piece ≡ Some k → is_tag_text (take k piece) ≡ true
      → (digits_value 10 (take k piece) ≡ field.0) → (drop (k + 1) piece ≡ field.1) → IsPiece piece field
  here k at is tag value =
      let found = chosen_some (nat_lt (place_of 61 piece) (length piece)) (place_of 61 piece) k at in
      let inside : place_of 61 piece < length piece = (let t = found.0 in grind (arith, nat_tests)) in
      let text = canonical (take k piece) (tag_text (take k piece) is) in
      let cut : piece ≡ take k piece ++ (61 ∷ drop (k + 1) piece) =
      subst (λ n. piece ≡ take n piece ++ (61 ∷ drop (n + 1) piece)) found.1 (cut_at 61 piece inside) in
      record {
        some = subst (λ n. 0 < n) tag text.some;
        small = subst (λ n. n < 1000000000) tag text.small;
        text = cut ∙ ap (λ d. d ++ (61 ∷ drop (k + 1) piece)) (sym text.same ∙ ap decimal tag)
            ∙ ap (λ v. decimal field.0 ++ (61 ∷ v)) value;
        value = (k + 1, sym value);
      }

  go : (place : Option ℕ) → equals_place piece ≡ place → field_at piece place ≡ Some field → IsPiece piece field
  go None at h = cc
  go (Some k) at h =
      elim (cases_Bool (is_tag_text (take k piece))) [
        | inl holds ↦
            (let both : Some (digits_value 10 (take k piece), drop (k + 1) piece) ≡ Some field =
            subst (λ b. cond b (Some (digits_value 10 (take k piece), drop (k + 1) piece)) None ≡ Some field) holds h in
            let same : (digits_value 10 (take k piece), drop (k + 1) piece) ≡ field = cc in
            here k at holds (ap (λ (f : Field). f.0) same) (ap (λ (f : Field). f.1) same))
        | inr fails ↦
            (let none : None ≡ Some field =
            subst (λ b. cond b (Some (digits_value 10 (take k piece), drop (k + 1) piece)) None ≡ Some field) fails h in
            cc)
      ]
