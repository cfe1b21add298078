-- The field that a text of BODY spells, where the text is how the field is written, and the frame
-- that it is added to.
use Rattle.std.proofs.Common.{◌≡◌, ◌≢◌, ℕ, ◌+◌, ◌^◌, ◌<◌, ◌≤◌, ◌==◌, ◌&&◌, Bool, true, false, not}
use Rattle.std.proofs.Common.{List, [], ◌∷◌, ◌++◌, length, get_or, Option, Some, None, decimal}
use Rattle.std.proofs.Common.{refl, sym, ap, ap₂, ◌∙◌, arith, inl, inr, if◌then◌else◌, cond, nat_le}
use Rattle.std.proofs.Common.{length-append, rules, subst}
use Rattle.std.specs.Prelude.{MatchOption}
use Rattle.std.specs.Char.{is_ascii_digit}
use Rattle.std.specs.List.{AllByRecursion, list_all, onto_first}
use Rattle.std.specs.Str.Parse.{AllDigits, digits_value}
use Rattle.std.proofs.lemmas.Bool.{cases_Bool}
use Rattle.std.proofs.lemmas.Bool.Decides.{nat_tests}
use Rattle.std.proofs.lemmas.Fmt.{decimal_nonempty, digits_decimal, digits_value-decimal}
use Rattle.std.proofs.lemmas.Fmt.{first_decimal, length-decimal-le}
use Rattle.std.proofs.lemmas.Str.Parse.{IsNumeralModel, numerals_by_value, digit_from_value}
use Rattle.fix_fields.specs.Frame.{Field, IsTag, IsValue, Spells, left_of}
use Rattle.quote_messages.specs.Texts.{number_of}
use Rattle.input_lines.specs.FrontLemmas.{before_skip, after_skip}
use Rattle.input_lines.specs.Lines.{parts_of}
use Rattle.input_lines.specs.OptionSteps as option
use Rattle.input_lines.specs.SayLine.{before_equals, behind_equals, begins_with_zero, fitting}
use Rattle.input_lines.specs.SayLine.{is_no_body_tag, is_plain_value, said_field, tag_of}
use Rattle.input_lines.specs.SayReading.{is_header_tag, with_text}
use Rattle.input_lines.proofs.MadeLemmas.{text_put}
use Rattle.input_lines.proofs.SpellLemmas.{fitting-short, push_fits}
use Rattle.fix_fields.proofs.Digits.{plain}

-- The tag.

by_test : IsNumeralModel (λ (ds : List ℕ). list_all is_ascii_digit ds ≡ true) (digits_value 10)
by_test = numerals_by_value (λ (ds : List ℕ). list_all is_ascii_digit ds ≡ true) (search rules)

no_zero : (digits : List ℕ) → 48 < get_or digits 0 0 → begins_with_zero digits ≡ false
no_zero [] first = refl
no_zero (c ∷ digits) first = grind (arith, nat_tests)

number_back : (n : ℕ) → n < 1000000000 → number_of (decimal n) ≡ Some n
number_back n below =
    let small : n < 2 ^ 64 = omega arith in
    let some = decimal_nonempty n small in
    let short : length (decimal n) ≤ 9 = length-decimal-le 9 n (omega arith) (omega arith) small in
    let least : nat_le 1 (length (decimal n)) ≡ true = grind (arith, nat_tests) in
    let few : nat_le (length (decimal n)) 9 ≡ true = grind (arith, nat_tests) in
    let lawful = ap₂ (λ (a b : Bool). a && b) (ap₂ (λ (a b : Bool). a && b) least few) (digits_decimal by_test n small) in
    ap (λ (b : Bool). cond b (Some (digits_value 10 (decimal n))) None) lawful
    ∙ ap Some (digits_value-decimal by_test n small)

-- a number as a tag, where it is one
abbrev as_tag : Option ℕ → Option ℕ
as_tag number = option.◌>>=◌ number (λ tag. if is_no_body_tag tag then None else Some tag)

tag_back : (tag : ℕ) → IsTag tag → tag_of (decimal tag) ≡ Some tag
tag_back tag lawful =
    let digits = decimal tag in
    let below : tag < 1000000000 = lawful.1 in
    let first : begins_with_zero digits ≡ false = no_zero digits (first_decimal tag lawful.0 (omega arith)) in
    let other : is_no_body_tag tag ≡ false = (let some = lawful.0 in let a = lawful.2 in let b = lawful.3 in let c = lawful.4 in grind (arith, nat_tests)) in
    ap (λ (b : Bool). if b then None else as_tag (number_of digits)) first
    ∙ ap as_tag (number_back tag below)
    ∙ ap (λ (b : Bool). if b then None else Some tag) other

-- The field.

-- digits are cut off at the equals sign behind them
cut_behind : (digits value : List ℕ) → AllDigits 10 digits
    → (before_equals (digits ++ 61 ∷ value) ≡ digits) × (behind_equals (digits ++ 61 ∷ value) ≡ value)
cut_behind [] value all = (refl, refl)
cut_behind (c ∷ digits) value all =
    let goes : (c == 61) ≡ false = (let range = digit_from_value c all.0 in grind (arith, nat_tests)) in
    let rest = cut_behind digits value all.1 in (
      before_skip 61 c (digits ++ 61 ∷ value) goes ∙ ap (λ t. c ∷ t) rest.0,
      after_skip 61 c (digits ++ 61 ∷ value) goes ∙ rest.1,
    )

plain-first : (c : ℕ) → c ≢ 1 → not (c == 1) ≡ true
plain-first c apart = grind (arith, nat_tests)

plain_if_value : (value : List ℕ) → IsValue value → is_plain_value value ≡ true
plain_if_value [] free = refl
plain_if_value (c ∷ value) free =
    ap₂ (λ (a b : Bool). a && b) (plain-first c free.0) (plain_if_value value free.1)

-- a tag and a value as a field
abbrev as_field : Option ℕ → List ℕ → Option Field
as_field found value = option.◌>>=◌ found (λ tag. Some (tag, value))

spelled_is : (text : List ℕ) (tag : ℕ) (spells : Spells text tag) → said_field text ≡ Some (tag, spells.value)
spelled_is text tag spells =
    let value = spells.value in
    let below : tag < 1000000000 = spells.lawful.0.1 in
    let cut = cut_behind (decimal tag) value (digits_decimal plain tag (omega arith)) in
    let front : before_equals text ≡ decimal tag = ap before_equals spells.is ∙ cut.0 in
    let behind : behind_equals text ≡ value = ap behind_equals spells.is ∙ cut.1 in
    let shorter : length (before_equals text) < length text = omega (arith, ap length front, ap length spells.is, length-append (decimal tag) (61 ∷ value)) in
    let longer : (length (before_equals text) == length text) ≡ false = grind (arith, nat_tests) in
    let clear : is_plain_value (behind_equals text) ≡ true = ap is_plain_value behind ∙ plain_if_value value spells.lawful.1 in
    let named : tag_of (before_equals text) ≡ Some tag = ap tag_of front ∙ tag_back tag spells.lawful.0 in
    ap (λ (b : Bool). if b then None else if not (is_plain_value (behind_equals text)) then None else as_field (tag_of (before_equals text)) (behind_equals text)) longer
    ∙ ap (λ (b : Bool). if not b then None else as_field (tag_of (before_equals text)) (behind_equals text)) clear
    ∙ ap (λ (t : Option ℕ). as_field t (behind_equals text)) named
    ∙ ap (λ (v : List ℕ). Some (tag, v)) behind

-- A text more.

-- what a writer that took it says of it
pub added : (found : Option ℕ) (text : List ℕ) (before after : List Field) (tag : ℕ) → found ≡ Some tag
    → MatchOption found (((n : ℕ) → ¬ Spells text n) × (after ≡ before)) (λ t. (spells : Spells text t) × (after ≡ before ++ (t, spells.value) ∷ []))
    → (spells : Spells text tag) × (after ≡ before ++ (tag, spells.value) ∷ [])
added found text before after tag is told =
    subst (λ o. MatchOption o (((n : ℕ) → ¬ Spells text n) × (after ≡ before)) (λ t. (spells : Spells text t) × (after ≡ before ++ (t, spells.value) ∷ []))) is told

pub text_spelled : (before after : List Field) (text : List ℕ) (tag : ℕ) (spells : Spells text tag) → length text < left_of before
    → is_header_tag tag ≡ false → after ≡ before ++ (tag, spells.value) ∷ [] → Some after ≡ with_text (Some before) text
text_spelled before after text tag spells room apart put =
    let value = spells.value in
    let long : length text ≡ length (decimal tag) + 1 + length value =
    omega (arith, ap length spells.is, length-append (decimal tag) (61 ∷ value)) in
    let fits : length (decimal tag) + length value + 2 ≤ left_of before = omega arith in
    text_put (Some before) (Some after) text (tag, value) tag value (sym (spelled_is text tag spells)) apart refl refl
    (ap Some put ∙ sym (push_fits before tag (length (decimal tag)) value refl fits))

-- the texts of a body without SOH have none
onto_value : (c : ℕ) (parts : List (List ℕ)) → c ≢ 1 → AllByRecursion IsValue parts → AllByRecursion IsValue (onto_first c parts)
onto_value c [] apart all = ((apart, tt), tt)
onto_value c (part ∷ parts) apart all = ((apart, all.0), all.1)

pub parts_are_values : (end : ℕ) (text : List ℕ) → IsValue text → AllByRecursion IsValue (parts_of end text)
parts_are_values end [] free = tt
parts_are_values end (c ∷ text) free =
    elim (cases_Bool (c == end)) [
      | inl ends ↦ rw ends (tt, parts_are_values end text free.1)
      | inr goes ↦ rw goes (onto_value c (parts_of end text) free.0 (parts_are_values end text free.1))
    ]

-- The header.

-- a frame that has room left fits
pub header_put : (fields whole : List Field) → fields ≡ whole → 0 < left_of fields → Some fields ≡ fitting whole
unfolding left_of
header_put fields whole is room =
    sym (fitting-short fields (omega arith)) ∙ ap fitting is
