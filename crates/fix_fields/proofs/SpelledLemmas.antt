-- A field that a text spells: a field as it is written, but for its SOH.
use Rattle.std.proofs.Common.{◌≡◌, ◌≢◌, ℕ, ◌+◌, ◌^◌, ◌<◌, ◌≤◌, List, [], ◌∷◌, ◌++◌, length, take, drop}
use Rattle.std.proofs.Common.{get_or, sym, ap, ◌∙◌, subst, refl, arith, zero, suc, add-one}
use Rattle.std.proofs.Common.{append_assoc, length-append, lit<}
use Rattle.std.specs.Prelude.{decimal}
use Rattle.std.specs.Char.{is_ascii_digit}
use Rattle.std.specs.Str.Parse.{AllDigits, digits_value}
use Rattle.std.proofs.lemmas.List.{take-append-drop, length-take, length-take-le, get_or-take}
use Rattle.std.proofs.lemmas.List.{get_or_append_left}
use Rattle.std.proofs.lemmas.List.Sums.{prefix_len-le-length}
use Rattle.std.proofs.lemmas.Str.Parse.{digits_value_short}
use Rattle.std.proofs.lemmas.Fmt.{decimal-digits_value, digits_decimal, digits_value-decimal}
use Rattle.std.proofs.lemmas.Fmt.{first_decimal, decimal_nonempty, length-decimal-le}
use Rattle.std.proofs.Math.Seq.{get_or-append_seam, take-append_seam, drop-cons}
use Rattle.fix_fields.specs.Frame.{IsTag, IsValue, Spells, field_text, field_len}
use Rattle.fix_fields.proofs.Digits.{plain, count_of, counted_digits}
use Rattle.fix_fields.proofs.FieldLemmas.{tag_len, positive}
use Rattle.fix_fields.proofs.PlaceLemmas.{IsFree}
use Rattle.fix_fields.proofs.WriterLemmas.{length-decimal}

-- what such a text fixes
record IsTagged (text : List ℕ) (tag : ℕ) : Type 0 where
  pub count : tag_len text ≡ length (decimal tag)
  pub some : 0 < tag_len text
  pub more : tag_len text < length text
  pub first : 48 < get_or text 0 0
  pub equals : get_or text (tag_len text) 0 ≡ 61
  pub tag_is : digits_value 10 (take (tag_len text) text) ≡ tag

tagged : (tag : ℕ) (value : List ℕ) → IsTag tag → IsTagged (decimal tag ++ (61 ∷ value)) tag
tagged tag value lawful =
    let d = decimal tag in
    let below : tag < 1000000000 = lawful.1 in
    let small : tag < 2 ^ 64 = omega arith in
    let all = digits_decimal plain tag small in
    let some = decimal_nonempty tag small in
    let count : tag_len (d ++ (61 ∷ value)) ≡ length d = count_of 9 d 61 value all (length-decimal-le 9 tag (lit< tt) below small) refl in
    record {
      count = count;
      some = rw count some;
      more = rw count (omega (arith, length-append d (61 ∷ value)));
      first = rw (get_or_append_left d (61 ∷ value) 0 0 some) (first_decimal tag lawful.0 small);
      equals = rw count (get_or-append_seam d 61 value 0);
      tag_is = rw (count, take-append_seam d (61 ∷ value)) (digits_value-decimal plain tag small);
    }

tagged_in : (text : List ℕ) (tag : ℕ) → Spells text tag → IsTagged text tag
tagged_in text tag spells = subst (λ t. IsTagged t tag) (sym spells.is) (tagged tag spells.value spells.lawful.0)

-- a text whose tag stands so spells a field
pub record HasTag (text : List ℕ) (n : ℕ) : Type 0 where
  pub some : 0 < n
  pub more : n < length text
  pub first : get_or text 0 0 ≢ 48
  pub equals : get_or text n 0 ≡ 61
  pub not_8 : digits_value 10 (take n text) ≢ 8
  pub not_9 : digits_value 10 (take n text) ≢ 9
  pub not_10 : digits_value 10 (take n text) ≢ 10

pub tag_stands : (text : List ℕ) (n tag : ℕ) → n ≡ tag_len text → Spells text tag → HasTag text n
tag_stands text n tag n_is spells =
    let p = tagged_in text tag spells in
    let lawful = spells.lawful.0 in
    rw n_is (record {
      some = p.some;
      more = p.more;
      first = (let first = p.first in omega arith);
      equals = p.equals;
      not_8 = rw p.tag_is lawful.2;
      not_9 = rw p.tag_is lawful.3;
      not_10 = rw p.tag_is lawful.4;
    })

free_behind : (c n : ℕ) (xs : List ℕ) → IsFree c xs → IsFree c (drop n xs)
free_behind c zero xs free = free
free_behind c (suc n) [] free = tt
free_behind c (suc n) (x ∷ xs) free = free_behind c n xs free.1

pub spelled_at : (text : List ℕ) (n : ℕ) → n ≡ tag_len text → IsValue text → HasTag text n → Spells text (digits_value 10 (take n text))
spelled_at text n n_is free parts =
    let front = take n text in
    let behind = drop (n + 1) text in
    let all : AllDigits 10 front = rw n_is (counted_digits 9 text) in
    let inside = parts.more in
    let long : length front ≡ n = length-take-le n text (omega arith) in
    let few : n ≤ 9 = omega (arith, prefix_len-le-length is_ascii_digit (take 9 text), length-take 9 text) in
    let short : digits_value 10 front < 1000000000 = digits_value_short plain front 9 all (omega arith) in
    let first : get_or front 0 0 ≢ 48 = λ e. parts.first (sym (get_or-take n text 0 0 parts.some) ∙ e) in
    let some = parts.some in
    let canonical : decimal (digits_value 10 front) ≡ front =
    decimal-digits_value plain front all (omega arith) (λ e. absurd (first e)) (omega arith) in
    let tail : drop n text ≡ 61 ∷ behind = rw (drop-cons text n 0 parts.more, parts.equals, add-one) refl in
    record {
      value = behind;
      lawful = ((positive front canonical first, short, parts.not_8, parts.not_9, parts.not_10), free_behind 1 (n + 1) text free);
      is = sym (ap (λ d. d ++ (61 ∷ behind)) canonical ∙ (ap (λ t. front ++ t) (sym tail) ∙ take-append-drop n text));
    }

-- how much room the field takes
pub spelled_len : (text : List ℕ) (tag : ℕ) (spells : Spells text tag) → field_len tag (length spells.value) ≡ length text + 1
spelled_len text tag spells =
    let below : tag < 1000000000 = spells.lawful.0.1 in
    omega (arith, ap length spells.is, length-append (decimal tag) (61 ∷ spells.value), length-decimal tag (omega arith))

-- how it is written
pub spelled_text : (text : List ℕ) (tag : ℕ) (spells : Spells text tag) → text ++ (1 ∷ []) ≡ field_text (tag, spells.value)
spelled_text text tag spells =
    ap (λ t. t ++ (1 ∷ [])) spells.is ∙ append_assoc (decimal tag) (61 ∷ spells.value) (1 ∷ [])
