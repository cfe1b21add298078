-- A field at the front of a text: where its parts stand, that they stand nowhere else, and what is
-- left behind it.
use Rattle.std.proofs.Common.{◌≡◌, ◌≢◌, ℕ, ◌+◌, ◌^◌, ◌<◌, ◌≤◌, List, [], ◌∷◌, ◌++◌, length, take}
use Rattle.std.proofs.Common.{drop, get_or, sym, ap, ◌∙◌, subst, refl, arith, inl, inr, add-one}
use Rattle.std.proofs.Common.{append_assoc, length-append, lit<}
use Rattle.std.specs.Prelude.{decimal}
use Rattle.std.specs.Char.{is_ascii_digit}
use Rattle.std.specs.List.{prefix_len, AllByRecursion}
use Rattle.std.specs.Str.Parse.{AllDigits, digits_value}
use Rattle.std.proofs.lemmas.Bool.{cases_lt}
use Rattle.std.proofs.lemmas.List.{take-append-drop, length-take, length-take-le, get_or-take}
use Rattle.std.proofs.lemmas.List.{get_or_append_left}
use Rattle.std.proofs.lemmas.List.Sums.{prefix_len-le-length}
use Rattle.std.proofs.lemmas.Str.Parse.{digits_value_short}
use Rattle.std.proofs.lemmas.Fmt.{decimal-digits_value, decimal_digit, digits_decimal}
use Rattle.std.proofs.lemmas.Fmt.{digits_value-decimal, first_decimal, decimal_nonempty}
use Rattle.std.proofs.lemmas.Fmt.{length-decimal-le}
use Rattle.std.proofs.Math.Seq.{get_or-append_seam, take-append_seam, drop-append-add, drop-cons}
use Rattle.fix_fields.specs.Frame.{Field, IsField, field_text, fields_text}
use Rattle.fix_fields.specs.Scan.{BeginsWithField, HoldsFields}
use Rattle.fix_fields.proofs.Digits.{plain, count_of, counted_digits}
use Rattle.fix_fields.proofs.PlaceLemmas.{place_of, place_behind, free_before, cut_at}

-- the parts of a field and what stands behind it

pub regroup : (d v rest : List ℕ) → (d ++ (61 ∷ (v ++ (1 ∷ [])))) ++ rest ≡ d ++ (61 ∷ (v ++ (1 ∷ rest)))
regroup d v rest = simp append_assoc

-- how many digits are counted at the front of a text
abbrev pub tag_len : List ℕ → ℕ
tag_len text = prefix_len is_ascii_digit (take 9 text)

abbrev pub value_len_of : List ℕ → ℕ
value_len_of text = place_of 1 (drop (tag_len text + 1) text)

-- what a field at the front of a text fixes
pub record IsPlaced (text : List ℕ) (tag : ℕ) (value rest : List ℕ) : Type 0 where
  pub count : tag_len text ≡ length (decimal tag)
  pub some : 0 < tag_len text
  pub more : tag_len text < length text
  pub first : 48 < get_or text 0 0
  pub equals : get_or text (tag_len text) 0 ≡ 61
  pub tag_is : digits_value 10 (take (tag_len text) text) ≡ tag
  pub behind : drop (tag_len text + 1) text ≡ value ++ (1 ∷ rest)
  pub value_at : value_len_of text ≡ length value

pub placed : (tag : ℕ) (value rest : List ℕ) → IsField (tag, value)
    → IsPlaced (decimal tag ++ (61 ∷ (value ++ (1 ∷ rest)))) tag value rest
placed tag value rest lawful =
    let d = decimal tag in
    let behind = value ++ (1 ∷ rest) in
    let below : tag < 1000000000 = lawful.0.1 in
    let small : tag < 2 ^ 64 = omega arith in
    let all = digits_decimal plain tag small in
    let some = decimal_nonempty tag small in
    let count : tag_len (d ++ (61 ∷ behind)) ≡ length d = count_of 9 d 61 behind all (length-decimal-le 9 tag (lit< tt) below small) refl in
    let after : drop (length d + 1) (d ++ (61 ∷ behind)) ≡ behind = drop-append-add d (61 ∷ behind) 1 in
    record {
      count = count;
      some = rw count some;
      more = rw count (omega (arith, length-append d (61 ∷ behind)));
      first = rw (get_or_append_left d (61 ∷ behind) 0 0 some) (first_decimal tag lawful.0.0 small);
      equals = rw count (get_or-append_seam d 61 behind 0);
      tag_is = rw (count, take-append_seam d (61 ∷ behind)) (digits_value-decimal plain tag small);
      behind = rw (count) after;
      value_at = rw (count, after) (place_behind 1 value rest lawful.1);
    }

-- the parts of the field at the front of a text are where they are counted
pub placed_in : (text : List ℕ) (field : Field) (rest : List ℕ) → IsField field → text ≡ field_text field ++ rest
    → IsPlaced text field.0 field.1 rest
placed_in text field rest lawful is =
    let e = is ∙ regroup (decimal field.0) field.1 rest in
    subst (λ t. IsPlaced t field.0 field.1 rest) (sym e) (placed field.0 field.1 rest lawful)

-- so what stands behind it is no other text
pub rest_is : (text : List ℕ) (tag : ℕ) (value rest : List ℕ) → IsPlaced text tag value rest
    → drop (value_len_of text + 1) (drop (tag_len text + 1) text) ≡ rest
rest_is text tag value rest p = rw (p.value_at, p.behind) (drop-append-add value (1 ∷ rest) 1)

-- a text whose parts stand so begins with a field
pub record HasParts (text : List ℕ) (n m : ℕ) : Type 0 where
  pub some : 0 < n
  pub more : n < length text
  pub first : get_or text 0 0 ≢ 48
  pub equals : get_or text n 0 ≡ 61
  pub not_8 : digits_value 10 (take n text) ≢ 8
  pub not_9 : digits_value 10 (take n text) ≢ 9
  pub not_10 : digits_value 10 (take n text) ≢ 10
  pub ended : m < length (drop (n + 1) text)

pub parts_of : (text : List ℕ) (n m : ℕ) → n ≡ tag_len text → m ≡ place_of 1 (drop (n + 1) text) → BeginsWithField text → HasParts text n m
parts_of text n m n_is m_is begins =
    let tag = begins.field.0 in
    let value = begins.field.1 in
    let p = placed_in text begins.field begins.rest begins.lawful begins.is in
    let lawful = begins.lawful.0 in
    rw (m_is, n_is) (record {
      some = p.some;
      more = p.more;
      first = (let first = p.first in omega arith);
      equals = p.equals;
      not_8 = rw p.tag_is lawful.2;
      not_9 = rw p.tag_is lawful.3;
      not_10 = rw p.tag_is lawful.4;
      ended = rw (p.value_at, p.behind) (omega (arith, length-append value (1 ∷ begins.rest)));
    })

-- the field that has these parts
pub record IsFieldAt (text : List ℕ) (n m : ℕ) : Type 0 where
  pub lawful : IsField (digits_value 10 (take n text), take m (drop (n + 1) text))
  pub is : text ≡ field_text (digits_value 10 (take n text), take m (drop (n + 1) text)) ++ drop (m + 1) (drop (n + 1) text)

-- digits that don't begin with a zero are a number of at least 1
pub positive : (front : List ℕ) → decimal (digits_value 10 front) ≡ front → get_or front 0 0 ≢ 48 → 0 < digits_value 10 front
positive front canonical first =
    elim (cases_lt 0 (digits_value 10 front)) [
      | inl some ↦ some
      | inr none ↦
          (let zero_is : digits_value 10 front ≡ 0 = omega arith in
          absurd (first (ap (λ xs. get_or xs 0 0) (sym canonical ∙ (ap decimal zero_is ∙ decimal_digit 0 (lit< tt))))))
    ]

pub field_at : (text : List ℕ) (n m : ℕ) → n ≡ tag_len text → m ≡ place_of 1 (drop (n + 1) text) → HasParts text n m
    → IsFieldAt text n m
field_at text n m n_is m_is parts =
    let front = take n text in
    let behind = drop (n + 1) text in
    let all : AllDigits 10 front = rw n_is (counted_digits 9 text) in
    let long : length front ≡ n = length-take-le n text (omega arith) in
    let few : n ≤ 9 = omega (arith, prefix_len-le-length is_ascii_digit (take 9 text), length-take 9 text) in
    let short : digits_value 10 front < 1000000000 = digits_value_short plain front 9 all (omega arith) in
    let first : get_or front 0 0 ≢ 48 = λ e. parts.first (sym (get_or-take n text 0 0 parts.some) ∙ e) in
    let canonical : decimal (digits_value 10 front) ≡ front =
    decimal-digits_value plain front all (omega arith) (λ e. absurd (first e)) (omega arith) in
    let value : behind ≡ take m behind ++ (1 ∷ drop (m + 1) behind) = rw m_is (cut_at 1 behind (let e = parts.ended in omega arith)) in
    let tail : drop n text ≡ 61 ∷ behind = rw (drop-cons text n 0 parts.more, parts.equals, add-one) refl in
    record {
      lawful = ((positive front canonical first, short, parts.not_8, parts.not_9, parts.not_10), rw m_is (free_before 1 behind));
      is = sym (regroup (decimal (digits_value 10 front)) (take m behind) (drop (m + 1) behind)
          ∙ (ap (λ d. d ++ (61 ∷ (take m behind ++ (1 ∷ drop (m + 1) behind)))) canonical
          ∙ (ap (λ v. front ++ (61 ∷ v)) (sym value) ∙ (ap (λ t. front ++ t) (sym tail) ∙ take-append-drop n text))));
    }

-- a text that does not begin with a field is no fields
pub none_left : (text : List ℕ) → 0 < length text → ¬ (BeginsWithField text) → ¬ (HoldsFields text)
none_left text some none holds = go holds.fields holds.lawful holds.is where
  go : (fields : List Field) → AllByRecursion IsField fields → text ≡ fields_text fields → ⊥
  go [] lawful is = omega (arith, ap length is)
  go (field ∷ fields) lawful is = none (record { field = field; lawful = lawful.0; rest = fields_text fields; is = is })

-- taking the first field away
pub holds_behind : (text : List ℕ) (field : Field) (rest : List ℕ) → IsField field → text ≡ field_text field ++ rest
    → HoldsFields text → HoldsFields rest
holds_behind text field rest lawful is holds = go holds.fields holds.lawful holds.is where
  go : (fields : List Field) → AllByRecursion IsField fields → text ≡ fields_text fields → HoldsFields rest
  go [] all same = absurd (omega (arith, ap length (sym is ∙ same), length-append (field_text field) rest, length-append (decimal field.0) (61 ∷ (field.1 ++ (1 ∷ [])))))
  go (other ∷ fields) all same = record {
    fields = fields;
    lawful = all.1;
    is = sym (rest_is text field.0 field.1 rest (placed_in text field rest lawful is))
        ∙ rest_is text other.0 other.1 (fields_text fields) (placed_in text other (fields_text fields) all.0 same);
  }

pub holds_before : (text : List ℕ) (field : Field) (rest : List ℕ) → IsField field → text ≡ field_text field ++ rest
    → HoldsFields rest → HoldsFields text
holds_before text field rest lawful is holds = record {
  fields = field ∷ holds.fields;
  lawful = (lawful, holds.lawful);
  is = is ∙ ap (λ t. field_text field ++ t) holds.is;
}
