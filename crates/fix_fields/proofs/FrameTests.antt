-- The tests of `frame_of` decide what they are named for.
use Rattle.std.proofs.Common.{◌≡◌, ◌≢◌, ℕ, ◌%◌, ◌<◌, ◌≤◌, ◌==◌, Bool, true, not, leb, List, [], ◌∷◌}
use Rattle.std.proofs.Common.{◌++◌, length, sum, refl, arith}
use Rattle.std.specs.Bool.{Decides}
use Rattle.std.specs.List.{AllByRecursion, list_all}
use Rattle.std.specs.Str.{all_ascii_digits}
use Rattle.std.specs.Str.Parse.{AllDigits, digits_value}
use Rattle.std.proofs.lemmas.Bool.{false≢true}
use Rattle.std.proofs.lemmas.Bool.Decides.{Decides-eqb, Decides-and, Decides-ltb, Decides-not}
use Rattle.std.proofs.lemmas.Bool.Decides.{nat_tests}
use Rattle.std.proofs.lemmas.Slice.Eq.{bytes_eq-Decides}
use Rattle.fix_fields.specs.Frame.{Field, IsTag, IsValue, IsField, AreBody, IsLength, AreSumDigits}
use Rattle.fix_fields.specs.Frame.{front_text, end_text, fields_text, is_tag, is_value, is_field}
use Rattle.fix_fields.specs.Frame.{are_body, are_length_digits, are_sum_digits, builds}
use Rattle.fix_fields.proofs.Digits.{tested}

-- the tests of `frame_of` decide what they are named for
tag_decides : (tag : ℕ) → Decides (is_tag tag) (IsTag tag)
tag_decides tag =
    let tests : Decides (is_tag tag) (((((0 < tag) × (tag < 1000000000)) × ¬ (tag ≡ 8)) × ¬ (tag ≡ 9)) × ¬ (tag ≡ 10)) =
    Decides-and _ _ (Decides-and _ _ (Decides-and _ _ (Decides-and _ _ (Decides-ltb 0 tag) (Decides-ltb tag 1000000000))
    (Decides-not (tag == 8) (Decides-eqb tag 8))) (Decides-not (tag == 9) (Decides-eqb tag 9))) (Decides-not (tag == 10) (Decides-eqb tag 10)) in
    (λ t. (let p = tests.0 t in (p.0.0.0.0, p.0.0.0.1, p.0.0.1, p.0.1, p.1)), λ p. tests.1 ((((p.0, p.1), p.2), p.3), p.4))

all_decides : {X : Type 0} (test : X → Bool) (P : X → Type 0) → ((x : X) → Decides (test x) (P x)) → (xs : List X)
    → Decides (list_all test xs) (AllByRecursion P xs)
all_decides test P each [] = (λ _. tt, λ _. refl)
all_decides test P each (x ∷ xs) = Decides-and (test x) (list_all test xs) (each x) (all_decides test P each xs)

pub value_decides : (value : List ℕ) → Decides (is_value value) (IsValue value)
value_decides value =
    all_decides (λ byte. not (byte == 1)) (λ byte. byte ≢ 1) (λ byte. Decides-not (byte == 1) (Decides-eqb byte 1)) value

field_decides : (field : Field) → Decides (is_field field) (IsField field)
field_decides field = Decides-and (is_tag field.0) (is_value field.1) (tag_decides field.0) (value_decides field.1)

body_decides : (fields : List Field) → Decides (are_body fields) (AreBody fields)
body_decides [] = (λ t. absurd (false≢true t), λ t. absurd t)
body_decides (field ∷ fields) =
    Decides-and (field.0 == 35) (list_all is_field (field ∷ fields)) (Decides-eqb field.0 35) (all_decides is_field IsField field_decides (field ∷ fields))

digits_decide : (digits : List ℕ) → Decides (all_ascii_digits digits) (AllDigits 10 digits)
digits_decide digits = (λ t. tested.to digits t, λ all. tested.from digits all)

pub Decides-leb : (a b : ℕ) → Decides (leb a b) (a ≤ b)
Decides-leb a b = (λ t. grind (arith, nat_tests), λ h. grind (arith, nat_tests))

length_decides : (digits : List ℕ) (n : ℕ) → Decides (are_length_digits digits n) (IsLength digits n)
length_decides digits n =
    let tests : Decides (are_length_digits digits n) (((AllDigits 10 digits × (0 < length digits)) × (length digits ≤ 6)) × (digits_value 10 digits ≡ n)) =
    Decides-and _ _ (Decides-and _ _ (Decides-and _ _ (digits_decide digits) (Decides-ltb 0 (length digits))) (Decides-leb (length digits) 6)) (Decides-eqb (digits_value 10 digits) n) in (
      λ t. (let p = tests.0 t in record { all_digits = p.0.0.0; some = p.0.0.1; few = p.0.1; value = p.1 }),
      λ p. tests.1 (((p.all_digits, p.some), p.few), p.value),
    )

sum_decides : (digits : List ℕ) (n : ℕ) → Decides (are_sum_digits digits n) (AreSumDigits digits × (digits_value 10 digits ≡ n))
sum_decides digits n =
    let tests : Decides (are_sum_digits digits n) ((AllDigits 10 digits × (length digits ≡ 3)) × (digits_value 10 digits ≡ n)) =
    Decides-and _ _ (Decides-and _ _ (digits_decide digits) (Decides-eqb (length digits) 3)) (Decides-eqb (digits_value 10 digits) n) in (
      λ t. (let p = tests.0 t in (record { all_digits = p.0.0; three = p.0.1 }, p.1)),
      λ p. tests.1 ((p.0.all_digits, p.0.three), p.1),
    )

-- the digits and fields build the bytes
pub record IsBuilt (bytes length_digits sum_digits : List ℕ) (fields : List Field) : Type 0 where
  pub body : AreBody fields
  pub length_is : IsLength length_digits (length (fields_text fields))
  pub sum_is : AreSumDigits sum_digits
  pub sum_value : digits_value 10 sum_digits ≡ sum (front_text length_digits (fields_text fields)) % 256
  pub text : bytes ≡ front_text length_digits (fields_text fields) ++ end_text sum_digits
  pub fits : length bytes ≤ 4096

pub builds_decides : (bytes length_digits sum_digits : List ℕ) (fields : List Field)
    → Decides (builds bytes length_digits sum_digits fields) (IsBuilt bytes length_digits sum_digits fields)
unfolding builds
builds_decides bytes length_digits sum_digits fields =
    let front = front_text length_digits (fields_text fields) in
    let tests : Decides (builds bytes length_digits sum_digits fields)
    ((((AreBody fields × IsLength length_digits (length (fields_text fields))) × (AreSumDigits sum_digits × (digits_value 10 sum_digits ≡ sum front % 256)))
    × (bytes ≡ front ++ end_text sum_digits)) × (length bytes ≤ 4096)) =
    Decides-and _ _ (Decides-and _ _ (Decides-and _ _ (Decides-and _ _ (body_decides fields) (length_decides length_digits (length (fields_text fields))))
    (sum_decides sum_digits (sum front % 256))) (bytes_eq-Decides bytes (front ++ end_text sum_digits))) (Decides-leb (length bytes) 4096) in (
      λ t. (let p = tests.0 t in record { body = p.0.0.0.0; length_is = p.0.0.0.1; sum_is = p.0.0.1.0; sum_value = p.0.0.1.1; text = p.0.1; fits = p.1 }),
      λ p. tests.1 ((((p.body, p.length_is), (p.sum_is, p.sum_value)), p.text), p.fits),
    )
