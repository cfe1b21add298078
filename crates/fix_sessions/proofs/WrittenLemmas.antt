-- What is written fits.
use Rattle.std.proofs.Common.{◌≡◌, ℕ, ◌+◌, ◌<◌, ◌^◌, ◌≤◌, Bool, true, false, lit≤, cond, nat_lt, List, [], ◌∷◌, ◌++◌, length, Option, Some, ◌==◌}
use Rattle.std.proofs.Common.{decimal, arith, length-append, ap, ◌∙◌, sym, subst, unwrap_or}
use Rattle.std.specs.List.{AllByRecursion}
use Rattle.fix_fields.specs.Frame.{Field, IsTag, IsField, decimal_len, field_len, field_text, fields_text, AreBody, IsValue, value_of}
use Rattle.fix_sessions.specs.Written.{behind_type, type_in}
use Rattle.fix_fields.specs.TextLaws.{number_is_value}
use Rattle.fix_fields.proofs.WriterLemmas.{length-field_text}
use Rattle.std.proofs.lemmas.Bool.Decides.{nat_tests}

-- a choice of two is at most what both are at most
at_most : (b : Bool) (m n most : ℕ) → m ≤ most → n ≤ most → cond b m n ≤ most
at_most true m n most p q = p
at_most false m n most p q = q

-- a number has at most 20 digits
pub decimal_len_le : (n : ℕ) → decimal_len n ≤ 20
decimal_len_le n =
    at_most (nat_lt n 10) _ _ 20 (lit≤ tt) (at_most (nat_lt n 100) _ _ 20 (lit≤ tt) (at_most (nat_lt n 1000) _ _ 20 (lit≤ tt)
    (at_most (nat_lt n 10000) _ _ 20 (lit≤ tt) (at_most (nat_lt n 100000) _ _ 20 (lit≤ tt) (at_most (nat_lt n 1000000) _ _ 20 (lit≤ tt)
    (at_most (nat_lt n 10000000) _ _ 20 (lit≤ tt) (at_most (nat_lt n 100000000) _ _ 20 (lit≤ tt) (at_most (nat_lt n 1000000000) _ _ 20 (lit≤ tt)
    (at_most (nat_lt n 10000000000) _ _ 20 (lit≤ tt) (at_most (nat_lt n 100000000000) _ _ 20 (lit≤ tt) (at_most (nat_lt n 1000000000000) _ _ 20 (lit≤ tt)
    (at_most (nat_lt n 10000000000000) _ _ 20 (lit≤ tt) (at_most (nat_lt n 100000000000000) _ _ 20 (lit≤ tt) (at_most (nat_lt n 1000000000000000) _ _ 20 (lit≤ tt)
    (at_most (nat_lt n 10000000000000000) _ _ 20 (lit≤ tt) (at_most (nat_lt n 100000000000000000) _ _ 20 (lit≤ tt) (at_most (nat_lt n 1000000000000000000) _ _ 20 (lit≤ tt)
    (at_most (nat_lt n 10000000000000000000) _ _ 20 (lit≤ tt) (lit≤ tt)))))))))))))))))))

-- two texts without SOH are one, one behind the other
pub value_append : (front back : List ℕ) → IsValue front → IsValue back → IsValue (front ++ back)
value_append [] back one other = other
value_append (c ∷ front) back one other = (one.0, value_append front back one.1 other)

pub decimal_is_value : (n : ℕ) → n < 2 ^ 64 → IsValue (decimal n)
decimal_is_value n small = number_is_value n small

some_is : (b : Bool) (x v : List ℕ) (rest : Option (List ℕ)) → b ≡ true → cond b (Some x) rest ≡ Some v → x ≡ v
some_is true x v rest h e = cc
some_is false x v rest h e = cc

front_fits : (tag : ℕ) (value v : List ℕ) (fields : List Field) → tag ≡ 35 → value_of 35 ((tag, value) ∷ fields) ≡ Some v
    → field_len 35 (length v) ≤ length (fields_text ((tag, value) ∷ fields))
front_fits tag value v fields tag_is is =
    let test : (tag == 35) ≡ true = grind (arith, nat_tests) in
    let same : value ≡ v = some_is (tag == 35) value v (value_of 35 fields) test is in
    let small : tag < 2 ^ 64 = omega (arith, tag_is) in
    let len : length (field_text (tag, value)) ≡ field_len 35 (length value) =
    length-field_text tag value small ∙ ap (λ t. field_len t (length value)) tag_is in
    omega (arith, len, length-append (field_text (tag, value)) (fields_text fields), ap length same)

-- the MsgType (35) with which a body begins fits into it
pub first_fits : (body : List Field) (v : List ℕ) → AreBody body → value_of 35 body ≡ Some v
    → field_len 35 (length v) ≤ length (fields_text body)
first_fits [] v are is = absurd are
first_fits ((tag, value) ∷ fields) v are is = front_fits tag value v fields are.0 is

-- What stands behind it.

pub behind_is : (body rest : List Field) (tag : ℕ) (value : List ℕ) → body ≡ (tag, value) ∷ rest → rest ≡ behind_type body
behind_is body rest tag value is = ap behind_type (sym is)

pub behind_is_lawful : (body : List Field) → AreBody body → AllByRecursion IsField (behind_type body)
behind_is_lawful [] are = absurd are
behind_is_lawful (field ∷ fields) are = are.1.1

front_and_rest : (tag : ℕ) (value : List ℕ) (fields : List Field) → tag ≡ 35
    → length (fields_text fields) + field_len 35 (length (type_in ((tag, value) ∷ fields))) ≤ length (fields_text ((tag, value) ∷ fields))
front_and_rest tag value fields tag_is =
    let test : (tag == 35) ≡ true = grind (arith, nat_tests) in
    let same : type_in ((tag, value) ∷ fields) ≡ value = ap (λ b. unwrap_or (cond b (Some value) (value_of 35 fields)) []) test in
    let small : tag < 2 ^ 64 = omega (arith, tag_is) in
    let len : length (field_text (tag, value)) ≡ field_len 35 (length value) =
    length-field_text tag value small ∙ ap (λ t. field_len t (length value)) tag_is in
    omega (arith, len, length-append (field_text (tag, value)) (fields_text fields), ap length same)

pub behind_fits : (body : List Field) → AreBody body
    → length (fields_text (behind_type body)) + field_len 35 (length (type_in body)) ≤ length (fields_text body)
behind_fits [] are = absurd are
behind_fits ((tag, value) ∷ fields) are = front_and_rest tag value fields are.0

-- The next field that is written.

pub next_is_lawful : (tag : ℕ) (value : List ℕ) (rest all : List Field) → all ≡ (tag, value) ∷ rest → AllByRecursion IsField all
    → IsField (tag, value) × AllByRecursion IsField rest
next_is_lawful tag value rest all is lawful = subst (λ fs. AllByRecursion IsField fs) is lawful

pub next_fits : (tag left : ℕ) (value : List ℕ) (rest all : List Field) → all ≡ (tag, value) ∷ rest → IsTag tag
    → length (fields_text all) ≤ left → field_len tag (length value) + length (fields_text rest) ≤ left
next_fits tag left value rest all is lawful room =
    let small : tag < 2 ^ 64 = (let most = lawful.1 in omega (arith, most)) in
    omega (arith, room, ap (λ fs. length (fields_text fs)) is, length-field_text tag value small, length-append (field_text (tag, value)) (fields_text rest))
