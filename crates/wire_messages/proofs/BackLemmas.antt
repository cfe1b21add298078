-- The wire's message, read back.
use Rattle.std.proofs.Common.{◌≡◌, ℕ, ◌==◌, ◌&&◌, ◌||◌, Bool, true, false, not, List, [], ◌∷◌, ◌++◌, cond, drop, map, Option, Some, None, ap, sym, ◌∙◌, refl, arith, inl, inr}
use Rattle.std.specs.Prelude.{codes, decimal, nat_eq}
use Rattle.std.specs.Cmp.Lexicographic.{pointwise}
use Rattle.std.proofs.lemmas.Bool.{cases_Bool, false≢true}
use Rattle.std.proofs.lemmas.Bool.Decides.{nat_tests}
use Rattle.fix_fields.specs.Frame.{Field, value_of}
use Rattle.std.specs.List.{AllByRecursion}
use Rattle.wire_messages.specs.ToFirm.{IsTold, VenueMessage, has_added, is_added, referred, timed, time_stands_before, to_firm, told_fields, wire_behind, without_added}

-- none of these fields is one that the wire adds
abbrev pub ArePlain : Option Field → List Field → Type 0
ArePlain told fields = AllByRecursion (λ (field : Field). is_added told field.0 ≡ false) fields

or_false : (a b : Bool) → a || b ≡ false → (a ≡ false) × (b ≡ false)
or_false true b h = absurd (false≢true (sym h))
or_false false b h = (refl, h)

pub plain_of : (told : Option Field) (fields : List Field) → has_added told fields ≡ false → ArePlain told fields
plain_of told [] h = tt
plain_of told (field ∷ fields) h =
    let parts = or_false (is_added told field.0) (has_added told fields) h in
    (parts.0, plain_of told fields parts.1)

-- a field keeps its tag
tag_by : (a p q : Bool) (number : List ℕ) (field : Field) → (a ≡ true → 45 ≡ field.0)
    → (cond (a && p && q) (45, number) field).0 ≡ field.0
tag_by true true true number field h = h refl
tag_by true true false number field h = refl
tag_by true false q number field h = refl
tag_by false p q number field h = refl

is_45 : (tag : ℕ) → (tag == 45) ≡ true → 45 ≡ tag
is_45 tag h = grind (arith, nat_tests)

pub referred_tag : (kind : List ℕ) (reference : ℕ) (field : Field) → (referred kind reference field).0 ≡ field.0
referred_tag kind reference field =
    tag_by (field.0 == 45) (pointwise nat_eq kind (codes "3")) (not (reference == 0)) (decimal reference) field (is_45 field.0)

keep_by : (a p : Bool) (number : List ℕ) (field : Field) → cond (a && p && false) (45, number) field ≡ field
keep_by true true number field = refl
keep_by true false number field = refl
keep_by false p number field = refl

-- no message has the number 0
pub unreferred : (kind : List ℕ) (fields : List Field) → map (referred kind 0) fields ≡ fields
unreferred kind [] = refl
unreferred kind (field ∷ fields) =
    rw (keep_by (field.0 == 45) (pointwise nat_eq kind (codes "3")) (decimal 0) field) (ap (λ fs. field ∷ fs) (unreferred kind fields))

-- it is added or not as before
added_as : (told : Option Field) (kind : List ℕ) (reference : ℕ) (field : Field) → is_added told field.0 ≡ false
    → is_added told (referred kind reference field).0 ≡ false
added_as told kind reference field h = ap (λ tag. is_added told tag) (referred_tag kind reference field) ∙ h

kept : (told : Option Field) (field : Field) (fields : List Field) → is_added told field.0 ≡ false
    → without_added told (field ∷ fields) ≡ field ∷ without_added told fields
kept told field fields h = rw h refl

dropped : (told : Option Field) (field : Field) (fields : List Field) → is_added told field.0 ≡ true
    → without_added told (field ∷ fields) ≡ without_added told fields
dropped told field fields h = rw h refl

back_map : (told : Option Field) (kind : List ℕ) (reference : ℕ) (fields : List Field) → ArePlain told fields
    → without_added told (map (referred kind reference) fields) ≡ map (referred kind reference) fields
back_map told kind reference [] plain = refl
back_map told kind reference (field ∷ fields) plain =
    kept told (referred kind reference field) (map (referred kind reference) fields) (added_as told kind reference field plain.0)
    ∙ ap (λ fs. referred kind reference field ∷ fs) (back_map told kind reference fields plain.1)

or_true : (b c : Bool) → b || true || c ≡ true
or_true true c = refl
or_true false c = refl

back_timed : (told : Option Field) (kind moment : List ℕ) (reference : ℕ) (fields : List Field) → ArePlain told fields
    → without_added told (map (referred kind reference) (timed kind moment fields)) ≡ map (referred kind reference) fields
back_timed told kind moment reference [] plain = refl
back_timed told kind moment reference (field ∷ fields) plain =
    elim (cases_Bool (time_stands_before kind field.0)) [
      | inl due ↦ rw due (back_map told kind reference (field ∷ fields) plain)
      | inr early ↦ rw early (kept told (referred kind reference field) (map (referred kind reference) (timed kind moment fields)) (added_as told kind reference field plain.0)
          ∙ ap (λ fs. referred kind reference field ∷ fs) (back_timed told kind moment reference fields plain.1))
    ]

without_append : (told : Option Field) (xs ys : List Field) → without_added told (xs ++ ys) ≡ without_added told xs ++ without_added told ys
without_append told [] ys = refl
without_append told (x ∷ xs) ys =
    elim (cases_Bool (is_added told x.0)) [
      | inl added ↦ rw added (without_append told xs ys)
      | inr own ↦ rw own (ap (λ fs. x ∷ fs) (without_append told xs ys))
    ]

-- what is told is added
told_by_tag : (tag : ℕ) (text : List ℕ) → without_added (Some (tag, text)) ((tag, text) ∷ []) ≡ []
told_by_tag tag text = dropped (Some (tag, text)) (tag, text) [] (same_last (tag == 1181) (tag == 60) (tag == tag) (grind (arith, nat_tests))) where
  same_last : (a b c : Bool) → c ≡ true → a || b || c ≡ true
  same_last true b c h = refl
  same_last false true c h = refl
  same_last false false c h = h

told_goes : (told : Option Field) → without_added told (told_fields told) ≡ []
told_goes None = refl
told_goes (Some field) = told_by_tag field.0 field.1

-- MsgType is not
type_stays : (told : Option Field) → IsTold told → is_added told 35 ≡ false
type_stays None is = refl
type_stays (Some field) is =
    elim is.0 [
      | inl reason ↦ ap (λ (n : ℕ). 35 == n) reason
      | inr trade ↦ ap (λ (n : ℕ). 35 == n) trade
    ]

append_nothing : (xs : List Field) → xs ++ [] ≡ xs
append_nothing [] = refl
append_nothing (x ∷ xs) = ap (λ fs. x ∷ fs) (append_nothing xs)

pub reads_back : (reference : ℕ) (told : Option Field) (m : VenueMessage) → IsTold told → ArePlain told m.behind
    → without_added told (to_firm reference told m) ≡ (35, m.kind) ∷ map (referred m.kind reference) m.behind
reads_back reference told m is plain =
    kept told (35, m.kind) ((1181, m.number) ∷ wire_behind reference m ++ told_fields told) (type_stays told is)
    ∙ ap (λ fs. (35, m.kind) ∷ fs) (without_append told (wire_behind reference m) (told_fields told)
    ∙ ap (λ fs. without_added told (wire_behind reference m) ++ fs) (told_goes told)
    ∙ append_nothing (without_added told (wire_behind reference m))
    ∙ back_timed told m.kind m.moment reference m.behind plain)

-- the time stands in 60
not_60 : (a b c : Bool) → a || b || c ≡ false → b ≡ false
not_60 true b c h = absurd (false≢true (sym h))
not_60 false true c h = absurd (false≢true (sym h))
not_60 false false c h = refl

told_part : Option Field → ℕ → Bool
told_part None tag = false
told_part (Some field) tag = tag == field.0

apart_60 : (told : Option Field) (tag : ℕ) → is_added told tag ≡ false → (tag == 60) ≡ false
apart_60 None tag h = not_60 (tag == 1181) (tag == 60) false h
apart_60 (Some field) tag h = not_60 (tag == 1181) (tag == 60) (tag == field.0) h

moment_in : (told : Option Field) (kind moment : List ℕ) (reference : ℕ) (fields behind : List Field) → ArePlain told fields
    → value_of 60 (map (referred kind reference) (timed kind moment fields) ++ behind) ≡ Some moment
moment_in told kind moment reference [] behind plain = refl
moment_in told kind moment reference (field ∷ fields) behind plain =
    elim (cases_Bool (time_stands_before kind field.0)) [
      | inl due ↦ rw due refl
      | inr early ↦ rw (early, apart_60 told (referred kind reference field).0 (added_as told kind reference field plain.0))
          (moment_in told kind moment reference fields behind plain.1)
    ]

pub moment_back : (reference : ℕ) (told : Option Field) (m : VenueMessage) → ArePlain told m.behind
    → value_of 60 (to_firm reference told m) ≡ Some m.moment
moment_back reference told m plain = moment_in told m.kind m.moment reference m.behind (told_fields told) plain

pub number_back : (reference : ℕ) (told : Option Field) (m : VenueMessage) → value_of 1181 (to_firm reference told m) ≡ Some m.number
number_back reference told m = refl

some_once : (x y : List ℕ) → Some x ≡ Some y → x ≡ y
some_once x y h = cc

pub record AreOne (reference : ℕ) (m other : VenueMessage) : Type 0 where
  pub kind : m.kind ≡ other.kind
  pub number : m.number ≡ other.number
  pub moment : m.moment ≡ other.moment
  pub behind : map (referred m.kind reference) m.behind ≡ map (referred other.kind reference) other.behind

pub tells_apart : (reference : ℕ) (told : Option Field) (m other : VenueMessage) → IsTold told
    → ArePlain told m.behind → ArePlain told other.behind
    → to_firm reference told m ≡ to_firm reference told other → AreOne reference m other
tells_apart reference told m other is plain other_plain same = record {
  kind = some_once m.kind other.kind (ap (λ fs. value_of 35 fs) same);
  number = some_once m.number other.number (ap (λ fs. value_of 1181 fs) same);
  moment = some_once m.moment other.moment
      (sym (moment_back reference told m plain) ∙ ap (λ fs. value_of 60 fs) same ∙ moment_back reference told other other_plain);
  behind = ap (λ (fs : List Field). drop 1 fs)
      (sym (reads_back reference told m is plain) ∙ ap (λ fs. without_added told fs) same ∙ reads_back reference told other is other_plain);
}
