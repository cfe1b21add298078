-- How a tag stands in fields, one behind the other, and where its slot is.
use Rattle.std.proofs.Common.{◌≡◌, ◌≢◌, ℕ, ◌+◌, ◌<◌, ◌==◌, Bool, true, false, ◌||◌, not, List, []}
use Rattle.std.proofs.Common.{◌∷◌, length, Option, Some, None, is_some, IsTrue, cond, nat_lt, arith}
use Rattle.std.proofs.Common.{refl, ap, ◌∙◌, sym, zero-add, set, replicate}
use Rattle.std.specs.List.{list_any, position_or_len}
use Rattle.std.proofs.lemmas.Bool.Decides.{nat_tests}
use Rattle.std.proofs.lemmas.List.Sums.{sum_by-cons, prefix_len-le-length}
use Rattle.std.proofs.lemmas.List.{get_or-set_same, get_or-set_other, get_or-replicate, length-set}
use Rattle.fix_fields.specs.Frame.{Field, value_of, times_of}
use Rattle.quote_messages.specs.declared.slots.Slot.{Slot}
use Rattle.quote_messages.specs.SessionLines.{Occurrence, occurrence_of}
use Rattle.venue_rows.specs.Texts.{text_if}
use Rattle.quote_messages.specs.Texts.{is_sequence_number}
use Rattle.quote_messages.specs.Arrivals.{sequence_number}
use Rattle.quote_messages.specs.Slots.{checked_tags, place_of, is_checked, said_by, slot_at, joined}
use Rattle.quote_messages.specs.Slots.{AreFilledBefore}

-- one value
abbrev pub one_value : List ℕ → Occurrence
one_value value = record { first = Some value; is_repeated = false }

abbrev of_parts : Option (List ℕ) → Bool → Occurrence
of_parts first is_repeated = record { first = first; is_repeated = is_repeated }

with_nothing : (first : Option (List ℕ)) (is_repeated : Bool) → joined (of_parts first is_repeated) (of_parts None false) ≡ of_parts first is_repeated
with_nothing None true = refl
with_nothing None false = refl
with_nothing (Some x) true = refl
with_nothing (Some x) false = refl

-- no fields behind
pub joined-none : (one : Occurrence) (tag : ℕ) → joined one (occurrence_of tag []) ≡ one
joined-none one tag = with_nothing one.first one.is_repeated

behind_nothing : (first : Option (List ℕ)) (is_repeated : Bool) → joined (of_parts None false) (of_parts first is_repeated) ≡ of_parts first is_repeated
behind_nothing first true = refl
behind_nothing first false = refl

-- no fields in front
pub none-joined : (other : Occurrence) → joined (of_parts None false) other ≡ other
none-joined other = behind_nothing other.first other.is_repeated

stands-cons : (b : Bool) (x : List ℕ) (v : Option (List ℕ)) (n : ℕ) → is_some v ≡ nat_lt 0 n → is_some (cond b (Some x) v) ≡ nat_lt 0 (cond b 1 0 + n)
stands-cons true x v n h = grind (arith, nat_tests)
stands-cons false x v n h = grind (arith, nat_tests)

-- a tag has a value where it stands
stands : (tag : ℕ) (fields : List Field) → is_some (value_of tag fields) ≡ nat_lt 0 (times_of tag fields)
stands tag [] = refl
stands tag (field ∷ fields) = rw sum_by-cons (stands-cons (field.0 == tag) field.1 (value_of tag fields) (times_of tag fields) (stands tag fields))

same_values : (first : Option (List ℕ)) (is_repeated again : Bool) (x : List ℕ) (v : Option (List ℕ)) → (is_some v ≡ false → again ≡ false) → joined (joined (of_parts first is_repeated) (one_value x)) (of_parts v again) ≡ joined (of_parts first is_repeated) (of_parts (Some x) (is_some v))
same_values None true again x None h = refl
same_values None false again x None h = rw (h refl)
same_values (Some w) true again x None h = refl
same_values (Some w) false again x None h = refl
same_values None true again x (Some y) h = refl
same_values None false true x (Some y) h = refl
same_values None false false x (Some y) h = refl
same_values (Some w) true again x (Some y) h = refl
same_values (Some w) false again x (Some y) h = refl

again_stands : (v : Bool) (n : ℕ) → v ≡ nat_lt 0 n → v ≡ false → nat_lt 1 n ≡ false
again_stands v n h e = grind (arith, nat_tests)

twice : (v : Bool) (n : ℕ) → v ≡ nat_lt 0 n → nat_lt 1 (1 + n) ≡ v
twice v n h = grind (arith, nat_tests)

-- a field with the tag in front
pub joined-same : (one : Occurrence) (tag : ℕ) (field : Field) (rest : List Field) → field.0 == tag ≡ true → joined (joined one (one_value field.1)) (occurrence_of tag rest) ≡ joined one (occurrence_of tag (field ∷ rest))
joined-same one tag field rest h =
    let v = value_of tag rest in
    let n = times_of tag rest in
    rw (sum_by-cons, h) (rw (twice (is_some v) n (stands tag rest)) (same_values one.first one.is_repeated (nat_lt 1 n) field.1 v (again_stands (is_some v) n (stands tag rest))))

-- a field with another tag in front
pub joined-other : (tag : ℕ) (field : Field) (rest : List Field) → field.0 == tag ≡ false → occurrence_of tag (field ∷ rest) ≡ occurrence_of tag rest
joined-other tag field rest h = rw (sum_by-cons, h) (rw zero-add refl)

-- two tags with one place are one
apart-cons : (b d : Bool) (k t u m n : ℕ) (more : Bool) → k == t ≡ b → k == u ≡ d → (b || more) ≡ true → cond (not b) (1 + m) 0 ≡ cond (not d) (1 + n) 0 → (more ≡ true → m ≡ n → t ≡ u) → t ≡ u
apart-cons true true k t u m n more e f some same next = grind (arith, nat_tests)
apart-cons true false k t u m n more e f some same next = absurd (omega arith)
apart-cons false true k t u m n more e f some same next = absurd (omega arith)
apart-cons false false k t u m n more e f some same next = next some (omega arith)

apart : (tags : List ℕ) (t u : ℕ) → list_any (λ known. known == t) tags ≡ true → position_or_len (λ known. known == t) tags ≡ position_or_len (λ known. known == u) tags → t ≡ u
apart [] t u some same = cc
apart (k ∷ tags) t u some same = apart-cons (k == t) (k == u) k t u (position_or_len (λ known. known == t) tags) (position_or_len (λ known. known == u) tags) (list_any (λ known. known == t) tags) refl refl some same (apart tags t u)

apart_tags : (tag other : ℕ) → IsTrue (is_checked tag) → place_of tag ≡ place_of other → other == tag ≡ false → ⊥
apart_tags tag other checked same b = let one : tag ≡ other = apart checked_tags tag other checked same in grind (arith, nat_tests)

-- the slots once a field more is noted, as each tag sees it
filled-at : (b : Bool) (slots : List Slot) (place : ℕ) (slot : Slot) (field : Field) (rest all : List Field) → length slots ≡ 26 → place ≡ place_of field.0 → place < 26
    → said_by slot ≡ joined (said_by (slot_at slots place)) (one_value field.1) → (tag : ℕ) → IsTrue (is_checked tag)
    → joined (said_by (slot_at slots (place_of tag))) (occurrence_of tag (field ∷ rest)) ≡ occurrence_of tag all
    → field.0 == tag ≡ b
    → joined (said_by (slot_at (set slots place slot) (place_of tag))) (occurrence_of tag rest) ≡ occurrence_of tag all
filled-at true slots place slot field rest all count is within said tag checked before b =
    let same : field.0 ≡ tag = grind (arith, nat_tests) in
    let here : place_of tag ≡ place = ap place_of (sym same) ∙ sym is in
    let inside : place < length slots = rw count within in
    let found : slot_at (set slots place slot) place ≡ slot = get_or-set_same slots place slot _ inside in
    let noted : said_by (slot_at (set slots place slot) (place_of tag)) ≡ joined (said_by (slot_at slots place)) (one_value field.1) =
    ap (λ p. said_by (slot_at (set slots place slot) p)) here ∙ ap said_by found ∙ said in
    ap (λ one. joined one (occurrence_of tag rest)) noted
    ∙ joined-same (said_by (slot_at slots place)) tag field rest b
    ∙ ap (λ p. joined (said_by (slot_at slots p)) (occurrence_of tag (field ∷ rest))) (sym here)
    ∙ before
filled-at false slots place slot field rest all count is within said tag checked before b =
    let elsewhere : place_of tag ≢ place = λ e. apart_tags tag field.0 checked (e ∙ is) b in
    let kept : slot_at (set slots place slot) (place_of tag) ≡ slot_at slots (place_of tag) = get_or-set_other slots place (place_of tag) slot _ elsewhere in
    ap (λ one. joined (said_by one) (occurrence_of tag rest)) kept
    ∙ ap (λ other. joined (said_by (slot_at slots (place_of tag))) other) (sym (joined-other tag field rest b))
    ∙ before

pub filled-step : (slots : List Slot) (place : ℕ) (slot : Slot) (field : Field) (rest all : List Field) → place ≡ place_of field.0 → place < 26
    → said_by slot ≡ joined (said_by (slot_at slots place)) (one_value field.1)
    → AreFilledBefore slots (field ∷ rest) all → AreFilledBefore (set slots place slot) rest all
filled-step slots place slot field rest all is within said before = record {
  count = length-set slots place slot ∙ before.count;
  each = λ tag checked. filled-at (field.0 == tag) slots place slot field rest all before.count is within said tag checked (before.each tag checked) refl;
}

-- before any field
pub filled-none : (slot : Slot) (fields : List Field) → slot ≡ record { first = None; is_repeated = false } → AreFilledBefore (slot ∷ slot ∷ slot ∷ slot ∷ slot ∷ slot ∷ slot ∷ slot ∷ slot ∷ slot ∷ slot ∷ slot ∷ slot ∷ slot ∷ slot ∷ slot ∷ slot ∷ slot ∷ slot ∷ slot ∷ slot ∷ slot ∷ slot ∷ slot ∷ slot ∷ slot ∷ []) fields fields
filled-none slot fields is = record {
  count = refl;
  each = λ tag checked.
      let within = prefix_len-le-length (λ known. not (known == tag)) checked_tags in
      let here : slot_at (replicate 26 slot) (place_of tag) ≡ slot = get_or-replicate 26 (place_of tag) slot _ (omega arith) in
      ap (λ one. joined (said_by one) (occurrence_of tag fields)) (here ∙ is) ∙ none-joined (occurrence_of tag fields);
}

stands_once : (v : Bool) (n : ℕ) → v ≡ nat_lt 0 n → v ≡ true → nat_lt 1 n ≡ false → n == 1 ≡ true
stands_once v n h e f = grind (arith, nat_tests)

-- a MsgSeqNum that stands once is what its value is
pub stands_readable : (fields : List Field) (value : List ℕ) → value_of 34 fields ≡ Some value → nat_lt 1 (times_of 34 fields) ≡ false → sequence_number fields ≡ text_if is_sequence_number value
stands_readable fields value first once =
    let one : times_of 34 fields == 1 ≡ true = stands_once (is_some (value_of 34 fields)) (times_of 34 fields) (stands 34 fields) (ap is_some first) once in
    rw (one, first) refl
