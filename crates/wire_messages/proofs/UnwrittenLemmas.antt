-- What is too long stays so with what would have come behind it.
use Rattle.std.proofs.Common.{◌≡◌, ℕ, ◌+◌, ◌<◌, ◌≤◌, ◌↔◌, Bool, false, List, [], ◌∷◌, ◌++◌, length, ap, sym, ◌∙◌, subst, refl, arith, append_assoc, length-append, inl, inr}
use Rattle.std.proofs.lemmas.Bool.{cases_lt, false≢true}
use Rattle.std.specs.Prelude.{IsErrAnd, IsTrue, MatchResult, Result, Ok, Err}
use Rattle.fix_fields.specs.Frame.{Field, IsTag, field_len, field_text, fields_len, fields_text, left_of}
use Rattle.fix_fields.proofs.WriterLemmas.{length-field_text}
use Rattle.wire_messages.specs.declared.faults.Untranslated.{Untranslated}
use Rattle.wire_messages.specs.declared.faults.Untranslated.TheVariants as fault
use Rattle.wire_messages.specs.Unwritten.{IsUnread, IsUnwritten}

fields_text_append : (fields more : List Field) → fields_text (fields ++ more) ≡ fields_text fields ++ fields_text more
fields_text_append [] more = refl
fields_text_append (field ∷ fields) more =
    ap (λ t. field_text field ++ t) (fields_text_append fields more) ∙ sym (append_assoc (field_text field) (fields_text fields) (fields_text more))

pub fields_len_append : (fields more : List Field) → fields_len (fields ++ more) ≡ fields_len fields + fields_len more
unfolding fields_len
fields_len_append fields more =
    ap length (fields_text_append fields more) ∙ length-append (fields_text fields) (fields_text more)

pub fields_len_one : (tag : ℕ) (value : List ℕ) → IsTag tag → fields_len ((tag, value) ∷ []) ≡ field_len tag (length value)
unfolding fields_len
fields_len_one tag value lawful =
    let below : tag < 1000000000 = lawful.1 in
    omega (arith, length-append (field_text (tag, value)) [], length-field_text tag value (omega arith))

over : (fits : Bool) (len left : ℕ) → (IsTrue fits ↔ (len ≤ left)) → fits ≡ false → left < len
over fits len left test none =
    elim (cases_lt left len) [
      | inl short ↦ short
      | inr enough ↦ absurd (false≢true (sym none ∙ test.1 enough))
    ]

-- a field that does not fit into what is left
pub no_room : (fits : Bool) (fields : List Field) (tag : ℕ) (value : List ℕ) (len left : ℕ) → IsTag tag
    → left ≡ left_of fields → len ≡ length value → (IsTrue fits ↔ (field_len tag len ≤ left)) → fits ≡ false
    → 4071 < fields_len (fields ++ (tag, value) ∷ [])
unfolding left_of
no_room fits fields tag value len left lawful left_is len_is test none =
    omega (arith, left_is, len_is, over fits (field_len tag len) left test none, fields_len_append fields ((tag, value) ∷ []), fields_len_one tag value lawful)

tag_35 : IsTag 35
tag_35 = (omega arith, omega arith, omega arith, omega arith, omega arith)

pub no_room_first : (fits : Bool) (value : List ℕ) → (IsTrue fits ↔ (field_len 35 (length value) ≤ 4071)) → fits ≡ false
    → 4071 < fields_len ((35, value) ∷ [])
no_room_first fits value test none =
    omega (arith, over fits (field_len 35 (length value)) 4071 test none, fields_len_one 35 value tag_35)

pub unwritten_more : (most : ℕ) (why : Untranslated) (fields more : List Field) → IsUnwritten most why fields
    → IsUnwritten most why (fields ++ more)
unwritten_more most fault.TooLong fields more is = omega (arith, is, fields_len_append fields more)
unwritten_more most fault.Memory fields more is = tt
unwritten_more most fault.Form fields more is = absurd is
unwritten_more most fault.Number fields more is = absurd is
unwritten_more most fault.Added fields more is = absurd is

-- the limit of the wire is the lower one
pub unwritten_below : (why : Untranslated) (fields : List Field) → IsUnwritten 4071 why fields → IsUnwritten 3800 why fields
unwritten_below fault.TooLong fields is = omega (arith, is)
unwritten_below fault.Memory fields is = tt
unwritten_below fault.Form fields is = absurd is
unwritten_below fault.Number fields is = absurd is
unwritten_below fault.Added fields is = absurd is

-- what stopped the writing of a part stops that of the whole
pub stopped : (most : ℕ) (why : Untranslated) (part more whole : List Field) → part ++ more ≡ whole
    → IsUnwritten most why part → IsUnwritten most why whole
stopped most why part more whole same is = subst (λ fs. IsUnwritten most why fs) same (unwritten_more most why part more is)

-- what stopped the writing of the fields of a text
pub unread_of : (why : Untranslated) (text : List ℕ) (fields : List Field) → IsUnwritten 4071 why fields → IsUnread why text fields
unread_of fault.TooLong text fields is = is
unread_of fault.Memory text fields is = tt
unread_of fault.Form text fields is = absurd is
unread_of fault.Number text fields is = absurd is
unread_of fault.Added text fields is = absurd is

-- what a step that failed gives
pub failed : {A : Type 0} (Q : A → Type 0) (P : Untranslated → Type 0) (r : Result A Untranslated) (why : Untranslated)
    → IsErrAnd r (λ e. e ≡ why) → P why → MatchResult r Q P
failed Q P (Ok x) why is p = absurd is
failed Q P (Err e) why is p = subst P (sym is) p
