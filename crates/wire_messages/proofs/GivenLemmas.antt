-- A firm's fields as the venue is given them, field by field.
use Rattle.std.proofs.Common.{◌≡◌, ◌<◌, ◌≤◌, ℕ, Some, zero, suc, take, length, List, [], ◌∷◌, ◌++◌, ap, sym, ◌∙◌, subst, refl, inl, inr, arith}
use Rattle.std.proofs.lemmas.Bool.{cases_Bool}
use Rattle.std.proofs.lemmas.List.{append-nil}
use Rattle.std.specs.List.{AllByRecursion}
use Rattle.fix_fields.specs.Frame.{Field, IsTag, IsField, IsValue, AreBody, body_of, field_text, fields_len, fields_text, fields_of, frame_of, frame_text, pieces_of}
use Rattle.fix_fields.specs.Scan.{HoldsFields}
use Rattle.fix_fields.proofs.FieldLemmas.{holds_before, holds_behind}
use Rattle.fix_fields.proofs.FieldsText.{AreBody-lawful, one_first, text_of_fields}
use Rattle.wire_messages.specs.ToVenue.{IsGiven, IsMessage, IsNotForVenue, to_venue, is_left_out}
use Rattle.wire_messages.specs.Unwritten.{BeginsMessage, IsUngiven, IsUnread}
use Rattle.wire_messages.specs.declared.faults.Untranslated.{Untranslated}
use Rattle.wire_messages.specs.declared.faults.Untranslated.TheVariants as fault

pub given_step : (number : ℕ) (field : Field) (fields : List Field)
    → to_venue number (field ∷ fields) ≡ to_venue number (field ∷ []) ++ to_venue number fields
given_step number field fields =
    elim (cases_Bool (is_left_out field.0)) [
      | inl out ↦ rw out refl
      | inr stays ↦ rw stays refl
    ]

-- where nothing is left
pub given_end : (number : ℕ) (rest : List ℕ) (writer : List Field) → length rest ≤ 0
    → writer ++ to_venue number (fields_of rest) ≡ writer
unfolding fields_of pieces_of
given_end number [] writer none = append-nil writer
given_end number (c ∷ rest) writer none = absurd (omega (arith, none))

pub holds_nothing : (rest : List ℕ) → length rest ≤ 0 → HoldsFields rest
holds_nothing [] none = record { fields = []; lawful = tt; is = refl }
holds_nothing (c ∷ rest) none = absurd (omega (arith, none))

-- the front of a value is one
pub take_value : (n : ℕ) (value : List ℕ) → IsValue value → IsValue (take n value)
take_value zero value lawful = tt
take_value (suc n) [] lawful = tt
take_value (suc n) (c ∷ value) lawful = (lawful.0, take_value n value lawful.1)

-- a body that begins with MsgType, and whose rest is fields
pub record IsCutBody (number : ℕ) (body kind rest : List ℕ) : Type 0 where
  pub are : AreBody (fields_of body)
  pub text : body ≡ fields_text (fields_of body)
  pub given : to_venue number (fields_of body) ≡ (35, kind) ∷ to_venue number (fields_of rest)

cut_here : (number : ℕ) (body kind rest : List ℕ) → IsField (35, kind) → body ≡ field_text (35, kind) ++ rest → HoldsFields rest
    → IsCutBody number body kind rest
cut_here number body kind rest lawful is holds =
    let field : Field = (35, kind) in
    let first : fields_of body ≡ field ∷ fields_of rest = one_first body field rest lawful is in
    let whole : HoldsFields body = holds_before body field rest lawful is holds in
    let rest_lawful : AllByRecursion IsField (fields_of rest) =
    subst (λ fs. AllByRecursion IsField fs) (sym (text_of_fields rest holds.fields holds.lawful holds.is)) holds.lawful in
    record {
      are = subst AreBody (sym first) (refl, (lawful, rest_lawful));
      text = whole.is ∙ ap fields_text (sym (text_of_fields body whole.fields whole.lawful whole.is));
      given = ap (to_venue number) first;
    }

-- a message is one that begins so, and whose rest is fields

tag_35 : IsTag 35
tag_35 = (omega arith, omega arith, omega arith, omega arith, omega arith)

cut_of : (number : ℕ) (bytes kind rest : List ℕ) → BeginsMessage bytes kind rest → HoldsFields rest
    → IsCutBody number (body_of bytes) kind rest
cut_of number bytes kind rest begins holds = cut_here number (body_of bytes) kind rest (tag_35, begins.lawful) begins.body holds

message_of : (number : ℕ) (bytes kind rest : List ℕ) → BeginsMessage bytes kind rest → HoldsFields rest → IsMessage bytes
message_of number bytes kind rest begins holds =
    let cut = cut_of number bytes kind rest begins holds in
    record { begins = begins.begins; body = cut.are; text = cut.text }

pub given_of : (number : ℕ) (given bytes kind rest : List ℕ) → BeginsMessage bytes kind rest → HoldsFields rest
    → given ≡ frame_text ((35, kind) ∷ to_venue number (fields_of rest))
    → frame_of given ≡ Some ((35, kind) ∷ to_venue number (fields_of rest)) → IsGiven given bytes number
given_of number given bytes kind rest begins holds text frame =
    let cut = cut_of number bytes kind rest begins holds in
    record {
      message = message_of number bytes kind rest begins holds;
      text = text ∙ ap frame_text (sym cut.given);
      frame = frame ∙ ap (λ fs. Some fs) (sym cut.given);
    }

rest_holds : (bytes kind rest : List ℕ) → BeginsMessage bytes kind rest → IsMessage bytes → HoldsFields rest
rest_holds bytes kind rest begins message =
    holds_behind (body_of bytes) (35, kind) rest (tag_35, begins.lawful) begins.body
    (record { fields = fields_of (body_of bytes); lawful = AreBody-lawful (fields_of (body_of bytes)) message.body; is = message.text })

pub not_for_venue : (why : Untranslated) (number : ℕ) (bytes kind rest : List ℕ) → BeginsMessage bytes kind rest
    → IsUngiven why rest ((35, kind) ∷ to_venue number (fields_of rest)) → IsNotForVenue why bytes number
not_for_venue fault.Form number bytes kind rest begins is = λ message. is (rest_holds bytes kind rest begins message)
not_for_venue fault.TooLong number bytes kind rest begins is = (
  message_of number bytes kind rest begins is.0,
  subst (λ fs. 4071 < fields_len fs) (sym (cut_of number bytes kind rest begins is.0).given) is.1,
)
not_for_venue fault.Memory number bytes kind rest begins is = message_of number bytes kind rest begins is
not_for_venue fault.Number number bytes kind rest begins is = absurd is
not_for_venue fault.Added number bytes kind rest begins is = absurd is

-- a message begins with MsgType (35)
pub begins_with_type : (bytes rest kind : List ℕ) (tag : ℕ) → IsField (tag, kind) → body_of bytes ≡ field_text (tag, kind) ++ rest
    → IsMessage bytes → tag ≡ 35
begins_with_type bytes rest kind tag lawful is message =
    (subst AreBody (one_first (body_of bytes) (tag, kind) rest lawful is) message.body).0

-- what is no text of fields is told before all else
pub ungiven_of : (why : Untranslated) (text : List ℕ) (fields : List Field) → HoldsFields text → IsUnread why text fields
    → IsUngiven why text fields
ungiven_of fault.Form text fields holds is = absurd (is holds)
ungiven_of fault.TooLong text fields holds is = (holds, is)
ungiven_of fault.Memory text fields holds is = holds
ungiven_of fault.Number text fields holds is = absurd is
ungiven_of fault.Added text fields holds is = absurd is
