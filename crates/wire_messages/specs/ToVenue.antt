-- A firm's message as the venue is given it: the fields stay the same, byte for byte and in their
-- order, except for the named ones. MsgSeqNum (34) is the venue's count of the firm's messages,
-- SendingTime (52) is cut to milliseconds, and PossDupFlag (43), PossResend (97) and OrigSendingTime
-- (122) are left out.
use Rattle.std.specs.Prelude.{◌≡◌, ℕ, ◌<◌, ◌==◌, ◌||◌, Bool, false, List, [], ◌∷◌, ◌++◌, take, drop}
use Rattle.std.specs.Prelude.{decimal, if◌then◌else◌, Some}
use Rattle.fix_fields.specs.Frame.{Field, AreBody, fields_text, fields_of, fields_len, body_of, start_text, frame_text, frame_of}
use Rattle.fix_fields.specs.declared.limits.TheConstants.{MOST_BODY}
use Rattle.wire_messages.specs.declared.faults.Untranslated.{Untranslated}
use Rattle.wire_messages.specs.declared.faults.Untranslated.TheVariants as fault

-- what a resend adds
abbrev pub is_left_out : ℕ → Bool
is_left_out tag = (tag == 43) || (tag == 97) || (tag == 122)

-- `YYYYMMDD-HH:MM:SS` and the fraction's first three digits, where it has one
abbrev pub cut_to_milliseconds : List ℕ → List ℕ
cut_to_milliseconds moment = take 21 moment

-- a field as the venue is given it
abbrev pub given_field : ℕ → Field → Field
given_field number field =
    if field.0 == 34 then (34, decimal number)
    else if field.0 == 52 then (52, cut_to_milliseconds field.1) else field

-- the fields as the venue is given them
abbrev pub to_venue : ℕ → List Field → List Field
to_venue number [] = []
to_venue number (field ∷ fields) =
    if is_left_out field.0 then to_venue number fields
    else given_field number field ∷ to_venue number fields

-- the fields of a message of any length: what stands behind BodyLength (9), up to the last seven
-- bytes
abbrev pub fields_in : List ℕ → List Field
fields_in bytes = fields_of (body_of bytes)

-- Bytes are a message: BeginString (8) is FIXT.1.1 and BodyLength (9) stands behind it, and the body is
-- lawful fields, the first with MsgType (35). What BodyLength and CheckSum (10) say, and the header
-- behind MsgType (49, 56, 34, 52), the session has judged before.
pub record IsMessage (bytes : List ℕ) : Type 0 where
  pub begins : bytes ≡ start_text ++ drop 13 bytes
  pub body : AreBody (fields_in bytes)
  pub text : body_of bytes ≡ fields_text (fields_in bytes)

-- The bytes are the frame that the venue is given of a message.
pub record IsGiven (given bytes : List ℕ) (number : ℕ) : Type 0 where
  pub message : IsMessage bytes
  pub text : given ≡ frame_text (to_venue number (fields_in bytes))
  pub frame : frame_of given ≡ Some (to_venue number (fields_in bytes))

-- Why the venue is not given a message: it is none; or else the frame of its fields would be longer
-- than a frame may be; or memory is refused. Each other message crosses.
abbrev pub IsNotForVenue : Untranslated → List ℕ → ℕ → Type 0
IsNotForVenue fault.Form bytes number = ¬ IsMessage bytes
IsNotForVenue fault.TooLong bytes number =
    IsMessage bytes × (MOST_BODY < fields_len (to_venue number (fields_in bytes)))
IsNotForVenue fault.Memory bytes number = IsMessage bytes
IsNotForVenue fault.Number bytes number = ⊥
IsNotForVenue fault.Added bytes number = ⊥

-- the named fields
abbrev pub is_named : ℕ → Bool
is_named tag = is_left_out tag || (tag == 34) || (tag == 52)

-- the others
abbrev pub unnamed : List Field → List Field
unnamed [] = []
unnamed (field ∷ fields) =
    if is_named field.0 then unnamed fields else field ∷ unnamed fields

-- whether fields have one of this tag
abbrev pub has_tag : ℕ → List Field → Bool
has_tag tag [] = false
has_tag tag (field ∷ fields) = (field.0 == tag) || has_tag tag fields
