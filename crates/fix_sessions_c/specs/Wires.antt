-- What C is told of a message between the venue and the wire.
use Rattle.std.specs.Prelude.{◌≡◌, ◌⊎◌, ℕ, ◌<◌, ◌==◌, List, length, take, Option, Some, None, if◌then◌else◌}
use Rattle.fix_fields.specs.Frame.{Field, frame_text}
use Rattle.wire_messages.specs.ToFirm.{VenueMessage, IsOfVenue, IsOnWire, IsNotForFirm, is_told_text, to_firm}
use Rattle.wire_messages.specs.ToVenue.{IsGiven, IsMessage, IsNotForVenue, fields_in, to_venue}
use Rattle.wire_messages.specs.declared.faults.Untranslated.{Untranslated}

-- what is told, as a field of this tag: nothing where it is 0, a reason (58), or a trade's name (1003)
abbrev pub told_field : ℕ → List ℕ → Option (Option Field)
told_field tag text = if is_told_text text then Some (Some (tag, text)) else None

abbrev pub told_of : ℕ → List ℕ → Option (Option Field)
told_of tag text =
    if tag == 0 then Some None
    else if tag == 58 then told_field 58 text
    else if tag == 1003 then told_field 1003 text else None

-- The first bytes of what C gave for them, and no more, are the message on the wire: of a message of
-- the venue under this number, with the session's number in a Reject's 45 (0: as it is), and with what
-- is told.
pub record IsWireOut (frame : List ℕ) (number reference tag : ℕ) (text out : List ℕ) (written : ℕ) : Type 0 where
  pub told : Option Field
  pub told_is : told_of tag text ≡ Some told
  pub message : VenueMessage
  pub of_venue : IsOfVenue frame number message
  pub on_wire : IsOnWire (take written out) reference told message
  pub length_is : written ≡ length (frame_text (to_firm reference told message))

-- The call is false: what is to be told is none; or the message does not cross; or the frame on the
-- wire has more bytes than C gave for it.
abbrev pub IsNotOut : List ℕ → ℕ → ℕ → ℕ → List ℕ → ℕ → Type 0
IsNotOut frame number reference tag text room =
    (told_of tag text ≡ None)
    ⊎ ((told : Option Field) × (told_of tag text ≡ Some told)
    × (((why : Untranslated) × IsNotForFirm why frame number reference told)
    ⊎ ((m : VenueMessage) × IsOfVenue frame number m
    × (room < length (frame_text (to_firm reference told m))))))

-- The first bytes of what C gave for them, and no more, are the message as the venue is given it.
pub record IsWireIn (bytes : List ℕ) (number : ℕ) (out : List ℕ) (written : ℕ) : Type 0 where
  pub given : IsGiven (take written out) bytes number
  pub length_is : written ≡ length (frame_text (to_venue number (fields_in bytes)))

-- The same of a message to the venue.
abbrev pub IsNotIn : List ℕ → ℕ → ℕ → Type 0
IsNotIn bytes number room =
    ((why : Untranslated) × IsNotForVenue why bytes number)
    ⊎ (IsMessage bytes × (room < length (frame_text (to_venue number (fields_in bytes)))))
