-- Why fields are not written: of steps that write a part of a message, where what holds of the part
-- holds of all of it.
use Rattle.std.specs.Prelude.{◌≡◌, ℕ, ◌<◌, List, ◌++◌, drop}
use Rattle.fix_fields.specs.Frame.{Field, IsValue, body_of, field_text, fields_len, start_text}
use Rattle.fix_fields.specs.Scan.{HoldsFields}
use Rattle.fix_fields.specs.declared.limits.TheConstants.{MOST_BODY}
use Rattle.wire_messages.specs.declared.faults.Untranslated.{Untranslated}
use Rattle.wire_messages.specs.declared.faults.Untranslated.TheVariants as fault

-- of fields in a body of so many bytes at most: they are longer, or memory is refused
abbrev pub IsUnwritten : ℕ → Untranslated → List Field → Type 0
IsUnwritten most fault.TooLong fields = most < fields_len fields
IsUnwritten most fault.Memory fields = Unit {0}
IsUnwritten most fault.Form fields = ⊥
IsUnwritten most fault.Number fields = ⊥
IsUnwritten most fault.Added fields = ⊥

-- of the fields that a text should be: it is none, or they are not written
abbrev pub IsUnread : Untranslated → List ℕ → List Field → Type 0
IsUnread fault.Form text fields = ¬ HoldsFields text
IsUnread fault.TooLong text fields = MOST_BODY < fields_len fields
IsUnread fault.Memory text fields = Unit {0}
IsUnread fault.Number text fields = ⊥
IsUnread fault.Added text fields = ⊥

-- the same, where what is no text of fields is told before all else
abbrev pub IsUngiven : Untranslated → List ℕ → List Field → Type 0
IsUngiven fault.Form text fields = ¬ HoldsFields text
IsUngiven fault.TooLong text fields = HoldsFields text × (MOST_BODY < fields_len fields)
IsUngiven fault.Memory text fields = HoldsFields text
IsUngiven fault.Number text fields = ⊥
IsUngiven fault.Added text fields = ⊥

-- The bytes begin as a frame does, and their body with this MsgType (35), in front of this rest.
pub record BeginsMessage (bytes kind rest : List ℕ) : Type 0 where
  pub begins : bytes ≡ start_text ++ drop 13 bytes
  pub lawful : IsValue kind
  pub body : body_of bytes ≡ field_text (35, kind) ++ rest
