-- What the session has found of a message that it gives the venue.
use Rattle.std.specs.Prelude.{◌≡◌, ℕ, ◌≤◌, List, length, decimal, true, Some, None}
use Rattle.fix_fields.specs.Frame.{fields_len}
use Rattle.fix_fields.specs.declared.limits.TheConstants.{MOST_BODY}
use Rattle.fix_sessions.specs.Cuts.{body_of, front_of, is_whole, version_of}
use Rattle.fix_sessions.specs.Fields.{fields_in}
use Rattle.fix_sessions.specs.Flaws.{flaw_of}
use Rattle.fix_sessions.specs.Heard.{is_fixt, number_once}
use Rattle.wire_messages.specs.ToVenue.{IsMessage, IsNotForVenue, to_venue}
use Rattle.wire_messages.specs.ToVenue as wire
use Rattle.wire_messages.specs.declared.faults.Untranslated.{Untranslated}
use Rattle.wire_messages.specs.declared.faults.Untranslated.TheVariants as fault

-- It is one whole message of FIXT.1.1 with right length and right sum, its form has no fault, and it
-- bears this number (34), once.
pub record IsSound (bytes : List ℕ) (number : ℕ) : Type 0 where
  pub whole : is_whole (front_of bytes) bytes ≡ true
  pub version : is_fixt (version_of bytes) ≡ true
  pub flawless : flaw_of (length bytes) (body_of bytes) ≡ None
  pub numbered : number_once (fields_in (body_of bytes)) ≡ Some number

-- The venue's count of the firm's messages has no more digits than the firm's own number.
abbrev pub IsNoLonger : ℕ → ℕ → Type 0
IsNoLonger count number = length (decimal count) ≤ length (decimal number)

-- The message crosses under this count: it is one, and the frame of its fields is no longer than a
-- frame may be. So memory alone may refuse it.
pub record Crosses (bytes : List ℕ) (count : ℕ) : Type 0 where
  pub message : IsMessage bytes
  pub fits : fields_len (to_venue count (wire.fields_in bytes)) ≤ MOST_BODY
  pub memory : (why : Untranslated) → IsNotForVenue why bytes count → why ≡ fault.Memory
