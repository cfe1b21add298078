-- The times of a message that is kept: SendingTime (52) and OrigSendingTime (122). Moments of what is kept are counted
-- from the beginning of the calendar, those of a session from midnight on.
use Rattle.std.specs.Prelude.{◌≡◌, ℕ, ◌+◌, Bool, true, false, nat_lt, List, Some, if◌then◌else◌}
use Rattle.fix_fields.specs.Frame.{Field, value_of}
use Rattle.fix_fields.specs.UtcTimestamp.{timestamp_text}
use Rattle.fix_sessions.specs.declared.turns.Word.{Word}
use Rattle.fix_sessions.specs.declared.turns.Word.TheVariants as word

-- a message that is kept leaves again, with 43=Y and 122
abbrev pub is_again : Word → Bool
is_again (word.Again body is_copy first) = true
is_again other = false

-- the later of two moments: whatever a gateway's clock says, a session is handed back a message, and told of one, at no
-- moment before that with which it is kept
abbrev pub later_of : ℕ → ℕ → ℕ
later_of clock moment = if nat_lt clock moment then moment else clock

-- a field of a message is this moment's text, on this date
pub record HasTime (tag midnight moment : ℕ) (date : List ℕ) (fields : List Field) : Type 0 where
  pub time : ℕ
  pub of_day : midnight + time ≡ moment
  pub text : value_of tag fields ≡ Some (timestamp_text date time)
