-- What a turn of a session puts into the batch that is filled: a note for each of its messages that uses
-- a number.
use Rattle.std.specs.Prelude.{ℕ, ◌&&◌, not, nat_lt, List, [], ◌∷◌, ◌++◌, Option, Some, None, if◌then◌else◌}
use Rattle.fix_sessions.specs.Written.{kept_fields}
use Rattle.fix_sessions.specs.declared.state.Day.{Day}
use Rattle.fix_sessions.specs.declared.turns.Said.{Said}
use Rattle.fix_sessions.specs.declared.turns.Turn.{Turn}
use Rattle.fix_sessions.specs.declared.turns.Word.{Word}
use Rattle.fix_sessions.specs.declared.turns.Word.TheVariants as word
use Rattle.session_recovery.specs.Recovered.{Sealed}
use Rattle.session_recovery.specs.declared.days.TheConstants.{LAST_NUMBER}
use Rattle.session_recovery.specs.declared.notes.Note.{Note}
use Rattle.session_recovery.specs.declared.notes.NoteKind.{NoteKind}
use Rattle.session_recovery.specs.declared.notes.NoteKind.TheVariants as kind
use Rattle.session_recovery.specs.declared.puts.Put.{Put}
use Rattle.session_recovery.specs.declared.puts.Standing.{Standing}

-- what a message of the session's own puts. A gap fill and what is kept use no number
abbrev pub kind_of : ℕ → Word → Option NoteKind
kind_of last_logon (word.Logon seconds resets expects) = Some (kind.Logon last_logon resets)
kind_of last_logon word.Heartbeat = Some kind.Own
kind_of last_logon (word.Answer id) = Some kind.Own
kind_of last_logon (word.TestRequest id) = Some kind.Own
kind_of last_logon (word.ResendRequest first) = Some kind.Own
kind_of last_logon (word.Reject number of_kind fault) = Some kind.Reject
kind_of last_logon (word.Fill next) = None
kind_of last_logon (word.Logout why) = Some kind.Logout
kind_of last_logon (word.Foreign version) = Some kind.Logout
kind_of last_logon (word.LogoutFor text) = Some kind.Logout
kind_of last_logon (word.Denied number of_kind denial) = Some kind.Reject
kind_of last_logon (word.Kept body is_copy) = None
kind_of last_logon (word.Again body is_copy first) = None

-- a note has what stood before the turn, and what the session counts after it
abbrev pub note_of : Standing → Day → ℕ → NoteKind → Note
note_of standing after number of_kind = record {
  epoch = standing.epoch;
  number = number;
  given = standing.given;
  digest = standing.digest;
  moment = standing.moment;
  expected = after.expected;
  had = after.had;
  kind = of_kind;
}

abbrev pub note_as : Standing → Day → ℕ → Option NoteKind → Option Note
note_as standing after number None = None
note_as standing after number (Some of_kind) = Some (note_of standing after number of_kind)

abbrev pub note_said : Standing → Day → Option Said → Option Note
note_said standing after None = None
note_said standing after (Some said) =
    note_as standing after said.number (kind_of after.last_logon said.word)

-- a session that locks itself says so first
abbrev pub note_locked : Standing → Day → Day → Option Note
note_locked standing before after =
    if after.is_locked && not before.is_locked then Some (note_of standing after 0 kind.Locked) else None

-- and one whose expected number is now above the last that it uses, last
abbrev pub note_used_up : Standing → Day → Day → Option Note
note_used_up standing before after =
    if nat_lt LAST_NUMBER after.expected && not (nat_lt LAST_NUMBER before.expected)
    then Some (note_of standing after 0 kind.Mark) else None

abbrev pub put_by : Standing → Day → Turn → Put
put_by standing before t = record {
  locked = note_locked standing before t.session.day;
  first = note_said standing t.session.day t.first;
  second = note_said standing t.session.day t.second;
  mark = note_used_up standing before t.session.day;
}

-- in this order, each with the body of its message
abbrev pub sealed_with : Option Note → Option Said → List Sealed
sealed_with None said = []
sealed_with (Some note) None = record { note = note; body = [] } ∷ []
sealed_with (Some note) (Some said) = record { note = note; body = kept_fields said.word } ∷ []

abbrev pub sealed_by : Put → Turn → List Sealed
sealed_by put t =
    sealed_with put.locked None ++ (sealed_with put.first t.first
    ++ (sealed_with put.second t.second ++ sealed_with put.mark None))
