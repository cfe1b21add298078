-- The note of a line, by its numbers.
use Rattle.std.specs.Prelude.{◌==◌, ◌||◌, Option, Some, None, if◌then◌else◌}
use Rattle.session_recovery.specs.declared.notes.Note.{Note}
use Rattle.session_recovery.specs.declared.notes.NoteKind.{NoteKind}
use Rattle.session_recovery.specs.declared.notes.NoteKind.TheVariants as kind
use Rattle.session_recovery_c.specs.declared.lines.NoteNumbers.{NoteNumbers}

-- L locks, or releases
abbrev pub lock_of : NoteNumbers → NoteKind
lock_of l = if l.is_locked then kind.Locked else kind.Released l.act

-- A; 0, 1, 2; 3, j; 5; R; L; M
abbrev pub kind_of : NoteNumbers → Option NoteKind
kind_of l =
    if l.kind == 65 then Some (kind.Logon l.last_logon l.resets)
    else if (l.kind == 48) || (l.kind == 49) || (l.kind == 50) then Some kind.Own
    else if (l.kind == 51) || (l.kind == 106) then Some kind.Reject
    else if l.kind == 53 then Some kind.Logout
    else if l.kind == 82 then Some (kind.Reset l.last l.act)
    else if l.kind == 76 then Some (lock_of l)
    else if l.kind == 77 then Some kind.Mark else None

abbrev pub note_as : NoteNumbers → Option NoteKind → Option Note
note_as l None = None
note_as l (Some of_kind) = Some (record {
  epoch = l.epoch;
  number = l.number;
  given = l.given;
  digest = l.hash;
  moment = l.moment;
  expected = l.expected;
  had = l.had;
  kind = of_kind;
})

abbrev pub note_of : NoteNumbers → Option Note
note_of l = note_as l (kind_of l)
