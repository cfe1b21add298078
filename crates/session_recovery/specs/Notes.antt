-- What a note says of a session, and what one makes of it.
use Rattle.std.specs.Prelude.{ℕ, ◌+◌, Bool, true, false, ◌&&◌, ◌||◌, ◌==◌, nat_le, nat_lt, Option, Some, None, if◌then◌else◌}
use Rattle.fix_sessions.specs.declared.state.Day.{Day}
use Rattle.session_recovery.specs.declared.days.TheConstants.{LAST_NUMBER}
use Rattle.session_recovery.specs.declared.notes.Digest.{Digest}
use Rattle.session_recovery.specs.declared.notes.Note.{Note}
use Rattle.session_recovery.specs.declared.notes.NoteKind.{NoteKind}
use Rattle.session_recovery.specs.declared.notes.NoteKind.TheVariants as kind
use Rattle.session_recovery.specs.declared.points.Recovered.{Recovered}

abbrev pub is_same : Digest → Digest → Bool
is_same a b =
    (a.first == b.first) && (a.second == b.second) && (a.third == b.third) && (a.fourth == b.fourth)

-- Days.

-- before anything was said: number 1 is left for the day's first answer to a Logon
abbrev pub first_day : Day
first_day = record {
  expected = 1;
  next = 2;
  had = 0;
  first_given = 0;
  last_given = 0;
  last_kept = 0;
  is_one_free = true;
  was_taken = false;
  is_reset = false;
  reset_at = 0;
  is_locked = false;
  last_logon = 0;
  is_open = false;
  is_suspended = false;
}

-- the numbers are used up: no message gets one any more
abbrev pub is_used_up : Day → Bool
is_used_up d = nat_lt LAST_NUMBER d.next || nat_lt LAST_NUMBER d.expected

-- a message of the venue has the next number, and is kept under it
abbrev pub keeps_message : Day → Day
keeps_message d = record d {
  next = d.next + 1;
  first_given = if d.first_given == 0 then d.next else d.first_given;
  last_given = d.next;
  last_kept = d.next;
}

-- numbers begin at 1 again at this time, and so many messages have the numbers from 2 on
abbrev pub at_most_last : ℕ → ℕ
at_most_last n = if nat_lt LAST_NUMBER n then LAST_NUMBER else n

abbrev pub last_of : ℕ → ℕ
last_of copies = if copies == 0 then 0 else copies + 1

abbrev pub begun_again : ℕ → ℕ → Day
begun_again moment copies =
    let some = at_most_last copies in
    record first_day {
      next = some + 2;
      first_given = if some == 0 then 0 else 2;
      last_given = last_of some;
      last_kept = last_of some;
      is_reset = true;
      reset_at = moment;
    }

-- a Logon and a Logout use number 1 where it is free, else the next; the answer to a Logon with 141=Y has
-- number 1, used or not
abbrev pub one_or_next : Day → Bool → ℕ
one_or_next d has_one = if has_one then 1 else d.next

abbrev pub next_behind : Day → Bool → ℕ
next_behind d has_one = if has_one then d.next else d.next + 1

-- each note has what the session counts
abbrev pub counted_by : Day → Note → Day
counted_by d n = record d { expected = n.expected; had = n.had }

-- the answer to a Logon uses a number; with 141=Y the Rejects are kept no longer
abbrev pub logged_on : Day → Note → ℕ → Bool → Day
logged_on d n last_logon resets = record (counted_by d n) {
  next = next_behind d (d.is_one_free || resets);
  last_kept = if resets then d.last_given else d.last_kept;
  is_one_free = false;
  is_reset = false;
  last_logon = last_logon;
}

abbrev pub logged_out : Day → Note → Day
logged_out d n = record (counted_by d n) { next = next_behind d d.is_one_free; is_one_free = false }

-- what a note makes of a day; a reset gives so many copies new numbers
abbrev pub noted_day : Day → Note → ℕ → NoteKind → Day
noted_day d n copies (kind.Logon last_logon resets) = logged_on d n last_logon resets
noted_day d n copies kind.Own = record (counted_by d n) { next = d.next + 1 }
noted_day d n copies kind.Reject = record (counted_by d n) { next = d.next + 1; last_kept = d.next }
noted_day d n copies kind.Logout = logged_out d n
noted_day d n copies (kind.Reset since act) = begun_again n.moment copies
noted_day d n copies kind.Locked = record (counted_by d n) { is_locked = true }
noted_day d n copies (kind.Released act) = record (counted_by d n) { is_locked = false }
noted_day d n copies kind.Mark = counted_by d n

-- Whether a note follows on what stands before it.

-- the number that its message uses, or 0
abbrev pub number_due : Day → NoteKind → ℕ
number_due d (kind.Logon last_logon resets) = one_or_next d (d.is_one_free || resets)
number_due d kind.Own = d.next
number_due d kind.Reject = d.next
number_due d kind.Logout = one_or_next d d.is_one_free
number_due d (kind.Reset since act) = 0
number_due d kind.Locked = 0
number_due d (kind.Released act) = 0
number_due d kind.Mark = 0

-- what the session counts does not fall; but a Logon with 141=Y is itself the first that is counted
abbrev pub is_counted : Day → Note → NoteKind → Bool
is_counted d n (kind.Logon last_logon resets) =
    if resets then n.expected == 2 else nat_le d.expected n.expected
is_counted d n other = nat_le d.expected n.expected

-- an operator's act is behind the last that a note has named; a reset is behind its act, and behind the
-- reset before
abbrev pub is_act_next : Recovered → NoteKind → Bool
is_act_next r (kind.Reset since act) = nat_lt r.act act && nat_le act since && nat_le r.since since
is_act_next r (kind.Released act) = nat_lt r.act act
is_act_next r other = true

-- What is recovered, as far as it is.

abbrev pub from_nothing : Recovered
from_nothing = record {
  epoch = 0;
  since = 0;
  act = 0;
  given = 0;
  digest = record { first = 0; second = 0; third = 0; fourth = 0 };
  taken = 0;
  day = first_day;
}

-- the venue's next message has the next number, unless numbers are used up
abbrev pub after_message : Recovered → Digest → Recovered
after_message r digest = record r {
  given = r.given + 1;
  digest = digest;
  day = if is_used_up r.day then r.day else keeps_message r.day;
}

-- a note follows if it is of this epoch, and speaks of the messages that the venue gave; if its number is
-- the one that is due, and what is counted goes on
abbrev pub follows : Recovered → Note → Bool
follows r n =
    (n.epoch == r.epoch) && (n.given == r.given) && is_same n.digest r.digest
    && (n.number == number_due r.day n.kind) && nat_le r.day.had n.had && is_counted r.day n n.kind
    && is_act_next r n.kind

abbrev pub noted : Recovered → Note → ℕ → NoteKind → Recovered
noted r n copies (kind.Reset since act) = record r {
  epoch = r.epoch + 1;
  since = since;
  act = act;
  taken = 0;
  day = noted_day r.day n copies (kind.Reset since act);
}
noted r n copies (kind.Released act) = record r { act = act; day = noted_day r.day n copies (kind.Released act) }
noted r n copies (kind.Logon last_logon resets) =
    record r { day = noted_day r.day n copies (kind.Logon last_logon resets) }
noted r n copies kind.Own = record r { day = noted_day r.day n copies kind.Own }
noted r n copies kind.Reject = record r { day = noted_day r.day n copies kind.Reject }
noted r n copies kind.Logout = record r { day = noted_day r.day n copies kind.Logout }
noted r n copies kind.Locked = record r { day = noted_day r.day n copies kind.Locked }
noted r n copies kind.Mark = record r { day = noted_day r.day n copies kind.Mark }

abbrev pub after_note : Recovered → Note → ℕ → Option Recovered
after_note r n copies = if follows r n then Some (noted r n copies n.kind) else None

-- an entry by which the venue was given a message of the firm, behind all notes. Those up to the last
-- reset count no more; the numbers of the others rise
abbrev pub after_entry : Recovered → ℕ → ℕ → Option Recovered
after_entry r place number =
    if nat_le place r.since then Some r
    else if nat_le number r.taken then None
    else Some (record r {
      taken = number;
      day = record r.day {
        expected = if nat_lt r.day.expected (number + 1) then number + 1 else r.day.expected;
        was_taken = true;
      };
    })
