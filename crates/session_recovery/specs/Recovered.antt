-- A firm's session as a start recovers it: a fold over its notes, with what the venue gives for the
-- entries.
use Rattle.std.specs.Prelude.{ℕ, ◌+◌, ◌-◌, zero, suc, Bool, true, false, nat_lt, List, [], ◌∷◌, ◌++◌, length, Option, Some, None, if◌then◌else◌}
use Rattle.fix_fields.specs.Frame.{Field}
use Rattle.session_recovery.specs.Notes.{after_entry, after_message, after_note, from_nothing, is_used_up}
use Rattle.session_recovery.specs.declared.notes.Digest.{Digest}
use Rattle.session_recovery.specs.declared.notes.Note.{Note}
use Rattle.session_recovery.specs.declared.notes.NoteKind.{NoteKind}
use Rattle.session_recovery.specs.declared.notes.NoteKind.TheVariants as kind
use Rattle.session_recovery.specs.declared.points.Recovered.{Recovered}

-- what the venue gives the firm: MsgType (35) and what stands behind the header, the running hash of all
-- that it gave up to this message, and the moment of its entry
pub record Message : Type 0 where
  pub body : List Field
  pub digest : Digest
  pub moment : ℕ

-- a note as it is sealed; of a Reject with its body
pub record Sealed : Type 0 where
  pub note : Note
  pub body : List Field

-- what is kept under a number: so many messages the venue had given up to it, or 0 of a Reject; its body,
-- and the moment that its 122 says
pub record Kept : Type 0 where
  pub number : ℕ
  pub ordinal : ℕ
  pub body : List Field
  pub moment : ℕ
  pub is_copy : Bool

-- how far the fold is: the session, what it keeps, and what the venue gave that has no number yet
pub record Point : Type 0 where
  pub session : Recovered
  pub kept : List Kept
  pub rest : List Message

abbrev pub start : List Message → Point
start given = record { session = from_nothing; kept = []; rest = given }

-- A message of the venue.

abbrev pub kept_message : Recovered → Message → Kept
kept_message r m = record {
  number = r.day.next;
  ordinal = r.given + 1;
  body = m.body;
  moment = m.moment;
  is_copy = false;
}

abbrev pub keeps : List Kept → Recovered → Message → List Kept
keeps kept r m = if is_used_up r.day then kept else kept ++ (kept_message r m ∷ [])

abbrev pub with_message : Point → Message → List Message → Point
with_message p m ms = record {
  session = after_message p.session m.digest;
  kept = keeps p.kept p.session m;
  rest = ms;
}

-- so many get their numbers
abbrev pub gives_from : ℕ → Point → List Message → Option Point
gives_from zero p ms = Some (record p { rest = ms })
gives_from (suc count) p [] = None
gives_from (suc count) p (m ∷ ms) = gives_from count (with_message p m ms) ms

-- and all that are left
abbrev pub gives_all : Point → List Message → Point
gives_all p [] = record p { rest = [] }
gives_all p (m ∷ ms) = gives_all (with_message p m ms) ms

-- A note.

abbrev pub is_reject : Kept → Bool
is_reject k = nat_lt k.ordinal 1

abbrev pub without_rejects : List Kept → List Kept
without_rejects [] = []
without_rejects (k ∷ ks) = if is_reject k then without_rejects ks else k ∷ without_rejects ks

-- of a reset: the venue's messages that the firm is not known to have get the numbers from 2 on
abbrev pub copies_from : ℕ → ℕ → List Kept → List Kept
copies_from number had [] = []
copies_from number had (k ∷ ks) =
    if is_reject k then copies_from number had ks
    else if nat_lt had k.number then record k { number = number; is_copy = true } ∷ copies_from (number + 1) had ks
    else copies_from number had ks

abbrev pub copies : ℕ → List Kept → List Kept
copies had kept = copies_from 2 had kept

abbrev pub kept_reject : Sealed → Kept
kept_reject s = record {
  number = s.note.number;
  ordinal = 0;
  body = s.body;
  moment = s.note.moment;
  is_copy = false;
}

abbrev pub kept_by : List Kept → Sealed → NoteKind → List Kept
kept_by kept s (kind.Logon last_logon resets) = if resets then without_rejects kept else kept
kept_by kept s kind.Reject = kept ++ (kept_reject s ∷ [])
kept_by kept s (kind.Reset since act) = copies s.note.had kept
kept_by kept s kind.Own = kept
kept_by kept s kind.Logout = kept
kept_by kept s kind.Locked = kept
kept_by kept s (kind.Released act) = kept
kept_by kept s kind.Mark = kept

abbrev pub with_session : Point → Sealed → Option Recovered → Option Point
with_session p s None = None
with_session p s (Some r) =
    Some (record { session = r; kept = kept_by p.kept s s.note.kind; rest = p.rest })

-- the messages of the venue that it speaks of have their numbers before it
abbrev pub reads_one : Sealed → Option Point → Option Point
reads_one s None = None
reads_one s (Some p) = with_session p s (after_note p.session s.note (length (copies s.note.had p.kept)))

abbrev pub reads : Point → Sealed → Option Point
reads p s = reads_one s (gives_from (s.note.given - p.session.given) p p.rest)

-- all notes, in their order: none where one does not follow on what stands before it
abbrev pub reads_all : Option Point → List Sealed → Option Point
reads_all None ss = None
reads_all (Some p) [] = Some p
reads_all (Some p) (s ∷ ss) = reads_all (reads p s) ss

-- The end.

-- an entry of the firm, by its place among all entries, and the number of its message
pub record Taken : Type 0 where
  pub place : ℕ
  pub number : ℕ

abbrev pub counts_all : Option Recovered → List Taken → Option Recovered
counts_all None ts = None
counts_all (Some r) [] = Some r
counts_all (Some r) (t ∷ ts) = counts_all (after_entry r t.place t.number) ts

abbrev pub with_counts : Point → Option Recovered → Option Point
with_counts p None = None
with_counts p (Some r) = Some (record p { session = r })

-- the rest of what the venue gave gets numbers, and the entries of the firm count
abbrev pub ends_all : List Taken → Option Point → Option Point
ends_all taken None = None
ends_all taken (Some p) =
    let q = gives_all p p.rest in with_counts q (counts_all (Some q.session) taken)

-- what a start computes of the entries (what the venue gives the firm for them, and which the firm's own
-- are) and the notes, and of nothing else
abbrev pub recovered : List Message → List Taken → List Sealed → Option Point
recovered given taken notes = ends_all taken (reads_all (Some (start given)) notes)
