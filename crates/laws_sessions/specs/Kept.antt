-- What is kept of a session's messages, by number: those of the venue, the Rejects and
-- BusinessMessageRejects of the session, and answers to TestRequests that wait.
use Rattle.std.specs.Prelude.{◌≡◌, ℕ, ◌+◌, ◌≤◌, ◌<◌, Bool, true, false, List, [], ◌∷◌, ◌++◌, Option, Some, None, codes, ◌⊎◌, if◌then◌else◌}
use Rattle.fix_fields.specs.Frame.{Field}
use Rattle.fix_sessions.specs.Sending.{wants}
use Rattle.fix_sessions.specs.Texts.{has_text}
use Rattle.fix_sessions.specs.Written.{kept_fields}
use Rattle.fix_sessions.specs.declared.state.Session.{Session}
use Rattle.fix_sessions.specs.declared.texts.Names.{Names}
use Rattle.fix_sessions.specs.declared.turns.Said.{Said}
use Rattle.fix_sessions.specs.declared.turns.Stored.{Stored}
use Rattle.fix_sessions.specs.declared.turns.Turn.{Turn}
use Rattle.fix_sessions.specs.declared.turns.Want.{Want}
use Rattle.fix_sessions.specs.declared.turns.Want.TheVariants as want
use Rattle.fix_sessions.specs.declared.turns.Way.{Way}
use Rattle.fix_sessions.specs.declared.turns.Way.TheVariants as way
use Rattle.fix_sessions.specs.declared.turns.Word.{Word}
use Rattle.fix_sessions.specs.declared.turns.Word.TheVariants as word
use Rattle.laws_sessions.specs.Days.{Event, turn, Handed}

-- whose message is kept: the venue's, a Reject or a BusinessMessageReject of the session's own, or
-- another of its own
pub data Source : Type 0 where
  Venue : Source
  Refusal : Source
  Own : Source

-- a message that is kept under a number: MsgType (35), and what stands behind the header
pub record Entry : Type 0 where
  pub number : ℕ
  pub body : List Field
  pub source : Source

abbrev pub is_kept : Way → Bool
is_kept way.Leaves = false
is_kept way.KeptAndLeaves = true
is_kept way.Kept = true

abbrev pub source_of : Word → Source
source_of (word.Kept body is_copy) = Venue
source_of (word.Reject number kind fault) = Refusal
source_of (word.Denied number kind denial) = Refusal
source_of other = Own

abbrev pub is_refusal : Source → Bool
is_refusal Refusal = true
is_refusal other = false

-- what a turn keeps: of its first message
abbrev pub entry_of : Said → Entry
entry_of said = record {
  number = said.number;
  body = kept_fields said.word;
  source = source_of said.word;
}

abbrev pub entered : Option Said → List Entry
entered None = []
entered (Some said) = if is_kept said.way then entry_of said ∷ [] else []

-- numbers of entries rise, from one number on, below another
abbrev pub Within : ℕ → ℕ → List Entry → Type 0
Within low high [] = low ≤ high
Within low high (e ∷ es) = (low ≤ e.number) × Within (e.number + 1) high es

-- What is kept after a turn. A Logon that resets numbers drops the Rejects and the
-- BusinessMessageRejects of the session's own.

abbrev pub without_rejects : List Entry → List Entry
without_rejects [] = []
without_rejects (e ∷ es) = if is_refusal e.source then without_rejects es else e ∷ without_rejects es

abbrev pub still_kept : Turn → List Entry → List Entry
still_kept t kept = if t.drops_rejects then without_rejects kept else kept

abbrev pub kept_after : List Entry → Turn → List Entry
kept_after kept t = still_kept t kept ++ entered t.first

-- and after these events
abbrev pub all_kept : Names → Session → List Entry → List Event → List Entry
all_kept names s kept [] = kept
all_kept names s kept (e ∷ es) =
    let t = turn names s e in
    all_kept names t.session (kept_after kept t) es

-- What is kept is handed back as it was kept: under the number that the session asks for, that
-- message; or nothing, where nothing is kept from that number on before the next that is named.

-- a message that is kept under a number
abbrev pub IsKept : ℕ → List Field → List Entry → Type 0
IsKept number body [] = ⊥
IsKept number body (e ∷ es) = ((number ≡ e.number) × (body ≡ e.body)) ⊎ IsKept number body es

-- an answer to a TestRequest is kept until it leaves, and is not sent again
abbrev pub is_answer_body : List Field → Bool
is_answer_body body = has_text 35 (codes "0") body

-- from one number on, before another, nothing is kept that is sent again
abbrev pub IsFree : ℕ → ℕ → List Entry → Type 0
IsFree from to [] = Unit {0}
IsFree from to (e ∷ es) =
    ((e.number < from) ⊎ ((to ≤ e.number) ⊎ (is_answer_body e.body ≡ true))) × IsFree from to es

abbrev pub IsAnswered : ℕ → List Entry → ℕ → Option Stored → Type 0
IsAnswered number kept next_kept None = (number < next_kept) × IsFree number next_kept kept
IsAnswered number kept next_kept (Some stored) =
    IsKept number (kept_fields (word.Kept stored.body stored.is_copy)) kept

abbrev pub IsWanted : Want → List Entry → ℕ → Option Stored → Type 0
IsWanted (want.Again number) kept next_kept stored = IsAnswered number kept next_kept stored
IsWanted (want.Fresh number) kept next_kept stored = IsAnswered number kept next_kept stored
IsWanted other kept next_kept stored = Unit {0}

abbrev pub IsHanded : List Entry → Session → Event → Type 0
IsHanded kept s (Handed moment next_kept stored) = IsWanted (wants s) kept next_kept stored
IsHanded kept s other = Unit {0}
