-- What leaves.
use Rattle.std.specs.Prelude.{◌≤◌, ◌+◌, ℕ, Bool, true, false, List, [], ◌∷◌, ◌++◌, Option, Some, None, if◌then◌else◌}
use Rattle.fix_sessions.specs.declared.state.Phase.{Phase}
use Rattle.fix_sessions.specs.declared.state.Phase.TheVariants as phase
use Rattle.fix_sessions.specs.declared.state.Session.{Session}
use Rattle.fix_sessions.specs.declared.texts.Names.{Names}
use Rattle.fix_sessions.specs.declared.turns.Said.{Said}
use Rattle.fix_sessions.specs.declared.turns.Turn.{Turn}
use Rattle.fix_sessions.specs.declared.turns.Way.{Way}
use Rattle.fix_sessions.specs.declared.turns.Way.TheVariants as way
use Rattle.fix_sessions.specs.declared.turns.Word.{Word}
use Rattle.fix_sessions.specs.declared.turns.Word.TheVariants as word
use Rattle.laws_sessions.specs.Days.{Event, turn}
use Rattle.fix_sessions.specs.Written.{kept_fields}
use Rattle.laws_sessions.specs.Kept.{Entry, IsFree, IsHanded, IsKept, entry_of, kept_after}

-- a word that was kept before, or is the venue's
abbrev pub is_kept_word : Word → Bool
is_kept_word (word.Kept body is_copy) = true
is_kept_word other = false

-- whether what is said is kept, with this turn or before it, and leaves without 43
abbrev pub is_new : Way → Word → Bool
is_new way.KeptAndLeaves w = true
is_new way.Leaves w = is_kept_word w
is_new way.Kept w = false

-- a word that is neither kept nor sent again nor a gap fill: the session's own
abbrev pub is_own_word : Word → Bool
is_own_word (word.Kept body is_copy) = false
is_own_word (word.Again body is_copy first) = false
is_own_word (word.Fill next) = false
is_own_word other = true

abbrev pub new_of : Option Said → List Entry
new_of None = []
new_of (Some said) = if is_new said.way said.word then entry_of said ∷ [] else []

abbrev pub news : Turn → List Entry
news t = new_of t.first ++ new_of t.second

abbrev pub all_news : Names → Session → List Event → List Entry
all_news names s [] = []
all_news names s (e ∷ es) = news (turn names s e) ++ all_news names (turn names s e).session es

-- no number from this one on has left in its order
abbrev pub front_by : ℕ → Phase → ℕ
front_by next phase.Away = next
front_by next (phase.On line) = line.fresh
front_by next (phase.Leaving connection since) = next

abbrev pub front : Session → ℕ
front s = front_by s.day.next s.phase

-- numbers of entries rise, from one on
abbrev pub Ascends : ℕ → List Entry → Type 0
Ascends low [] = Unit {0}
Ascends low (e ∷ es) = (low ≤ e.number) × Ascends (e.number + 1) es

-- A message that leaves is kept under its number, or is the session's own; a gap fill covers no number
-- under which something is kept that is sent again.

abbrev pub IsRight : ℕ → Word → List Entry → Type 0
IsRight number (word.Kept body is_copy) kept = IsKept number (kept_fields (word.Kept body is_copy)) kept
IsRight number (word.Again body is_copy first) kept =
    IsKept number (kept_fields (word.Again body is_copy first)) kept
IsRight number (word.Fill to) kept = IsFree number to kept
IsRight number other kept = Unit {0}

abbrev pub AreRight : Option Said → List Entry → Type 0
AreRight None kept = Unit {0}
AreRight (Some said) kept = IsRight said.number said.word kept

abbrev pub IsTurnRight : Turn → List Entry → Type 0
IsTurnRight t kept = AreRight t.first kept × AreRight t.second kept

-- what is kept is handed back as it was kept, at each of these events
abbrev pub AreHanded : Names → Session → List Entry → List Event → Type 0
AreHanded names s kept [] = Unit {0}
AreHanded names s kept (e ∷ es) =
    let t = turn names s e in
    IsHanded kept s e × AreHanded names t.session (kept_after kept t) es

-- and what leaves at each of them is right, by what is kept then
abbrev pub AreTurnsRight : Names → Session → List Entry → List Event → Type 0
AreTurnsRight names s kept [] = Unit {0}
AreTurnsRight names s kept (e ∷ es) =
    let t = turn names s e in
    IsTurnRight t (kept_after kept t) × AreTurnsRight names t.session (kept_after kept t) es
