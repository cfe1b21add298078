-- A session that is handed what it wants, turn by turn, while nothing else comes to it.
use Rattle.std.specs.Prelude.{◌≡◌, ◌⊎◌, ℕ, ◌+◌, ◌<◌, ◌≤◌, ◌==◌, ◌&&◌, ◌||◌, Bool, true, false}
use Rattle.std.specs.Prelude.{List, [], ◌∷◌, Option, Some, None, if◌then◌else◌}
use Rattle.fix_fields.specs.Frame.{Field}
use Rattle.fix_sessions.specs.Outcomes.{is_spent}
use Rattle.fix_sessions.specs.Sending.{is_resending, wants}
use Rattle.fix_sessions.specs.Written.{kept_fields}
use Rattle.fix_sessions.specs.declared.state.Line.{Line}
use Rattle.fix_sessions.specs.declared.state.Phase.TheVariants as phase
use Rattle.fix_sessions.specs.declared.state.Session.{Session}
use Rattle.fix_sessions.specs.declared.texts.Names.{Names}
use Rattle.fix_sessions.specs.declared.turns.Said.{Said}
use Rattle.fix_sessions.specs.declared.turns.Stored.{Stored}
use Rattle.fix_sessions.specs.declared.turns.Want.{Want}
use Rattle.fix_sessions.specs.declared.turns.Want.TheVariants as want
use Rattle.fix_sessions.specs.declared.turns.Word.{Word}
use Rattle.fix_sessions.specs.declared.turns.Word.TheVariants as word
use Rattle.laws_sessions.specs.Days.{Event, Handed, turn}
use Rattle.laws_sessions.specs.Kept.{Entry, IsAnswered, IsKept, is_answer_body}
use Rattle.laws_sessions.specs.Logons.{is_leaving}

-- The firm is logged on, and the numbers of the day are not used up. The line has settled, so that
-- no Reject is held back. Where numbers are sent again, the next of them is not above what has left.
pub record MayResend (s : Session) (line : Line) : Type 0 where
  pub logged_on : s.phase ≡ phase.On line
  pub unspent : is_spent s ≡ false
  pub settled : line.is_settled ≡ true
  pub holds_none : line.is_held ≡ false
  pub in_order : is_resending line ≡ true → line.again ≤ line.fresh

-- whether a number is wanted
abbrev pub wants_number : Want → Bool
wants_number (want.Again number) = true
wants_number (want.Fresh number) = true
wants_number other = false

-- whether something is kept under a number
abbrev pub has_number : ℕ → List Entry → Bool
has_number number [] = false
has_number number (e ∷ es) = (e.number == number) || has_number number es

-- A number is wanted, and what is kept under it is handed back as it was kept; or nothing is, where
-- nothing is kept. Of one that is sent again the next number is named under which something is kept,
-- or a nearer one.
abbrev pub IsHandedBack : Want → List Entry → ℕ → Option Stored → Type 0
IsHandedBack (want.Again number) kept next_kept stored = IsAnswered number kept next_kept stored
IsHandedBack (want.Fresh number) kept next_kept None = has_number number kept ≡ false
IsHandedBack (want.Fresh number) kept next_kept (Some stored) =
    IsKept number (kept_fields (word.Kept stored.body stored.is_copy)) kept
IsHandedBack other kept next_kept stored = ⊥

-- nothing but that comes to the session
abbrev pub IsFedBy : List Entry → Session → Event → Type 0
IsFedBy kept s (Handed moment next_kept stored) = IsHandedBack (wants s) kept next_kept stored
IsFedBy kept s other = ⊥

-- at each of these events
abbrev pub IsFed : Names → Session → List Entry → List Event → Type 0
IsFed names s kept [] = Unit {0}
IsFed names s kept (e ∷ es) = IsFedBy kept s e × IsFed names (turn names s e).session kept es

-- A message that is kept is still to leave: it was asked for again, and is no answer to a
-- TestRequest; or it stands behind all that is sent again, and has not left before.
abbrev pub IsDue : Line → ℕ → List Field → Type 0
IsDue line number body =
    ((line.again ≤ number) × (number < line.again_end) × (is_answer_body body ≡ false))
    ⊎ ((line.again_end ≤ number) × (line.fresh ≤ number))

-- whether a word is of a message that is kept
abbrev pub is_of_store : Word → Bool
is_of_store (word.Kept body is_copy) = true
is_of_store (word.Again body is_copy first) = true
is_of_store other = false

-- whether a message that is kept leaves under a number
abbrev pub leaves_under : ℕ → Option Said → Bool
leaves_under number None = false
leaves_under number (Some said) =
    is_of_store said.word && is_leaving said.way && (said.number == number)

-- how often one leaves under it at these events
abbrev pub times_left : Names → Session → ℕ → List Event → ℕ
times_left names s number [] = 0
times_left names s number (e ∷ es) =
    (if leaves_under number (turn names s e).first then 1 else 0)
    + times_left names (turn names s e).session number es
