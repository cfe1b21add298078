-- The numbers of what the venue is given, and how the expected number moves.
use Rattle.std.specs.Prelude.{ℕ, ◌+◌, ◌≤◌, List, [], ◌∷◌, ◌++◌, Option, Some, None}
use Rattle.fix_sessions.specs.declared.state.Session.{Session}
use Rattle.fix_sessions.specs.declared.texts.Names.{Names}
use Rattle.laws_sessions.specs.Days.{Event, turn}

-- a number, where there is one
abbrev pub listed : Option ℕ → List ℕ
listed None = []
listed (Some n) = n ∷ []

-- the numbers of what the venue is given
abbrev pub taken : Names → Session → List Event → List ℕ
taken names s [] = []
taken names s (e ∷ es) = listed (turn names s e).takes ++ taken names (turn names s e).session es

-- each number is at least this one, and above those before it
abbrev pub Rises : ℕ → List ℕ → Type 0
Rises low [] = Unit {0}
Rises low (n ∷ ns) = (low ≤ n) × Rises (n + 1) ns
