-- The entries of the firm that count: those behind the last reset.
use Rattle.std.specs.Prelude.{◌≡◌, ℕ, ◌≤◌, ◌<◌, false, nat_le, List, [], ◌∷◌, if◌then◌else◌}
use Rattle.session_recovery.specs.Recovered.{Taken}

-- the number of the last of them, or this one
abbrev pub behind : ℕ → ℕ → Taken → ℕ
behind since low t = if nat_le t.place since then low else t.number

abbrev pub last_from : ℕ → ℕ → List Taken → ℕ
last_from since low [] = low
last_from since low (t ∷ ts) = last_from since (behind since low t) ts

-- each has a number above those before it, and above this one
abbrev pub AreRising : ℕ → ℕ → List Taken → Type 0
AreRising since low [] = Unit {0}
AreRising since low (t ∷ ts) =
    (nat_le t.place since ≡ false → low < t.number) × AreRising since (behind since low t) ts

-- they have numbers of at least this one
abbrev pub AreFrom : ℕ → List Taken → Type 0
AreFrom low [] = Unit {0}
AreFrom low (t ∷ ts) = (low ≤ t.number) × AreFrom low ts

-- their places are up to this one
abbrev pub AreUpTo : ℕ → List Taken → Type 0
AreUpTo place [] = Unit {0}
AreUpTo place (t ∷ ts) = (t.place ≤ place) × AreUpTo place ts
