-- What left, and what a start has under its number.
use Rattle.std.specs.Prelude.{◌≡◌, ℕ, ◌≤◌, Bool, true, false, List, [], ◌∷◌, ◌++◌, ◌⊎◌, if◌then◌else◌}
use Rattle.laws_sessions.specs.Starts.{World}
use Rattle.session_recovery.specs.Recovered.{Kept, Sealed, Taken}
use Rattle.session_recovery.specs.declared.notes.Note.{Note}
use Rattle.session_recovery.specs.declared.notes.NoteKind.{NoteKind}
use Rattle.session_recovery.specs.declared.notes.NoteKind.TheVariants as kind

-- a message is kept: its number, its body, and whether it is a copy
abbrev pub IsKept : Kept → List Kept → Type 0
IsKept x [] = ⊥
IsKept x (k ∷ ks) = (x ≡ k) ⊎ IsKept x ks

abbrev pub is_reset : NoteKind → Bool
is_reset (kind.Reset since act) = true
is_reset other = false

-- the notes that are lost where the gateway ends
abbrev pub lost : World → Bool → List Sealed
lost w is_there = if is_there then w.fill.notes else w.flight.notes ++ w.fill.notes

-- and the entries of the firm
abbrev pub lost_taken : World → Bool → List Taken
lost_taken w is_there = if is_there then w.fill.taken else w.flight.taken ++ w.fill.taken

-- a note that uses no number, or that was put once the session was given so many messages of the venue
abbrev pub uses_number : NoteKind → Bool
uses_number kind.Locked = false
uses_number (kind.Released act) = false
uses_number kind.Mark = false
uses_number other = true

abbrev pub IsLater : ℕ → Note → Type 0
IsLater ordinal n = (uses_number n.kind ≡ false) ⊎ (ordinal ≤ n.given)

-- each of these notes is so, and none is a reset
abbrev pub AreLater : ℕ → List Sealed → Type 0
AreLater ordinal [] = Unit {0}
AreLater ordinal (s ∷ ss) = IsLater ordinal s.note × (is_reset s.note.kind ≡ false) × AreLater ordinal ss

-- none of these notes ends what is kept: it is no reset, and no Logon with 141=Y
abbrev pub drops : NoteKind → Bool
drops (kind.Logon last_logon resets) = resets
drops (kind.Reset since act) = true
drops other = false

abbrev pub AreKeeping : List Sealed → Type 0
AreKeeping [] = Unit {0}
AreKeeping (s ∷ ss) = (drops s.note.kind ≡ false) × AreKeeping ss
