-- Numbers that notes name, and that are used.
use Rattle.std.specs.Prelude.{◌≡◌, ◌≤◌, ◌<◌, false, List, [], ◌∷◌, ◌⊎◌}
use Rattle.session_recovery.specs.Recovered.{Sealed}
use Rattle.session_recovery.specs.declared.notes.Note.{Note}
use Rattle.session_recovery.specs.declared.points.Recovered.{Recovered}

-- a number that a note of this epoch names is below the next one; and where it is 1, that is not free
pub record IsUsed (r : Recovered) (n : Note) : Type 0 where
  pub epoch : n.epoch ≤ r.epoch
  pub next : n.epoch ≡ r.epoch → n.number < r.day.next
  pub one : n.epoch ≡ r.epoch → n.number ≡ 1 → r.day.is_one_free ≡ false

abbrev pub AreUsed : Recovered → List Sealed → Type 0
AreUsed r [] = Unit {0}
AreUsed r (s ∷ ss) = IsUsed r s.note × AreUsed r ss

-- a number is above those that notes of its epoch named before, or is 1 or none
abbrev pub IsAbove : Note → List Sealed → Type 0
IsAbove n [] = Unit {0}
IsAbove n (s ∷ ss) =
    (s.note.epoch ≡ n.epoch → (s.note.number < n.number) ⊎ (n.number ≤ 1)) × IsAbove n ss
