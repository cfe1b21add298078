-- Choices: what a test decides.
use Rattle.std.proofs.Common.{◌≡◌, Bool, true, false, List, [], ◌∷◌, ℕ, refl, Option, Some, None, if◌then◌else◌}
use Rattle.std.specs.List.{list_all}
use Rattle.std.proofs.lemmas.Bool.{and_parts}
use Rattle.fix_sessions.specs.Flaws.{or_else}
use Rattle.fix_sessions.specs.declared.turns.Fault.{Fault}

-- what holds of both sides of a choice holds of it
pub choice : {A : Type 0} (P : A → Type 0) (b : Bool) (x y : A) → (b ≡ true → P x) → (b ≡ false → P y) → P (if b then x else y)
choice P true x y p q = p refl
choice P false x y p q = q refl

-- a fault that is not told was not found
pub not_told : (b : Bool) (fault : Fault) (rest : Option Fault) → (if b then Some fault else rest) ≡ None
    → (b ≡ false) × (rest ≡ None)
not_told true fault rest h = cc
not_told false fault rest h = (refl, h)

pub neither_told : (first other : Option Fault) → or_else first other ≡ None → (first ≡ None) × (other ≡ None)
neither_told None other h = (refl, h)
neither_told (Some fault) other h = cc

-- a test that implies another
pub weaker : (p q : ℕ → Bool) → ((c : ℕ) → p c ≡ true → q c ≡ true) → (text : List ℕ) → list_all p text ≡ true → list_all q text ≡ true
weaker p q less [] all = refl
weaker p q less (c ∷ text) all =
    let parts = and_parts (p c) (list_all p text) all in
    rw (less c parts.0) (weaker p q less text parts.1)

-- the other side of a choice of which one side has no fault
pub other_side : (b : Bool) (rest : Option Fault) → (if b then None else rest) ≡ None → b ≡ false → rest ≡ None
other_side true rest h fails = cc
other_side false rest h fails = h

pub one_side : (b : Bool) (fault : Fault) → (if b then None else Some fault) ≡ None → b ≡ true
one_side true fault h = refl
one_side false fault h = cc
