-- What is said of the items of a list.
use Rattle.std.proofs.Common.{◌≡◌, List, [], ◌∷◌, ◌⊎◌}

-- each item of a list is so
abbrev pub Every : {A : Type 0} → (A → Type 0) → List A → Type 0
Every P [] = Unit {0}
Every P (x ∷ xs) = P x × Every P xs

-- an item stands in a list
abbrev pub In : {A : Type 0} → A → List A → Type 0
In x [] = ⊥
In x (y ∷ ys) = (y ≡ x) ⊎ In x ys
