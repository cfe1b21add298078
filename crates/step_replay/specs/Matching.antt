-- Two lists that agree place by place: names for private functions alone.
use Rattle.std.specs.Prelude.{ℕ, ◌+◌, List, [], ◌∷◌}

-- The lists have as many items, and those of each place stand so to each other. The first place has
-- this number.
abbrev pub Match : {X Y : Type 0} → (ℕ → X → Y → Type 0) → ℕ → List X → List Y → Type 0
Match P number [] [] = Unit {0}
Match P number [] (y ∷ ys) = ⊥
Match P number (x ∷ xs) [] = ⊥
Match P number (x ∷ xs) (y ∷ ys) = P number x y × Match P (number + 1) xs ys
