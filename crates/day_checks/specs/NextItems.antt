-- A word of private contracts, which no public clause names: what stands in a list, and what comes
-- behind it, where there is such.
use Rattle.std.specs.Prelude.{List, [], ◌∷◌, ◌++◌, Option, Some, None}

-- a list, and this behind it, where there is such
abbrev pub with_next : {T : Type 0} → List T → Option T → List T
with_next before None = before
with_next before (Some next) = before ++ next ∷ []
