-- Steps that may each fail, chained: the first fault ends them.
use Rattle.std.specs.Prelude.{Result, Ok, Err}

-- the second step, where the first gave a value
infixl 10 ◌>>=◌
abbrev pub ◌>>=◌ : {A B E : Type 0} → Result A E → (A → Result B E) → Result B E
Err fault >>= f = Err fault
Ok x >>= f = f x
