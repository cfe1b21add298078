-- How checks of the market are read: each is a condition with the reason that it gives, and the
-- first one that holds refuses.
use Rattle.std.specs.Prelude.{ℕ, Bool, false, nat_le, List, [], ◌∷◌, Option, Some, None}
use Rattle.std.specs.Prelude.{if◌then◌else◌}

-- the reason of the first check whose condition holds
abbrev pub first_refusal : {Reason : Type 0} → List (Bool × Reason) → Option Reason
first_refusal [] = None
first_refusal (check ∷ checks) = if check.0 then Some check.1 else first_refusal checks

-- whether a quote is given until a moment (ValidUntilTime 62) that is not after this one
abbrev pub is_not_after : ℕ → Option ℕ → Bool
is_not_after moment None = false
is_not_after moment (Some until) = nat_le until moment
