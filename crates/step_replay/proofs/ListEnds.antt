-- Items of a list: one of many that are the same.
use Rattle.step_replay.proofs.Common.{◌≡◌, ◌<◌, ℕ, replicate, Some, arith, slice_get, elements}
use Rattle.step_replay.proofs.Common.{gets}

pub get_same : {X : Type 0} (many : ℕ) (x : X) (at : ℕ) → at < many
    → slice_get (replicate many x) at ≡ Some x
get_same many x at within = grind (arith, elements, gets)
