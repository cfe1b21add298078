-- Lists of steps one behind the other, each of which names what the venue has.
use Rattle.std.proofs.Common.{◌≡◌, ℕ, ◌+◌, List, [], ◌∷◌, ◌++◌, Option, Some, None, refl}
use Rattle.venue_rows.specs.Rows.{Configuration}
use Rattle.step_replay.specs.StepFaults.{first_fault_from, fault_of, or_else}
use Rattle.step_replay.specs.declared.faults.ReplayFault.{ReplayFault}
use Rattle.step_replay.specs.declared.steps.Step.{Step}

or_none : (first other : Option ReplayFault) → or_else first other ≡ None → (first ≡ None) × (other ≡ None)
or_none None other is = (refl, is)
or_none (Some fault) other is = cc

pub none_then : (config : Configuration) (k : ℕ) (steps more : List Step) → first_fault_from config k steps ≡ None
    → ((n : ℕ) → first_fault_from config n more ≡ None) → first_fault_from config k (steps ++ more) ≡ None
none_then config k [] more is next = next k
none_then config k (step ∷ steps) more is next =
    let parts = or_none (fault_of config k step) (first_fault_from config (k + 1) steps) is in
    rw (parts.0) (none_then config (k + 1) steps more parts.1 next)
