-- Which step of a day names a firm or a room that the venue does not have.
use Rattle.std.specs.Prelude.{◌≡◌, ℕ, ◌+◌, nat_lt, List, [], ◌∷◌, length, Option, Some, None}
use Rattle.std.specs.Prelude.{if◌then◌else◌}
use Rattle.venue_rows.specs.Rows.{Configuration, dealer_numbered, has_room}
use Rattle.venue_rows.specs.declared.dealer_rows.DealerRow.{DealerRow}
use Rattle.step_replay.specs.declared.faults.ReplayFault.{ReplayFault}
use Rattle.step_replay.specs.declared.faults.ReplayFault.TheVariants as fault
use Rattle.venue_steps.specs.declared.actors.Actor.TheVariants as actor
use Rattle.step_replay.specs.declared.steps.Step.{Step}
use Rattle.step_replay.specs.declared.steps.Step.TheVariants as step

-- how many firms a venue has
abbrev pub firms_of : Configuration → ℕ
firms_of config = length config.dealers + length config.investors

-- the fault of the k-th step where it names a firm with this number
abbrev pub fault_of_firm : Configuration → ℕ → ℕ → Option ReplayFault
fault_of_firm config k firm =
    if nat_lt firm (firms_of config) then None else Some (fault.UnknownFirm k)

-- the fault of the k-th step, where it has one
abbrev pub fault_of : Configuration → ℕ → Step → Option ReplayFault
fault_of config k (step.In firm moment message) = fault_of_firm config k firm
fault_of config k (step.Turn (actor.Firm firm)) = fault_of_firm config k firm
fault_of config k (step.Turn actor.Clock) = None
fault_of config k (step.Expire room moment) =
    if has_room config room.investor room.n then None else Some (fault.UnknownRoom k)

-- a fault, or another where there is none
abbrev pub or_else : Option ReplayFault → Option ReplayFault → Option ReplayFault
or_else None other = other
or_else (Some fault) other = Some fault

-- the first fault of these steps, of which the first is the k-th
abbrev pub first_fault_from : Configuration → ℕ → List Step → Option ReplayFault
first_fault_from config k [] = None
first_fault_from config k (step ∷ steps) =
    or_else (fault_of config k step) (first_fault_from config (k + 1) steps)

-- the first fault of a day
abbrev pub first_fault : Configuration → List Step → Option ReplayFault
first_fault config steps = first_fault_from config 1 steps

-- the first fault where it is asked what was due to a dealer: no dealer has this number, or else
-- that of the day
abbrev pub due_fault_where : Option DealerRow → Option ReplayFault → Option ReplayFault
due_fault_where None fault_of_day = Some (fault.UnknownFirm 0)
due_fault_where (Some row) fault_of_day = fault_of_day

abbrev pub due_fault : Configuration → List Step → ℕ → Option ReplayFault
due_fault config steps dealer =
    due_fault_where (dealer_numbered config dealer) (first_fault config steps)

-- a refusal is the first fault where there is one, and else that of memory
abbrev pub IsFirstOrMemory : ReplayFault → Option ReplayFault → Type 0
IsFirstOrMemory refusal None = refusal ≡ fault.Memory
IsFirstOrMemory refusal (Some first) = refusal ≡ first
