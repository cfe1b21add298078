-- Lines of steps: what was read so far, and what is left.
use Rattle.std.proofs.Common.{◌≡◌, ℕ, ◌+◌, true, List, [], ◌∷◌, ◌++◌, refl, ap, sym, ◌∙◌, None}
use Rattle.std.proofs.Common.{Result, Ok, Err, append_assoc, replicate, zero, suc, nat_lt}
use Rattle.venue_rows.specs.Rows.{ConfigValues, Configuration, values_of}
use Rattle.step_replay.specs.StepFaults.{first_fault, first_fault_from, firms_of}
use Rattle.venue_steps.specs.declared.actors.Actor.{Actor}
use Rattle.venue_steps.specs.declared.actors.Actor.TheVariants as actor
use Rattle.step_replay.specs.declared.steps.Step.{Step}
use Rattle.step_replay.specs.declared.steps.Step.TheVariants as step
use Rattle.input_lines.specs.ResultSteps.{◌>>=◌}
use Rattle.input_lines.specs.StepLines.{Heard, steps_of_line, steps_from, in_steps}
use Rattle.input_lines.specs.StepReading.{counted, read_as, steps_in, is_actor, is_known}
use Rattle.input_lines.specs.DueText.{Lines}
use Rattle.input_lines.specs.declared.faults.ProgramFault.{ProgramFault}
use Rattle.input_lines.specs.declared.line_steps.Spelled.{Spelled}
use Rattle.input_lines.specs.declared.line_steps.Spelled.TheVariants as spelled
use Rattle.input_lines.specs.StepFaultLemmas.{none_then}
use Rattle.input_lines.specs.RoomLemmas.{known_sweeps}

-- steps that were read, before others that are

abbrev pub behind_steps : List Step → Result (List Step) ProgramFault → Result (List Step) ProgramFault
behind_steps done (Err fault) = Err fault
behind_steps done (Ok rest) = Ok (done ++ rest)

pub behind_steps-more : (done more : List Step) (rest : Result (List Step) ProgramFault)
    → behind_steps done (rest >>= (λ steps. Ok (more ++ steps))) ≡ behind_steps (done ++ more) rest
behind_steps-more done more (Err fault) = refl
behind_steps-more done more (Ok rest) = ap Ok (sym (append_assoc done more rest))

-- A line more.

pub steps_more : (config : ConfigValues) (heard mid : Heard) (k : ℕ) (text : List ℕ) (rest : Lines) (spelled : Spelled) (done : List Step)
    → steps_of_line config heard k text ≡ read_as config spelled mid
    → behind_steps done (steps_from config heard ((k, text) ∷ rest)) ≡ behind_steps (done ++ steps_in config spelled) (steps_from config (counted spelled mid) rest)
steps_more config heard mid k text rest spelled done is =
    ap (λ read. behind_steps done (read >>= (λ r. steps_from config r.1 rest >>= (λ steps. Ok (r.0 ++ steps))))) is
    ∙ behind_steps-more done (steps_in config spelled) (steps_from config (counted spelled mid) rest)

-- Steps that name what the venue has.

known_turns : (config : Configuration) (by : Actor) (count k : ℕ) → is_actor config by ≡ true
    → first_fault_from config k (replicate count (step.Turn by)) ≡ None
known_turns config by zero k known = refl
known_turns config (actor.Firm firm) (suc count) k known = rw known (known_turns config (actor.Firm firm) count (k + 1) known)
known_turns config actor.Clock (suc count) k known = known_turns config actor.Clock count (k + 1) known

known_messages : (config : Configuration) (firm moment : ℕ) (messages : List (List ℕ)) (k : ℕ) → nat_lt firm (firms_of config) ≡ true
    → first_fault_from config k (in_steps firm moment messages) ≡ None
known_messages config firm moment [] k known = refl
known_messages config firm moment (message ∷ messages) k known = rw known (known_messages config firm moment messages (k + 1) known)

known_steps : (config : Configuration) (spelled : Spelled) → is_known config spelled ≡ true → (k : ℕ) → first_fault_from config k (steps_in (values_of config) spelled) ≡ None
known_steps config (spelled.Said firm moment message is_counted) known k = rw known refl
known_steps config (spelled.Came firm moment message) known k = rw known refl
known_steps config (spelled.Turns by count) known k = known_turns config by count k known
known_steps config (spelled.Sweep room moment) known k = rw known refl
known_steps config (spelled.Sweeps moment) known k = known_sweeps config moment k
known_steps config (spelled.Pieces firm moment messages) known k = known_messages config firm moment messages k known

pub known_more : (config : Configuration) (done : List Step) (spelled : Spelled) → first_fault config done ≡ None → is_known config spelled ≡ true
    → first_fault config (done ++ steps_in (values_of config) spelled) ≡ None
known_more config done spelled before known = none_then config 1 done (steps_in (values_of config) spelled) before (known_steps config spelled known)
