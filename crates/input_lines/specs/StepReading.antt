-- What the code keeps of a line of steps until its steps are put behind the others.
use Rattle.std.specs.Prelude.{ℕ, ◌+◌, ◌≤◌, true, List, [], ◌∷◌, replicate, nat_lt, Bool, IsTrue}
use Rattle.std.specs.Prelude.{Option, Some, None, Result, Ok, Err, if◌then◌else◌}
use Rattle.fix_fields.specs.Envelope.{Cutting}
use Rattle.fix_fields.specs.declared.fault.StreamFault.{StreamFault}
use Rattle.venue_rows.specs.Rows.{ConfigValues, Configuration, has_room}
use Rattle.step_replay.specs.StepFaults.{firms_of}
use Rattle.venue_steps.specs.declared.actors.Actor.{Actor}
use Rattle.venue_steps.specs.declared.actors.Actor.TheVariants as actor
use Rattle.step_replay.specs.declared.steps.Step.{Step}
use Rattle.step_replay.specs.declared.steps.Step.TheVariants as step
use Rattle.input_lines.specs.StepLines.{Heard, in_steps, number_for, with_number, Read}
use Rattle.input_lines.specs.StepLines.{sweeps_at, venue_rooms}
use Rattle.input_lines.specs.declared.line_steps.Spelled.{Spelled}
use Rattle.input_lines.specs.declared.line_steps.Spelled.TheVariants as spelled

-- the steps of what a line spells, in a venue of this configuration
abbrev pub steps_in : ConfigValues → Spelled → List Step
steps_in config (spelled.Said firm moment message is_counted) = step.In firm moment message ∷ []
steps_in config (spelled.Came firm moment message) = step.In firm moment message ∷ []
steps_in config (spelled.Turns by count) = replicate count (step.Turn by)
steps_in config (spelled.Sweep room moment) = step.Expire room moment ∷ []
steps_in config (spelled.Sweeps moment) = sweeps_at moment (venue_rooms config)
steps_in config (spelled.Pieces firm moment messages) = in_steps firm moment messages

-- what was heard once a line is counted
abbrev pub counted : Spelled → Heard → Heard
counted (spelled.Said firm moment message is_counted) heard =
    if is_counted then with_number heard firm (number_for heard (Some firm) + 1) else heard
counted other heard = heard

-- the same, where the line was read
abbrev pub read_as : ConfigValues → Spelled → Heard → Read
read_as config spelled heard = Ok (steps_in config spelled, counted spelled heard)

-- a line is to be counted, and the next `say` line of its firm would have the number 10^15, which
-- none has
abbrev pub IsFull : Spelled → Heard → Type 0
IsFull (spelled.Said firm moment message is_counted) heard =
    IsTrue is_counted × (1000000000000000 ≤ number_for heard (Some firm))
IsFull other heard = ⊥

-- whether an actor is one of the venue's
abbrev pub is_actor : Configuration → Actor → Bool
is_actor config (actor.Firm firm) = nat_lt firm (firms_of config)
is_actor config actor.Clock = true

-- whether what a line spells names what the venue has
abbrev pub is_known : Configuration → Spelled → Bool
is_known config (spelled.Said firm moment message is_counted) = nat_lt firm (firms_of config)
is_known config (spelled.Came firm moment message) = nat_lt firm (firms_of config)
is_known config (spelled.Turns by count) = is_actor config by
is_known config (spelled.Sweep room moment) = has_room config room.investor room.n
is_known config (spelled.Sweeps moment) = true
is_known config (spelled.Pieces firm moment messages) = nat_lt firm (firms_of config)

-- the messages of a cut in which no fault stands
abbrev pub messages_if : Result (List ℕ) StreamFault → List (List ℕ) → Option (List (List ℕ))
messages_if (Ok rest) messages = Some messages
messages_if (Err fault) messages = None

abbrev pub whole_messages : Cutting → Option (List (List ℕ))
whole_messages cut = messages_if cut.rest cut.messages

-- and the bytes behind them
abbrev pub whole_if : Result (List ℕ) StreamFault → List (List ℕ)
    → Option (List (List ℕ) × List ℕ)
whole_if (Ok rest) messages = Some (messages, rest)
whole_if (Err fault) messages = None

abbrev pub whole_cut : Cutting → Option (List (List ℕ) × List ℕ)
whole_cut cut = whole_if cut.rest cut.messages
