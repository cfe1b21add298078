-- What `day` prints.
use Rattle.std.specs.Prelude.{◌≡◌, ◌≢◌, ◌⊎◌, ℕ, Bool, true, false, List, [], ◌++◌, length, Ok, Err}
use Rattle.venue_rows.specs.Rows.{Configuration, values_of}
use Rattle.recorded_days.specs.Records.{RecordedDay}
use Rattle.day_weaving.specs.Weaving.{AreWoven, FaultIsTrue, SendAsRecorded}
use Rattle.recorded_days.specs.declared.actions.Inbound.{Inbound}
use Rattle.recorded_days.specs.declared.actions.Sweep.{Sweep}
use Rattle.step_replay.specs.declared.steps.Step.{Step}
use Rattle.day_weaving.specs.declared.weaving.WeaveFault.{WeaveFault}
use Rattle.day_weaving.specs.declared.weaving.WeaveFault.TheVariants as weaving
use Rattle.day_checks.specs.DayFaults.{IsFaultOf}
use Rattle.day_checks.specs.KeptDays.{KeepsDay}
use Rattle.day_checks.specs.declared.faults.DayFault.{DayFault}
use Rattle.day_checks.specs.declared.faults.DayFault.TheVariants as threaded
use Rattle.venue_text.specs.ArrivingDays.{arriving_day}
use Rattle.venue_text.specs.RecordText.{record_text, woven_line}
use Rattle.input_lines.specs.declared.faults.ProgramFault.{ProgramFault}
use Rattle.input_lines.specs.declared.faults.ProgramFault.TheVariants as program
use Rattle.input_lines.specs.declared.faults.UnkeptDay.TheVariants.{Answered, Inbox, Relayed}
use Rattle.input_lines.specs.declared.faults.UnkeptDay.TheVariants.{Shown, Sweep as Swept, Told}
use Rattle.input_lines.specs.declared.faults.UnwovenDay.TheVariants.{Malformed, Cycle, Differs}

-- A record of the day that an input spells, which keeps what every day on threads keeps: so each
-- dealer was sent the dealer view of what was due to it, the messages that came from each firm, by
-- the events at its desk, are its inbox, and all settlements of one word agree. Which record it is
-- depends on the threads.
pub record IsRecordOf (input : List ℕ) (config : Configuration) (day : RecordedDay) : Type 0 where
  pub inboxes : List (List Inbound)
  pub sweeps : List Sweep
  pub spelled : arriving_day input
      ≡ Ok (record { config = values_of config; inboxes = inboxes; sweeps = sweeps })
  pub kept : KeepsDay config inboxes sweeps day

-- The line of a day that is woven: so many steps are its actions, each once, in an order in which
-- each stands behind those that were before it, and they send every firm what the record says.
pub record IsWovenLine (config : Configuration) (day : RecordedDay) (line : List ℕ) : Type 0 where
  pub steps : List Step
  pub woven : AreWoven config day steps
  pub sent : SendAsRecorded config day steps
  pub line_is : line ≡ woven_line (length steps)

-- what stands behind the messages: this line where it is asked for, and else nothing
abbrev pub IsLast : Bool → Configuration → RecordedDay → List ℕ → Type 0
IsLast true config day line = IsWovenLine config day line
IsLast false config day line = line ≡ []

-- What `day` prints for an input: the messages of a record of its day, and what stands behind them.
pub record IsDay (with_frames woven : Bool) (input text : List ℕ) : Type 0 where
  pub config : Configuration
  pub day : RecordedDay
  pub recorded : IsRecordOf input config day
  pub last : List ℕ
  pub last_is : IsLast woven config day last
  pub printed : text ≡ record_text with_frames config day ++ last

-- a fault of a day on threads, as a fault of the program
abbrev pub unkept : DayFault → ProgramFault
unkept threaded.Memory = program.Memory
unkept (threaded.Inbox firm) = program.Day Inbox
unkept (threaded.Told dealer) = program.Day Told
unkept (threaded.Sweep room) = program.Day Swept
unkept (threaded.Shown dealer) = program.Day Shown
unkept (threaded.Relayed room) = program.Day Relayed
unkept (threaded.Answered room) = program.Day Answered
unkept (threaded.Acted firm) = program.Day Inbox

-- Something does not agree after the day, and the input has no fault. What is told is so: a
-- dealer's notices, a room's sweeps, the requests that a dealer was shown, the quotes or replies
-- that came from a room, or the actions of a firm, are the first fault of a joined day that has the
-- venue's firms and rooms and these inboxes; of an inbox it is so that the venue has the firm.
pub record IsUnkept (input : List ℕ) (fault : ProgramFault) : Type 0 where
  pub config : Configuration
  pub inboxes : List (List Inbound)
  pub sweeps : List Sweep
  pub spelled : arriving_day input
      ≡ Ok (record { config = values_of config; inboxes = inboxes; sweeps = sweeps })
  pub what : DayFault
  pub fault_is : fault ≡ unkept what
  pub no_memory : what ≢ threaded.Memory
  pub is_true : IsFaultOf config inboxes sweeps what

-- a fault of weaving, as a fault of the program
abbrev pub unwoven : WeaveFault → ProgramFault
unwoven weaving.Malformed = program.Weave Malformed
unwoven (weaving.Cycle actions) = program.Weave Cycle
unwoven (weaving.Differs firm) = program.Weave Differs
unwoven weaving.Memory = program.Memory

-- A record of the day is not woven, which was asked for, and what its fault says is so.
pub record IsUnwoven (woven : Bool) (input : List ℕ) (fault : ProgramFault) : Type 0 where
  pub asked : woven ≡ true
  pub config : Configuration
  pub day : RecordedDay
  pub recorded : IsRecordOf input config day
  pub why : WeaveFault
  pub fault_is : fault ≡ unwoven why
  pub is_true : FaultIsTrue config day why

-- A fault of `day`: the first of the input, or, where it has none, that of the day, or else of its
-- weaving.
abbrev pub IsDayFault : Bool → List ℕ → ProgramFault → Type 0
IsDayFault woven input fault =
    (arriving_day input ≡ Err fault) ⊎ (IsUnkept input fault ⊎ IsUnwoven woven input fault)
