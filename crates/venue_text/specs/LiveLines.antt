-- A day that goes on, line by line: what a line spells, what it brings, and what is printed for it.
use Rattle.std.specs.Prelude.{ℕ, Bool, List, [], ◌∷◌, ◌++◌, codes, decimal, drop, length}
use Rattle.std.specs.Prelude.{slice_get, Option, Some, None, Ok, Err, if◌then◌else◌}
use Rattle.std.specs.List.{flat_map}
use Rattle.std.specs.Option.{option_to_list}
use Rattle.fix_fields.specs.TimeOfDay.{time_text}
use Rattle.venue_rows.specs.Rows.{ConfigValues, Configuration, firm_names, values_of}
use Rattle.venue_rows.specs.Texts.{same_text}
use Rattle.step_replay.specs.Deadlines.{next_deadline}
use Rattle.step_replay.specs.LiveDays.{Sent, live_messages, live_trail}
use Rattle.step_replay.specs.declared.steps.Step.{Step}
use Rattle.input_lines.specs.Lines.{first_part, is_skipped}
use Rattle.venue_text.specs.LiveNotes.{noted_all}
use Rattle.venue_text.specs.MessageLines.{line_of}
use Rattle.input_lines.specs.StepLines.{Heard, Read, names_of_firms, nothing_heard, steps_of_line}
use Rattle.input_lines.specs.declared.faults.ProgramFault.{ProgramFault}
use Rattle.input_lines.specs.declared.faults.ProgramFault.TheVariants.{Form, Stream, UnknownFirm, UnknownRoom}
use Rattle.venue_text.specs.declared.live_form.LiveForm.{LiveForm}

-- what a line spells: as a line of a day, but turns follow of themselves
abbrev pub live_steps_of : ConfigValues → Heard → ℕ → List ℕ → Read
live_steps_of config heard k line =
    if same_text (first_part line) (codes "turn") then Err (Form k)
    else steps_of_line config heard k line

-- What lines of steps have brought.

pub record Taken : Type 0 where
  pub steps : List Step
  pub heard : Heard
  pub faults : List ProgramFault

-- before the first of them
abbrev pub nothing_taken : ConfigValues → Taken
nothing_taken config = record {
  steps = [];
  heard = nothing_heard (length (names_of_firms config));
  faults = [];
}

-- what a line brings, by what it spells
abbrev pub with_read : Taken → Read → Taken
with_read taken (Ok read) =
    record { steps = taken.steps ++ read.0; heard = read.1; faults = taken.faults }
with_read taken (Err fault) =
    record { steps = taken.steps; heard = taken.heard; faults = taken.faults ++ fault ∷ [] }

abbrev pub with_line : ConfigValues → Taken → ℕ × List ℕ → Taken
with_line config taken line =
    with_read taken (live_steps_of config taken.heard line.0 line.1)

-- the same of a line that may be skipped
abbrev pub with_any_line : ConfigValues → Taken → ℕ × List ℕ → Taken
with_any_line config taken line =
    if is_skipped line.1 then taken else with_line config taken line

-- the fault of a line, if it has one
abbrev pub fault_in : Read → Option ProgramFault
fault_in (Ok read) = None
fault_in (Err fault) = Some fault

abbrev pub line_fault : ConfigValues → Taken → ℕ × List ℕ → Option ProgramFault
line_fault config taken line =
    if is_skipped line.1 then None
    else fault_in (live_steps_of config taken.heard line.0 line.1)

-- Messages.

-- the line of a message, of the firm that it was sent to
abbrev pub sent_line : Bool → Configuration → Sent → List ℕ
sent_line with_frames config sent =
    flat_map (λ name. line_of with_frames name sent.1)
    (option_to_list (slice_get (firm_names config) sent.0))

-- messages, a line each, in their order
abbrev pub sent_text : Bool → Configuration → List Sent → List ℕ
sent_text with_frames config sent = flat_map (sent_line with_frames config) sent

-- the same of messages that are sent in the last of these steps, and behind each the line of what
-- its desk notes beside it, in a form that has notes
abbrev pub told_lines : LiveForm → Configuration → List Step → List Sent → List ℕ
told_lines form config steps sent =
    if form.notes then noted_all form.frames config (live_trail config steps) sent
    else sent_text form.frames config sent

-- all messages of a day so far
abbrev pub live_text : Bool → Configuration → List Step → List ℕ
live_text with_frames config steps = sent_text with_frames config (live_messages config steps)

-- the messages that more steps bring
unfoldable pub gained_messages : Configuration → List Step → List Step → List Sent
gained_messages config taken more =
    drop (length (live_messages config taken)) (live_messages config (taken ++ more))

-- Marks: each stands behind all that its line did.

-- a mark, in a form that has marks
abbrev pub mark_of : LiveForm → List ℕ → List ℕ
mark_of form mark = if form.marks then mark else []

-- a deadline behind its space
abbrev pub deadline_text : Option ℕ → List ℕ
deadline_text None = []
deadline_text (Some moment) = 32 ∷ time_text moment

-- `done K`, and behind it the earliest deadline
abbrev pub done_line : ℕ → Option ℕ → List ℕ
done_line k deadline = codes "done " ++ decimal k ++ deadline_text deadline ++ 10 ∷ []

-- the earliest deadline of a room that is opening or open behind these steps
abbrev pub deadline_behind : Configuration → List Step → Option ℕ
deadline_behind config steps = next_deadline config (live_trail config steps).facts

-- the mark of a line behind which these steps were done
abbrev pub done_mark : LiveForm → Configuration → List Step → ℕ → List ℕ
done_mark form config steps k = mark_of form (done_line k (deadline_behind config steps))

-- the name of a fault of a line
abbrev pub line_fault_name : ProgramFault → List ℕ
line_fault_name (Form line) = codes "form"
line_fault_name (UnknownFirm line) = codes "unknown firm"
line_fault_name (UnknownRoom line) = codes "unknown room"
line_fault_name (Stream line) = codes "stream"
line_fault_name _ = []

-- `fault K NAME`
abbrev pub refused_line : ℕ → ProgramFault → List ℕ
refused_line k fault = codes "fault " ++ decimal k ++ 32 ∷ line_fault_name fault ++ 10 ∷ []

-- the mark of a line at fault
abbrev pub fault_mark : LiveForm → ℕ → ProgramFault → List ℕ
fault_mark form k fault = mark_of form (refused_line k fault)

-- What is printed for a line.

-- by what it spells: the messages that its steps bring and then its mark, or the mark of its fault
abbrev pub read_text : LiveForm → Configuration → Taken → ℕ → Read → List ℕ
read_text form config taken k (Ok read) =
    told_lines form config (taken.steps ++ read.0) (gained_messages config taken.steps read.0)
    ++ done_mark form config (taken.steps ++ read.0) k
read_text form config taken k (Err fault) = fault_mark form k fault

-- for the line with this number, behind what was brought before: a skipped one has its mark alone
unfoldable pub line_text : LiveForm → Configuration → Taken → ℕ → List ℕ → List ℕ
line_text form config taken k line =
    if is_skipped line then done_mark form config taken.steps k
    else read_text form config taken k (live_steps_of (values_of config) taken.heard k line)

-- by what was told of it: its messages and its mark, or the mark of its fault
abbrev pub told_text : LiveForm → Configuration → List Step → ℕ → List Sent → Option ProgramFault
    → List ℕ
told_text form config steps k messages None =
    told_lines form config steps messages ++ done_mark form config steps k
told_text form config steps k messages (Some fault) = fault_mark form k fault
