-- How a run of the program ends.
use Rattle.std.specs.Prelude.{◌≡◌, ◌<◌, ◌⊎◌, ℕ, Bool, true, false, List, [], length}
use Rattle.std.specs.Prelude.{Option, Some, None, Result, Ok, Err, unwrap_or}
use Rattle.std.specs.Option.{IfSome}
use Rattle.clap.specs.Kinds.{Kinds}
use Rattle.clap.specs.Walk.{Text}
use Rattle.investor_texts.specs.AloneCommand.{IsNoted, IsPrinted, first_fault}
use Rattle.investor_texts.specs.CompareCommand as investors_compare
use Rattle.investor_texts.specs.DueCommand as investors_due
use Rattle.investor_texts.specs.DueCommand.{investor_by}
use Rattle.investor_texts.specs.SoughtDays.{Sought, Whom, of_firms, of_investor, the_dealer}
use Rattle.investor_texts.specs.SoughtDays.{the_investor}
use Rattle.venue_text.specs.AskedDays.{dealer_by, dealers_by, firm_by, firms_by, one_day, two_days}
use Rattle.venue_text.specs.BlotterCommand.{IsBlotter}
use Rattle.venue_text.specs.CompareText.{IsCompared}
use Rattle.venue_text.specs.DueCommand.{IsDueText}
use Rattle.input_lines.specs.Faults.{fault_line, told_line}
use Rattle.venue_text.specs.KeptDays as kept_days
use Rattle.venue_text.specs.KeptDays.{Wanted, dues, messages, noted}
use Rattle.venue_text.specs.ReplayText.{IsReplayed}
use Rattle.input_lines.specs.declared.faults.ProgramFault.{ProgramFault}
use Rattle.input_lines.specs.declared.faults.ProgramFault.TheVariants.{Read, Memory, Write}
use Rattle.live_runs.specs.LineForms.{LineForm, answered, compared_for, kept_for}
use Rattle.command_arguments.specs.Arguments.{Command, alone, arguments_fault, blotter, command_of}
use Rattle.command_arguments.specs.Arguments.{compare, compared, day, due, kept, live}
use Rattle.command_arguments.specs.Arguments.{investor_compare, investor_due, may_be_help}
use Rattle.command_arguments.specs.Arguments.{may_be_mistake, replay}
use Rattle.live_runs.specs.LiveRuns.{EndsInLive}
use Rattle.venue_commands.specs.ThreadedDays.{IsDay, IsDayFault}
use Rattle.live_runs.specs.Written.{Streams, Written, Gains, GainsPart, IsUntouched}
use Rattle.venue_commands.specs.declared.process.ArgumentFault.{ArgumentFault}
use Rattle.venue_commands.specs.declared.process.ArgumentFault.TheVariants as argument

-- whether a command takes a day line by line, and what it prints then
abbrev pub line_form : Command → Option LineForm
line_form (alone with_frames with_notes) = None
line_form (replay firm with_frames) = None
line_form (day with_frames woven) = None
line_form (live form) = Some (answered form)
line_form (kept sought) = Some (kept_for sought)
line_form (due dealer) = None
line_form (investor_due name) = None
line_form (compare dealer) = None
line_form (investor_compare name) = None
line_form (compared whom) = Some (compared_for whom)
line_form (blotter firm) = None

-- What `alone` prints, without and with what is noted.
abbrev pub IsAlone : Bool → Bool → List ℕ → List ℕ → Type 0
IsAlone with_frames false input text = IsPrinted with_frames input text
IsAlone with_frames true input text = IsNoted with_frames input text

-- What a command prints for an input.
abbrev pub IsTextOf : Command → List ℕ → List ℕ → Type 0
IsTextOf (alone with_frames with_notes) input text =
    IsAlone with_frames with_notes input text
IsTextOf (replay firm with_frames) input text = IsReplayed firm with_frames input text
IsTextOf (day with_frames woven) input text = IsDay with_frames woven input text
IsTextOf (live form) input text = ⊥  -- it is taken line by line
IsTextOf (kept sought) input text = ⊥  -- the same
IsTextOf (due dealer) input text = IsDueText dealer input text
IsTextOf (investor_due name) input text = investors_due.IsDueText name input text
IsTextOf (compare dealer) input text = IsCompared dealer input text
IsTextOf (investor_compare name) input text = investors_compare.IsCompared name input text
IsTextOf (compared whom) input text = ⊥  -- line by line, too
IsTextOf (blotter firm) input text = IsBlotter firm input text

-- the first fault of an input, for a command
abbrev pub IsFaultOf : Command → List ℕ → ProgramFault → Type 0
IsFaultOf (alone with_frames with_notes) input fault = first_fault input ≡ Some fault
IsFaultOf (replay firm with_frames) input fault = one_day (firms_by firm) input ≡ Err fault
IsFaultOf (day with_frames woven) input fault = IsDayFault woven input fault
IsFaultOf (live form) input fault = ⊥  -- it tells line by line
IsFaultOf (kept sought) input fault = ⊥  -- the same
IsFaultOf (due dealer) input fault = one_day (dealers_by dealer) input ≡ Err fault
IsFaultOf (investor_due name) input fault = one_day (investor_by name) input ≡ Err fault
IsFaultOf (compared whom) input fault = ⊥  -- line by line, too
IsFaultOf (compare dealer) input fault = two_days (dealer_by dealer) input ≡ Err fault
IsFaultOf (investor_compare name) input fault = two_days (investor_by name) input ≡ Err fault
IsFaultOf (blotter firm) input fault = one_day (firm_by firm) input ≡ Err fault

-- the argument in what is asked for at the end of a day
abbrev pub word_in : Wanted → List ℕ
word_in (messages name frames) = unwrap_or name []
word_in (noted name frames) = unwrap_or name []
word_in (dues dealer) = unwrap_or dealer []
word_in (kept_days.blotter firm) = firm

abbrev pub word_sought : Sought → List ℕ
word_sought (of_firms wanted) = word_in wanted
word_sought (of_investor name) = name

-- the name of the firm for which two days are compared
abbrev pub word_of_whom : Whom → List ℕ
word_of_whom (the_dealer name) = name
word_of_whom (the_investor name) = name

-- the argument of a command that names a firm; it is told where no firm has that name
abbrev pub word_of : Command → List ℕ
word_of (alone with_frames with_notes) = []
word_of (replay None with_frames) = []
word_of (replay (Some firm) with_frames) = firm
word_of (day with_frames woven) = []
word_of (live form) = []
word_of (kept sought) = word_sought sought
word_of (due None) = []
word_of (due (Some dealer)) = dealer
word_of (investor_due name) = name
word_of (compare dealer) = dealer
word_of (investor_compare name) = name
word_of (compared whom) = word_of_whom whom
word_of (blotter firm) = firm

-- what a command prints for an input was written, and nothing else
pub record HasPrinted (command : Command) (input : List ℕ) (out : Written) : Type 0 where
  pub text : List ℕ
  pub is_text : IsTextOf command input text
  pub gained : Gains text out

-- a part of it was written, from its front
pub record HasPrintedPart (command : Command) (input : List ℕ) (out : Written) : Type 0 where
  pub text : List ℕ
  pub is_text : IsTextOf command input text
  pub gained : GainsPart text out

-- What a fault says of the input, where its bytes are known.
abbrev pub IsFirstOf : Command → ProgramFault → Option (List ℕ) → Type 0
IsFirstOf command fault input = IfSome input (λ all. IsFaultOf command all fault)

-- What standard output holds after a fault, and what the fault says of the input: nothing was
-- written, but for a part of the text where the output itself refused.
abbrev pub FaultLeaves : Command → ProgramFault → Option (List ℕ) → Written → Type 0
FaultLeaves command Read input out = IsUntouched out
FaultLeaves command Memory input out = IsUntouched out
FaultLeaves command Write input out = IfSome input (λ all. HasPrintedPart command all out)
FaultLeaves command fault input out = IsUntouched out × IsFirstOf command fault input

-- a fault, whose line standard error has taken, or a part of it where it refused
pub record EndsInFault (command : Command) (streams : Streams) : Type 0 where
  pub fault : ProgramFault
  pub left : FaultLeaves command fault streams.input streams.out
  pub told : GainsPart (told_line (word_of command) fault) streams.err

-- all of what the command prints for the input was written, and nothing to standard error
abbrev pub EndsInPrint : Command → Streams → Type 0
EndsInPrint command streams =
    IfSome streams.input (λ all. HasPrinted command all streams.out) × IsUntouched streams.err

-- How a run of a command ends: with status 0 and all of its text, or with status 1 and a fault.
abbrev pub EndsInCommand : Command → ℕ → Streams → Type 0
EndsInCommand command status streams =
    ((status ≡ 0) × EndsInPrint command streams)
    ⊎ ((status ≡ 1) × EndsInFault command streams)

-- How a run ends that prints one text: with status 0 and all of it, or, where the output refused
-- a part, with status 1.
abbrev pub EndsInText : List ℕ → ℕ → Written → Written → Type 0
EndsInText text status out err =
    ((status ≡ 0) × Gains text out × IsUntouched err)
    ⊎ ((status ≡ 1) × GainsPart text out × GainsPart (fault_line Write) err)

-- help: a text that is not empty is printed
pub record EndsInHelp (status : ℕ) (out err : Written) : Type 0 where
  pub text : List ℕ
  pub filled : 0 < length text
  pub ends : EndsInText text status out err

-- wrong arguments: status 2, nothing is printed, and standard error has taken a text that is not
-- empty, or a part of it
pub record EndsInMistake (status : ℕ) (out err : Written) : Type 0 where
  pub text : List ℕ
  pub filled : 0 < length text
  pub code : status ≡ 2
  pub left : IsUntouched out
  pub told : GainsPart text err

-- memory was refused before anything was printed
abbrev pub EndsInMemory : ℕ → Written → Written → Type 0
EndsInMemory status out err =
    (status ≡ 1) × IsUntouched out × GainsPart (fault_line Memory) err

-- How a run ends whose arguments are not those of a command, by what is wrong with them.
abbrev pub EndsTold : Kinds → ℕ → Written → Written → Type 0
EndsTold kinds status out err =
    EndsInMemory status out err
    ⊎ (((may_be_help kinds ≡ true) × EndsInHelp status out err)
    ⊎ ((may_be_mistake kinds ≡ true) × EndsInMistake status out err))

-- How a run of a command ends, whichever it is.
abbrev pub EndsOf : Option LineForm → Command → ℕ → Streams → Type 0
EndsOf (Some form) command status streams = EndsInLive form (word_of command) status streams
EndsOf None command status streams = EndsInCommand command status streams

-- How a run ends, by the command that is asked for, or else by what is wrong with the arguments.
abbrev pub EndsBy : Option Command → Kinds → ℕ → Streams → Type 0
EndsBy (Some command) kinds status streams = EndsOf (line_form command) command status streams
EndsBy None kinds status streams = EndsTold kinds status streams.out streams.err

-- How a run ends, by its arguments.
abbrev pub EndsAsAsked : List Text → ℕ → Streams → Type 0
EndsAsAsked arguments status streams =
    EndsBy (command_of arguments) (arguments_fault arguments) status streams

-- the arguments of the process as texts
abbrev pub as_texts : {A : Type 0} → (A → List Text) → Result A ArgumentFault
    → Result (List Text) ArgumentFault
as_texts texts_of (Ok arguments) = Ok (texts_of arguments)
as_texts texts_of (Err fault) = Err fault

-- How the process ends, by its arguments, or by why they could not be read: an argument that is no
-- UTF-8 is a wrong one.
abbrev pub EndsProcess : Result (List Text) ArgumentFault → ℕ → Streams → Type 0
EndsProcess (Ok arguments) status streams = EndsAsAsked arguments status streams
EndsProcess (Err argument.NotUtf8) status streams = EndsInMistake status streams.out streams.err
EndsProcess (Err argument.Memory) status streams = EndsInMemory status streams.out streams.err
