-- The arguments of the program's commands, and what is wrong with arguments that are no command.
use Rattle.std.specs.Prelude.{◌≡◌, ◌<◌, ◌&&◌, Bool, true, false, List, [], ◌∷◌, ◌++◌, Option, Some}
use Rattle.std.specs.Prelude.{None, length, codes, find, fold, map, string_bytes, if◌then◌else◌}
use Rattle.std.specs.Prelude.{option_and_then, option_map, slice_get, unwrap_or}
use Rattle.std.specs.List.{list_any}
use Rattle.std.specs.Str.{bytes_eq}
use Rattle.clap.specs.Simple.{Shape, on_top}
use Rattle.clap.specs.Words.{App, Kinds, Rule, Text, fault_of, new_app, new_rule, with_rule, app_of}
use Rattle.clap.specs.Words.{with_subcommand}
use Rattle.clap.specs.declared.builder.command.Command.{Command as Built}
use Rattle.clap.specs.declared.builder.command.Command.TheViews.{out-Command}
use Rattle.clap.specs.declared.builder.action.ArgAction.TheVariants.{SetTrue}
use Rattle.clap.specs.declared.error.kind.ErrorKind.{ErrorKind}
use Rattle.clap.specs.declared.error.kind.ErrorKind.TheVariants as kind
use Rattle.venue_text.specs.KeptDays as kept_days
use Rattle.venue_text.specs.KeptDays.{dues, messages, noted}
use Rattle.investor_texts.specs.SoughtDays as sought_days
use Rattle.investor_texts.specs.SoughtDays.{Sought, Whom, of_firms, of_investor, the_dealer}
use Rattle.investor_texts.specs.SoughtDays.{the_investor}
use Rattle.venue_text.specs.declared.live_form.LiveForm.{LiveForm}
use Rattle.command_arguments.specs.declared.command.Flags.{Flags}
use Rattle.command_arguments.specs.declared.command.Response.{Response}
use Rattle.command_arguments.specs.declared.command.Response.TheVariants as response
use Rattle.command_arguments.specs.declared.command.VenueCommand.{VenueCommand}
use Rattle.command_arguments.specs.declared.table.CommandLine.{CommandLine}
use Rattle.command_arguments.specs.declared.table.ArgumentLine.{ArgumentLine}
use Rattle.command_arguments.specs.declared.command.VenueCommand.TheVariants as rust
use Rattle.command_arguments.specs.ArgumentWords.{flags_in, plain_in, spelled, are_flags, given}
use Rattle.command_arguments.specs.ArgumentWords.{Words, no_word, one_or_none, one_word, are_words}

-- What a command asks for.
pub data Command : Type 0 where
  -- the messages of the firm whose due text is read, as whole frames or as lines of fields, and with
  -- the second flag behind each what its desk notes beside it
  alone : Bool → Bool → Command
  -- all firms' messages of a day, or those of the firm with this name
  replay : Option Text → Bool → Command
  -- the messages, the due text or the blotter of a day that comes line by line, as `live` takes it
  kept : Sought → Command
  -- all firms' messages of a day on threads, and with the second flag the number of the steps into
  -- which it is woven
  day : Bool → Bool → Command
  -- a day that goes on, line by line, printed in this form
  live : LiveForm → Command
  -- the due text of each dealer, or of the dealer with this name
  due : Option Text → Command
  -- the due text of the investor with this name
  investor_due : Text → Command
  -- what differs for the dealer with this name between two days
  compare : Text → Command
  -- the same for the investor with this name
  investor_compare : Text → Command
  -- what differs for a firm between two days that come line by line, as `live` takes them
  compared : Whom → Command
  -- the blotter of the firm with this name
  blotter : Text → Command

-- The table of the commands: a command's name, the names of its flags, how many arguments it takes,
-- and what it asks for by its argument and by the flags that are given.
pub record Line : Type 0 where
  pub name : Text
  pub flags : List Text
  pub words : Words
  pub asks : Option Text → Flags → Command

-- the names of the flags
abbrev pub frames_flag : Text
frames_flag = codes "frames"

abbrev pub woven_flag : Text
woven_flag = codes "woven"

abbrev pub marks_flag : Text
marks_flag = codes "marks"

abbrev pub notes_flag : Text
notes_flag = codes "notes"

abbrev pub live_flag : Text
live_flag = codes "live"

abbrev pub investor_flag : Text
investor_flag = codes "investor"

-- a replay, a due text, a comparison and a blotter, by the flags
abbrev pub replay_by : Option Text → Flags → Command
replay_by argument flags =
    if flags.notes then kept (of_firms (noted argument flags.frames))
    else (if flags.live then kept (of_firms (messages argument flags.frames))
    else replay argument flags.frames)

abbrev pub due_by : Option Text → Flags → Command
due_by dealer flags = if flags.live then kept (of_firms (dues dealer)) else due dealer

abbrev pub investor_due_by : Text → Flags → Command
investor_due_by name flags = if flags.live then kept (of_investor name) else investor_due name

abbrev pub due_of_one : Text → Flags → Command
due_of_one name flags =
    if flags.investor then investor_due_by name flags else due_by (Some name) flags

abbrev pub dealer_compare_by : Text → Flags → Command
dealer_compare_by name flags = if flags.live then compared (the_dealer name) else compare name

abbrev pub investor_compare_by : Text → Flags → Command
investor_compare_by name flags =
    if flags.live then compared (the_investor name) else investor_compare name

abbrev pub compare_by : Text → Flags → Command
compare_by name flags =
    if flags.investor then investor_compare_by name flags else dealer_compare_by name flags

abbrev pub blotter_by : Text → Flags → Command
blotter_by firm flags =
    if flags.live then kept (of_firms (kept_days.blotter firm)) else blotter firm

-- the form that the flags ask for
abbrev pub form_by : Flags → LiveForm
form_by flags =
    record { frames = flags.frames; marks = flags.marks; notes = flags.notes }

abbrev pub line : Text → List Text → Words → (Option Text → Flags → Command) → Line
line name flags words asks = record { name = name; flags = flags; words = words; asks = asks }

abbrev pub commands : List Line
commands =
    line (codes "alone") (frames_flag ∷ notes_flag ∷ []) no_word
    (λ argument flags. alone flags.frames flags.notes)
    ∷ line (codes "replay") (frames_flag ∷ live_flag ∷ notes_flag ∷ []) one_or_none replay_by
    ∷ line (codes "day") (frames_flag ∷ woven_flag ∷ []) no_word
    (λ argument flags. day flags.frames flags.woven)
    ∷ line (codes "due") (live_flag ∷ investor_flag ∷ []) one_word
    (λ argument flags. due_of_one (unwrap_or argument []) flags)
    ∷ line (codes "dues") (live_flag ∷ []) no_word (λ argument flags. due_by None flags)
    ∷ line (codes "compare") (live_flag ∷ investor_flag ∷ []) one_word
    (λ argument flags. compare_by (unwrap_or argument []) flags)
    ∷ line (codes "blotter") (live_flag ∷ []) one_word
    (λ argument flags. blotter_by (unwrap_or argument []) flags)
    ∷ line (codes "live") (frames_flag ∷ marks_flag ∷ notes_flag ∷ []) no_word
    (λ argument flags. live (form_by flags))
    ∷ []

-- the line of a name
abbrev pub line_of : Text → List Line → Option Line
line_of name lines = find (λ l. bytes_eq l.name name) lines

-- what a line asks for by these arguments and flags, where they are its own
abbrev pub asked_by : List Text → List Text → Line → Option Command
asked_by words flags l =
    if are_words l.words words && are_flags (map spelled l.flags) flags
    then Some (l.asks (slice_get words 0) (given flags)) else None

-- The command that arguments ask for, where they are those of one. No arguments at all mean
-- `alone`.
abbrev pub command_of : List Text → Option Command
command_of [] = Some (alone false false)
command_of (name ∷ rest) =
    option_and_then (asked_by (plain_in rest) (flags_in rest)) (line_of name commands)

-- a command by its name, the argument that was found for it, and the flags that were
abbrev pub named_command : Text → Option Text → Flags → Command
named_command name firm flags =
    if bytes_eq name (codes "alone") then alone flags.frames flags.notes
    else (if bytes_eq name (codes "replay") then replay_by firm flags
    else (if bytes_eq name (codes "day") then day flags.frames flags.woven
    else (if bytes_eq name (codes "live") then live (form_by flags)
    else (if bytes_eq name (codes "due") then due_of_one (unwrap_or firm []) flags
    else (if bytes_eq name (codes "dues") then due_by None flags
    else (if bytes_eq name (codes "compare") then compare_by (unwrap_or firm []) flags
    else blotter_by (unwrap_or firm []) flags))))))

-- the command of the code's type
abbrev pub meant : VenueCommand → Command
meant (rust.Alone frames notes) = alone frames notes
meant (rust.Replay firm frames) = replay (option_map (λ argument. argument.now) firm) frames
meant (rust.Kept sought) = kept (sought_days.meant sought)
meant (rust.Day frames woven) = day frames woven
meant (rust.Live form) = live form
meant (rust.Due dealer) = due (option_map (λ argument. argument.now) dealer)
meant (rust.InvestorDue investor) = investor_due investor.now
meant (rust.Compare dealer) = compare dealer.now
meant (rust.InvestorCompare investor) = investor_compare investor.now
meant (rust.Compared whom) = compared (sought_days.whom_meant whom)
meant (rust.Blotter firm) = blotter firm.now

-- The same as clap reads it.

-- a flag
abbrev pub flag_rule : Text → Rule
flag_rule name = record (new_rule name) { long = Some name; action = Some SetTrue }

-- the argument that names a firm
abbrev pub argument_rule : Bool → Rule
argument_rule required = record (new_rule (codes "firm")) { value_names = 1; required = required }

abbrev pub argument_rules : Words → List Rule
argument_rules no_word = []
argument_rules one_or_none = argument_rule false ∷ []
argument_rules one_word = argument_rule true ∷ []

-- a command of this name, with these flags and arguments
abbrev pub leaf_app : Text → List Text → Words → App
leaf_app name flags words =
    fold with_rule (new_app name) (map flag_rule flags ++ argument_rules words)

-- a command of the table
abbrev pub line_app : Line → App
line_app l = leaf_app l.name l.flags l.words

-- how many arguments a command of the code's table takes, the command itself, and a program with
-- such commands more
abbrev pub arguments_of : Option ArgumentLine → Words
arguments_of None = no_word
arguments_of (Some argument) = if argument.required then one_word else one_or_none

abbrev pub told_app : CommandLine → App
told_app l = leaf_app l.name.now (map (λ flag. flag.name.now) l.flags.now) (arguments_of l.argument)

abbrev pub with_told : App → List CommandLine → App
with_told app lines = fold (λ app l. with_subcommand app (told_app l).top) app lines

-- the program's settings
abbrev pub settings : Shape → Shape
settings s = record s { has_version = true; no_binary_name = true; subcommand_required = true }

-- the program, which has a version and wants one of its commands; its own name is not among the
-- arguments
abbrev pub program_app : App
program_app = on_top settings (new_app (codes "rfq_venue"))

-- the program with these commands
abbrev pub with_lines : List Line → App
with_lines lines = fold (λ app l. with_subcommand app (line_app l).top) program_app lines

-- the whole program
abbrev pub venue_app : App
venue_app = with_lines commands

-- a command that is built is this one, and has no argument that those below it share
abbrev pub IsAppOf : App → Built → Type 0
IsAppOf app command = (app_of command ≡ app) × ((out-Command command).has_globals ≡ false)

-- What clap finds wrong with arguments, as the kinds that its error may have.
unfoldable pub arguments_fault : List Text → Kinds
arguments_fault arguments = fault_of venue_app arguments

-- the arguments ask for help or for the version, which clap tells as an error
abbrev pub is_help : ErrorKind → Bool
is_help kind.DisplayHelp = true
is_help kind.DisplayVersion = true
is_help _ = false

-- the arguments are wrong
abbrev pub is_mistake : ErrorKind → Bool
is_mistake kind.DisplayHelp = false
is_mistake kind.DisplayVersion = false
is_mistake kind.OutOfMemory = false
is_mistake _ = true

-- some error that the arguments may have asks for help
abbrev pub may_be_help : Kinds → Bool
may_be_help kinds = list_any is_help kinds

-- some error that the arguments may have is a mistake
abbrev pub may_be_mistake : Kinds → Bool
may_be_mistake kinds = list_any is_mistake kinds

-- what is told of an error of a kind: a text that is not empty, unless memory was refused
abbrev pub IsResponseTo : ErrorKind → Response → Type 0
IsResponseTo k (response.Help text) = (is_help k ≡ true) × (0 < length (string_bytes text))
IsResponseTo k (response.Wrong text) = (is_mistake k ≡ true) × (0 < length (string_bytes text))
IsResponseTo k response.Memory = Unit {0}
