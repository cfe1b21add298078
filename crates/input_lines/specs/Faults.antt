-- The texts of faults.
use Rattle.std.specs.Prelude.{ℕ, List, [], ◌∷◌, ◌++◌, codes, decimal}
use Rattle.venue_config.specs.Faults.{fault_name}
use Rattle.input_lines.specs.declared.faults.ProgramFault.{ProgramFault}
use Rattle.input_lines.specs.declared.faults.ProgramFault.TheVariants.{Read, Input, Parts, Config}
use Rattle.input_lines.specs.declared.faults.ProgramFault.TheVariants.{Firm, Form, UnknownFirm}
use Rattle.input_lines.specs.declared.faults.ProgramFault.TheVariants.{UnknownRoom, Stream}
use Rattle.input_lines.specs.declared.faults.ProgramFault.TheVariants.{Day, Weave, Memory, Write}
use Rattle.input_lines.specs.declared.faults.UnkeptDay.{UnkeptDay}
use Rattle.input_lines.specs.declared.faults.UnkeptDay.TheVariants as unkept
use Rattle.input_lines.specs.declared.faults.UnwovenDay.{UnwovenDay}
use Rattle.input_lines.specs.declared.faults.UnwovenDay.TheVariants as unwoven

-- what does not agree after a day on threads, by its name
abbrev pub unkept_name : UnkeptDay → List ℕ
unkept_name unkept.Inbox = codes "Inbox"
unkept_name unkept.Told = codes "Told"
unkept_name unkept.Sweep = codes "Sweep"
unkept_name unkept.Shown = codes "Shown"
unkept_name unkept.Relayed = codes "Relayed"
unkept_name unkept.Answered = codes "Answered"

-- why a day on threads is not woven into steps, by its name
abbrev pub unwoven_name : UnwovenDay → List ℕ
unwoven_name unwoven.Malformed = codes "Malformed"
unwoven_name unwoven.Cycle = codes "Cycle"
unwoven_name unwoven.Differs = codes "Differs"

-- a fault as standard error tells it, but for the argument that names no firm
abbrev pub fault_text : ProgramFault → List ℕ
fault_text Read = codes "read"
fault_text Input = codes "input"
fault_text Parts = codes "parts"
fault_text (Config fault) = codes "config: " ++ fault_name fault
fault_text Firm = codes "firm"
fault_text (Form line) = codes "line " ++ decimal line ++ codes ": form"
fault_text (UnknownFirm line) = codes "line " ++ decimal line ++ codes ": unknown firm"
fault_text (UnknownRoom line) = codes "line " ++ decimal line ++ codes ": unknown room"
fault_text (Stream line) = codes "line " ++ decimal line ++ codes ": stream"
fault_text (Day what) = codes "day: " ++ unkept_name what
fault_text (Weave why) = codes "weave: " ++ unwoven_name why
fault_text Memory = codes "memory"
fault_text Write = codes "write"

-- the line that tells a fault; an argument stands behind its front
abbrev pub fault_line : ProgramFault → List ℕ
fault_line Firm = codes "firm: "
fault_line fault = fault_text fault ++ 10 ∷ []

-- the line that tells a fault of a run, whose argument FIRM or DEALER is this one
abbrev pub told_line : List ℕ → ProgramFault → List ℕ
told_line argument Firm = fault_line Firm ++ argument ++ 10 ∷ []
told_line argument fault = fault_line fault
