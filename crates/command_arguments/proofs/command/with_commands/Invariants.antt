use Rattle.std.proofs.Common.{take}
use Rattle.clap.specs.Words.{App}
use Rattle.command_arguments.specs.Arguments.{IsAppOf, with_told}
use Rattle.command_arguments.proofs.command.with_commands.Given as goal

abbrev pub invariant-loop-line : goal.invariant-loop-line
invariant-loop-line l = (app : App) → IsAppOf app l.fn.program → IsAppOf (with_told app (take l.line-index l.lines)) l.program
