use Rattle.std.proofs.Common.{fold, map, take}
use Rattle.clap.specs.Words.{new_app, with_rule}
use Rattle.command_arguments.specs.Arguments.{IsAppOf, flag_rule}
use Rattle.command_arguments.proofs.command.line_command.Given as goal

abbrev pub invariant-loop-flag : goal.invariant-loop-flag
invariant-loop-flag l =
    IsAppOf (fold with_rule (new_app l.line.name.now) (map flag_rule (map (λ flag. flag.name.now) (take l.flag-index l.flag-items)))) l.command
