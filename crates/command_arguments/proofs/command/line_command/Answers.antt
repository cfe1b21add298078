use Rattle.std.proofs.Common.{fold, take, subst, sym}
use Rattle.clap.specs.Words.{new_app, with_rule}
use Rattle.command_arguments.specs.Arguments.{IsAppOf}
use Rattle.command_arguments.proofs.AppLemmas.{flag_more, flag_rules, ruled_is}
use Rattle.command_arguments.proofs.command.line_command.Goals as goal

pub loop-flag-preserved : goal.loop-flag-preserved
loop-flag-preserved c =
    let flags = c.args.line.now.flags.now in
    let app = new_app c.args.line.now.name.now in
    subst (λ a. IsAppOf a c.in_ok-command.command) (sym (flag_more app flags c.loop-flag.flag-index _ c.loop-flag-test.true))
    (ruled_is (fold with_rule app (flag_rules (take c.loop-flag.flag-index flags))) _ c.loop-flag.command c.flag_arg.result c.in_ok-command.command
    c.loop-flag.invariant c.flag_arg.ensures.rule c.flag_arg.ensures.own c.in_ok-command.ensures)
