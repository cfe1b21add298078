use Rattle.std.proofs.Common.{arith, take, subst, sym}
use Rattle.std.proofs.lemmas.List.{take_all}
use Rattle.std.proofs.lemmas.List.Sums.{fold_more}
use Rattle.clap.specs.Words.{with_subcommand}
use Rattle.command_arguments.specs.Arguments.{IsAppOf, told_app, with_told}
use Rattle.command_arguments.proofs.AppLemmas.{added_is}
use Rattle.command_arguments.proofs.command.with_commands.Goals as goal

pub loop-line-preserved : goal.loop-line-preserved
loop-line-preserved c app is =
    let lines = c.args.lines.now in
    subst (λ a. IsAppOf a c.in_ok-program.program)
    (sym (fold_more (λ a l. with_subcommand a (told_app l).top) app lines c.loop-line.line-index _ c.loop-line-test.true))
    (added_is (with_told app (take c.loop-line.line-index lines)) _ c.loop-line.program c.in_ok-line_command.field-0 c.in_ok-program.program
    (c.loop-line.invariant app is) c.in_ok-line_command.ensures c.in_ok-program.ensures)

pub returns : goal.returns
returns c app is =
    subst (λ lines. IsAppOf (with_told app lines) c.loop-line.program) (take_all c.loop-line.line-index c.args.lines.now (omega (arith, c.loop-line-test.false)))
    (c.loop-line.invariant app is)
