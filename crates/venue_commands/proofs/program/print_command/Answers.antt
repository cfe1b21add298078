use Rattle.venue_commands.proofs.PrintLemmas.{fault_left, printed_err, printed_ok}
use Rattle.command_arguments.specs.Arguments.{meant}
use Rattle.venue_commands.proofs.program.print_command.Goals as goal

pub returns-in-Err-clause-err : goal.returns-in-Err-clause-err
returns-in-Err-clause-err g c =
    fault_left (meant c.args.command.now) _ _ c.in_ok-bytes.bytes.items c.in-Err.fault c.in_ok-bytes.ensures.ok
    c.in-Err.ensures.unwritten c.in-Err.ensures.err

pub returns-clause-ok : goal.returns-clause-ok
returns-clause-ok g c =
    printed_ok c.print_long.result (meant c.args.command.now) _ _ c.in_ok-bytes.bytes.items c.in-Ok.text
    c.in_ok-bytes.ensures.ok c.in-Ok.ensures.ok c.print_long.ensures.ok

pub returns-clause-err : goal.returns-clause-err
returns-clause-err g c =
    printed_err c.print_long.result (meant c.args.command.now) _ _ c.in_ok-bytes.bytes.items c.in-Ok.text
    c.in_ok-bytes.ensures.ok c.in-Ok.ensures.ok c.print_long.ensures.err c.print_long.ensures.part
