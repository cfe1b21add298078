use Rattle.venue_commands.proofs.CommandLemmas.{asked_told, some_arguments}
use Rattle.venue_commands.proofs.program.run_program.Goals as goal

pub returns-in-Err : goal.returns-in-Err
returns-in-Err g c =
    asked_told g.S.AsStr.text c.args.arguments.now c.in-Err.error _ _ (some_arguments c.args.arguments.now c.if-is_empty.ensures)
    c.in-Err.ensures.err c.report_error.ensures
