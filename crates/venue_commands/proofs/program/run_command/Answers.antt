use Rattle.venue_commands.proofs.CommandLemmas.{in_live, in_text}
use Rattle.venue_commands.proofs.program.run_command.Goals as goal

pub returns-in_default : goal.returns-in_default
returns-in_default g c = in_text _ _ _ _ c.in_default.ensures c.run_text_command.ensures

pub returns : goal.returns
returns g c = in_live _ _ _ _ _ _ c.in-Some.ensures c.command_argument.ensures c.run_live.ensures
