use Rattle.command_arguments.specs.Arguments.{program_app}
use Rattle.command_arguments.proofs.command.venue_command.Goals as goal

pub returns : goal.returns
returns c = c.with_commands.ensures program_app c.in_ok-program.ensures
