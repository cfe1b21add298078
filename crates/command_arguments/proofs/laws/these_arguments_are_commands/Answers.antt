use Rattle.command_arguments.proofs.LawfulArguments.{lawful_arguments}
use Rattle.command_arguments.proofs.laws.these_arguments_are_commands.Goals as goal

pub returns : goal.returns
returns c = lawful_arguments
