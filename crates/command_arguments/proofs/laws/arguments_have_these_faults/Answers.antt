use Rattle.std.proofs.Common.{refl}
use Rattle.clap.proofs.OnLiterals.{clap_on_literals}
use Rattle.command_arguments.specs.Arguments.{arguments_fault}
use Rattle.command_arguments.proofs.laws.arguments_have_these_faults.Goals as goal

pub returns : goal.returns
unfolding clap_on_literals arguments_fault
returns c = record {
  help = refl;
  short_help = refl;
  version = refl;
  short_version = refl;
  help_as_a_command = refl;
  help_on_replay = refl;
  help_first = λ rest. refl;
  help_on_due_first = refl;
  frames_of_nothing = refl;
  frames_twice = refl;
  both_flags = refl;
  woven_twice = refl;
  woven_replay = refl;
  marks_and_frames = refl;
  marks_of_replay = refl;
  one_argument_more = refl;
  one_argument_less = refl;
  investor_and_live = refl;
  investor_of_nothing = refl;
  investor_replay = refl;
  dues_of_one = refl;
  no_command = refl;
}
