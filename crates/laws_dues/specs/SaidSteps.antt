-- Steps by the messages that they bring.
use Rattle.std.specs.Prelude.{◌==◌, Bool, true, not, length}
use Rattle.step_replay.specs.declared.steps.Step.{Step}
use Rattle.step_replay.specs.declared.steps.Step.TheVariants as step

-- whether a step brings no message without a byte
abbrev pub has_bytes : Step → Bool
has_bytes (step.In firm moment message) = not (length message == 0)
has_bytes other = true
