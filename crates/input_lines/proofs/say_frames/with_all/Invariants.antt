use Rattle.std.proofs.Common.{◌≡◌, take, fold}
use Rattle.input_lines.specs.SayLine.{with_field}
use Rattle.input_lines.proofs.say_frames.with_all.Given as goal

abbrev pub invariant-loop-field : goal.invariant-loop-field
invariant-loop-field l = l.frame ≡ fold with_field l.initial.frame (take l.field-index l.body)
