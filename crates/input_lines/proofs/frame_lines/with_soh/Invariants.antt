use Rattle.std.proofs.Common.{◌≡◌, take, map}
use Rattle.input_lines.specs.SayLine.{soh_for_bar}
use Rattle.input_lines.proofs.frame_lines.with_soh.Given as goal

abbrev pub invariant-loop-c : goal.invariant-loop-c
invariant-loop-c l = l.bytes.items ≡ map soh_for_bar (take l.c-index l.frame)
