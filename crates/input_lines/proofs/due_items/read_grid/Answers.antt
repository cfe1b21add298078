use Rattle.std.proofs.Common.{◌<◌, ◌^◌, lit<, arith}
use Rattle.input_lines.proofs.TagLemmas.{number_is_small}
use Rattle.input_lines.proofs.due_items.read_grid.Goals as goal

pub overflow_cast-steps : goal.overflow_cast-steps
overflow_cast-steps c =
    let small : c.in_ok-steps.steps < 1000000000 = number_is_small c.cut_part-2.result.0.now c.in_ok-steps.steps c.in_ok-steps.ensures in
    let room : 1000000000 < 2 ^ 32 = lit< tt in
    omega (arith, small, room)
