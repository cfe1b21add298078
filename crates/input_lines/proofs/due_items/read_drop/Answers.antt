use Rattle.std.proofs.Common.{◌<◌, ◌^◌, lit<, arith}
use Rattle.input_lines.proofs.TagLemmas.{number_is_small}
use Rattle.input_lines.proofs.due_items.read_drop.Goals as goal

pub overflow_cast-result : goal.overflow_cast-result
overflow_cast-result c =
    let digits = c.cut_part.result.0.now in
    let small : c.in_ok-last.last < 1000000000 = number_is_small digits c.in_ok-last.last c.in_ok-last.ensures in
    let room : 1000000000 < 2 ^ 32 = lit< tt in
    omega (arith, small, room)
