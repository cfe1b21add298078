use Rattle.std.proofs.Common.{◌<◌, ◌^◌, lit<, arith}
use Rattle.input_lines.proofs.TagLemmas.{number_is_small}
use Rattle.input_lines.proofs.due_items.read_lifted.Goals as goal

pub overflow_cast-result : goal.overflow_cast-result
overflow_cast-result c =
    let small : c.in_ok-quote.quote < 1000000000 = number_is_small c.args.text.now c.in_ok-quote.quote c.in_ok-quote.ensures in
    let room : 1000000000 < 2 ^ 32 = lit< tt in
    omega (arith, small, room)
