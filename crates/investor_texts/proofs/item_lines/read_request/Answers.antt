use Rattle.std.proofs.Common.{◌<◌, ◌^◌, lit<, arith}
use Rattle.investor_texts.proofs.item_lines.read_request.Goals as goal
use Rattle.input_lines.proofs.TagLemmas.{number_is_small}

pub overflow_cast-result : goal.overflow_cast-result
overflow_cast-result c =
    let small : c.in_ok-request.request < 1000000000 =
    number_is_small c.args.text.now c.in_ok-request.request c.in_ok-request.ensures in
    let room : 1000000000 < 2 ^ 32 = lit< tt in
    omega (arith, small, room)
