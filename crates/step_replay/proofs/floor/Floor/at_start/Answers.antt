use Rattle.step_replay.proofs.Common.{◌≡◌, ◌<◌, ◌≤◌, ap, ◌∙◌, length, arith, quotes_of}
use Rattle.std.proofs.Common.{◌^◌, lit<}
use Rattle.step_replay.proofs.OpeningLemmas.{owners_count}
use Rattle.step_replay.proofs.floor.Floor.at_start.Goals as goal

pub overflow_cast-len : goal.overflow_cast-len
overflow_cast-len c =
    let rows = c.args.config.now.dealers in
    let count : c.len.result ≡ quotes_of rows =
    c.len.ensures ∙ c.in_ok-owners.owners.ok.0 ∙ ap length c.in_ok-owners.ensures.owners ∙ owners_count 0 rows in
    let most : quotes_of rows ≤ 65536 = c.owners_of_words.ensures.limits.quotes_most in
    let room : 65536 < 2 ^ 32 = lit< tt in
    omega (arith, count, most, room)
