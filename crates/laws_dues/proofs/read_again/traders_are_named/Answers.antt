use Rattle.std.proofs.Common.{◌<◌, ◌≤◌, length, sym, ap, ◌∙◌, arith}
use Rattle.std.specs.List.{list_all}
use Rattle.std.proofs.lemmas.List.{take_all}
use Rattle.venue_rows.specs.Texts.{is_name}
use Rattle.laws_dues.proofs.TraderNames.{named_more}
use Rattle.laws_dues.proofs.read_again.traders_are_named.Goals as goal

pub loop-place-preserved : goal.loop-place-preserved
loop-place-preserved c =
    let count = c.len-place-end.ensures.value in
    let within : c.loop-place.place < length c.args.traders.now =
    omega (arith, count, c.loop-place-test.true) in
    named_more c.args.traders.now c.loop-place.place within c.loop-place.invariant
    c.trader_is_named.ensures

pub returns : goal.returns
returns c =
    let count = c.len-place-end.ensures.value in
    let past : length c.args.traders.now ≤ c.loop-place.place =
    omega (arith, count, c.loop-place-test.false) in
    ap (list_all is_name) (sym (take_all c.loop-place.place c.args.traders.now past))
    ∙ c.loop-place.invariant
