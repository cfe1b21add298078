use Rattle.std.proofs.Common.{◌<◌, arith, length}
use Rattle.std.proofs.lemmas.Option.{slice_get_within}
use Rattle.day_weaving.proofs.SearchEnds.{all_placed}
use Rattle.day_weaving.proofs.weave_order.order_of.Goals as goal

pub loop-index-init : goal.loop-index-init
loop-index-init c = record {
  stands = c.in_ok-state.ensures c.args.day.now;
  come = λ place slot below there. absurd (omega (arith, below));
}

pub returns : goal.returns
returns c =
    let table = c.in_ok-table.table in
    all_placed c.args.day.now table c.loop-index.state c.in_ok-table.ensures
    c.loop-index.invariant.stands
    (λ place slot there.
    let within : place < length table.slots.items =
    slice_get_within table.slots.items place slot there in
    let below : place < c.loop-index.index = omega (arith, within, table.slots.ok.0) in
    c.loop-index.invariant.come place slot below there)
