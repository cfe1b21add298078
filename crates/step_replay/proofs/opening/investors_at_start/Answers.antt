use Rattle.step_replay.proofs.Common.{◌≡◌, ◌<◌, sym, subst, ◌+◌, length, get_or, arith}
use Rattle.step_replay.proofs.Common.{InvestorsOpen}
use Rattle.step_replay.proofs.InvestorOpeningLemmas.{investors_grow, market_found}
use Rattle.step_replay.proofs.opening.investors_at_start.Goals as goal

pub loop-row-preserved : goal.loop-row-preserved
loop-row-preserved c =
    let config = c.args.config.now in
    let at = c.loop-row.row-index in
    let row = c.row-item.result in
    let rows_are = c.investors-row-items.ensures.value in
    let within = subst (λ l. at < length l) rows_are c.loop-row-test.true in
    let is = subst (λ l. row ≡ get_or l at row) rows_are c.row-item.is in
    let firm_is = c.loop-row.invariant.firm in
    let further : c.loop-row.firm + 1 ≡ length config.dealers + (at + 1) = omega arith in
    record {
      opened = subst (λ l. InvestorsOpen config (at + 1) l) (sym (c.in_ok-push.ensures.items))
          (investors_grow config at row c.loop-row.places.items _ within is
          c.loop-row.invariant.opened (record {
            desk_is = market_found config c.loop-row.firm at row c.in_ok-desk.desk firm_is
                within is c.in_ok-desk.ensures;
            rooms_are = c.in_ok-rooms.ensures;
          }));
      firm = further;
    }
