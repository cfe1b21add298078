use Rattle.step_replay.proofs.Common.{arith, nat_tests, dropped_by, lent}
use Rattle.step_replay.proofs.FoundDealers.{by_number, no_dealer_does}
use Rattle.step_replay.proofs.DealerAsks.{drop_does}
use Rattle.step_replay.proofs.floor.Floor.drop_next.Goals as goal

pub returns-in_default : goal.returns-in_default
returns-in_default c config facts stands one =
    no_dealer_does config facts c.args.self.now c.from.result c.args.dealer
    (dropped_by config facts c.args.last c.args.moment) c.nothing.result.items stands
    c.in_default.ensures.item.3 c.from.ensures c.nothing.ensures

pub returns : goal.returns
returns c config facts stands one =
    let action = dropped_by config facts c.args.last c.args.moment in
    let stood = lent c.args.self.now.dealers.items c.from.result c.in-Some.place.now
    (grind (arith, nat_tests, c.in-Some.ensures.item.0)) c.in-Some.ensures.item.1 in
    by_number config facts c.from.result c.args.dealer action _ _ c.from.ensures
    (drop_does config facts c.args.self.now c.from.result c.in-Some.place.now c.args.last
    c.args.moment c.do_drop.new.desk c.do_drop.new.words c.in_ok-duties.duties.items stands
    stood
    (c.what_is_asked_is_of_the_day.ensures.drop c.in-Some.place.now.desk c.args.last)
    c.do_drop.ensures.words c.in_ok-duties.ensures.ok c.in_ok-duties.ensures.duties)
