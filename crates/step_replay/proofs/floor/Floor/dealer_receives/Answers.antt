use Rattle.step_replay.proofs.Common.{arith, nat_tests, received_by_dealer, lent}
use Rattle.step_replay.proofs.FoundDealers.{by_number, no_dealer_does}
use Rattle.step_replay.proofs.DealerAsks.{said_does}
use Rattle.step_replay.proofs.floor.Floor.dealer_receives.Goals as goal

pub returns-in_default : goal.returns-in_default
returns-in_default c config facts stands =
    no_dealer_does config facts c.args.self.now c.from.result c.args.dealer
    (received_by_dealer config facts c.args.moment c.args.bytes.now) c.nothing.result.items stands
    c.in_default.ensures.item.3 c.from.ensures c.nothing.ensures

pub returns : goal.returns
returns c config facts stands =
    let action = received_by_dealer config facts c.args.moment c.args.bytes.now in
    let stood = lent c.args.self.now.dealers.items c.from.result c.in-Some.place.now
    (grind (arith, nat_tests, c.in-Some.ensures.item.0)) c.in-Some.ensures.item.1 in
    by_number config facts c.from.result c.args.dealer action _ _ c.from.ensures
    (said_does config facts c.args.self.now c.from.result c.in-Some.place.now c.args.moment
    c.args.bytes.now c.own_dealer.new.desk c.own_dealer.new.words
    c.in_ok-duties.duties.items stands stood
    (c.what_is_asked_is_of_the_day.ensures.message c.in-Some.place.now.desk c.args.moment
    c.args.bytes.now)
    c.own_dealer.ensures.words c.in_ok-duties.ensures.ok c.in_ok-duties.ensures.duties)
