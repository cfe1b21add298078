use Rattle.step_replay.proofs.Common.{[], arith, nat_tests, dealer_gets, lent}
use Rattle.step_replay.proofs.FoundDealers.{by_found, by_number, dealer_found, leaving, no_dealer_does}
use Rattle.step_replay.proofs.DealerActionLemmas.{gets}
use Rattle.step_replay.proofs.floor.Floor.to_dealer.Goals as goal

pub returns-in_default : goal.returns-in_default
returns-in_default c config facts stands one =
    no_dealer_does config facts c.args.self.now c.from.result c.args.dealer
    (dealer_gets config facts c.args.what) c.nothing.result.items stands
    c.in_default.ensures.item.3 c.from.ensures c.nothing.ensures

pub returns : goal.returns
returns c config facts stands one =
    let action = dealer_gets config facts c.args.what in
    let stood = lent c.args.self.now.dealers.items c.from.result c.in-Some.place.now
    (grind (arith, nat_tests, c.in-Some.ensures.item.0)) c.in-Some.ensures.item.1 in
    let found = dealer_found config facts c.args.self.now c.from.result c.in-Some.place.now stands
    stood in
    leaving config facts _ _ c.in_ok-duties.duties.items [] c.in_ok-duties.ensures.duties
    (by_number config facts c.from.result c.args.dealer action _ [] c.from.ensures
    (by_found config facts c.from.result c.in-Some.place.now found action _ []
    (gets stands found c.bring_to_dealer.new.desk c.args.what c.in_ok-duties.ensures.ok)))
