use Rattle.step_replay.proofs.Common.{◌≡◌, ◌<◌, ◌+◌, arith, length, refl, rules, nat_tests}
use Rattle.step_replay.proofs.Common.{investor_gets, lent}
use Rattle.step_replay.proofs.FoundDealers.{leaving}
use Rattle.step_replay.proofs.InvestorPlaceLemmas.{behind_places, dealers_number, no_investor}
use Rattle.step_replay.proofs.InvestorPlaceLemmas.{investor_does, no_investor_does}
use Rattle.step_replay.proofs.floor.Floor.to_investor.Goals as goal

pub returns-in_default : goal.returns-in_default
returns-in_default c config facts stands one =
    let count : c.len.result ≡ length c.args.self.now.dealers.items = search rules in
    let below : c.args.firm < length c.args.self.now.dealers.items =
    omega (arith, c.in_default.ensures.none refl) in
    no_investor_does c.args.firm (investor_gets facts c.args.what) stands
    (dealers_number stands c.args.firm below) c.nothing.ensures

pub returns-in_default-get_mut : goal.returns-in_default-get_mut
returns-in_default-get_mut c config facts stands one =
    let count : c.len.result ≡ length c.args.self.now.dealers.items = search rules in
    let is : c.args.firm ≡ length c.args.self.now.dealers.items + c.in-Some.at =
    omega (arith, c.in-Some.ensures.some) in
    no_investor_does c.args.firm (investor_gets facts c.args.what) stands
    (no_investor stands c.args.firm c.in-Some.at is c.in_default-get_mut.ensures.item.3)
    c.nothing-in_default-get_mut.ensures

pub returns : goal.returns
returns c config facts stands one =
    let count : c.len.result ≡ length c.args.self.now.dealers.items = search rules in
    let is : c.args.firm ≡ length c.args.self.now.dealers.items + c.in-Some.at =
    omega (arith, c.in-Some.ensures.some) in
    let stood = lent c.args.self.now.investors.items c.in-Some.at c.in-Some-get_mut.place.now
    (grind (arith, nat_tests, c.in-Some-get_mut.ensures.item.0)) c.in-Some-get_mut.ensures.item.1 in
    leaving config facts _ _ c.in_ok-duties.duties.items _ c.in_ok-duties.ensures.duties
    (investor_does c.in-Some.at stands (behind_places stands c.in-Some.at is) stood
    c.bring_to_investor.new.desk c.args.what c.in_ok-duties.ensures.ok)
