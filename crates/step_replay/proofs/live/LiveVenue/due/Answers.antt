use Rattle.step_replay.proofs.Common.{◌≡◌, ◌≤◌, Option, Some, false, is_some, length, true, ap, ◌∙◌}
use Rattle.step_replay.proofs.Common.{subst, arith, dealer_numbered, DealerRow, live_trail}
use Rattle.step_replay.proofs.FoundDealers.{found_read, no_dealer}
use Rattle.step_replay.proofs.live.LiveVenue.due.Goals as goal

pub returns-in_default-clause-dues : goal.returns-in_default-clause-dues
returns-in_default-clause-dues c config steps at some =
    let floor = c.args.self.now.replay.floor in
    let past : length floor.dealers.items ≤ c.args.dealer =
    omega (arith, c.from.ensures, c.in_default.ensures.lookup.3, ap length c.deref.ensures.value) in
    let never : false ≡ true = subst (λ (row : Option DealerRow). is_some row ≡ true)
    (no_dealer config (live_trail config steps).facts floor c.args.dealer
    at.stands.replay_stands.floor_stands past) some in
    cc

pub returns-clause-dues : goal.returns-clause-dues
returns-clause-dues c config steps at some =
    let found = found_read config (live_trail config steps).facts c.args.self.now.replay.floor
    c.args.dealer c.from.result c.deref.result.now c.in-Some.place.now
    at.stands.replay_stands.floor_stands c.from.ensures c.deref.ensures.value
    c.in-Some.ensures.lookup.3.0 c.in-Some.ensures.lookup.1 in
    c.in_ok-dues.ensures ∙ found.stands.dues_are

-- there is no place at a number that no dealer has
pub returns-clause-no_dealer : goal.returns-clause-no_dealer
returns-clause-no_dealer c config steps at none =
    let found = found_read config (live_trail config steps).facts c.args.self.now.replay.floor
    c.args.dealer c.from.result c.deref.result.now c.in-Some.place.now
    at.stands.replay_stands.floor_stands c.from.ensures c.deref.ensures.value
    c.in-Some.ensures.lookup.3.0 c.in-Some.ensures.lookup.1 in
    let there : dealer_numbered config c.args.dealer ≡ Some found.row = found.row_is in
    cc
