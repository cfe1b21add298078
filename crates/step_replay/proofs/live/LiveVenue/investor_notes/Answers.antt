use Rattle.step_replay.proofs.Common.{◌≡◌, ◌<◌, ◌+◌, arith, length, refl, rules, ap, sym}
use Rattle.step_replay.proofs.Common.{◌∙◌, option_map, Some, InvestorRow, InvestorMarket, lent}
use Rattle.step_replay.proofs.Common.{live_trail, market_of, of_investor, slice_get}
use Rattle.step_replay.proofs.InvestorPlaceLemmas.{behind_places, dealers_number, investor_found}
use Rattle.step_replay.proofs.InvestorPlaceLemmas.{no_investor}
use Rattle.investor_desk.specs.InvestorOutput.{investor_notes}
use Rattle.step_replay.specs.NotedTrail.{NotedSoFar, notes_by}
use Rattle.step_replay.proofs.live.LiveVenue.investor_notes.Goals as goal

pub returns-in_default : goal.returns-in_default
returns-in_default c config steps at =
    let floor = c.args.self.now.replay.floor in
    let count : c.len.result ≡ length floor.dealers.items = search rules in
    let below : c.args.firm < length floor.dealers.items =
    omega (arith, c.in_default.ensures.none refl) in
    ap (option_map (λ (row : InvestorRow). notes_by (market_of config c.args.firm row)
    (of_investor c.args.firm (live_trail config steps).facts)))
    (sym (dealers_number at.stands.replay_stands.floor_stands c.args.firm below))

pub returns-in_default-get : goal.returns-in_default-get
returns-in_default-get c config steps at =
    let floor = c.args.self.now.replay.floor in
    let count : c.len.result ≡ length floor.dealers.items = search rules in
    let is : c.args.firm ≡ length floor.dealers.items + c.in-Some.at =
    omega (arith, c.in-Some.ensures.some) in
    ap (option_map (λ (row : InvestorRow). notes_by (market_of config c.args.firm row)
    (of_investor c.args.firm (live_trail config steps).facts)))
    (sym (no_investor at.stands.replay_stands.floor_stands c.args.firm c.in-Some.at is
    (omega (arith, c.in_default-get.ensures.lookup.3, ap length c.deref.ensures.value))))

pub returns : goal.returns
returns c config steps at =
    let floor = c.args.self.now.replay.floor in
    let facts = (live_trail config steps).facts in
    let stands = at.stands.replay_stands.floor_stands in
    let count : c.len.result ≡ length floor.dealers.items = search rules in
    let is : c.args.firm ≡ length floor.dealers.items + c.in-Some.at =
    omega (arith, c.in-Some.ensures.some) in
    let place = c.in-Some-get.place.now in
    let stood = ap (λ l. slice_get l c.in-Some.at) (sym c.deref.ensures.value)
    ∙ lent c.deref.result.now c.in-Some.at place c.in-Some-get.ensures.lookup.3.0
    c.in-Some-get.ensures.lookup.1 in
    let found = investor_found stands c.in-Some.at (behind_places stands c.in-Some.at is) stood in
    let market = market_of config c.args.firm found.row in
    ap Some (c.notes.ensures
    ∙ ap (λ (m : InvestorMarket). investor_notes m place.desk.events) found.stands.market_is
    ∙ sym (ap (λ (so_far : NotedSoFar). so_far.notes) found.stands.notes_are))
    ∙ ap (option_map (λ (row : InvestorRow). notes_by (market_of config c.args.firm row)
    (of_investor c.args.firm facts))) (sym found.row_is)
