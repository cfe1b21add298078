use Rattle.step_replay.proofs.Common.{◌≡◌, ◌<◌, ◌+◌, arith, length, refl, rules, ap, sym}
use Rattle.step_replay.proofs.Common.{◌∙◌, option_map, Some, InvestorRow, lent, of_investor, slice_get}
use Rattle.step_replay.proofs.InvestorPlaceLemmas.{behind_places, dealers_number, investor_found}
use Rattle.step_replay.proofs.InvestorPlaceLemmas.{no_investor}
use Rattle.step_replay.proofs.live_notes.events_on.Goals as goal
use Rattle.step_replay.specs.InvestorEvents.{events_of}

pub returns-in_default : goal.returns-in_default
returns-in_default c config facts stands =
    let floor = c.args.floor.now in
    let count : c.len.result ≡ length floor.dealers.items = search rules in
    let below : c.args.firm < length floor.dealers.items =
    omega (arith, c.in_default.ensures.none refl) in
    ap (option_map (λ (row : InvestorRow). events_of (of_investor c.args.firm facts)))
    (sym (dealers_number stands c.args.firm below))

pub returns-in_default-get : goal.returns-in_default-get
returns-in_default-get c config facts stands =
    let floor = c.args.floor.now in
    let count : c.len.result ≡ length floor.dealers.items = search rules in
    let is : c.args.firm ≡ length floor.dealers.items + c.in-Some.at =
    omega (arith, c.in-Some.ensures.some) in
    ap (option_map (λ (row : InvestorRow). events_of (of_investor c.args.firm facts)))
    (sym (no_investor stands c.args.firm c.in-Some.at is
    (omega (arith, c.in_default-get.ensures.lookup.3, ap length c.deref.ensures.value))))

pub returns : goal.returns
returns c config facts stands =
    let floor = c.args.floor.now in
    let count : c.len.result ≡ length floor.dealers.items = search rules in
    let is : c.args.firm ≡ length floor.dealers.items + c.in-Some.at =
    omega (arith, c.in-Some.ensures.some) in
    let place = c.in-Some-get.place.now in
    let stood = ap (λ l. slice_get l c.in-Some.at) (sym c.deref.ensures.value)
    ∙ lent c.deref.result.now c.in-Some.at place c.in-Some-get.ensures.lookup.3.0
    c.in-Some-get.ensures.lookup.1 in
    let found = investor_found stands c.in-Some.at (behind_places stands c.in-Some.at is) stood in
    ap Some (c.events.ensures ∙ found.stands.events_are)
    ∙ ap (option_map (λ (row : InvestorRow). events_of (of_investor c.args.firm facts)))
    (sym found.row_is)
