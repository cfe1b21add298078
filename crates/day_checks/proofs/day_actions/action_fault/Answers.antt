use Rattle.std.proofs.Common.{ℕ, Option, length, not, position}
use Rattle.recorded_days.specs.Records.{DealerLists, InvestorLists, RecordedDay}
use Rattle.day_checks.specs.DayActions.{is_dealer_left, is_investor_left}
use Rattle.day_checks.proofs.ActionLemmas.{place_in_first, place_in_neither, place_in_second}
use Rattle.day_checks.proofs.day_actions.action_fault.Goals as goal

-- the places of the first of the dealers and of the investors
abbrev dealer_place : RecordedDay → Option ℕ
dealer_place day = position (λ (dealer : DealerLists). not (is_dealer_left day dealer)) day.dealers

abbrev investor_place : RecordedDay → Option ℕ
investor_place day =
    position (λ (investor : InvestorLists). not (is_investor_left day investor)) day.investors

pub returns-in-Some : goal.returns-in-Some
returns-in-Some c =
    let day : RecordedDay = record {
      dealers = c.args.dealers.now;
      investors = c.args.investors.now;
      clock = c.args.clock.now;
    } in
    place_in_first (dealer_place day) (investor_place day) (length c.args.dealers.now)
    c.in-Some.place c.firm_number-number.result c.in-Some.ensures c.firm_number-number.ensures

pub returns-in_err-place : goal.returns-in_err-place
returns-in_err-place c =
    let day : RecordedDay = record {
      dealers = c.args.dealers.now;
      investors = c.args.investors.now;
      clock = c.args.clock.now;
    } in
    rw c.from_residual.ensures
    (place_in_neither (dealer_place day) (investor_place day) (length c.args.dealers.now)
    c.in_default.ensures c.in_err-place.ensures)

pub returns : goal.returns
returns c =
    let day : RecordedDay = record {
      dealers = c.args.dealers.now;
      investors = c.args.investors.now;
      clock = c.args.clock.now;
    } in
    place_in_second (dealer_place day) (investor_place day) (length c.args.dealers.now)
    c.in_ok-place.place c.saturating_add-behind.result c.firm_number-firm.result
    c.in_default.ensures c.in_ok-place.ensures c.saturating_add-behind.ensures
    c.firm_number-firm.ensures
