use Rattle.std.proofs.Common.{◌≡◌, ◌++◌, List, length, ap, ap₂, sym, ◌∙◌}
use Rattle.market_terms.specs.declared.rooms.RoomRef.{RoomRef}
use Rattle.venue_rows.specs.declared.dealer_rows.DealerRow.{DealerRow}
use Rattle.venue_rows.specs.declared.investor_rows.InvestorRow.{InvestorRow}
use Rattle.step_replay.specs.VenueRooms.{requests_of, rooms_from}
use Rattle.input_lines.specs.StepLines.{sweeps_at}
use Rattle.input_lines.specs.RoomLemmas.{rooms_are}
use Rattle.input_lines.proofs.line_steps.push_sweeps.Goals as goal

pub returns : goal.returns
returns c =
    let config = c.args.config.now in
    let rooms : rooms_from (length c.dealers.result.now) (requests_of c.investors.result.now)
    ≡ rooms_from (length config.dealers) (requests_of config.investors) =
    ap₂ (λ (dealers : List DealerRow) (rows : List InvestorRow). rooms_from (length dealers) (requests_of rows))
    c.dealers.ensures.value c.investors.ensures.value in
    c.in_ok-push_sweeps_from.ensures
    ∙ ap (λ (rooms : List RoomRef). c.args.steps.now.items ++ sweeps_at c.args.moment rooms)
    (rooms ∙ sym (rooms_are config))
