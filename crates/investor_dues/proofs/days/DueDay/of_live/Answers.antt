use Rattle.std.proofs.Common.{List, ◌∙◌, ap}
use Rattle.venue_rows.specs.Rows.{investor_numbered}
use Rattle.investor_desk.specs.InvestorDesk.{market_for}
use Rattle.investor_desk.specs.declared.events.InvestorEvent.{InvestorEvent}
use Rattle.step_replay.specs.InvestorEvents.{happened_to}
use Rattle.step_replay.specs.LiveDays.{live_trail}
use Rattle.investor_views.specs.InvestorDues.{dues_where}
use Rattle.investor_dues.proofs.EventLemmas.{events_are}
use Rattle.investor_dues.proofs.days.DueDay.of_live.Goals as goal

pub returns : goal.returns
returns c steps at =
    let config = c.args.config.now in
    record {
      dues_are = c.in_ok-dues.ensures
          ∙ ap (λ (l : List InvestorEvent). dues_where (market_for config c.args.investor) l)
          (events_are (investor_numbered config c.args.investor) c.in-Some.happened.now
          (happened_to c.args.investor (live_trail config steps))
          (c.in-Some.ensures config steps at));
      world_is = c.into_world.ensures config steps at;
    }
