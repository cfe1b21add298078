use Rattle.std.proofs.Common.{◌∙◌}
use Rattle.investor_desk.specs.InvestorDesk.{market_for}
use Rattle.investor_dues.proofs.EventLemmas.{at_start}
use Rattle.investor_dues.proofs.events.dues_by_events.Goals as goal

pub returns : goal.returns
returns c =
    c.in_ok-dues.ensures
    ∙ at_start (market_for c.args.config.now c.args.investor) c.in_ok-desk.desk c.args.events.now
    c.in_ok-desk.ensures
