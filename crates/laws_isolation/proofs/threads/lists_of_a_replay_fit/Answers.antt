use Rattle.std.proofs.Common.{◌≡◌, ◌∙◌, Option, sym, subst}
use Rattle.investor_desk.specs.InvestorDesk.{market_of}
use Rattle.investor_desk.specs.InvestorRules.{InvestorMarket}
use Rattle.step_replay.specs.AuditTrail.{audit_trail}
use Rattle.step_replay.specs.InvestorEvents.{happened_to}
use Rattle.investor_views.specs.DeskView.{desk_view}
use Rattle.investor_views.specs.InvestorDues.{dues_where}
use Rattle.investor_views.specs.InvestorView.{investor_view, seen_by}
use Rattle.laws_isolation.proofs.DayLemmas.{market_is}
use Rattle.laws_isolation.proofs.threads.lists_of_a_replay_fit.Goals as goal

pub returns : goal.returns
returns c config steps investor row here =
    let desks = c.desks_send_their_view.ensures in
    let market = market_of config investor row in
    let happened = happened_to investor (audit_trail config steps) in
    subst (λ (found : Option InvestorMarket). desk_view (seen_by config row) (dues_where found happened)
    ≡ investor_view (seen_by config row) (dues_where found happened))
    (sym (market_is config investor row here))
    (sym (desks.by_events market happened)
    ∙ desks.fitting market happened (desks.fit config steps investor row here))
