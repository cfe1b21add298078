use Rattle.std.proofs.Common.{◌≡◌, ◌∙◌, sym, ap, subst, IsTrue}
use Rattle.investor_desk.specs.InvestorDesk.{DeskEvents}
use Rattle.day_checks.specs.DayChecks.{came_from_investor}
use Rattle.day_checks.specs.LeftResponses.{responses_answered, responses_left}
use Rattle.session_worker.specs.Locks.{InvestorUnderLock}
use Rattle.day_checks.proofs.KeptLemmas.{investor_day_keeps}
use Rattle.session_worker.proofs.investors.LockedInvestor.day_at.Goals as goal

-- what was checked, and what the lock kept
pub returns-clause-keeps : goal.returns-clause-keeps
returns-clause-keeps g c =
    let firm_is : c.self.inside.desk.market.firm ≡ c.args.self.desk.market.firm =
    ap (λ (under : InvestorUnderLock). under.desk.market.firm) c.self.view_is in
    let events_are : c.self.inside.desk.events ≡ c.args.self.desk.events =
    ap (λ (under : InvestorUnderLock). under.desk.events) c.self.view_is in
    let here : c.self.inside.desk.market.firm ≡ c.args.firm = search in
    let so : IsTrue c.is_inbox_of_investor.result = search in
    let own : came_from_investor c.self.inside.desk.events ≡ c.args.session.inbox.items =
    ap came_from_investor (sym c.events.ensures) ∙ c.is_inbox_of_investor.ensures.0 so
    ∙ c.as_slice.ensures.value in
    let all : IsTrue c.are_answered.result = search in
    let desk_is : c.self.inside.desk ≡ c.args.self.desk =
    ap (λ (under : InvestorUnderLock). under.desk) c.self.view_is in
    let answered : responses_answered c.self.inside.desk.events
    ≡ responses_left c.self.inside.desk = ap responses_answered (sym c.events-2.ensures)
    ∙ c.are_answered.ensures.0 all ∙ c.as_slice-2.ensures.value ∙ c.self.invariant.left_is in
    investor_day_keeps g.J.Naming.config c.args.firm c.args.self.desk c.args.self.order
    c.args.session.inbox.items c.args.session.actions.items c.new.result.items
    c.into_day-day.result
    c.into_day-day.ensures.market (sym firm_is ∙ here) c.into_day-day.ensures.day
    (subst (λ events. came_from_investor events ≡ c.args.session.inbox.items) events_are own)
    (subst (λ (desk : DeskEvents). responses_answered desk.events ≡ responses_left desk) desk_is
    answered)
