use Rattle.std.proofs.Common.{◌≡◌, ◌∙◌, sym, ap, subst, IsTrue}
use Rattle.day_checks.specs.DayChecks.{came_from_dealer}
use Rattle.recorded_days.specs.Records.{DealerLists}
use Rattle.session_worker.specs.Locks.{DealerUnderLock}
use Rattle.day_checks.specs.KeptDays.{DealerStands}
use Rattle.session_worker.proofs.KeepLemmas.{day_keeps, dealer_stands}
use Rattle.session_worker.proofs.dealers.LockedDealer.day_at.Goals as goal

-- what was checked, and what the lock kept
pub returns-clause-keeps : goal.returns-clause-keeps
returns-clause-keeps g c =
    let firm_is : c.self.inside.firm ≡ c.args.self.firm =
    ap (λ (under : DealerUnderLock). under.firm) c.self.view_is in
    let events_are : c.self.inside.desk.events ≡ c.args.self.desk.events =
    ap (λ (under : DealerUnderLock). under.desk.events) c.self.view_is in
    let here : c.self.inside.firm ≡ c.args.place = search in
    let so : IsTrue c.is_inbox_of_dealer.result = search in
    let own : came_from_dealer c.self.inside.desk.events ≡ c.args.session.inbox.items =
    ap came_from_dealer (sym c.events.ensures) ∙ c.is_inbox_of_dealer.ensures.0 so
    ∙ c.as_slice.ensures.value in
    let kept = c.into_day-day.ensures.kept in
    day_keeps c.recorded_dealers_are_sent_their_view.ensures g.J.Naming.board g.J.Naming.config
    c.args.self.firm c.args.self.first c.args.place c.args.self.desk c.args.self.seen
    c.args.self.order c.args.session.inbox.items c.args.session.actions.items c.into_day-day.result
    kept (sym firm_is ∙ here) c.into_day-day.ensures.day
    (subst (λ events. came_from_dealer events ≡ c.args.session.inbox.items) events_are own)

-- each settlement at the desk stands in what the lock had seen
pub returns-clause-stands : goal.returns-clause-stands
returns-clause-stands g c =
    let seen_is : c.self.inside.seen.log ≡ c.args.self.seen.log =
    ap (λ (under : DealerUnderLock). under.seen.log) c.self.view_is in
    let events_are : c.into_day-day.result.events ≡ c.self.inside.desk.events =
    ap (λ (day : DealerLists). day.events) c.into_day-day.ensures.day
    ∙ sym (ap (λ (under : DealerUnderLock). under.desk.events) c.self.view_is) in
    let here : c.self.inside.firm ≡ c.args.place = search in
    subst (λ log. DealerStands g.J.Naming.config log c.args.place c.into_day-day.result) seen_is
    (dealer_stands g.J.Naming.board g.J.Naming.config c.self.inside.firm c.self.inside.first_word
    c.args.place c.self.inside.desk c.self.inside.seen c.into_day-day.result c.self.invariant here
    events_are)
