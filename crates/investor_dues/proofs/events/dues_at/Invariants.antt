use Rattle.std.proofs.Common.{◌≡◌, fold, take}
use Rattle.investor_desk.specs.InvestorDesk.{with_event}
use Rattle.investor_views.specs.InvestorDues.{event_dues_from}
use Rattle.investor_dues.proofs.events.dues_at.Given as goal

abbrev pub invariant-loop-event : goal.invariant-loop-event
invariant-loop-event l = record {
  desk_is : l.desk ≡ fold with_event l.fn.desk (take l.event-index l.events);
  dues_are : l.dues.items ≡ event_dues_from l.fn.desk (take l.event-index l.events);
}
