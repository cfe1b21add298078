use Rattle.std.proofs.Common.{◌∙◌, ap}
use Rattle.std.proofs.lemmas.List.{take_all}
use Rattle.investor_views.specs.InvestorDues.{event_dues_from}
use Rattle.investor_dues.proofs.EventLemmas.{desk_more, dues_more}
use Rattle.investor_dues.proofs.events.dues_at.Goals as goal

pub loop-event-preserved : goal.loop-event-preserved
loop-event-preserved c =
    let start = c.args.desk.now in
    let events = c.args.events.now in
    let at = c.loop-event.event-index in
    let had = c.loop-event.invariant in
    record {
      desk_is = desk_more start events at c.event-item.result c.loop-event.desk
          c.loop-event-test.true c.event-item.is had.desk_is c.happen.new.desk
          c.in_ok-happen.ensures;
      dues_are = dues_more start events at c.event-item.result c.loop-event.desk
          c.loop-event-test.true c.event-item.is had.desk_is c.loop-event.dues.items
          c.push.new.self.items c.in_ok-due.due had.dues_are c.in_ok-due.ensures
          c.in_ok-push.ensures.items;
    }

pub returns : goal.returns
returns c =
    c.loop-event.invariant.dues_are
    ∙ ap (event_dues_from c.args.desk.now)
    (take_all c.loop-event.event-index c.args.events.now c.loop-event-test.false)
