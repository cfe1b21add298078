use Rattle.std.proofs.Common.{rules, ◌≡◌, ◌∷◌, ◌++◌, ◌∙◌, sym, ap}
use Rattle.day_checks.specs.Arrivals.{arrival_from, arrivals_at}
use Rattle.day_checks.specs.SweptRooms.{list_of}
use Rattle.day_checks.proofs.ArrivalLemmas.{arrival_more}
use Rattle.day_checks.proofs.arrivals.put_events.Goals as goal

-- what came by one event more
pub loop-event-preserved : goal.loop-event-preserved
loop-event-preserved c =
    let event = c.in-Some.event.now in
    let later = c.in-Some.later.now in
    let firm = c.args.firm in
    let first : c.loop-event.rest.now ≡ event ∷ later = search rules in
    record {
      same = λ room.
          ap (λ own. own ++ arrivals_at room firm later) (c.in_ok-put_event.ensures room)
          ∙ arrival_more (list_of c.loop-event.by_room room) (arrival_from room firm event)
          (arrivals_at room firm later)
          ∙ ap (λ rest. list_of c.loop-event.by_room room ++ arrivals_at room firm rest) (sym first)
          ∙ c.loop-event.invariant.same room;
    }
