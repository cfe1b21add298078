use Rattle.std.proofs.Common.{rules, ◌≡◌, [], ◌∷◌, ◌∙◌, sym, ap, false, true, length}
use Rattle.request_room.specs.Book.{room_after}
use Rattle.day_checks.specs.NextItems.{with_next}
use Rattle.day_checks.specs.RoomOutputs.{may_be_tried, output_of, outputs_from}
use Rattle.day_checks.proofs.OutputLemmas.{all_tried, behind, behind_nothing, tried_more}
use Rattle.day_checks.proofs.OutputLemmas.{tried_never}
use Rattle.day_checks.proofs.room_outputs.outputs_of.Goals as goal

-- nothing was tried yet
pub loop-event-init : goal.loop-event-init
loop-event-init c =
    let events = c.args.events.now in
    let none : c.new-outputs.result.items ≡ [] = search rules in
    let vacant : c.vacant-room.result ≡ [] = search rules in
    record {
      same = ap (λ done. behind done (outputs_from (room_after c.vacant-room.result) events)) none
          ∙ behind_nothing (outputs_from (room_after c.vacant-room.result) events)
          ∙ ap (λ own. outputs_from (room_after own) events) vacant
          ∙ ap (λ facts. outputs_from facts events) c.facts_after_one_event_more.ensures.begins;
    }

-- an event that may not be tried
pub returns-then-not-may_be_tried : goal.returns-then-not-may_be_tried
returns-then-not-may_be_tried c =
    let event = c.in-Some.event.now in
    let later = c.in-Some.later.now in
    let facts = room_after c.loop-event.room in
    let done = c.loop-event.outputs.items in
    let first : c.loop-event.rest.now ≡ event ∷ later = search rules in
    let may : may_be_tried facts event ≡ false = search rules in
    sym (tried_never facts event later done may)
    ∙ ap (λ own. behind done (outputs_from facts own)) (sym first)
    ∙ c.loop-event.invariant.same

-- one event more is tried
pub loop-event-preserved : goal.loop-event-preserved
loop-event-preserved c =
    let event = c.in-Some.event.now in
    let later = c.in-Some.later.now in
    let facts = room_after c.loop-event.room in
    let done = c.loop-event.outputs.items in
    let first : c.loop-event.rest.now ≡ event ∷ later = search rules in
    let may : may_be_tried facts event ≡ true = search rules in
    record {
      same = ap (λ own. behind own (outputs_from (room_after c.try_event.new.room) later))
          c.in_ok-try_event.ensures.outputs
          ∙ ap (λ own. behind (with_next done (output_of facts event))
          (outputs_from (room_after own) later)) c.in_ok-try_event.ensures.room
          ∙ ap (λ own. behind (with_next done (output_of facts event)) (outputs_from own later))
          (c.facts_after_one_event_more.ensures.more c.loop-event.room event)
          ∙ tried_more facts event later done may
          ∙ ap (λ own. behind done (outputs_from facts own)) (sym first)
          ∙ c.loop-event.invariant.same;
    }

-- all were tried
pub returns : goal.returns
returns c =
    let none : length c.loop-event.rest.now ≡ 0 = search rules in
    all_tried (room_after c.loop-event.room) c.loop-event.rest.now c.loop-event.outputs.items none
    ∙ c.loop-event.invariant.same
