use Rattle.step_replay.proofs.Common.{◌∙◌, ap, refl, Ask, book_at, verdict_at, with_event}
use Rattle.step_replay.proofs.Common.{number_to_drop, word_asked, after_due, no_room}
use Rattle.dealer_desk.specs.declared.events.DealerEvent.TheVariants as event
use Rattle.step_replay.proofs.ItemLemmas.{asking_stands, closed_happens, lifted_happens}
use Rattle.step_replay.proofs.ItemLemmas.{shown_happens}
use Rattle.step_replay.proofs.dealer_view.do_due.Goals as goal

pub returns-in_ok-receive_own-in-Own-clause-ok : goal.returns-in_ok-receive_own-in-Own-clause-ok
unfolding after_due
returns-in_ok-receive_own-in-Own-clause-ok c =
    let moment = c.in-Own.moment in
    rw c.in-Own.is (asking_stands c.quotes_are_withdrawn_event_by_event.ensures
    (λ desk. word_asked (verdict_at desk moment c.in-Own.message))
    (λ settlement. event.Received moment c.in-Own.message settlement) (λ desk settlement. refl)
    c.args.desk.now c.receive_own.new.desk c.args.words.now c.receive_own.new.words
    c.requires c.receive_own.ensures.asked c.in_ok-receive_own-in-Own.ensures.ok
    c.receive_own.ensures.words)

pub returns-in_ok-show-in-Shown-clause-ok : goal.returns-in_ok-show-in-Shown-clause-ok
returns-in_ok-show-in-Shown-clause-ok c =
    let shown = λ (ask : Ask).
    with_event c.args.desk.now (event.Shown no_room ask c.in-Shown.moment) in
    rw c.in-Shown.is (shown_happens c.quotes_are_withdrawn_event_by_event.ensures c.args.desk.now
    c.show.new.self c.args.words.now c.in-Shown.ask c.in-Shown.moment
    (c.in_ok-show-in-Shown.ensures.ok ∙ ap shown c.copy.ensures))

pub returns-in-Lifted-clause-ok : goal.returns-in-Lifted-clause-ok
returns-in-Lifted-clause-ok c =
    rw c.in-Lifted.is (lifted_happens c.args.desk.now c.args.words.now c.lift.new.words
    c.in-Lifted.quote c.requires c.lift.ensures.lifted)

pub returns-in_ok-tell_request-in-Closed-clause-ok :
    goal.returns-in_ok-tell_request-in-Closed-clause-ok
returns-in_ok-tell_request-in-Closed-clause-ok c =
    rw c.in-Closed.is (closed_happens c.quotes_are_withdrawn_event_by_event.ensures
    c.args.desk.now c.tell_request.new.self c.args.words.now c.in-Closed.request c.in-Closed.close
    c.in-Closed.moment c.in_ok-tell_request-in-Closed.ensures.ok)

pub returns-in_ok-drop_next-in-Drop-clause-ok : goal.returns-in_ok-drop_next-in-Drop-clause-ok
unfolding after_due
returns-in_ok-drop_next-in-Drop-clause-ok c =
    let last = c.in-Drop.last in
    rw c.in-Drop.is (asking_stands c.quotes_are_withdrawn_event_by_event.ensures
    (λ desk. number_to_drop (book_at desk) last)
    (λ settlement. event.Drop last c.in-Drop.moment settlement) (λ desk settlement. refl)
    c.args.desk.now c.drop_next.new.desk c.args.words.now c.drop_next.new.words
    c.requires c.drop_next.ensures.asked c.in_ok-drop_next-in-Drop.ensures.ok
    c.drop_next.ensures.words)
