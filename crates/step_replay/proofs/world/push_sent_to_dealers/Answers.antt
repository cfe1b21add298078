use Rattle.step_replay.proofs.Common.{◌++◌, map, map-id, rules, sym, ap, ◌∙◌, YieldsList-from_vec}
use Rattle.step_replay.proofs.Common.{YieldsList-end, dealer_day_at}
use Rattle.std.proofs.Common.{append-nil}
use Rattle.step_replay.proofs.DayLemmas.{mapped_more}
use Rattle.step_replay.proofs.world.push_sent_to_dealers.Goals as goal

pub loop-place-init : goal.loop-place-init
loop-place-init c = sym (append-nil _)

pub loop-place-preserved : goal.loop-place-preserved
loop-place-preserved c =
    mapped_more (λ sent. sent.items) (λ place. (dealer_day_at place).sent) _
    c.loop-place.yielded c.loop-place.all.items c.push.new.self.items c.in-Some.place
    c.into_sent.result c.loop-place.invariant c.in_ok-push.ensures.items c.into_sent.ensures

pub returns : goal.returns
returns c =
    let end = YieldsList-end (YieldsList-from_vec {s = c.into_iter-place-iterator.result}
    c.args.dealers.items (search rules) (search rules)) c.loop-place.yielded
    c.loop-place.place-iterator c.loop-place.yielded_by c.next.result c.next.new.self c.in-None.is
    c.next.ensures.steps in
    c.loop-place.invariant
    ∙ ap (λ places. map (λ sent. sent.items) c.args.all.now.items
    ++ map (λ place. (dealer_day_at place).sent) places)
    (sym (map-id c.loop-place.yielded) ∙ end.0)
