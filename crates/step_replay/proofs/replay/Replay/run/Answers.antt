use Rattle.step_replay.proofs.Common.{map-id, rules, sym, subst, ◌∙◌, YieldsList-from_vec}
use Rattle.step_replay.proofs.Common.{YieldsList-end, after_steps, ReplayStands}
use Rattle.std.proofs.lemmas.Iterator.Consumers.{YieldsList-turn}
use Rattle.step_replay.proofs.StartLemmas.{step_done}
use Rattle.step_replay.proofs.replay.Replay.run.Goals as goal

pub loop-step-init : goal.loop-step-init
loop-step-init c config trail known stands = stands

pub loop-step-preserved : goal.loop-step-preserved
loop-step-preserved c config trail known stands =
    let done = c.loop-step.yielded in
    let step = c.in-Some.step in
    let turn = YieldsList-turn (YieldsList-from_vec {s = c.into_iter-step-iterator.result}
    c.args.steps.items (search rules) (search rules)) done c.loop-step.step-iterator
    c.loop-step.yielded_by c.next.result c.next.new.self step c.in-Some.is
    c.next.ensures.steps in
    step_done config trail c.args.steps.items done step c.loop-step.self c.follow.new.self known
    turn.0 turn.1 c.in_ok-follow.ensures (c.loop-step.invariant config trail known stands)

pub returns : goal.returns
returns c config trail known stands =
    let done = c.loop-step.yielded in
    let end = YieldsList-end (YieldsList-from_vec {s = c.into_iter-step-iterator.result}
    c.args.steps.items (search rules) (search rules)) done c.loop-step.step-iterator
    c.loop-step.yielded_by c.next.result c.next.new.self c.in-None.is c.next.ensures.steps in
    subst (λ steps. ReplayStands config (after_steps steps config trail) c.loop-step.self)
    (sym (map-id done) ∙ end.0) (c.loop-step.invariant config trail known stands)
