use Rattle.std.proofs.Common.{List, ◌++◌, ◌∷◌, [], ◌∙◌, ap, subst, sym, take}
use Rattle.std.proofs.lemmas.List.{take_all, take_more}
use Rattle.step_replay.specs.SteppedStanding.{IsAfter}
use Rattle.step_replay.specs.declared.steps.Step.{Step}
use Rattle.investor_dues.proofs.days.after.Goals as goal

pub loop-step-preserved : goal.loop-step-preserved
loop-step-preserved c =
    let steps = c.args.steps.now in
    let at = c.loop-step.step-index in
    subst (λ (l : List Step). IsAfter c.args.config.now l c.step.new.self)
    (sym (take_more steps at c.step-item.result c.loop-step-test.true
    ∙ ap (λ (found : Step). take at steps ++ found ∷ []) (sym c.step-item.is)))
    (c.in-Ok.ensures.ok (take at steps) c.loop-step.invariant)

pub returns : goal.returns
returns c =
    subst (λ (l : List Step). IsAfter c.args.config.now l c.loop-step.venue)
    (take_all c.loop-step.step-index c.args.steps.now c.loop-step-test.false)
    c.loop-step.invariant
