use Rattle.std.proofs.Common.{List, ◌++◌, sym, subst, take}
use Rattle.std.proofs.lemmas.List.{append-nil, take_all}
use Rattle.step_replay.specs.LiveStanding.{IsAt}
use Rattle.step_replay.specs.declared.steps.Step.{Step}
use Rattle.investor_texts.proofs.LineLemmas.{one_more}
use Rattle.investor_texts.proofs.line_days.follow_all.Goals as goal

pub loop-step-init : goal.loop-step-init
loop-step-init c steps had =
    subst (λ (l : List Step). IsAt c.args.config.now l c.args.venue.now) (sym (append-nil steps)) had

pub loop-step-preserved : goal.loop-step-preserved
loop-step-preserved c steps had =
    let at = c.loop-step.step-index in
    let more = c.args.more.now in
    let answers = c.in-Ok.ensures.ok (steps ++ take at more) (c.loop-step.invariant steps had) in
    subst (λ (l : List Step). IsAt c.args.config.now l c.step.new.self)
    (one_more steps more at c.step-item.result c.loop-step-test.true c.step-item.is)
    answers.stands

pub returns : goal.returns
returns c steps had =
    subst (λ (l : List Step). IsAt c.args.config.now (steps ++ l) c.loop-step.venue)
    (take_all c.loop-step.step-index c.args.more.now c.loop-step-test.false)
    (c.loop-step.invariant steps had)
