use Rattle.std.proofs.Common.{◌++◌, ◌∷◌, [], List, take, sym, subst}
use Rattle.step_replay.specs.LiveDays.{Sent}
use Rattle.step_replay.specs.declared.steps.Step.{Step}
use Rattle.venue_text.specs.LiveAnswers.{AreTold}
use Rattle.venue_text.proofs.LiveLemmas.{one_more, told_more, told_none}
use Rattle.venue_text.proofs.live_lines.taken_all.Goals as goal

-- NOT CHECKED
pub loop-step-init : goal.loop-step-init
loop-step-init c taken at =
    subst (λ (l : List Sent). AreTold c.args.config.now taken [] c.args.venue.now l)
    (sym c.new-told.ensures.items) (told_none c.args.config.now taken c.args.venue.now at)

pub loop-step-preserved : goal.loop-step-preserved
loop-step-preserved c taken at =
    let config = c.args.config.now in
    let steps = c.args.steps.now in
    let index = c.loop-step.step-index in
    let next = c.step-item.result in
    let had = c.loop-step.invariant taken at in
    subst (λ (l : List Step). AreTold config taken l c.step.new.self c.append.new.self.items)
    (sym (one_more steps index next c.loop-step-test.true c.step-item.is))
    (subst (λ (l : List Sent). AreTold config taken (take index steps ++ next ∷ []) c.step.new.self l)
    (sym c.in_ok-append.ensures.items)
    (told_more config taken (take index steps) next c.loop-step.venue c.step.new.self
    c.loop-step.told.items c.in-Ok.sent.items had
    (c.in-Ok.ensures.ok (taken ++ take index steps) had.stands)))
