use Rattle.std.proofs.Common.{◌+◌, ◌-◌, ◌++◌, [], ◌∷◌, List, ap, sym, ◌∙◌, arith}
use Rattle.std.proofs.lemmas.List.{append_assoc}
use Rattle.step_replay.specs.VenueRooms.{rooms_behind}
use Rattle.step_replay.specs.declared.steps.Step.{Step}
use Rattle.step_replay.specs.declared.steps.Step.TheVariants as step
use Rattle.input_lines.specs.StepLines.{sweeps_at}
use Rattle.input_lines.specs.RoomLemmas.{next_room}
use Rattle.input_lines.proofs.line_steps.push_sweeps_of.Goals as goal

pub loop-before-preserved : goal.loop-before-preserved
loop-before-preserved c =
    let moment = c.args.moment in
    let investor = c.args.investor in
    let before = c.loop-before.before in
    let sweep : Step = step.Expire (record { investor = investor; n = before + 1 }) moment in
    let rest = sweeps_at moment (rooms_behind investor (before + 1) (c.args.requests - (before + 1))) in
    record {
      items = c.loop-before.invariant.items
          ∙ ap (λ (steps : List Step). c.loop-before.steps.items ++ steps)
          (next_room moment investor before c.args.requests c.loop-before-test.true)
          ∙ sym (append_assoc c.loop-before.steps.items (sweep ∷ []) rest)
          ∙ ap (λ (steps : List Step). steps ++ rest) (sym c.in_ok-push.ensures.items);
      within = omega (arith, c.loop-before-test.true);
    }
