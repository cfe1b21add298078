use Rattle.std.proofs.Common.{◌≡◌, ◌∷◌, ap, ◌∙◌, rules}
use Rattle.venue_rows.specs.Rows.{values_of}
use Rattle.input_lines.specs.StepLines.{steps_from}
use Rattle.input_lines.specs.StepLemmas.{behind_steps, steps_more, known_more}
use Rattle.input_lines.proofs.step_text.read_steps.Goals as goal

pub loop-line-preserved : goal.loop-line-preserved
loop-line-preserved c =
    let config = values_of c.args.config.now in
    let line : c.loop-line.line-iterator ≡ (c.in-Some.line, c.in-Some.text.now) ∷ c.next.new.self = search rules in
    record {
      next = tt;
      ends = tt;
      read = rw (c.in_ok-push_spelled.ensures.steps, c.in_ok-push_spelled.ensures.heard)
          (c.loop-line.invariant.read
          ∙ ap (λ lines. behind_steps c.loop-line.steps.items (steps_from config c.loop-line.heard lines)) line
          ∙ steps_more config c.loop-line.heard c.read_line.new.heard c.in-Some.line c.in-Some.text.now c.next.new.self c.in_ok-spelled.spelled
          c.loop-line.steps.items c.in_ok-spelled.ensures.ok);
      known = rw c.in_ok-push_spelled.ensures.steps
          (known_more c.args.config.now c.loop-line.steps.items c.in_ok-spelled.spelled c.loop-line.invariant.known c.in_ok-spelled.ensures.known);
    }
