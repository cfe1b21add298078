use Rattle.std.proofs.Common.{◌≡◌, ◌∷◌, false, true, ap, ◌∙◌, rules}
use Rattle.venue_rows.specs.Rows.{values_of}
use Rattle.venue_text.specs.ArrivingDays.{arrivals_from, is_of_turns}
use Rattle.venue_text.proofs.ArrivalLemmas.{arrivals_more, turns_end}
use Rattle.input_lines.specs.StepLemmas.{behind_steps, known_more}
use Rattle.venue_text.proofs.inboxes.read_arrivals.Goals as goal

pub loop-line-preserved : goal.loop-line-preserved
loop-line-preserved c =
    let config = values_of c.args.config.now in
    let line : c.loop-line.line-iterator ≡ (c.in-Some.line, c.in-Some.text.now) ∷ c.next.new.self = search rules in
    let no_turns : is_of_turns c.in-Some.text.now ≡ false = search rules in
    record {
      next = tt;
      ends = tt;
      read = rw (c.in_ok-push_spelled.ensures.steps, c.in_ok-push_spelled.ensures.heard)
          (c.loop-line.invariant.read
          ∙ ap (λ lines. behind_steps c.loop-line.steps.items (arrivals_from config c.loop-line.heard lines)) line
          ∙ arrivals_more config c.loop-line.heard c.in-Some.line c.in-Some.text.now c.next.new.self c.loop-line.steps.items
          c.read_line.new.heard c.in_ok-spelled.spelled no_turns c.in_ok-spelled.ensures.ok);
      known = rw c.in_ok-push_spelled.ensures.steps
          (known_more c.args.config.now c.loop-line.steps.items c.in_ok-spelled.spelled c.loop-line.invariant.known c.in_ok-spelled.ensures.known);
    }

pub returns-then-is_of_turns-clause-err : goal.returns-then-is_of_turns-clause-err
returns-then-is_of_turns-clause-err c = λ memory.
    let config = values_of c.args.config.now in
    let line : c.loop-line.line-iterator ≡ (c.in-Some.line, c.in-Some.text.now) ∷ c.next.new.self = search rules in
    let turns : is_of_turns c.in-Some.text.now ≡ true = search rules in
    c.loop-line.invariant.read
    ∙ ap (λ lines. behind_steps c.loop-line.steps.items (arrivals_from config c.loop-line.heard lines)) line
    ∙ turns_end config c.loop-line.heard c.in-Some.line c.in-Some.text.now c.next.new.self c.loop-line.steps.items turns
