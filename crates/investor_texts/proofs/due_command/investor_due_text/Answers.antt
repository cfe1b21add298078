use Rattle.std.proofs.Common.{◌≡◌, length, false, nat_lt, arith}
use Rattle.std.proofs.lemmas.Bool.Decides.{nat_tests}
use Rattle.input_lines.specs.declared.lines.TheConstants.{MOST_INPUT}
use Rattle.investor_texts.specs.DueCommand.{investor_by}
use Rattle.investor_texts.proofs.due_command.investor_due_text.Goals as goal
use Rattle.venue_text.proofs.AskedLemmas.{one_day_is}

pub returns-clause-ok : goal.returns-clause-ok
returns-clause-ok c =
    let short = c.if-input-gt-MOST_INPUT.false in
    let small : nat_lt MOST_INPUT (length c.args.input.now) ≡ false = grind (arith, nat_tests, short) in
    let day = c.in_ok-day.day in
    record {
      config = day.venue;
      investor = day.firm;
      steps = day.steps.items;
      spelled = one_day_is (investor_by c.args.name.now) c.args.input.now _ _ small
          c.in_ok-parts.ensures.ok c.in_ok-day.ensures.ok;
      text_is = c.in_ok-text.ensures;
    }
