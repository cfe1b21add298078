use Rattle.std.proofs.Common.{◌≡◌, length, false, nat_lt, arith}
use Rattle.std.proofs.lemmas.Bool.Decides.{nat_tests}
use Rattle.input_lines.specs.declared.lines.TheConstants.{MOST_INPUT}
use Rattle.investor_texts.specs.DueCommand.{investor_by}
use Rattle.investor_texts.proofs.AskedLemmas.{row_there}
use Rattle.investor_texts.proofs.CompareLemmas.{run_of, run_is}
use Rattle.investor_texts.proofs.compare_command.investor_compare_text.Goals as goal
use Rattle.venue_text.proofs.AskedLemmas.{two_days_are}

pub returns-clause-ok : goal.returns-clause-ok
returns-clause-ok c =
    let short = c.if-input-gt-MOST_INPUT.false in
    let small : nat_lt MOST_INPUT (length c.args.input.now) ≡ false = grind (arith, nat_tests, short) in
    let one = c.in_ok-one.one in
    let other = c.in_ok-other.other in
    let first = run_of one.venue one.firm one.steps.items
    (row_there one.venue one.firm c.in_ok-one.ensures.investor) in
    let second = run_of other.venue other.firm other.steps.items
    (row_there other.venue other.firm c.in_ok-other.ensures.investor) in
    record {
      one = first;
      other = second;
      spelled = two_days_are (investor_by c.args.name.now) c.args.input.now _ _ _ _ small
          c.in_ok-first.ensures.ok c.in_ok-one.ensures.ok c.in_ok-other.ensures.ok;
      compared = c.in_ok-text.ensures first second
          (run_is one.venue one.firm one.steps.items _)
          (run_is other.venue other.firm other.steps.items _);
    }
