use Rattle.std.proofs.Common.{◌≡◌, length, false, nat_lt, arith}
use Rattle.std.proofs.lemmas.Bool.Decides.{nat_tests}
use Rattle.venue_text.specs.AskedDays.{dealer_by}
use Rattle.venue_text.specs.CompareCuts.{run_of}
use Rattle.input_lines.specs.declared.lines.TheConstants.{MOST_INPUT}
use Rattle.venue_text.proofs.AskedLemmas.{two_days_are}
use Rattle.venue_text.proofs.compare_command.compare_text.Goals as goal

pub returns-clause-ok : goal.returns-clause-ok
returns-clause-ok c =
    let short = c.if-input-gt-MOST_INPUT.false in
    let small : nat_lt MOST_INPUT (length c.args.input.now) ≡ false = grind (arith, nat_tests, short) in
    record {
      one = run_of c.in_ok-one.one;
      other = run_of c.in_ok-other.other;
      spelled = two_days_are (dealer_by c.args.dealer.now) c.args.input.now _ _ _ _ small
          c.in_ok-first.ensures.ok c.in_ok-one.ensures.ok c.in_ok-other.ensures.ok;
      is_same_row = c.has_same_row-row.result;
      due = c.in_ok-due.due;
      messages = c.in_ok-messages.messages;
      row_is = c.has_same_row-row.ensures;
      due_is = c.in_ok-due.ensures.ok;
      messages_is = c.in_ok-messages.ensures.ok;
      printed = c.in_ok-text.ensures;
    }
