use Rattle.std.proofs.Common.{◌≡◌, ap, ◌∙◌, length, false, nat_lt, arith}
use Rattle.std.specs.Option.{option_copied}
use Rattle.std.proofs.lemmas.Bool.Decides.{nat_tests}
use Rattle.step_replay.specs.AuditTrail.{audit_trail}
use Rattle.venue_text.specs.AskedDays.{dealers_by}
use Rattle.venue_text.specs.DueCommand.{due_texts}
use Rattle.input_lines.specs.declared.lines.TheConstants.{MOST_INPUT}
use Rattle.venue_text.proofs.AskedLemmas.{one_day_is}
use Rattle.venue_text.proofs.due_command.due_command_text.Goals as goal

pub returns-clause-ok : goal.returns-clause-ok
returns-clause-ok c =
    let short = c.if-input-gt-MOST_INPUT.false in
    let small : nat_lt MOST_INPUT (length c.args.input.now) ≡ false = grind (arith, nat_tests, short) in
    let day = c.in_ok-day.day in
    record {
      config = day.venue;
      dealer = day.only;
      steps = day.steps.items;
      spelled = one_day_is (dealers_by (option_copied c.args.only)) c.args.input.now _ _ small c.in_ok-parts.ensures.ok c.in_ok-day.ensures.ok;
      printed = c.in_ok-text.ensures.ok
          ∙ ap (λ steps. due_texts day.only day.venue (audit_trail day.venue steps)) c.as_slice.ensures.value;
    }
