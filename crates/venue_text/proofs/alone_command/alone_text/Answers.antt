use Rattle.std.proofs.Common.{ap, ◌∙◌, arith}
use Rattle.step_replay.specs.DealerView.{dealer_view}
use Rattle.venue_text.specs.MessageLines.{messages_text}
use Rattle.venue_text.proofs.alone_command.alone_text.Goals as goal

pub returns-clause-ok : goal.returns-clause-ok
returns-clause-ok c =
    let due = c.in_ok-due.due in
    record {
      date = due.date;
      row = due.row;
      dues = due.dues.items;
      fits = omega arith;
      spelled = c.in_ok-due.ensures.ok;
      printed = c.in_ok-text.ensures ∙ ap (messages_text c.args.with_frames due.row.name)
          (c.as_slice-2.ensures.value ∙ c.in_ok-messages.ensures ∙ ap (dealer_view due.date due.row) c.as_slice.ensures.value);
    }
