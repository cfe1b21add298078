use Rattle.std.proofs.Common.{ap, ap₂, ◌∙◌, arith}
use Rattle.step_replay.specs.DealerView.{dealer_view}
use Rattle.step_replay.specs.NoteViews.{dealer_note_view}
use Rattle.venue_text.specs.NotedText.{dealer_noted_text}
use Rattle.venue_text.proofs.noted_alone.noted_alone_text.Goals as goal

pub returns-clause-ok : goal.returns-clause-ok
returns-clause-ok c =
    let due = c.in_ok-due.due in
    record {
      date = due.date;
      row = due.row;
      dues = due.dues.items;
      fits = omega arith;
      spelled = c.in_ok-due.ensures.ok;
      printed = c.in_ok-text.ensures
          ∙ ap₂ (dealer_noted_text c.args.with_frames due.date due.row.name)
          (c.as_slice-2.ensures.value ∙ c.in_ok-messages.ensures.notes
          ∙ ap (dealer_note_view due.date due.row) c.as_slice.ensures.value)
          (c.as_slice-3.ensures.value ∙ c.in_ok-messages.ensures.messages
          ∙ ap (dealer_view due.date due.row) c.as_slice.ensures.value);
    }
