use Rattle.std.proofs.Common.{ℕ, List, ap, ap₂, ◌∙◌}
use Rattle.venue_rows.specs.declared.investor_rows.InvestorRow.{InvestorRow}
use Rattle.investor_views.specs.InvestorView.{investor_view}
use Rattle.investor_views.specs.NoteView.{note_view}
use Rattle.venue_text.specs.NotedText.{investor_noted_text}
use Rattle.investor_texts.proofs.noted_command.noted_investors_text.Goals as goal

pub returns-clause-ok : goal.returns-clause-ok
returns-clause-ok c =
    let text = c.in_ok-text.text in
    let frames = c.args.with_frames in
    let notes = c.as_slice-2.result.now in
    let messages = c.as_slice-3.result.now in
    record {
      seen = text.seen;
      dues = text.dues.items;
      spelled = c.in_ok-text.ensures.ok;
      printed = c.in_ok-printed.ensures
          ∙ ap₂ (λ (date : List ℕ) (row : InvestorRow).
          investor_noted_text frames date row.name notes messages) c.date.ensures c.row.ensures
          ∙ ap₂ (investor_noted_text frames text.seen.date text.seen.row.name)
          (c.as_slice-2.ensures.value ∙ c.in_ok-messages.ensures.notes
          ∙ ap (note_view text.seen) c.as_slice.ensures.value)
          (c.as_slice-3.ensures.value ∙ c.in_ok-messages.ensures.messages
          ∙ ap (investor_view text.seen) c.as_slice.ensures.value);
    }
