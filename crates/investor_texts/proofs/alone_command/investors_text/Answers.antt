use Rattle.std.proofs.Common.{ap, ◌∙◌}
use Rattle.venue_rows.specs.declared.investor_rows.InvestorRow.{InvestorRow}
use Rattle.investor_views.specs.InvestorView.{investor_view}
use Rattle.venue_text.specs.MessageLines.{messages_text}
use Rattle.investor_texts.proofs.alone_command.investors_text.Goals as goal

pub returns-clause-ok : goal.returns-clause-ok
returns-clause-ok c =
    let text = c.in_ok-text.text in
    record {
      seen = text.seen;
      dues = text.dues.items;
      spelled = c.in_ok-text.ensures.ok;
      printed = c.in_ok-printed.ensures
          ∙ ap (λ (row : InvestorRow).
          messages_text c.args.with_frames row.name c.as_slice-2.result.now) c.row.ensures
          ∙ ap (messages_text c.args.with_frames text.seen.row.name)
          (c.as_slice-2.ensures.value ∙ c.in_ok-messages.ensures
          ∙ ap (investor_view text.seen) c.as_slice.ensures.value);
    }
