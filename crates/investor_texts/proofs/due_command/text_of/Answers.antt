use Rattle.std.proofs.Common.{◌∙◌, ap, sym}
use Rattle.investor_views.specs.InvestorView.{SeenMarket}
use Rattle.investor_texts.specs.WrittenText.{investor_text}
use Rattle.investor_texts.proofs.due_command.text_of.Goals as goal

pub returns : goal.returns
returns c = record {
  row = c.in-Some.row.now;
  is_investor = sym c.in-Some.ensures;
  printed = c.in_ok-text.ensures
      ∙ ap (λ (seen : SeenMarket). investor_text seen c.args.dues.now) c.in_ok-seen.ensures;
}
