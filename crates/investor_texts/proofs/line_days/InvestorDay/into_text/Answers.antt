use Rattle.std.proofs.Common.{◌∙◌}
use Rattle.investor_texts.proofs.DayLemmas.{text_of_kept}
use Rattle.investor_texts.proofs.line_days.InvestorDay.into_text.Goals as goal

pub returns : goal.returns
returns c name config taken keeps =
    text_of_kept name config taken c.args.self c.as_slice.result.now _ keeps c.in_ok-text.ensures
    (λ steps at. c.as_slice.ensures.value ∙ (c.in_ok-day.ensures steps at).dues_are)
