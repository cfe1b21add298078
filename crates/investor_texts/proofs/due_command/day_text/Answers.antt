use Rattle.std.proofs.Common.{◌∙◌, ap}
use Rattle.investor_views.specs.InvestorDues.{due_to_investor}
use Rattle.investor_texts.proofs.DayLemmas.{text_of_day}
use Rattle.investor_texts.proofs.due_command.day_text.Goals as goal

pub returns : goal.returns
returns c =
    let day = c.args.day.now in
    text_of_day day.venue day.firm day.steps.items c.as_slice-2.result.now _ c.in_ok-text.ensures
    (c.as_slice-2.ensures.value ∙ c.in_ok-due.ensures.dues_are
    ∙ ap (due_to_investor day.venue day.firm) c.as_slice.ensures.value)
