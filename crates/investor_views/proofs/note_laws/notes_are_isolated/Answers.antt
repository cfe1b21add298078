use Rattle.std.proofs.Common.{◌∙◌, List, ap, sym}
use Rattle.investor_views.specs.InvestorDues.{due_to_investor}
use Rattle.investor_views.specs.InvestorView.{SeenMarket, seen_by}
use Rattle.investor_views.specs.NoteView.{note_view}
use Rattle.investor_views.specs.declared.dues.InvestorDue.{InvestorDue}
use Rattle.investor_views.proofs.note_laws.notes_are_isolated.Goals as goal

pub returns : goal.returns
returns c one other steps others investor number row again here there sees dues_alike =
    let law = c.investors_are_noted_their_view.ensures in
    law one steps investor row here
    ∙ ap (λ (seen : SeenMarket). note_view seen (due_to_investor one investor steps)) sees
    ∙ ap (λ (dues : List InvestorDue). note_view (seen_by other again) dues) dues_alike
    ∙ sym (law other others number again there)
