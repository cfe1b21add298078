use Rattle.std.proofs.Common.{◌∙◌, Option, ap, option_map, sym}
use Rattle.investor_desk.specs.InvestorDesk.{market_of}
use Rattle.step_replay.specs.AuditTrail.{audit_trail}
use Rattle.step_replay.specs.InvestorEvents.{happened_to}
use Rattle.investor_views.specs.InvestorDues.{dues_where}
use Rattle.investor_views.specs.InvestorView.{seen_by}
use Rattle.investor_views.specs.NoteView.{note_view}
use Rattle.venue_rows.specs.declared.investor_rows.InvestorRow.{InvestorRow}
use Rattle.investor_views.proofs.DayLemmas.{day_fits, is_noted_by_its_desk}
use Rattle.investor_views.proofs.ViewLemmas.{fitting_note}
use Rattle.investor_views.proofs.note_laws.investors_are_noted_their_view.Goals as goal

pub returns : goal.returns
returns c config steps investor row is =
    let happened = happened_to investor (audit_trail config steps) in
    is_noted_by_its_desk config investor row is steps
    ∙ fitting_note (market_of config investor row) happened (day_fits config investor row is steps)
    ∙ ap (λ (found : Option InvestorRow). note_view (seen_by config row)
    (dues_where (option_map (market_of config investor) found) happened)) (sym is)
