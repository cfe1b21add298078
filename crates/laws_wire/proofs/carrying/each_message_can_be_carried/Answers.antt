use Rattle.std.proofs.Common.{List, ℕ, subst, sym}
use Rattle.investor_views.specs.InvestorDues.{due_to_investor}
use Rattle.investor_views.specs.InvestorView.{investor_view, seen_by}
use Rattle.investor_views.specs.NoteView.{note_view}
use Rattle.step_replay.specs.AuditTrail.{audit_trail, due_to}
use Rattle.step_replay.specs.DealerView.{dealer_view}
use Rattle.step_replay.specs.NoteViews.{dealer_note_view}
use Rattle.laws_wire.specs.Carriable.{CanAllBeCarried}
use Rattle.laws_wire.proofs.CarriedBack.{Any, any_moments}
use Rattle.laws_wire.proofs.DayTexts.{dealer_dues_given, investor_dues_given, limits_name}
use Rattle.laws_wire.proofs.DealerSaid as dealer
use Rattle.laws_wire.proofs.InvestorSaid as investor
use Rattle.laws_wire.proofs.SaidMessages.{all_carried}
use Rattle.laws_wire.proofs.carrying.each_message_can_be_carried.Goals as goal

pub returns-clause-dealers : goal.returns-clause-dealers
returns-clause-dealers c config steps number row tolds limits dated is beside =
    let named = limits_name config limits in
    let dues = due_to number (audit_trail config steps) in
    let given = dealer_dues_given Any (λ n below. tt) config named steps number (any_moments steps)
    in
    let said = dealer.view_said Any (λ n below. tt) config.date row (named.dealers number row is)
    dues given in
    subst (λ (frames : List (List ℕ)). CanAllBeCarried 1 frames tolds)
    (sym (c.dealers_are_sent_their_view.ensures config steps number row is))
    (all_carried Any config.date dated 1 (dealer_view config.date row dues)
    (dealer_note_view config.date row dues) tolds said beside)

pub returns-clause-investors : goal.returns-clause-investors
returns-clause-investors c config steps number row tolds limits dated is beside =
    let named = limits_name config limits in
    let dues = due_to_investor config number steps in
    let seen = seen_by config row in
    let given = investor_dues_given Any (λ n below. tt) config named steps number
    (any_moments steps) in
    let said = investor.view_said Any (λ n below. tt) seen (named.investors number row is) dues
    given in
    subst (λ (frames : List (List ℕ)). CanAllBeCarried 1 frames tolds)
    (sym (c.investors_are_sent_their_view.ensures config steps number row is))
    (all_carried Any config.date dated 1 (investor_view seen dues) (note_view seen dues) tolds said
    beside)
