use Rattle.std.proofs.Common.{List, ℕ, subst}
use Rattle.investor_views.specs.InvestorDues.{due_to_investor}
use Rattle.investor_views.specs.InvestorView.{investor_view, seen_by}
use Rattle.investor_views.specs.NoteView.{note_view}
use Rattle.step_replay.specs.AuditTrail.{audit_trail, due_to}
use Rattle.step_replay.specs.DealerView.{dealer_view}
use Rattle.step_replay.specs.Lists.{In}
use Rattle.step_replay.specs.NoteViews.{dealer_note_view}
use Rattle.laws_wire.proofs.BarLemmas.{InDay, all_free}
use Rattle.laws_wire.proofs.CarriedBack.{day_moments}
use Rattle.laws_wire.proofs.DayTexts.{dealer_dues_given, investor_dues_given, limits_name}
use Rattle.laws_wire.proofs.DealerSaid as dealer
use Rattle.laws_wire.proofs.InvestorSaid as investor
use Rattle.laws_wire.proofs.carrying.no_message_has_a_bar.Goals as goal

pub returns-clause-dealers : goal.returns-clause-dealers
returns-clause-dealers c config steps number row bytes limits dated moments is among =
    let named = limits_name config limits in
    let dues = due_to number (audit_trail config steps) in
    let given = dealer_dues_given InDay (λ n below. below) config named steps number
    (day_moments steps moments) in
    let said = dealer.view_said InDay (λ n below. below) config.date row
    (named.dealers number row is) dues
    given in
    all_free config.date 1 (dealer_view config.date row dues)
    (dealer_note_view config.date row dues) dated
    said bytes
    (subst (λ (frames : List (List ℕ)). In bytes frames)
    (c.dealers_are_sent_their_view.ensures config steps number row is) among)

pub returns-clause-investors : goal.returns-clause-investors
returns-clause-investors c config steps number row bytes limits dated moments is among =
    let named = limits_name config limits in
    let dues = due_to_investor config number steps in
    let seen = seen_by config row in
    let given = investor_dues_given InDay (λ n below. below) config named steps number
    (day_moments steps moments) in
    let said = investor.view_said InDay (λ n below. below) seen (named.investors number row is) dues
    given in
    all_free config.date 1 (investor_view seen dues) (note_view seen dues) dated said bytes
    (subst (λ (frames : List (List ℕ)). In bytes frames)
    (c.investors_are_sent_their_view.ensures config steps number row is) among)
