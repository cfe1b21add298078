-- What is noted at the desk of a dealer is that of its view: both desks have the facts of its trail.
use Rattle.step_replay.proofs.Common.{◌≡◌, ℕ, List, Some, sym, ap, ◌∙◌, Configuration, DealerRow}
use Rattle.step_replay.proofs.Common.{dealer_numbered, DeskState, desk_after, DealerEvent, of_dealer}
use Rattle.step_replay.proofs.Common.{DealerPlace, DealerStands, audit_trail, Step}
use Rattle.dealer_desk.specs.DealerNotes.{dealer_notes}
use Rattle.step_replay.specs.AuditTrail.{due_to}
use Rattle.step_replay.specs.DealerView.{ViewState}
use Rattle.step_replay.specs.IsolationLemmas.{seen_is_kept}
use Rattle.step_replay.specs.NoteViews.{dealer_note_view, notes_at}
use Rattle.step_replay.specs.SeenLemmas.{Seen, start_seen}
use Rattle.step_replay.specs.StepLemmas.{kept_by_all}

-- at desks with the same facts the same is noted
abbrev pub SameNotes : Type 0
SameNotes = (date : List ℕ) (row : DealerRow) (events others : List DealerEvent)
    → (desk_after date row events).facts ≡ (desk_after date row others).facts
    → dealer_notes date row events ≡ dealer_notes date row others

pub noted_as_viewed : SameNotes → (config : Configuration) (steps : List Step) (dealer : ℕ)
    (row : DealerRow) (place : DealerPlace) → dealer_numbered config dealer ≡ Some row
    → DealerStands config dealer row (of_dealer dealer (audit_trail config steps).facts) place
    → notes_at place.desk
    ≡ dealer_note_view config.date row (due_to dealer (audit_trail config steps))
noted_as_viewed same config steps dealer row place is stands =
    let seen = kept_by_all config dealer row is (Seen config.date row)
    (seen_is_kept config.date row) (start_seen config.date row) steps in
    ap (λ (d : List ℕ). dealer_notes d place.desk.row place.desk.events) stands.date_is
    ∙ ap (λ (r : DealerRow). dealer_notes config.date r place.desk.events) stands.row_is
    ∙ same config.date row place.desk.events seen.events
    (ap (λ (state : DeskState). state.facts) stands.state_is
    ∙ sym (ap (λ (state : DeskState). state.facts) seen.state_is))
    ∙ sym (ap (λ (view : ViewState). notes_at view.desk) seen.view_is)
