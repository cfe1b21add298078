-- What a dealer is sent is the dealer view of what was due to it, whatever the steps of the venue.
use Rattle.std.proofs.Common.{◌≡◌, ℕ, List, Some, is_some, refl, sym, ap, ◌∙◌}
use Rattle.venue_rows.specs.Rows.{Configuration, dealer_numbered}
use Rattle.venue_rows.specs.declared.dealer_rows.DealerRow.{DealerRow}
use Rattle.dealer_desk.specs.DealerOutput.{DeskState}
use Rattle.step_replay.specs.AuditTrail.{audit_trail, sent_to, due_to}
use Rattle.step_replay.specs.DealerView.{ViewState, dealer_view, sent_at}
use Rattle.step_replay.specs.declared.steps.Step.{Step}
use Rattle.step_replay.specs.SeenLemmas.{Seen, own_seen, drop_seen, shown_seen, told_seen}
use Rattle.step_replay.specs.SeenLemmas.{lifted_seen, start_seen}
use Rattle.step_replay.specs.StepLemmas.{kept_by_all}
use Rattle.step_replay.specs.TrailKept.{IsKept}

-- the view stays at the desk of the dealer's trail
pub seen_is_kept : (date : List ℕ) (row : DealerRow) → IsKept date row (Seen date row)
seen_is_kept date row = record {
  own = λ trail moment bytes before. own_seen date row trail before moment bytes _ refl;
  drop = λ trail last moment before. drop_seen date row trail before last moment _ refl;
  shown = λ trail room ask moment before. shown_seen date row trail before room ask moment;
  told = λ trail request close moment may before.
      told_seen date row trail before request close moment may;
  lifted = λ trail quote within still before. lifted_seen date row trail before quote within still;
}

-- what a dealer is sent is its view
pub is_sent_its_view : (config : Configuration) (steps : List Step) (dealer : ℕ) (row : DealerRow)
    → dealer_numbered config dealer ≡ Some row
    → sent_to config dealer (audit_trail config steps)
    ≡ dealer_view config.date row (due_to dealer (audit_trail config steps))
is_sent_its_view config steps dealer row is =
    let seen = kept_by_all config dealer row is (Seen config.date row)
    (seen_is_kept config.date row) (start_seen config.date row) steps in
    rw (ap is_some is)
    (sym (ap (λ (state : DeskState). state.sent) seen.state_is)
    ∙ sym (ap (λ (view : ViewState). sent_at view.desk) seen.view_is))
