-- What is printed to a dealer of its trades with an investor, after every list of steps.
use Rattle.std.proofs.Common.{◌≡◌, ℕ, ◌+◌, List, [], ◌∷◌, ◌++◌, length, Option, Some, None, refl, sym, ap}
use Rattle.std.proofs.Common.{◌∙◌, subst}
use Rattle.std.specs.Prelude.{unwrap_or}
use Rattle.market_terms.specs.declared.rooms.RoomRef.{RoomRef}
use Rattle.venue_rows.specs.Rows.{Configuration, dealer_numbered}
use Rattle.venue_rows.specs.declared.dealer_rows.DealerRow.{DealerRow}
use Rattle.note_lines.specs.NoteLines.{count_to, dealer_line, dealer_note_line, trade_line, trade_name}
use Rattle.note_lines.specs.NoteLines.{trades_with_investor}
use Rattle.dealer_desk.specs.DealerNotes.{dealer_notes}
use Rattle.dealer_desk.specs.DealerOutput.{DeskState, desk_after}
use Rattle.dealer_desk.specs.declared.events.DealerEvent.{DealerEvent}
use Rattle.dealer_desk.specs.declared.notes.DealerNote.{DealerNote}
use Rattle.dealer_desk.specs.declared.notes.DealerNote.TheVariants as note
use Rattle.step_replay.specs.AuditTrail.{audit_trail, due_to}
use Rattle.step_replay.specs.DealerTrail.{DealerEntry}
use Rattle.step_replay.specs.DealerView.{ViewState}
use Rattle.step_replay.specs.EachLemmas.{each_of}
use Rattle.step_replay.specs.IsolationLemmas.{seen_is_kept}
use Rattle.step_replay.specs.NoteViews.{dealer_note_view, notes_at}
use Rattle.step_replay.specs.SeenLemmas.{Seen, start_seen}
use Rattle.step_replay.specs.StepLemmas.{kept_by_all}
use Rattle.step_replay.specs.TrailKept.{IsKept}
use Rattle.step_replay.specs.VenueFacts.{of_dealer}
use Rattle.step_replay.specs.declared.steps.Step.{Step}
use Rattle.laws_trades.specs.TradeNames.{notices_to}
use Rattle.laws_trades.specs.PrintedTrades.{IsPrintedToDealer}
use Rattle.laws_trades.proofs.NoticedLemmas.{Notes}
use Rattle.laws_trades.proofs.NoticedTrades.{IsTold}
use Rattle.laws_trades.proofs.NoticedTrails.{Noticed, lifted_more, none_noticed, one_more}

-- What desks of the same facts note is one list.
abbrev pub SameNotes : Type 0
SameNotes = (date : List ℕ) (row : DealerRow) (events others : List DealerEvent)
    → (desk_after date row events).facts ≡ (desk_after date row others).facts
    → dealer_notes date row events ≡ dealer_notes date row others

-- the line of a note
line_of : (date own investor : List ℕ) (notes : Notes) (number k : ℕ) (found : Option DealerNote)
    → found ≡ Some (note.Trade investor)
    → count_to (trades_with_investor investor) notes number ≡ k
    → dealer_line date own notes number found
    ≡ trade_line own number (trade_name date investor own k)
line_of date own investor notes number k found is counted =
    ap (λ (f : Option DealerNote). dealer_line date own notes number f) is
    ∙ ap (λ (n : ℕ). trade_line own number (trade_name date investor own n)) counted

noticed_is_kept : (date : List ℕ) (row : DealerRow) (investor : List ℕ)
    → IsKept date row (Noticed date row investor)
noticed_is_kept date row investor = record {
  own = λ trail moment bytes before. one_more date row investor trail _ before;
  drop = λ trail last moment before. one_more date row investor trail _ before;
  shown = λ trail room ask moment before. one_more date row investor trail _ before;
  told = λ trail request close moment may before. one_more date row investor trail _ before;
  lifted = λ trail quote within still before. lifted_more date row investor trail quote before;
}

module _ (config : Configuration) (dealer : ℕ) (row : DealerRow)
    (is_row : dealer_numbered config dealer ≡ Some row) where
  abbrev trail : List Step → List DealerEntry
  trail steps = of_dealer dealer (audit_trail config steps).facts

  pub day_seen : (steps : List Step) → Seen config.date row (trail steps)
  day_seen steps =
      kept_by_all config dealer row is_row (Seen config.date row) (seen_is_kept config.date row)
      (start_seen config.date row) steps

  module _ (investor : List ℕ) (same : SameNotes) where
    day_kept : (steps : List Step) → Noticed config.date row investor (trail steps)
    day_kept steps =
        kept_by_all config dealer row is_row (Noticed config.date row investor)
        (noticed_is_kept config.date row investor) (none_noticed config.date row investor) steps

    -- the notes of the dealer's view are those of its desk
    notes_are : (steps : List Step)
        → dealer_note_view config.date row (due_to dealer (audit_trail config steps))
        ≡ dealer_notes config.date row (day_kept steps).events
    notes_are steps =
        let seen = day_seen steps in
        let kept = day_kept steps in
        ap (λ (view : ViewState). notes_at view.desk) seen.view_is
        ∙ same config.date row seen.events kept.events
        (ap (λ (state : DeskState). state.facts) (seen.state_is ∙ sym kept.state))

    pub noticed_of : (steps : List Step) (before later : List RoomRef) (room : RoomRef)
        → notices_to investor (trail steps) ≡ before ++ room ∷ later
        → IsPrintedToDealer config.date row.name investor (trail steps)
        (dealer_note_view config.date row (due_to dealer (audit_trail config steps))) room
        (length before + 1)
    noticed_of steps before later room notices =
        let kept = day_kept steps in
        let notes = dealer_notes config.date row kept.events in
        let told = each_of (λ before room later. IsTold investor (trail steps) notes before room)
        (notices_to investor (trail steps)) before room later kept.each notices in
        record {
          number = told.number;
          tells = told.tells;
          line = ap (λ (l : Notes). dealer_note_line config.date row.name l told.number) (notes_are steps)
              ∙ line_of config.date row.name investor notes told.number (length before + 1) _
              (ap (λ (f : Option (Option DealerNote)). unwrap_or f None) told.said) told.counted;
        }
