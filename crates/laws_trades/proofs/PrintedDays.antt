-- What is printed to an investor of its trades with a dealer, after every list of steps.
use Rattle.std.proofs.Common.{◌≡◌, ℕ, ◌+◌, List, [], ◌∷◌, ◌++◌, length}
use Rattle.std.proofs.Common.{Option, Some, None, refl, ap, ◌∙◌}
use Rattle.std.specs.Prelude.{unwrap_or}
use Rattle.market_terms.specs.declared.rooms.RoomRef.{RoomRef}
use Rattle.venue_rows.specs.Rows.{Configuration, investor_numbered}
use Rattle.venue_rows.specs.declared.investor_rows.InvestorRow.{InvestorRow}
use Rattle.note_lines.specs.NoteLines.{count_to, investor_line, investor_note_line, trade_line}
use Rattle.note_lines.specs.NoteLines.{trade_name, trades_with_dealer}
use Rattle.investor_desk.specs.InvestorDesk.{market_of}
use Rattle.investor_desk.specs.InvestorOutput.{desk_after, investor_notes}
use Rattle.investor_desk.specs.InvestorRules.{InvestorMarket}
use Rattle.investor_desk.specs.declared.notes.InvestorNote.{InvestorNote}
use Rattle.investor_desk.specs.declared.notes.InvestorNote.TheVariants as note
use Rattle.step_replay.specs.AuditTrail.{audit_trail}
use Rattle.step_replay.specs.EachLemmas.{each_of}
use Rattle.step_replay.specs.InvestorKept.{kept_by_all}
use Rattle.step_replay.specs.NotedTrail.{NotedSoFar, noted_in, notes_by}
use Rattle.step_replay.specs.VenueFacts.{Fact, of_investor}
use Rattle.step_replay.specs.declared.steps.Step.{Step}
use Rattle.laws_trades.specs.TradeNames.{hits_of}
use Rattle.laws_trades.specs.PrintedTrades.{IsPrintedAs}
use Rattle.laws_trades.proofs.PrintedLemmas.{IsTold, Printed, one_more}

-- the line of a note
pub line_of : (date own dealer : List ℕ) (notes : List (Option InvestorNote)) (number k : ℕ)
    (found : Option InvestorNote) → found ≡ Some (note.Trade dealer)
    → count_to (trades_with_dealer dealer) notes number ≡ k
    → investor_line date own notes number found
    ≡ trade_line own number (trade_name date own dealer k)
line_of date own dealer notes number k found is counted =
    ap (λ (f : Option InvestorNote). investor_line date own notes number f) is
    ∙ ap (λ (n : ℕ). trade_line own number (trade_name date own dealer n)) counted

module _ (config : Configuration) (investor : ℕ) (row : InvestorRow)
    (is_row : investor_numbered config investor ≡ Some row) (dealer : List ℕ) where
  abbrev market : InvestorMarket
  market = market_of config investor row

  abbrev Kept : List Fact → Type 0
  Kept facts = Printed market investor dealer (of_investor investor facts)

  pub day_kept : (steps : List Step) → Kept (audit_trail config steps).facts
  unfolding noted_in desk_after
  day_kept steps =
      kept_by_all config investor row is_row (Printed market investor dealer)
      (λ trail event fit kept. one_more market investor dealer trail event kept)
      (record {
        events = [];
        state = refl;
        noted = refl;
        long = refl;
        count = refl;
        each = tt;
      })
      steps

  pub printed_of : (steps : List Step) (before later : List RoomRef) (room : RoomRef)
      → hits_of investor dealer (audit_trail config steps).facts ≡ before ++ room ∷ later
      → IsPrintedAs config.date row.name dealer (of_investor investor (audit_trail config steps).facts)
      (notes_by market (of_investor investor (audit_trail config steps).facts)) room (length before + 1)
  printed_of steps before later room hits =
      let trail = of_investor investor (audit_trail config steps).facts in
      let kept = day_kept steps in
      let notes = investor_notes market kept.events in
      let notes_are : notes_by market trail ≡ notes = ap (λ (s : NotedSoFar). s.notes) kept.noted in
      let told = each_of (λ before room later. IsTold market investor dealer trail notes before room)
      (hits_of investor dealer (audit_trail config steps).facts) before room later kept.each hits in
      record {
        number = told.number;
        tells = told.tells;
        line = ap (λ (l : List (Option InvestorNote)). investor_note_line config.date row.name l told.number) notes_are
            ∙ line_of config.date row.name dealer notes told.number (length before + 1) _
            (ap (λ (f : Option (Option InvestorNote)). unwrap_or f None) told.said) told.counted;
      }
