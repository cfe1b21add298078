-- The lines `trade` that the venue prints of one trade: one for its investor and one for its dealer.
use Rattle.std.specs.Prelude.{◌≡◌, ℕ, List}
use Rattle.note_lines.specs.NoteLines.{dealer_note_line, investor_note_line, trade_line}
use Rattle.investor_desk.specs.InvestorDesk.{market_of}
use Rattle.step_replay.specs.AuditTrail.{AuditTrail, due_to}
use Rattle.step_replay.specs.NoteViews.{dealer_note_view}
use Rattle.step_replay.specs.NotedTrail.{notes_by}
use Rattle.step_replay.specs.VenueFacts.{of_dealer, of_investor}
use Rattle.laws_trades.specs.Trades.{Deal, room_of}
use Rattle.venue_rows.specs.Rows.{Configuration}
use Rattle.venue_rows.specs.declared.investor_rows.InvestorRow.{InvestorRow}
use Rattle.laws_trades.specs.PrintedTrades.{TellsDealer, TellsOfTrade}

-- Both lines of a trade have this name: that behind the message that tells the investor with this row
-- of it, and that behind the message that tells its dealer.
pub record AreNamed (config : Configuration) (day : AuditTrail) (deal : Deal config day.facts)
    (investor_row : InvestorRow) (name : List ℕ) : Type 0 where
  -- the investor's, behind its message with this number
  pub to_investor : ℕ
  pub tells_investor : TellsOfTrade (of_investor deal.investor day.facts) deal.row.name
      (room_of deal.investor deal.asked.number) to_investor
  pub investor_line : investor_note_line config.date investor_row.name
      (notes_by (market_of config deal.investor investor_row) (of_investor deal.investor day.facts))
      to_investor ≡ trade_line investor_row.name to_investor name
  -- the dealer's, behind its message with this number
  pub to_dealer : ℕ
  pub tells_dealer : TellsDealer (of_dealer deal.dealer day.facts) investor_row.name
      (room_of deal.investor deal.asked.number) to_dealer
  pub dealer_line : dealer_note_line config.date deal.row.name
      (dealer_note_view config.date deal.row (due_to deal.dealer day)) to_dealer
      ≡ trade_line deal.row.name to_dealer name
