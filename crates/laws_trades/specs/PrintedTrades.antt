-- Behind which of a firm's messages the venue prints a trade to it, and under which name.
use Rattle.std.specs.Prelude.{◌≡◌, ℕ, true, ◌+◌, List, [], ◌∷◌, ◌++◌, length, Option, Some}
use Rattle.market_terms.specs.declared.closes.Close.TheVariants.{Hit}
use Rattle.market_terms.specs.declared.rooms.RoomRef.{RoomRef}
use Rattle.note_lines.specs.NoteLines.{dealer_note_line, investor_note_line, trade_line, trade_name}
use Rattle.dealer_desk.specs.DealerFacts.{Told}
use Rattle.dealer_desk.specs.DealerOutput.{room_of}
use Rattle.dealer_desk.specs.declared.notes.DealerNote.{DealerNote}
use Rattle.investor_desk.specs.InvestorFacts.{Closed}
use Rattle.investor_desk.specs.declared.notes.InvestorNote.{InvestorNote}
use Rattle.investor_desk.specs.declared.standing.RequestClose.TheVariants.{Awarded}
use Rattle.step_replay.specs.DealerTrail as dealer_trail
use Rattle.step_replay.specs.DealerTrail.{DealerEntry, rooms_by}
use Rattle.step_replay.specs.InvestorTrail.{InvestorEntry, AtDesk, Sent, sent_by}
use Rattle.laws_trades.specs.TradeNames.{was_asked_by}

-- To an investor.

-- An investor's message with this number tells it of its trade with this dealer in this room: in its
-- trail the message stands right behind the fact that closed the room's request by the award of a quote
-- of that dealer.
pub record TellsOfTrade (trail : List InvestorEntry) (dealer : List ℕ) (room : RoomRef)
    (number : ℕ) : Type 0 where
  pub stood : List InvestorEntry
  pub quote : ℕ
  pub price : ℕ
  pub message : List ℕ
  pub after : List InvestorEntry
  pub trail_is : trail
      ≡ stood ++ (AtDesk (Closed room.n (Awarded quote dealer price)) ∷ Sent message ∷ []) ++ after
  pub number_is : number ≡ length (sent_by stood) + 1

-- Behind the message that tells an investor of this trade the line `trade` is printed, under the name
-- with this number: the day, the two firms and the number.
pub record IsPrintedAs (date own dealer : List ℕ) (trail : List InvestorEntry)
    (notes : List (Option InvestorNote)) (room : RoomRef) (k : ℕ) : Type 0 where
  pub number : ℕ
  pub tells : TellsOfTrade trail dealer room number
  pub line : investor_note_line date own notes number
      ≡ trade_line own number (trade_name date own dealer k)

-- To a dealer.

-- A dealer's message with this number tells it of its trade with this investor in this room: in its
-- trail the message stands right behind the fact that it was told 694=1 of a request, which it was
-- shown in this room and for which this investor asked.
pub record TellsDealer (trail : List DealerEntry) (investor : List ℕ) (room : RoomRef)
    (number : ℕ) : Type 0 where
  pub stood : List DealerEntry
  pub request : ℕ
  pub moment : ℕ
  pub message : List ℕ
  pub after : List DealerEntry
  pub trail_is : trail
      ≡ stood
      ++ (dealer_trail.AtDesk (Told request Hit moment) ∷ dealer_trail.Sent message ∷ []) ++ after
  pub asked_by : was_asked_by investor trail request ≡ true
  pub in_room : room_of (rooms_by trail) request ≡ Some room
  pub number_is : number ≡ length (dealer_trail.sent_by stood) + 1

-- Behind the message that tells a dealer of this trade the line `trade` is printed, under the name
-- with this number: the day, the two firms and the number.
pub record IsPrintedToDealer (date own investor : List ℕ) (trail : List DealerEntry)
    (notes : List (Option DealerNote)) (room : RoomRef) (k : ℕ) : Type 0 where
  pub number : ℕ
  pub tells : TellsDealer trail investor room number
  pub line : dealer_note_line date own notes number
      ≡ trade_line own number (trade_name date investor own k)
