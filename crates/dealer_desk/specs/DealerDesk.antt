-- What a contract sees of a dealer's desk, and the desk after an event or a notice.
use Rattle.std.specs.Prelude.{ℕ, Bool, false, List, [], ◌∷◌, ◌++◌, Option, Some, None, is_some}
use Rattle.std.specs.Prelude.{if◌then◌else◌}
use Rattle.market_terms.specs.declared.closes.Close.{Close}
use Rattle.market_terms.specs.declared.rooms.RoomRef.{RoomRef}
use Rattle.venue_rows.specs.declared.dealer_rows.DealerRow.{DealerRow}
use Rattle.dealer_desk.specs.DealerFacts.{DealerFact, DealerBook, book_of}
use Rattle.dealer_desk.specs.DealerRules.{dealer_verdict}
use Rattle.dealer_desk.specs.declared.events.DealerEvent.{DealerEvent}
use Rattle.dealer_desk.specs.declared.events.DealerEvent.TheVariants as event
use Rattle.dealer_desk.specs.declared.verdicts.DealerVerdict.{DealerVerdict}
use Rattle.dealer_desk.specs.DealerOutput.{closable, desk_after, rooms_of}

-- What a contract sees of a dealer's desk.
pub record DeskEvents : Type 0 where
  pub date : List ℕ
  pub row : DealerRow
  pub events : List DealerEvent

-- a desk to which one more event came, and nothing else changed
abbrev pub with_event : DeskEvents → DealerEvent → DeskEvents
with_event desk event = record desk { events = desk.events ++ event ∷ [] }

-- the facts that stand at a desk
abbrev pub facts_at : DeskEvents → List DealerFact
facts_at desk = (desk_after desk.date desk.row desk.events).facts

-- its book
abbrev pub book_at : DeskEvents → DealerBook
book_at desk = book_of (facts_at desk)

-- the rooms of the requests that were shown at a desk
abbrev pub rooms_at : DeskEvents → List RoomRef
rooms_at desk = rooms_of desk.events

-- the verdict on bytes that come to a desk
abbrev pub verdict_at : DeskEvents → ℕ → List ℕ → DealerVerdict
verdict_at desk moment bytes = dealer_verdict desk.date desk.row (book_at desk) moment bytes

-- whether a notice of a request may be sent from a desk
abbrev pub may_close : DeskEvents → ℕ → Bool
may_close desk request = is_some (closable (book_at desk) request)

-- a desk to which a notice came: it stays as it was where no notice is due
abbrev pub with_notice : DeskEvents → ℕ → Close → ℕ → DeskEvents
with_notice desk request close moment =
    if may_close desk request then with_event desk (event.Told request close moment) else desk

-- the same by that number, where the room was shown
abbrev pub may_close_in : DeskEvents → Option ℕ → Bool
may_close_in desk None = false
may_close_in desk (Some request) = may_close desk request

-- a desk to which a notice of that request came, where the room was shown
abbrev pub with_notice_in : DeskEvents → Option ℕ → Close → ℕ → DeskEvents
with_notice_in desk None close moment = desk
with_notice_in desk (Some request) close moment = with_notice desk request close moment
