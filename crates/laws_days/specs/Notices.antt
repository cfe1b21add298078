-- The closing notices that a dealer was told, as its trail has them.
use Rattle.std.specs.Prelude.{◌≡◌, ℕ, Bool, true, List, [], ◌∷◌, filter}
use Rattle.std.specs.Prelude.{Option, Some, None, is_some}
use Rattle.std.specs.Option.{option_or}
use Rattle.market_terms.specs.declared.closes.Close.{Close}
use Rattle.market_terms.specs.declared.closes.Close.TheVariants as closes
use Rattle.market_terms.specs.declared.rooms.RoomRef.{RoomRef}
use Rattle.quote_messages.specs.declared.out_messages.OutMessage.{OutMessage}
use Rattle.quote_messages.specs.declared.out_messages.OutMessage.TheVariants as out
use Rattle.quote_messages.specs.declared.out_messages.QuotedPrice.{QuotedPrice}
use Rattle.venue_rows.specs.declared.dealer_rows.DealerRow.{DealerRow}
use Rattle.dealer_desk.specs.DealerFacts.{DealerFact, Told, request_numbered, live_quote_on, tells}
use Rattle.dealer_desk.specs.DealerOutput.{event_message, next_message, number_in, quoted_price}
use Rattle.dealer_desk.specs.declared.events.DealerEvent.TheVariants as event
use Rattle.dealer_desk.specs.declared.standing.StandingQuote.{StandingQuote}
use Rattle.step_replay.specs.DealerTrail.{DealerEntry, book_by, facts_of, message_in, rooms_by}
use Rattle.step_replay.specs.DealerTrail.{sent_by, was_lifted}

-- whether the dealer was shown a request with this number
abbrev pub was_shown : List DealerEntry → ℕ → Bool
was_shown trail request = is_some (request_numbered (book_by trail) request)

-- the closing notices of a request that the dealer was told
abbrev pub notices_of : ℕ → List DealerEntry → List DealerFact
notices_of request trail = filter (tells request) (facts_of trail)

-- the first message that stands in some entries
abbrev pub next_sent : List DealerEntry → Option (List ℕ)
next_sent [] = None
next_sent (entry ∷ later) = option_or (message_in entry) (next_sent later)

-- the quote that a closing notice names (QuoteID 117), with its price
abbrev pub quote_in : OutMessage → Option QuotedPrice
quote_in (out.ClosingNotice notice) = notice.quote
quote_in other = None

-- A closing notice of a hit (QuoteRespType 694=1) names the quote that was lifted: it is the
-- dealer's live quote on that request, its word was lifted before, and the message that is sent
-- with the notice bears its QuoteID and its price.
pub record NamesLiftedQuote (date : List ℕ) (row : DealerRow) (before : List DealerEntry)
    (request moment : ℕ) (after : List DealerEntry) : Type 0 where
  pub own : StandingQuote
  pub notice : OutMessage
  pub live : live_quote_on (book_by before) request ≡ Some own
  pub lifted : was_lifted before own.quote.number ≡ true
  pub written : event_message date row (book_by before) (event.Told request closes.Hit moment)
      ≡ Some notice
  pub named : quote_in notice ≡ Some (quoted_price own)
  pub sent : next_sent after ≡ Some (next_message date row (sent_by before) moment notice)

-- The dealer was told once how the request of a room ended: it was shown that request, under a
-- number of its own, and of all closing notices of that number there is one, which says so.
pub record IsToldOnce (trail : List DealerEntry) (room : RoomRef) (close : Close) : Type 0 where
  pub request : ℕ
  pub moment : ℕ
  pub shown : number_in (rooms_by trail) room ≡ Some request
  pub told : notices_of request trail ≡ Told request close moment ∷ []
