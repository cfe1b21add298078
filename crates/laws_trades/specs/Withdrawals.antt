-- By which of its messages a dealer is told that a quote of its is withdrawn.
use Rattle.std.specs.Prelude.{◌≡◌, ℕ, List, ◌++◌, Some, None}
use Rattle.quote_messages.specs.declared.out_messages.CancelStatus.TheVariants as status
use Rattle.quote_messages.specs.declared.out_messages.OutMessage.{OutMessage}
use Rattle.quote_messages.specs.declared.out_messages.OutMessage.TheVariants as out
use Rattle.venue_rows.specs.declared.dealer_rows.DealerRow.{DealerRow}
use Rattle.dealer_desk.specs.DealerFacts.{live_quote_on, request_named}
use Rattle.dealer_desk.specs.DealerOutput.{event_message, moment_of, next_message}
use Rattle.dealer_desk.specs.declared.accepted.AcceptedQuote.{AcceptedQuote}
use Rattle.dealer_desk.specs.declared.events.DealerEvent.{DealerEvent}
use Rattle.dealer_desk.specs.declared.standing.StandingQuote.{StandingQuote}
use Rattle.dealer_desk.specs.declared.standing.StandingRequest.{StandingRequest}
use Rattle.step_replay.specs.DealerTrail.{DealerEntry, book_by, entries_of, sent_by}

-- A dealer with this row and trail was sent these bytes by an event at its desk: this stood in its
-- trail as the event came, and the bytes are what the event says, as the dealer's next message.
pub record IsSaid (date : List ℕ) (row : DealerRow) (trail : List DealerEntry) (bytes : List ℕ)
    : Type 0 where
  pub stood : List DealerEntry
  pub event : DealerEvent
  pub after : List DealerEntry
  pub trail_is : trail ≡ stood ++ entries_of date row stood event ++ after
  pub message : OutMessage
  pub says : event_message date row (book_by stood) event ≡ Some message
  pub bytes_are : bytes ≡ next_message date row (sent_by stood) (moment_of event) message

-- a quote that was the dealer's live one on the request that a message names
pub record IsReplaced (stood : List DealerEntry) (request : List ℕ) (quote : AcceptedQuote)
    : Type 0 where
  pub shown : StandingRequest
  pub is_named : request_named (book_by stood) request ≡ Some shown
  pub own : StandingQuote
  pub is_live : live_quote_on (book_by stood) shown.number ≡ Some own
  pub is : own.quote ≡ quote

-- A message confirms that a quote is withdrawn: 35=AI with 297=17 and the quote's QuoteID (117); or
-- with 297=0 on a quote for the same request, where this one stood before.
abbrev pub Confirms : List DealerEntry → OutMessage → AcceptedQuote → Type 0
Confirms stood (out.CancelReport (Some id) status.Withdrawn) quote = quote.id ≡ id
Confirms stood (out.QuoteReport request id None) quote = IsReplaced stood request quote
Confirms stood other quote = ⊥
