-- No verdict of a dealer's desk, and nothing that the desk keeps, asks a price of a quote that
-- stands, or who was the cover.
use Rattle.std.proofs.Common.{◌≡◌, ℕ, Bool, true, false, List, [], ◌∷◌, map, Option, Some, None}
use Rattle.std.proofs.Common.{option_map, is_some, refl, sym, ap, if◌then◌else◌}
use Rattle.market_terms.proofs.ErasedLists.{append_along, by_erased, erased, find_map, twice}
use Rattle.market_terms.specs.Unpriced.{uncovered, unpriced_duty}
use Rattle.market_terms.specs.declared.closes.Close.{Close}
use Rattle.market_terms.specs.declared.rooms.RoomRef.{RoomRef}
use Rattle.quote_messages.specs.Arrivals.{dealer_arrival}
use Rattle.quote_messages.specs.declared.arrivals.Arrival.{Arrival}
use Rattle.quote_messages.specs.declared.arrivals.Arrival.TheVariants as arrival
use Rattle.quote_messages.specs.declared.quotes.CancelScope.{CancelScope}
use Rattle.quote_messages.specs.declared.quotes.CancelScope.TheVariants as cancels
use Rattle.quote_messages.specs.declared.quotes.DealerMessage.{DealerMessage}
use Rattle.quote_messages.specs.declared.quotes.DealerMessage.TheVariants as message
use Rattle.quote_messages.specs.declared.quotes.Quote.{Quote}
use Rattle.quote_word.specs.declared.settled.Settled.{Settled}
use Rattle.venue_rows.specs.declared.dealer_rows.DealerRow.{DealerRow}
use Rattle.dealer_desk.specs.DealerFacts.{DealerBook, Quoted, Told, expected_number}
use Rattle.dealer_desk.specs.DealerFacts.{exposure_beside, has_lifted_quote, is_closing}
use Rattle.dealer_desk.specs.DealerFacts.{is_withdrawal, live_quote_on, number_to_drop}
use Rattle.dealer_desk.specs.DealerFacts.{quote_to_drop, quote_with_id, request_named}
use Rattle.dealer_desk.specs.DealerFacts.{request_numbered}
use Rattle.dealer_desk.specs.DealerRules.{arrival_verdict, cancel_of, cancel_verdict}
use Rattle.dealer_desk.specs.DealerRules.{dealer_verdict, decline_on, decline_verdict, quote_answer}
use Rattle.dealer_desk.specs.DealerRules.{quote_on, quote_refusal, quote_verdict}
use Rattle.dealer_desk.specs.DealerOutput.{came, closable, event_facts, goes_through, post_of}
use Rattle.dealer_desk.specs.DealerOutput.{room_of, settled_facts, unpost_dropped, uses_number}
use Rattle.dealer_desk.specs.DealerOutput.{verdict_duty, verdict_facts, word_asked}
use Rattle.dealer_desk.specs.Unpriced.{unpriced, unpriced_book, unpriced_end, unpriced_event}
use Rattle.dealer_desk.specs.Unpriced.{unpriced_quote, unpriced_standing, unpriced_verdict}
use Rattle.dealer_desk.specs.declared.refusals.QuoteRefusal.{QuoteRefusal}
use Rattle.dealer_desk.specs.declared.events.DealerEvent.{DealerEvent}
use Rattle.dealer_desk.specs.declared.events.DealerEvent.TheVariants as event
use Rattle.dealer_desk.specs.declared.standing.QuoteEnd.{QuoteEnd}
use Rattle.dealer_desk.specs.declared.standing.QuoteEnd.TheVariants as end
use Rattle.dealer_desk.specs.declared.standing.StandingQuote.{StandingQuote}
use Rattle.dealer_desk.specs.declared.standing.StandingRequest.{StandingRequest}
use Rattle.dealer_desk.specs.declared.standing.Withdrawal.TheVariants as by
use Rattle.dealer_desk.specs.declared.verdicts.DealerVerdict.{DealerVerdict}
use Rattle.dealer_desk.specs.declared.verdicts.DealerVerdict.TheVariants as verdict

-- Verdicts.

ended_same : (end : Option QuoteEnd)
    → (is_withdrawal (option_map unpriced_end end) ≡ is_withdrawal end)
    × (is_closing (option_map unpriced_end end) ≡ is_closing end)
ended_same None = (refl, refl)
ended_same (Some (end.Withdrawn by)) = (refl, refl)
ended_same (Some (end.Closed close)) = (refl, refl)

cancel_same : (id : List ℕ) (found : Option StandingQuote)
    → cancel_of id (option_map unpriced_standing found) ≡ cancel_of id found
cancel_same id None = refl
cancel_same id (Some own) = rw ((ended_same own.end).0, (ended_same own.end).1)

module _ (book : DealerBook) where
  -- the book without prices
  abbrev bare : DealerBook
  bare = unpriced_book book

  quote_same : (row : DealerRow) (moment : ℕ) (quote : Quote) (request : Option StandingRequest)
      → quote_on row bare moment quote request ≡ quote_on row book moment quote request
  unfolding quote_refusal quote_with_id has_lifted_quote live_quote_on exposure_beside
  quote_same row moment quote None = refl
  quote_same row moment quote (Some shown) =
      simp erased (answered (quote_refusal row book moment quote (Some shown)))
    where
      answered : (refused : Option QuoteRefusal)
          → quote_answer bare moment quote (Some shown) refused
          ≡ quote_answer book moment quote (Some shown) refused
      answered (Some reason) = refl
      answered None = simp erased

  scope_same : (scope : CancelScope) → cancel_verdict bare scope ≡ cancel_verdict book scope
  unfolding cancel_verdict quote_with_id quote_to_drop
  scope_same (cancels.One id) = rw find_map (cancel_same id (quote_with_id book id))
  scope_same (cancels.All id) = simp erased
  scope_same (cancels.Other cancel_type id) = refl

  decline_same : (name : List ℕ) (request : Option StandingRequest)
      → decline_on bare name request ≡ decline_on book name request
  unfolding live_quote_on
  decline_same name None = refl
  decline_same name (Some request) = simp erased

  taken_same : (row : DealerRow) (moment : ℕ) (came : Arrival DealerMessage)
      → arrival_verdict row bare moment came ≡ arrival_verdict row book moment came
  unfolding quote_verdict decline_verdict request_named
  taken_same row moment arrival.Dropped = refl
  taken_same row moment (arrival.OutOfSequence reject) = refl
  taken_same row moment (arrival.Rejected reject) = refl
  taken_same row moment (arrival.Taken (message.Quote quote)) =
      quote_same row moment quote (request_named book quote.request)
  taken_same row moment (arrival.Taken (message.Cancel cancel)) = scope_same cancel.scope
  taken_same row moment (arrival.Taken (message.Decline decline)) =
      decline_same decline.request (request_named book decline.request)

  pub verdict_same : (date : List ℕ) (row : DealerRow) (moment : ℕ) (bytes : List ℕ)
      → dealer_verdict date row bare moment bytes ≡ dealer_verdict date row book moment bytes
  unfolding dealer_verdict
  verdict_same date row moment bytes =
      taken_same row moment (dealer_arrival date row (expected_number book) bytes)

  pub number_same : (last : ℕ) → number_to_drop bare last ≡ number_to_drop book last
  unfolding quote_to_drop
  number_same last = simp erased

  pub some_to_drop : (last : ℕ)
      → is_some (quote_to_drop bare last) ≡ is_some (quote_to_drop book last)
  unfolding quote_to_drop
  some_to_drop last = simp erased

  pub unposted_same : (rooms : List RoomRef) (last moment : ℕ) (settlement : Option Settled)
      → unpost_dropped rooms moment settlement (quote_to_drop bare last)
      ≡ unpost_dropped rooms moment settlement (quote_to_drop book last)
  unfolding quote_to_drop
  unposted_same rooms last moment settlement = simp erased (by_quote (quote_to_drop book last))
    where
      by_quote : (found : Option StandingQuote)
          → unpost_dropped rooms moment settlement (option_map unpriced_standing found)
          ≡ unpost_dropped rooms moment settlement found
      by_quote None = refl
      by_quote (Some own) = refl

  pub closable_same : (request : ℕ) → closable bare request ≡ closable book request
  unfolding closable request_numbered
  closable_same request = refl

-- What a verdict says, whatever its price.

asked_same : (v : DealerVerdict) → word_asked (unpriced_verdict v) ≡ word_asked v
asked_same (verdict.QuoteAccepted request id quote replaced) = refl
asked_same other = refl

uses_same : (v : DealerVerdict) → uses_number (unpriced_verdict v) ≡ uses_number v
uses_same (verdict.QuoteAccepted request id quote replaced) = refl
uses_same other = refl

facts_same : (stay : Bool) (settlement : Option Settled) (v : DealerVerdict)
    → map (unpriced stay) (verdict_facts (unpriced_verdict v) settlement)
    ≡ map (unpriced stay) (verdict_facts v settlement)
facts_same stay settlement (verdict.QuoteAccepted request id quote replaced) =
    append_along (unpriced stay) (settled_facts replaced by.Replacement settlement) _ _ _ refl
    (by_test (goes_through replaced settlement))
  where
    by_test : (b : Bool) → map (unpriced stay) (if b then Quoted (unpriced_quote quote) ∷ [] else [])
        ≡ map (unpriced stay) (if b then Quoted quote ∷ [] else [])
    by_test true = refl
    by_test false = refl
facts_same stay settlement other = refl

duty_same : (rooms : List RoomRef) (moment : ℕ) (settlement : Option Settled) (v : DealerVerdict)
    → option_map unpriced_duty (verdict_duty rooms moment (unpriced_verdict v) settlement)
    ≡ option_map unpriced_duty (verdict_duty rooms moment v settlement)
duty_same rooms moment settlement (verdict.QuoteAccepted request id quote replaced) =
    by_room (goes_through replaced settlement) (room_of rooms quote.request)
  where
    by_room : (b : Bool) (room : Option RoomRef)
        → option_map unpriced_duty (if b then option_map (post_of (unpriced_quote quote)) room
        else None)
        ≡ option_map unpriced_duty (if b then option_map (post_of quote) room else None)
    by_room true None = refl
    by_room true (Some room) = refl
    by_room false room = refl
duty_same rooms moment settlement other = refl

-- Two verdicts that are one but for the price.
module _ (v w : DealerVerdict) (alike : unpriced_verdict v ≡ unpriced_verdict w) where
  pub asked_alike : word_asked v ≡ word_asked w
  asked_alike = by_erased unpriced_verdict word_asked word_asked asked_same v w alike

  pub duty_alike : (rooms : List RoomRef) (moment : ℕ) (settlement : Option Settled)
      → option_map unpriced_duty (verdict_duty rooms moment v settlement)
      ≡ option_map unpriced_duty (verdict_duty rooms moment w settlement)
  duty_alike rooms moment settlement =
      rw (← duty_same rooms moment settlement v, alike) (duty_same rooms moment settlement w)

  facts_alike : (stay : Bool) (settlement : Option Settled)
      → map (unpriced stay) (verdict_facts v settlement)
      ≡ map (unpriced stay) (verdict_facts w settlement)
  facts_alike stay settlement =
      rw (← facts_same stay settlement v, alike) (facts_same stay settlement w)

  pub came_alike : (stay : Bool) (moment : ℕ) (bytes others : List ℕ) (settlement : Option Settled)
      → (if stay then bytes else []) ≡ (if stay then others else [])
      → map (unpriced stay) (came moment bytes v settlement)
      ≡ map (unpriced stay) (came moment others w settlement)
  came_alike stay moment bytes others settlement same =
      rw (same, ← uses_same v, alike, uses_same w, facts_alike stay settlement)

-- What the desk keeps.

pub kept_same : (date : List ℕ) (row : DealerRow) (stay : Bool) (book : DealerBook) (more : DealerEvent)
    → map (unpriced stay) (event_facts date row (unpriced_book book) (unpriced_event more))
    ≡ map (unpriced stay) (event_facts date row book more)
unfolding event_facts
kept_same date row stay book (event.Received moment bytes settlement) =
    rw (verdict_same book date row moment bytes)
kept_same date row stay book (event.Shown room ask moment) = refl
kept_same date row stay book (event.Told request close moment) =
    rw (closable_same book request) (told (is_some (closable book request)))
  where
    told : (b : Bool)
        → map (unpriced stay) (if b then Told request (uncovered close) moment ∷ [] else [])
        ≡ map (unpriced stay) (if b then Told request close moment ∷ [] else [])
    told true = ap (λ (c : Close). Told request c moment ∷ []) (sym (twice close))
    told false = refl
kept_same date row stay book (event.Drop last moment settlement) = rw (number_same book last)
