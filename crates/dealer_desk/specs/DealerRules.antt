-- The rules of the market for a dealer: what becomes of a message that came to its desk.
use Rattle.std.specs.Prelude.{ℕ, ◌+◌, Bool, false, ◌==◌, ◌||◌, not, nat_lt, nat_le}
use Rattle.std.specs.Prelude.{List, [], ◌∷◌, Option, Some, None, unwrap_or, is_none, is_some}
use Rattle.std.specs.Prelude.{Result, Ok, Err, if◌then◌else◌}
use Rattle.bond_prices.specs.Band.{in_band}
use Rattle.bond_prices.specs.Grid.{on_grid}
use Rattle.bond_prices.specs.declared.band.Band.{Band}
use Rattle.bond_prices.specs.declared.fault.PriceFault.{PriceFault}
use Rattle.venue_rows.specs.Texts.{same_text}
use Rattle.venue_rows.specs.declared.dealer_rows.DealerRow.{DealerRow}
use Rattle.market_terms.specs.Checks.{first_refusal, is_not_after}
use Rattle.market_terms.specs.declared.asks.Ask.{Ask}
use Rattle.market_terms.specs.declared.asks.Side.{Side}
use Rattle.market_terms.specs.declared.asks.Side.TheVariants.{Buy, Sell}
use Rattle.quote_messages.specs.Arrivals.{dealer_arrival}
use Rattle.quote_messages.specs.declared.arrivals.Arrival.{Arrival}
use Rattle.quote_messages.specs.declared.arrivals.Arrival.TheVariants.{Dropped, OutOfSequence}
use Rattle.quote_messages.specs.declared.arrivals.Arrival.TheVariants.{Rejected, Taken}
use Rattle.quote_messages.specs.declared.quotes.Quote.{Quote}
use Rattle.quote_messages.specs.declared.quotes.CancelScope.{CancelScope}
use Rattle.quote_messages.specs.declared.quotes.CancelScope.TheVariants as cancels
use Rattle.quote_messages.specs.declared.quotes.DealerMessage.{DealerMessage}
use Rattle.quote_messages.specs.declared.quotes.DealerMessage.TheVariants as message
use Rattle.dealer_desk.specs.DealerFacts.{DealerBook, expected_number, request_named}
use Rattle.dealer_desk.specs.DealerFacts.{quotes_accepted, quote_with_id, live_number_on}
use Rattle.dealer_desk.specs.DealerFacts.{exposure_beside, is_withdrawal, is_closing}
use Rattle.dealer_desk.specs.DealerFacts.{has_lifted_quote, quote_to_drop}
use Rattle.dealer_desk.specs.declared.accepted.AcceptedQuote.{AcceptedQuote}
use Rattle.dealer_desk.specs.declared.refusals.QuoteRefusal.{QuoteRefusal}
use Rattle.dealer_desk.specs.declared.refusals.QuoteRefusal.TheVariants as no_quote
use Rattle.dealer_desk.specs.declared.refusals.CancelRefusal.{CancelRefusal}
use Rattle.dealer_desk.specs.declared.refusals.CancelRefusal.TheVariants as no_cancel
use Rattle.dealer_desk.specs.declared.refusals.DeclineRefusal.{DeclineRefusal}
use Rattle.dealer_desk.specs.declared.refusals.DeclineRefusal.TheVariants as no_decline
use Rattle.dealer_desk.specs.declared.standing.StandingRequest.{StandingRequest}
use Rattle.dealer_desk.specs.declared.standing.StandingQuote.{StandingQuote}
use Rattle.dealer_desk.specs.declared.verdicts.DealerVerdict.{DealerVerdict}
use Rattle.dealer_desk.specs.declared.verdicts.DealerVerdict.TheVariants as verdict

-- Prices: a buyer asks for an offer, a seller for a bid.

-- the price on the side that is asked for
abbrev pub asked_price : Side → Quote → Option (Result ℕ PriceFault)
asked_price Buy quote = quote.offer
asked_price Sell quote = quote.bid

-- the price on the other side
abbrev pub other_price : Side → Quote → Option (Result ℕ PriceFault)
other_price Buy quote = quote.bid
other_price Sell quote = quote.offer

-- a price that is read as 256ths, with none on the other side
abbrev pub lone_price : Option (Result ℕ PriceFault) → Option (Result ℕ PriceFault) → Option ℕ
lone_price (Some (Ok price)) None = Some price
lone_price (Some (Ok price)) (Some other) = None
lone_price (Some (Err fault)) other = None
lone_price None other = None

-- a price, where it is on the grid of the bond
abbrev pub if_on_grid : ℕ → Option ℕ → Option ℕ
if_on_grid grid None = None
if_on_grid grid (Some price) = if on_grid price grid then Some price else None

-- the price at which a quote answers an ask, if it does so lawfully
unfoldable pub price_for : Ask → Quote → Option ℕ
price_for ask quote =
    if_on_grid ask.grid (lone_price (asked_price ask.side quote) (other_price ask.side quote))

-- whether a price stands and is outside the band of the bond
abbrev pub is_outside : Band → Option ℕ → Bool
is_outside band None = false
is_outside band (Some price) = not (in_band price band)

-- The conditions of the checks.

-- whether a value stands and is not the one that is wanted
abbrev pub differs_from : ℕ → Option ℕ → Bool
differs_from wanted None = false
differs_from wanted (Some found) = not (found == wanted)

-- whether BidSize (134) or OfferSize (135) stands and is not the quantity that is asked for
abbrev pub sizes_differ : ℕ → Quote → Bool
sizes_differ quantity quote =
    differs_from quantity quote.bid_size || differs_from quantity quote.offer_size

-- whether a request was found of which this holds
abbrev pub of_request : Option StandingRequest → (StandingRequest → Bool) → Bool
of_request None holds = false
of_request (Some request) holds = holds request

-- the quantity of a quote that answers this ask, with those of the dealer's other live quotes
abbrev pub exposure_with : DealerBook → StandingRequest → ℕ
exposure_with book request =
    request.ask.quantity + exposure_beside book (live_number_on book request.number)

-- Quotes.

-- The checks of a quote in their order, line by line of MARKET.md's table: a condition, and the
-- name of its line. The last line of that table, Lifted, is the word of the quote that this one
-- would replace: the verdict names that quote, and its word is asked where none of these lines
-- refuses.
abbrev pub quote_checks : DealerRow → DealerBook → ℕ → Quote → Option StandingRequest
    → List (Bool × QuoteRefusal)
quote_checks row book moment quote request =
    (is_none request, no_quote.UnknownRequest)
    ∷ (of_request request (λ shown. shown.is_declined), no_quote.Declined)
    ∷ (
      of_request request (λ shown. shown.is_told || has_lifted_quote book shown.number),
      no_quote.Closed,
    )
    ∷ (of_request request (λ shown. nat_le shown.ask.deadline moment), no_quote.DeadlinePassed)
    ∷ (of_request request (λ shown. not (same_text quote.bond shown.ask.bond)), no_quote.OtherBond)
    ∷ (of_request request (λ shown. is_none (price_for shown.ask quote)), no_quote.InvalidPrice)
    ∷ (
      of_request request (λ shown. is_outside shown.ask.band (price_for shown.ask quote)),
      no_quote.OutsideBand,
    )
    ∷ (of_request request (λ shown. sizes_differ shown.ask.quantity quote), no_quote.OtherQuantity)
    ∷ (differs_from 1 quote.quote_type, no_quote.NotTradeable)
    ∷ (is_some (quote_with_id book quote.id), no_quote.DuplicateQuote)
    ∷ (is_not_after moment quote.valid_until, no_quote.ValidityPassed)
    ∷ (nat_le row.quotes (quotes_accepted book), no_quote.QuotesUsedUp)
    ∷ (
      of_request request (λ shown. nat_lt row.exposure (exposure_with book shown)),
      no_quote.ExposureExceeded,
    )
    ∷ []

-- why a quote is refused before any word is asked, if it is
unfoldable pub quote_refusal : DealerRow → DealerBook → ℕ → Quote → Option StandingRequest
    → Option QuoteRefusal
quote_refusal row book moment quote request =
    first_refusal (quote_checks row book moment quote request)

-- what is kept of an accepted quote
abbrev pub quote_kept : DealerBook → ℕ → Quote → StandingRequest → AcceptedQuote
quote_kept book moment quote request = record {
  number = quotes_accepted book + 1;
  id = quote.id;
  request = request.number;
  trader = quote.trader;
  bond = request.ask.bond;
  side = request.ask.side;
  quantity = request.ask.quantity;
  price = unwrap_or (price_for request.ask quote) 0;
  valid_until = quote.valid_until;
  moment = moment;
}

-- the refusal of a quote
abbrev pub quote_refused : Quote → QuoteRefusal → DealerVerdict
quote_refused quote refusal = verdict.QuoteRefused quote.request quote.id refusal

-- a quote on a request that no check refuses is accepted; it replaces the dealer's live quote
-- there, where there is one
abbrev pub quote_answer : DealerBook → ℕ → Quote → Option StandingRequest
    → Option QuoteRefusal → DealerVerdict
quote_answer book moment quote request (Some refusal) = quote_refused quote refusal
quote_answer book moment quote None None = quote_refused quote no_quote.UnknownRequest
quote_answer book moment quote (Some request) None =
    verdict.QuoteAccepted quote.request quote.id (quote_kept book moment quote request)
    (live_number_on book request.number)

-- the verdict on a quote on this request
abbrev pub quote_on : DealerRow → DealerBook → ℕ → Quote → Option StandingRequest → DealerVerdict
quote_on row book moment quote request =
    quote_answer book moment quote request (quote_refusal row book moment quote request)

-- the verdict on a quote: QuoteReqID (131) names its request
unfoldable pub quote_verdict : DealerRow → DealerBook → ℕ → Quote → DealerVerdict
quote_verdict row book moment quote =
    quote_on row book moment quote (request_named book quote.request)

-- Cancels.

-- the checks of a cancel of one quote that was accepted, line by line of MARKET.md's table; the
-- word of the quote, the later line Lifted there, is asked where none of these refuses
abbrev pub cancel_checks : StandingQuote → List (Bool × CancelRefusal)
cancel_checks own =
    (is_withdrawal own.end, no_cancel.Withdrawn)
    ∷ (is_closing own.end || own.is_known_lifted, no_cancel.Closed)
    ∷ []

-- a refusal, or else the word of the quote is asked
abbrev pub cancel_answer : List ℕ → StandingQuote → Option CancelRefusal → DealerVerdict
cancel_answer id own (Some refusal) = verdict.CancelRefused (Some id) refusal
cancel_answer id own None = verdict.CancelAccepted id own.quote.number own.quote.request

-- a cancel of a QuoteID that no accepted quote has is told so
abbrev pub cancel_of : List ℕ → Option StandingQuote → DealerVerdict
cancel_of id None = verdict.CancelRefused (Some id) no_cancel.UnknownQuote
cancel_of id (Some own) = cancel_answer id own (first_refusal (cancel_checks own))

-- a cancel of all quotes: the droppable ones of those that were accepted so far are dropped one by
-- one, and where none is droppable that is told at once
abbrev pub cancel_all : DealerBook → Option (List ℕ) → DealerVerdict
cancel_all book id =
    if is_none (quote_to_drop book (quotes_accepted book))
    then verdict.CancelRefused id no_cancel.NothingToCancel
    else verdict.DropsFollow (quotes_accepted book)

-- the verdict on a cancel: QuoteCancelType (298) 5 cancels the quote that QuoteID (117) names, 4
-- cancels all quotes, and every other type is refused
unfoldable pub cancel_verdict : DealerBook → CancelScope → DealerVerdict
cancel_verdict book (cancels.One id) = cancel_of id (quote_with_id book id)
cancel_verdict book (cancels.All id) = cancel_all book id
cancel_verdict book (cancels.Other cancel_type id) =
    verdict.CancelRefused id no_cancel.UnknownCancelType

-- Declines.

-- the checks of a decline, line by line of MARKET.md's table
abbrev pub decline_checks : DealerBook → Option StandingRequest → List (Bool × DeclineRefusal)
decline_checks book request =
    (is_none request, no_decline.UnknownRequest)
    ∷ (of_request request (λ shown. shown.is_declined), no_decline.Declined)
    ∷ (of_request request (λ shown. shown.is_told), no_decline.Closed)
    ∷ (
      of_request request (λ shown. is_some (live_number_on book shown.number)),
      no_decline.LiveQuote,
    )
    ∷ []

-- a refusal, or else the decline is accepted
abbrev pub decline_answer : List ℕ → Option StandingRequest → Option DeclineRefusal
    → DealerVerdict
decline_answer name request (Some refusal) = verdict.DeclineRefused name refusal
decline_answer name None None = verdict.DeclineRefused name no_decline.UnknownRequest
decline_answer name (Some request) None = verdict.DeclineAccepted name request.number

-- the verdict on a decline of this request
abbrev pub decline_on : DealerBook → List ℕ → Option StandingRequest → DealerVerdict
decline_on book name request =
    decline_answer name request (first_refusal (decline_checks book request))

-- the verdict on a decline: QuoteReqID (131) names its request
unfoldable pub decline_verdict : DealerBook → List ℕ → DealerVerdict
decline_verdict book name = decline_on book name (request_named book name)

-- All messages.

-- the market's verdict on a message
abbrev pub message_verdict : DealerRow → DealerBook → ℕ → DealerMessage → DealerVerdict
message_verdict row book moment (message.Quote quote) = quote_verdict row book moment quote
message_verdict row book moment (message.Cancel cancel) = cancel_verdict book cancel.scope
message_verdict row book moment (message.Decline decline) = decline_verdict book decline.request

-- the verdict on what came: the session's checks come first, and then the market's
abbrev pub arrival_verdict : DealerRow → DealerBook → ℕ → Arrival DealerMessage → DealerVerdict
arrival_verdict row book moment Dropped = verdict.Dropped
arrival_verdict row book moment (OutOfSequence reject) = verdict.OutOfSequence reject
arrival_verdict row book moment (Rejected reject) = verdict.Rejected reject
arrival_verdict row book moment (Taken message) = message_verdict row book moment message

-- what becomes of bytes that came to a dealer's desk at a moment, given the book as it stood
unfoldable pub dealer_verdict : List ℕ → DealerRow → DealerBook → ℕ → List ℕ → DealerVerdict
dealer_verdict date row book moment bytes =
    arrival_verdict row book moment (dealer_arrival date row (expected_number book) bytes)
