-- How one fact more changes the book of a desk. Only private functions and the laws of the desk say
-- this.
use Rattle.std.specs.Prelude.{◌≡◌, ◌≤◌, ◌<◌, ℕ, ◌+◌, Bool, true, ◌==◌, ◌||◌, List, [], ◌∷◌, ◌++◌}
use Rattle.std.specs.Prelude.{length, filter, map, slice_get, Option, Some, None, if◌then◌else◌}
use Rattle.std.specs.Option.{option_or}
use Rattle.dealer_desk.specs.DealerFacts.{DealerFact, Shown, Quoted, DealerBook, used_number}
use Rattle.dealer_desk.specs.DealerFacts.{is_notice, tells, declines, finds_lifted, ends}
use Rattle.dealer_desk.specs.DealerFacts.{standing_request, standing_quote, is_live, is_live_on}
use Rattle.dealer_desk.specs.DealerFacts.{quotes_accepted, requests_shown, quote_with_id}
use Rattle.dealer_desk.specs.DealerFacts.{live_number_on, exposure_beside}
use Rattle.dealer_desk.specs.declared.accepted.AcceptedQuote.{AcceptedQuote}
use Rattle.dealer_desk.specs.declared.standing.StandingRequest.{StandingRequest}
use Rattle.dealer_desk.specs.declared.standing.StandingQuote.{StandingQuote}
use Rattle.dealer_desk.specs.declared.standing.QuoteEnd.{QuoteEnd}
use Rattle.dealer_desk.specs.declared.standing.QuoteEnd.TheVariants as end
use Rattle.market_terms.specs.declared.closes.Close.{Close}
use Rattle.venue_rows.specs.declared.dealer_rows.TheConstants.DealerRow.{MOST_QUOTES}
use Rattle.venue_rows.specs.declared.dealer_rows.TheConstants.DealerRow.{MOST_EXPOSURE}

-- a request after one fact more
abbrev pub request_after : DealerFact → StandingRequest → StandingRequest
request_after fact request = record {
  number = request.number;
  ask = request.ask;
  is_declined = request.is_declined || declines request.number fact;
  is_told = request.is_told || tells request.number fact;
}

-- a quote after one fact more
abbrev pub quote_after : DealerFact → StandingQuote → StandingQuote
quote_after fact own = record {
  quote = own.quote;
  is_known_lifted = own.is_known_lifted || finds_lifted own.quote.number fact;
  end = option_or own.end (ends own.quote fact);
}

-- the request that a fact adds, with this number
abbrev pub request_added : ℕ → DealerFact → List StandingRequest
request_added number (Shown ask moment) = standing_request number ask [] ∷ []
request_added number fact = []

-- the quote that a fact adds
abbrev pub quote_added : DealerFact → List StandingQuote
quote_added (Quoted quote) = standing_quote quote [] ∷ []
quote_added fact = []

-- one more where so
abbrev pub counted : Bool → ℕ → ℕ
counted so n = if so then n + 1 else n

-- the book after one fact more
unfoldable pub book_after : DealerBook → DealerFact → DealerBook
book_after book fact = record {
  used = counted (used_number fact) book.used;
  notices = counted (is_notice fact) book.notices;
  requests = map (request_after fact) book.requests
      ++ request_added (length book.requests + 1) fact;
  quotes = map (quote_after fact) book.quotes ++ quote_added fact;
}

-- a quote that this ends, where it is the one with this number and live
abbrev pub ended_at : ℕ → QuoteEnd → StandingQuote → StandingQuote
ended_at number how own =
    if number == own.quote.number then record own { end = option_or own.end (Some how) } else own

-- a quote that is known to be lifted, where it is the one with this number
abbrev pub late_at : ℕ → StandingQuote → StandingQuote
late_at number own =
    if number == own.quote.number then record own { is_known_lifted = true } else own

-- a quote on this request that its closing ends, where it is live
abbrev pub closed_on : ℕ → Close → StandingQuote → StandingQuote
closed_on number close own =
    if number == own.quote.request
    then record own { end = option_or own.end (Some (end.Closed close)) }
    else own

-- a request that is declined, where it is the one with this number
abbrev pub declined_at : ℕ → StandingRequest → StandingRequest
declined_at number request =
    if number == request.number then record request { is_declined = true } else request

-- a request that is told, where it is the one with this number
abbrev pub told_at : ℕ → StandingRequest → StandingRequest
told_at number request =
    if number == request.number then record request { is_told = true } else request

-- the live quote with this number
pub record IsLiveNumber (quotes : List StandingQuote) (number : ℕ) : Type 0 where
  pub own : StandingQuote
  pub place : ℕ
  pub number_is : number ≡ place + 1
  pub stands : slice_get quotes place ≡ Some own
  pub live : is_live own ≡ true

-- a quote that can be put into a book, in the place of a live one on its request where there is one
pub record FitsBook (book : DealerBook) (quote : AcceptedQuote) (replaced : Option ℕ) : Type 0 where
  pub number_is : quote.number ≡ quotes_accepted book + 1
  pub id_is_new : quote_with_id book quote.id ≡ None
  pub few : quotes_accepted book < MOST_QUOTES
  pub from_first : 1 ≤ quote.request
  pub to_last : quote.request ≤ requests_shown book
  pub replaced_is : live_number_on book quote.request ≡ replaced
  pub exposure_fits : quote.quantity + exposure_beside book replaced ≤ MOST_EXPOSURE

-- What holds of every book: requests and quotes are numbered from 1, each quote answers a request
-- of the book, and at most one quote on a request is live.
pub record IsSound (requests : List StandingRequest) (quotes : List StandingQuote) : Type 0 where
  pub requests_numbered : (k : ℕ) (request : StandingRequest)
      → slice_get requests k ≡ Some request → request.number ≡ k + 1
  pub quotes_numbered : (k : ℕ) (own : StandingQuote)
      → slice_get quotes k ≡ Some own → own.quote.number ≡ k + 1
  pub from_first : (k : ℕ) (own : StandingQuote)
      → slice_get quotes k ≡ Some own → 1 ≤ own.quote.request
  pub to_last : (k : ℕ) (own : StandingQuote)
      → slice_get quotes k ≡ Some own → own.quote.request ≤ length requests
  pub lone : (request : ℕ) → length (filter (is_live_on request) quotes) ≤ 1
