-- The facts of an investor's desk, and what stands by them: its numbers, its requests and how they
-- were closed, and the quotes that the investor was shown. Facts are only ever added. They bear the
-- investor's own numbers.
use Rattle.std.specs.Prelude.{ℕ, ◌+◌, Bool, true, false, ◌&&◌, ◌==◌, not, List, [], ◌∷◌, length}
use Rattle.std.specs.Prelude.{find, count_by, Option, Some, None, is_none, is_some, if◌then◌else◌}
use Rattle.std.specs.List.{list_any}
use Rattle.std.specs.Option.{option_or}
use Rattle.venue_rows.specs.Texts.{same_text}
use Rattle.quote_messages.specs.Written.{quote_name}
use Rattle.investor_desk.specs.declared.standing.AcceptedRequest.{AcceptedRequest}
use Rattle.investor_desk.specs.declared.standing.RequestClose.{RequestClose}
use Rattle.investor_desk.specs.declared.standing.ShownOffer.{ShownOffer}

-- What became so at a desk. Requests and quotes stand in it by the investor's own numbers, from 1.
pub data InvestorFact : Type 0 where
  -- at this moment these bytes came, and used up the expected number or not
  Came : ℕ → List ℕ → Bool → InvestorFact
  Asked : AcceptedRequest → InvestorFact  -- a request was accepted
  Offered : ShownOffer → InvestorFact  -- the investor was shown a quote
  Gone : ℕ → ℕ → InvestorFact  -- the investor was told that on this request this quote is gone
  Closed : ℕ → RequestClose → InvestorFact  -- this request was closed

-- What one fact says.

-- whether a message used up the number that was expected
abbrev pub used_number : InvestorFact → Bool
used_number (Came moment bytes used) = used
used_number fact = false

-- how a fact closes this request
abbrev pub closes : ℕ → InvestorFact → Option RequestClose
closes number (Closed request close) = if request == number then Some close else None
closes number fact = None

-- whether a fact says that on this request this quote is gone
abbrev pub says_gone : ℕ → ℕ → InvestorFact → Bool
says_gone number quote (Gone request gone) = (request == number) && (gone == quote)
says_gone number quote fact = false

-- Requests and quotes as they stand by the facts behind them.

-- the first that some facts say, where any of them says something
abbrev pub first_said : {A : Type 0} → (InvestorFact → Option A) → List InvestorFact → Option A
first_said says [] = None
first_said says (fact ∷ later) = option_or (says fact) (first_said says later)

-- whether a quote that was shown stands on this request: it was shown on it, and no later fact says
-- that it is gone
abbrev pub stands_on : ℕ → ShownOffer → List InvestorFact → Bool
stands_on number shown later =
    (shown.request == number) && not (list_any (says_gone number shown.number) later)

-- the quotes that stand on a request, in the order in which they were shown
abbrev pub standing_on : ℕ → List InvestorFact → List ShownOffer
standing_on number [] = []
standing_on number (Offered shown ∷ later) =
    if stands_on number shown later
    then shown ∷ standing_on number later
    else standing_on number later
standing_on number (fact ∷ later) = standing_on number later

-- A request as it stands: what was accepted, how it was closed first, where it was, and the quotes
-- that stand on it.
pub record StandingRequest : Type 0 where
  pub request : AcceptedRequest
  pub close : Option RequestClose
  pub standing : List ShownOffer

-- a request, by the facts behind it
abbrev pub standing_request : AcceptedRequest → List InvestorFact → StandingRequest
standing_request request later = record {
  request = request;
  close = first_said (closes request.number) later;
  standing = standing_on request.number later;
}

-- the requests that were accepted, the first one first
abbrev pub requests_of : List InvestorFact → List StandingRequest
requests_of [] = []
requests_of (Asked request ∷ later) = standing_request request later ∷ requests_of later
requests_of (fact ∷ later) = requests_of later

-- the quotes that the investor was shown, the first one first, also those that are gone
abbrev pub offers_of : List InvestorFact → List ShownOffer
offers_of [] = []
offers_of (Offered shown ∷ later) = shown ∷ offers_of later
offers_of (fact ∷ later) = offers_of later

-- The book of a desk: what stands by its facts, which every rule asks. It is how many messages used
-- up a number, the requests, and the quotes that were shown.
pub record InvestorBook : Type 0 where
  pub used : ℕ
  pub requests : List StandingRequest
  pub offers : List ShownOffer

-- the book by the facts that stand
abbrev pub book_of : List InvestorFact → InvestorBook
book_of facts = record {
  used = count_by used_number facts;
  requests = requests_of facts;
  offers = offers_of facts;
}

-- Numbers.

-- the MsgSeqNum (34) that the desk expects next
abbrev pub expected_number : InvestorBook → ℕ
expected_number book = book.used + 1

-- how many requests were accepted in the day
abbrev pub requests_accepted : InvestorBook → ℕ
requests_accepted book = length book.requests

-- how many quotes the investor was shown
abbrev pub offers_shown : InvestorBook → ℕ
offers_shown book = length book.offers

-- Requests.

-- a request is open until it is closed
abbrev pub is_open : StandingRequest → Bool
is_open own = is_none own.close

-- how many requests are open
abbrev pub requests_open : InvestorBook → ℕ
requests_open book = count_by is_open book.requests

-- the accepted request with this QuoteReqID (131)
unfoldable pub request_with_id : InvestorBook → List ℕ → Option StandingRequest
request_with_id book id = find (λ own. same_text own.request.id id) book.requests

-- the accepted request with this number
unfoldable pub request_numbered : InvestorBook → ℕ → Option StandingRequest
request_numbered book number = find (λ own. own.request.number == number) book.requests

-- a request, while it is open
abbrev pub while_open : Option StandingRequest → Option StandingRequest
while_open None = None
while_open (Some own) = if is_open own then Some own else None

-- the request with this number, while it is open
abbrev pub open_request : InvestorBook → ℕ → Option StandingRequest
open_request book number = while_open (request_numbered book number)

-- Quotes.

-- the quote that a QuoteID (117) names: `Q` and its number
unfoldable pub offer_named : InvestorBook → List ℕ → Option ShownOffer
offer_named book name = find (λ shown. same_text (quote_name shown.number) name) book.offers

-- the quote with this number
unfoldable pub offer_numbered : InvestorBook → ℕ → Option ShownOffer
offer_numbered book number = find (λ shown. shown.number == number) book.offers

-- the quote of this dealer that stands on a request
abbrev pub offer_of_dealer : StandingRequest → List ℕ → Option ShownOffer
offer_of_dealer own dealer = find (λ shown. same_text shown.offer.dealer dealer) own.standing

-- the earliest shown of the quotes with this word that stand on a request
abbrev pub offer_with_word : StandingRequest → ℕ → Option ShownOffer
offer_with_word own word = find (λ shown. shown.offer.word == word) own.standing

-- whether a quote was shown on this request
abbrev pub was_shown_on : ℕ → Option ShownOffer → Bool
was_shown_on number None = false
was_shown_on number (Some shown) = shown.request == number

-- whether a quote, where one is given, was shown on this request
abbrev pub knows_quote : InvestorBook → ℕ → Option ℕ → Bool
knows_quote book number None = true
knows_quote book number (Some quote) = was_shown_on number (offer_numbered book quote)

-- whether this request was accepted, and the quote, where one is given, was shown on it
abbrev pub knows : InvestorBook → ℕ → Option ℕ → Bool
knows book number quote = is_some (request_numbered book number) && knows_quote book number quote
