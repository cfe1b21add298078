-- The facts of a dealer's desk, and what stands by them: its numbers, the requests that it was
-- shown, its quotes and what became of them, and its exposure. Facts are only ever added. They bear
-- the dealer's own numbers and no room.
use Rattle.std.specs.Prelude.{ℕ, ◌+◌, Bool, true, false, ◌&&◌, ◌==◌, not, nat_le, List, [], ◌∷◌}
use Rattle.std.specs.Prelude.{length, find, count_by, Option, Some, None, is_none, if◌then◌else◌}
use Rattle.std.specs.List.{list_any, sum_by}
use Rattle.std.specs.Option.{option_map, option_or}
use Rattle.venue_rows.specs.Texts.{same_text}
use Rattle.quote_messages.specs.Written.{request_name}
use Rattle.market_terms.specs.declared.asks.Ask.{Ask}
use Rattle.market_terms.specs.declared.closes.Close.{Close}
use Rattle.dealer_desk.specs.declared.accepted.AcceptedQuote.{AcceptedQuote}
use Rattle.dealer_desk.specs.declared.standing.StandingRequest.{StandingRequest}
use Rattle.dealer_desk.specs.declared.standing.StandingQuote.{StandingQuote}
use Rattle.dealer_desk.specs.declared.standing.Withdrawal.{Withdrawal}
use Rattle.dealer_desk.specs.declared.standing.QuoteEnd.{QuoteEnd}
use Rattle.dealer_desk.specs.declared.standing.QuoteEnd.TheVariants as end

-- What became so at a desk. Quotes and requests stand in it by the dealer's own numbers, from 1.

pub data DealerFact : Type 0 where
  -- at this moment these bytes came, and used up the expected number or not
  Came : ℕ → List ℕ → Bool → DealerFact
  Shown : Ask → ℕ → DealerFact  -- the dealer was shown a request that asks for this, at this moment
  Quoted : AcceptedQuote → DealerFact  -- a quote was accepted
  Withdrawn : ℕ → Withdrawal → DealerFact  -- this quote's word was asked, and it is withdrawn
  Late : ℕ → DealerFact  -- the word of this quote was asked, and the quote was lifted before
  Dropped : ℕ → ℕ → DealerFact  -- a drop of the quotes up to this one took its turn, at this moment
  Declined : ℕ → DealerFact  -- the dealer declined this request
  Told : ℕ → Close → ℕ → DealerFact  -- the dealer was told how this request ended, at this moment

-- What one fact says.

-- whether a message used up the number that was expected
abbrev pub used_number : DealerFact → Bool
used_number (Came moment bytes used) = used
used_number fact = false

-- whether a fact is a closing notice
abbrev pub is_notice : DealerFact → Bool
is_notice (Told request close moment) = true
is_notice fact = false

-- whether it is the closing notice of this request
abbrev pub tells : ℕ → DealerFact → Bool
tells number (Told request close moment) = request == number
tells number fact = false

-- whether a fact declines this request
abbrev pub declines : ℕ → DealerFact → Bool
declines number (Declined request) = request == number
declines number fact = false

-- whether a fact says that this quote is known to be lifted
abbrev pub finds_lifted : ℕ → DealerFact → Bool
finds_lifted number (Late quote) = quote == number
finds_lifted number fact = false

-- how a fact ends this quote: it withdraws it, or closes its request
abbrev pub ends : AcceptedQuote → DealerFact → Option QuoteEnd
ends own (Withdrawn quote by) = if quote == own.number then Some (end.Withdrawn by) else None
ends own (Told request close moment) =
    if request == own.request then Some (end.Closed close) else None
ends own fact = None

-- Requests and quotes as they stand by the facts behind them.

-- a request, by the facts behind it
abbrev pub standing_request : ℕ → Ask → List DealerFact → StandingRequest
standing_request number ask later = record {
  number = number;
  ask = ask;
  is_declined = list_any (declines number) later;
  is_told = list_any (tells number) later;
}

-- the requests that the dealer was shown, numbered onward from a number
abbrev pub requests_from : ℕ → List DealerFact → List StandingRequest
requests_from number [] = []
requests_from number (Shown ask moment ∷ later) =
    standing_request number ask later ∷ requests_from (number + 1) later
requests_from number (fact ∷ later) = requests_from number later

-- the first that some facts say, where any of them says something
abbrev pub first_said : {A : Type 0} → (DealerFact → Option A) → List DealerFact → Option A
first_said says [] = None
first_said says (fact ∷ later) = option_or (says fact) (first_said says later)

-- a quote, by the facts behind it
abbrev pub standing_quote : AcceptedQuote → List DealerFact → StandingQuote
standing_quote quote later = record {
  quote = quote;
  is_known_lifted = list_any (finds_lifted quote.number) later;
  end = first_said (ends quote) later;
}

-- the quotes that were accepted, the first one first
abbrev pub standings : List DealerFact → List StandingQuote
standings [] = []
standings (Quoted quote ∷ later) = standing_quote quote later ∷ standings later
standings (fact ∷ later) = standings later

-- The book of a desk: what stands by its facts, which every rule asks. It is how many messages used
-- up a number, how many closing notices were sent, the requests and the quotes.
pub record DealerBook : Type 0 where
  pub used : ℕ
  pub notices : ℕ
  pub requests : List StandingRequest
  pub quotes : List StandingQuote

-- the book by the facts that stand; requests are numbered from 1
abbrev pub book_of : List DealerFact → DealerBook
book_of facts = record {
  used = count_by used_number facts;
  notices = count_by is_notice facts;
  requests = requests_from 1 facts;
  quotes = standings facts;
}

-- Numbers.

-- the MsgSeqNum (34) that the desk expects next
abbrev pub expected_number : DealerBook → ℕ
expected_number book = book.used + 1

-- how many requests the dealer was shown
abbrev pub requests_shown : DealerBook → ℕ
requests_shown book = length book.requests

-- how many quotes were accepted in the day
abbrev pub quotes_accepted : DealerBook → ℕ
quotes_accepted book = length book.quotes

-- Requests.

-- the request that a QuoteReqID (131) names
unfoldable pub request_named : DealerBook → List ℕ → Option StandingRequest
request_named book name =
    find (λ request. same_text (request_name request.number) name) book.requests

-- the request with this number
unfoldable pub request_numbered : DealerBook → ℕ → Option StandingRequest
request_numbered book number = find (λ request. request.number == number) book.requests

-- Quotes.

-- the accepted quote with this QuoteID (117)
unfoldable pub quote_with_id : DealerBook → List ℕ → Option StandingQuote
quote_with_id book id = find (λ own. same_text own.quote.id id) book.quotes

-- the accepted quote with this own number
unfoldable pub quote_numbered : DealerBook → ℕ → Option StandingQuote
quote_numbered book number = find (λ own. own.quote.number == number) book.quotes

-- whether a quote was withdrawn, by a cancel or by its replacement
abbrev pub is_withdrawal : Option QuoteEnd → Bool
is_withdrawal (Some (end.Withdrawn by)) = true
is_withdrawal (Some (end.Closed close)) = false
is_withdrawal None = false

-- whether it ended with its request
abbrev pub is_closing : Option QuoteEnd → Bool
is_closing (Some (end.Withdrawn by)) = false
is_closing (Some (end.Closed close)) = true
is_closing None = false

-- A quote is live until it is withdrawn or its request's closing notice was sent.
abbrev pub is_live : StandingQuote → Bool
is_live own = is_none own.end

-- whether a quote is live and answers this request
abbrev pub is_live_on : ℕ → StandingQuote → Bool
is_live_on request own = is_live own && (own.quote.request == request)

-- the dealer's live quote on a request
unfoldable pub live_quote_on : DealerBook → ℕ → Option StandingQuote
live_quote_on book request = find (is_live_on request) book.quotes

-- the own number of the dealer's live quote on a request
abbrev pub live_number_on : DealerBook → ℕ → Option ℕ
live_number_on book request = option_map (λ own. own.quote.number) (live_quote_on book request)

-- whether a quote answers this request and is known to be lifted
abbrev pub is_lifted_on : ℕ → StandingQuote → Bool
is_lifted_on request own = own.is_known_lifted && (own.quote.request == request)

-- whether the dealer's quote on a request is known to be lifted
unfoldable pub has_lifted_quote : DealerBook → ℕ → Bool
has_lifted_quote book request = list_any (is_lifted_on request) book.quotes

-- a quote is droppable while it is live and not known to be lifted
abbrev pub is_droppable : StandingQuote → Bool
is_droppable own = is_live own && not own.is_known_lifted

-- the quote that a drop of the quotes up to this one takes: of the droppable ones the one with the
-- lowest number
unfoldable pub quote_to_drop : DealerBook → ℕ → Option StandingQuote
quote_to_drop book last = find (λ own. is_droppable own && nat_le own.quote.number last) book.quotes

-- its own number
abbrev pub number_to_drop : DealerBook → ℕ → Option ℕ
number_to_drop book last = option_map (λ own. own.quote.number) (quote_to_drop book last)

-- Exposure.

-- what a quote adds to the exposure: its quantity while it is live
abbrev pub live_quantity : StandingQuote → ℕ
live_quantity own = if is_live own then own.quote.quantity else 0

-- the exposure: the sum of the quantities of the live quotes
unfoldable pub exposure_of : DealerBook → ℕ
exposure_of book = sum_by live_quantity book.quotes

-- whether a quote is the one that is to be replaced, where one is
abbrev pub is_number : Option ℕ → ℕ → Bool
is_number None number = false
is_number (Some replaced) number = number == replaced

-- what a quote adds to the exposure beside one that is to be replaced
abbrev pub quantity_beside : Option ℕ → StandingQuote → ℕ
quantity_beside replaced own = if is_number replaced own.quote.number then 0 else live_quantity own

-- the exposure beside a quote that is to be replaced: the sum of the quantities of the other live
-- quotes
unfoldable pub exposure_beside : DealerBook → Option ℕ → ℕ
exposure_beside book replaced = sum_by (quantity_beside replaced) book.quotes
