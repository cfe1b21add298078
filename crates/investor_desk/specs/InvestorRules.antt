-- The rules of the market for an investor: what becomes of a message that came to its desk.
use Rattle.std.specs.Prelude.{ℕ, ◌+◌, Bool, ◌==◌, not, nat_lt, nat_le}
use Rattle.std.specs.Prelude.{List, [], ◌∷◌, length, find, position, Option, Some, None, is_none}
use Rattle.std.specs.Prelude.{is_some}
use Rattle.std.specs.List.{list_any, filter_map}
use Rattle.venue_rows.specs.Texts.{same_text}
use Rattle.venue_rows.specs.declared.bond_rows.BondRow.{BondRow}
use Rattle.venue_rows.specs.declared.investor_rows.InvestorRow.{InvestorRow}
use Rattle.market_terms.specs.Checks.{first_refusal}
use Rattle.market_terms.specs.Dealers.{are_distinct}
use Rattle.market_terms.specs.declared.rooms.TheConstants.AskedDealers.{MOST}
use Rattle.market_terms.specs.declared.rooms.ResponseRef.{ResponseRef}
use Rattle.quote_messages.specs.Arrivals.{investor_arrival}
use Rattle.quote_messages.specs.declared.arrivals.Arrival.{Arrival}
use Rattle.quote_messages.specs.declared.arrivals.Arrival.TheVariants.{Dropped, OutOfSequence}
use Rattle.quote_messages.specs.declared.arrivals.Arrival.TheVariants.{Rejected, Taken}
use Rattle.quote_messages.specs.declared.requests.QuoteRequest.{QuoteRequest}
use Rattle.quote_messages.specs.declared.requests.QuoteHit.{QuoteHit}
use Rattle.quote_messages.specs.declared.requests.RequestPass.{RequestPass}
use Rattle.quote_messages.specs.declared.requests.InvestorMessage.{InvestorMessage}
use Rattle.quote_messages.specs.declared.requests.InvestorMessage.TheVariants as message
use Rattle.investor_desk.specs.InvestorFacts.{InvestorBook, StandingRequest, expected_number}
use Rattle.investor_desk.specs.InvestorFacts.{request_with_id, requests_accepted, requests_open}
use Rattle.investor_desk.specs.InvestorFacts.{offer_named}
use Rattle.investor_desk.specs.declared.refusals.RequestRefusal.{RequestRefusal}
use Rattle.investor_desk.specs.declared.refusals.RequestRefusal.TheVariants as refusal
use Rattle.investor_desk.specs.declared.standing.AcceptedRequest.{AcceptedRequest}
use Rattle.investor_desk.specs.declared.standing.ShownOffer.{ShownOffer}
use Rattle.investor_desk.specs.declared.verdicts.InvestorVerdict.{InvestorVerdict}
use Rattle.investor_desk.specs.declared.verdicts.InvestorVerdict.TheVariants as verdict

-- What the rules look at beside the book: the day, the bonds of the venue, the names of its dealers
-- in the order of their numbers, and the investor's own number and row.
pub record InvestorMarket : Type 0 where
  pub date : List ℕ
  pub bonds : List BondRow
  pub dealers : List (List ℕ)
  pub firm : ℕ
  pub row : InvestorRow

-- the bond with this identifier
unfoldable pub bond_with_id : InvestorMarket → List ℕ → Option BondRow
bond_with_id market id = find (λ bond. same_text bond.id id) market.bonds

-- the number of the dealer with this name
unfoldable pub dealer_named : InvestorMarket → List ℕ → Option ℕ
dealer_named market name = position (λ own. same_text own name) market.dealers

-- whether no dealer has this name
abbrev pub is_unknown_dealer : InvestorMarket → List ℕ → Bool
is_unknown_dealer market name = is_none (dealer_named market name)

-- the numbers of the dealers with these names
abbrev pub dealer_numbers : InvestorMarket → List (List ℕ) → List ℕ
dealer_numbers market names = filter_map (dealer_named market) names

-- Requests.

-- The checks of a request in their order, line by line of MARKET.md: a condition, and the
-- name of the line.
abbrev pub request_checks : InvestorMarket → InvestorBook → ℕ → QuoteRequest
    → List (Bool × RequestRefusal)
request_checks market book moment request =
    (is_some (request_with_id book request.id), refusal.DuplicateRequest)
    ∷ (is_none (bond_with_id market request.bond), refusal.UnknownBond)
    ∷ (nat_lt market.row.quantity request.quantity, refusal.QuantityExceeded)
    ∷ (length request.dealers == 0, refusal.NoDealer)
    ∷ (list_any (is_unknown_dealer market) request.dealers, refusal.UnknownDealer)
    ∷ (not (are_distinct (dealer_numbers market request.dealers)), refusal.DealerTwice)
    ∷ (nat_lt MOST (length request.dealers), refusal.TooManyDealers)
    ∷ (nat_le request.deadline moment, refusal.DeadlinePassed)
    ∷ (nat_le market.row.requests (requests_accepted book), refusal.RequestsUsedUp)
    ∷ (nat_le market.row.open_limit (requests_open book), refusal.TooManyOpen)
    ∷ []

-- why a request is refused, if it is
unfoldable pub request_refusal : InvestorMarket → InvestorBook → ℕ → QuoteRequest
    → Option RequestRefusal
request_refusal market book moment request =
    first_refusal (request_checks market book moment request)

-- what is kept of an accepted request in this bond
abbrev pub request_kept : InvestorMarket → InvestorBook → ℕ → QuoteRequest → BondRow
    → AcceptedRequest
request_kept market book moment request bond = record {
  number = requests_accepted book + 1;
  id = request.id;
  trader = request.trader;
  ask = record {
    investor = market.row.name;
    bond = bond.id;
    side = request.side;
    quantity = request.quantity;
    deadline = request.deadline;
    grid = bond.grid;
    band = bond.band;
  };
  dealers = dealer_numbers market request.dealers;
  moment = moment;
}

-- the refusal of a request
abbrev pub request_refused : QuoteRequest → RequestRefusal → InvestorVerdict
request_refused request refused = verdict.RequestRefused request.id request.bond refused

-- a request in this bond that no check refuses is accepted
abbrev pub request_answer : InvestorMarket → InvestorBook → ℕ → QuoteRequest → Option BondRow
    → Option RequestRefusal → InvestorVerdict
request_answer market book moment request bond (Some refused) = request_refused request refused
request_answer market book moment request None None = request_refused request refusal.UnknownBond
request_answer market book moment request (Some bond) None =
    verdict.RequestAccepted request.id (request_kept market book moment request bond)

-- the verdict on a request: SecurityID (48) names its bond
unfoldable pub request_verdict : InvestorMarket → InvestorBook → ℕ → QuoteRequest → InvestorVerdict
request_verdict market book moment request =
    request_answer market book moment request (bond_with_id market request.bond)
    (request_refusal market book moment request)

-- Hits and passes: the room decides on them, and the desk only looks for what they mean.

-- a response as its reply names it
abbrev pub response_to : List ℕ → Option ℕ → ResponseRef
response_to id quote = record { id = id; k = quote }

-- a hit of this quote
abbrev pub hit_of : QuoteHit → Option ShownOffer → InvestorVerdict
hit_of hit None = verdict.HitUnknown hit.id hit.quote
hit_of hit (Some shown) =
    verdict.Hits shown.request (response_to hit.id (Some shown.number)) shown.offer.word

-- the verdict on a hit: QuoteID (117) names the quote, also one that the investor was told is gone
unfoldable pub hit_verdict : InvestorBook → QuoteHit → InvestorVerdict
hit_verdict book hit = hit_of hit (offer_named book hit.quote)

-- a pass of this request
abbrev pub pass_of : RequestPass → Option StandingRequest → InvestorVerdict
pass_of pass None = verdict.PassUnknown pass.id pass.request
pass_of pass (Some own) = verdict.Passes own.request.number (response_to pass.id None)

-- the verdict on a pass: QuoteReqID (131) names the request, also one that is closed
unfoldable pub pass_verdict : InvestorBook → RequestPass → InvestorVerdict
pass_verdict book pass = pass_of pass (request_with_id book pass.request)

-- All messages.

-- the market's verdict on a message
abbrev pub message_verdict : InvestorMarket → InvestorBook → ℕ → InvestorMessage → InvestorVerdict
message_verdict market book moment (message.Request request) =
    request_verdict market book moment request
message_verdict market book moment (message.Hit hit) = hit_verdict book hit
message_verdict market book moment (message.Pass pass) = pass_verdict book pass

-- the verdict on what came: the session's checks come first, and then the market's
abbrev pub arrival_verdict : InvestorMarket → InvestorBook → ℕ → Arrival InvestorMessage
    → InvestorVerdict
arrival_verdict market book moment Dropped = verdict.Dropped
arrival_verdict market book moment (OutOfSequence reject) = verdict.OutOfSequence reject
arrival_verdict market book moment (Rejected reject) = verdict.Rejected reject
arrival_verdict market book moment (Taken message) = message_verdict market book moment message

-- what becomes of bytes that came to an investor's desk at a moment, given the book as it stood
unfoldable pub investor_verdict : InvestorMarket → InvestorBook → ℕ → List ℕ → InvestorVerdict
investor_verdict market book moment bytes =
    arrival_verdict market book moment
    (investor_arrival market.date market.row (expected_number book) bytes)
