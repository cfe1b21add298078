-- What verdicts leave: the drops of the quotes that were accepted so far, and a request that names
-- its investor.
use Rattle.std.proofs.Common.{◌≡◌, ℕ, Bool, true, false, List, Option, Some, None}
use Rattle.std.proofs.Common.{if◌then◌else◌, refl}
use Rattle.market_terms.specs.Checks.{first_refusal}
use Rattle.quote_messages.specs.Arrivals.{dealer_arrival, investor_arrival}
use Rattle.quote_messages.specs.declared.arrivals.Arrival.{Arrival}
use Rattle.quote_messages.specs.declared.arrivals.Arrival.TheVariants as arrival
use Rattle.quote_messages.specs.declared.quotes.CancelScope.{CancelScope}
use Rattle.quote_messages.specs.declared.quotes.CancelScope.TheVariants as cancels
use Rattle.quote_messages.specs.declared.quotes.DealerMessage.{DealerMessage}
use Rattle.quote_messages.specs.declared.quotes.DealerMessage.TheVariants as said
use Rattle.quote_messages.specs.declared.quotes.Quote.{Quote}
use Rattle.dealer_desk.specs.declared.refusals.QuoteRefusal.{QuoteRefusal}
use Rattle.dealer_desk.specs.declared.refusals.CancelRefusal.{CancelRefusal}
use Rattle.dealer_desk.specs.declared.refusals.DeclineRefusal.{DeclineRefusal}
use Rattle.investor_desk.specs.declared.refusals.RequestRefusal.{RequestRefusal}
use Rattle.quote_messages.specs.declared.requests.InvestorMessage.{InvestorMessage}
use Rattle.quote_messages.specs.declared.requests.InvestorMessage.TheVariants as asked
use Rattle.quote_messages.specs.declared.requests.QuoteHit.{QuoteHit}
use Rattle.quote_messages.specs.declared.requests.QuoteRequest.{QuoteRequest}
use Rattle.quote_messages.specs.declared.requests.RequestPass.{RequestPass}
use Rattle.venue_rows.specs.declared.bond_rows.BondRow.{BondRow}
use Rattle.venue_rows.specs.declared.dealer_rows.DealerRow.{DealerRow}
use Rattle.dealer_desk.specs.DealerFacts.{DealerBook, expected_number, quotes_accepted}
use Rattle.dealer_desk.specs.DealerRules as dealer
use Rattle.dealer_desk.specs.DealerRules.{cancel_answer, cancel_checks, cancel_of, cancel_verdict}
use Rattle.dealer_desk.specs.DealerRules.{dealer_verdict, decline_answer, decline_verdict}
use Rattle.dealer_desk.specs.DealerRules.{quote_answer, quote_verdict}
use Rattle.dealer_desk.specs.declared.standing.StandingQuote.{StandingQuote}
use Rattle.dealer_desk.specs.declared.standing.StandingRequest.{StandingRequest}
use Rattle.dealer_desk.specs.declared.verdicts.DealerVerdict.{DealerVerdict}
use Rattle.dealer_desk.specs.declared.verdicts.DealerVerdict.TheVariants as verdict
use Rattle.investor_desk.specs.InvestorFacts as investor_facts
use Rattle.investor_desk.specs.InvestorFacts.{InvestorBook, offer_named, request_with_id}
use Rattle.investor_desk.specs.InvestorRules as investor
use Rattle.investor_desk.specs.InvestorRules.{InvestorMarket, hit_of, hit_verdict}
use Rattle.investor_desk.specs.InvestorRules.{investor_verdict, pass_of, pass_verdict}
use Rattle.investor_desk.specs.InvestorRules.{request_answer, request_verdict}
use Rattle.investor_desk.specs.declared.standing.ShownOffer.{ShownOffer}
use Rattle.investor_desk.specs.declared.verdicts.InvestorVerdict.{InvestorVerdict}
use Rattle.investor_desk.specs.declared.verdicts.InvestorVerdict.TheVariants as answer

-- Of a dealer.

-- drops follow of the quotes that were accepted so far
abbrev pub DropsAccepted : DealerBook → DealerVerdict → Type 0
DropsAccepted book (verdict.DropsFollow last) = last ≡ quotes_accepted book
DropsAccepted book other = Unit {0}

module _ (row : DealerRow) (book : DealerBook) (moment : ℕ) where
  quote_drops : (quote : Quote) (request : Option StandingRequest)
      (refusal : Option QuoteRefusal)
      → DropsAccepted book (quote_answer book moment quote request refusal)
  quote_drops quote request (Some reason) = tt
  quote_drops quote None None = tt
  quote_drops quote (Some request) None = tt

  cancel_drops : (id : List ℕ) (own : StandingQuote) (refusal : Option CancelRefusal)
      → DropsAccepted book (cancel_answer id own refusal)
  cancel_drops id own (Some reason) = tt
  cancel_drops id own None = tt

  found_drops : (id : List ℕ) (own : Option StandingQuote) → DropsAccepted book (cancel_of id own)
  found_drops id None = tt
  found_drops id (Some own) = cancel_drops id own (first_refusal (cancel_checks own))

  either_drops : (b : Bool) (one other : DealerVerdict) → DropsAccepted book one
      → DropsAccepted book other → DropsAccepted book (if b then one else other)
  either_drops true one other first second = first
  either_drops false one other first second = second

  scope_drops : (scope : CancelScope) → DropsAccepted book (cancel_verdict book scope)
  unfolding cancel_verdict
  scope_drops (cancels.One id) = found_drops id _
  scope_drops (cancels.All id) =
      either_drops _ (verdict.CancelRefused id _) (verdict.DropsFollow (quotes_accepted book)) tt refl
  scope_drops (cancels.Other cancel_type id) = tt

  decline_drops : (name : List ℕ) (request : Option StandingRequest)
      (refusal : Option DeclineRefusal)
      → DropsAccepted book (decline_answer name request refusal)
  decline_drops name request (Some reason) = tt
  decline_drops name None None = tt
  decline_drops name (Some request) None = tt

  message_drops : (message : DealerMessage)
      → DropsAccepted book (dealer.message_verdict row book moment message)
  unfolding quote_verdict decline_verdict
  message_drops (said.Quote quote) = quote_drops quote _ _
  message_drops (said.Cancel cancel) = scope_drops cancel.scope
  message_drops (said.Decline decline) = decline_drops decline.request _ _

  arrival_drops : (came : Arrival DealerMessage)
      → DropsAccepted book (dealer.arrival_verdict row book moment came)
  arrival_drops arrival.Dropped = tt
  arrival_drops (arrival.OutOfSequence reject) = tt
  arrival_drops (arrival.Rejected reject) = tt
  arrival_drops (arrival.Taken message) = message_drops message

  pub verdict_drops : (date bytes : List ℕ)
      → DropsAccepted book (dealer_verdict date row book moment bytes)
  unfolding dealer_verdict
  verdict_drops date bytes =
      arrival_drops (dealer_arrival date row (expected_number book) bytes)

-- Of an investor.

-- a request that is accepted asks in the investor's name
abbrev pub AsksAs : List ℕ → InvestorVerdict → Type 0
AsksAs name (answer.RequestAccepted id request) = request.ask.investor ≡ name
AsksAs name other = Unit {0}

module _ (market : InvestorMarket) (book : InvestorBook) (moment : ℕ) where
  request_asks : (request : QuoteRequest) (bond : Option BondRow)
      (refusal : Option RequestRefusal)
      → AsksAs market.row.name (request_answer market book moment request bond refusal)
  request_asks request bond (Some reason) = tt
  request_asks request None None = tt
  request_asks request (Some bond) None = refl

  hit_asks : (hit : QuoteHit) (shown : Option ShownOffer)
      → AsksAs market.row.name (hit_of hit shown)
  hit_asks hit None = tt
  hit_asks hit (Some shown) = tt

  pass_asks : (pass : RequestPass) (own : Option investor_facts.StandingRequest)
      → AsksAs market.row.name (pass_of pass own)
  pass_asks pass None = tt
  pass_asks pass (Some own) = tt

  message_asks : (message : InvestorMessage)
      → AsksAs market.row.name (investor.message_verdict market book moment message)
  unfolding request_verdict hit_verdict pass_verdict
  message_asks (asked.Request request) = request_asks request _ _
  message_asks (asked.Hit hit) = hit_asks hit (offer_named book hit.quote)
  message_asks (asked.Pass pass) = pass_asks pass (request_with_id book pass.request)

  arrival_asks : (came : Arrival InvestorMessage)
      → AsksAs market.row.name (investor.arrival_verdict market book moment came)
  arrival_asks arrival.Dropped = tt
  arrival_asks (arrival.OutOfSequence reject) = tt
  arrival_asks (arrival.Rejected reject) = tt
  arrival_asks (arrival.Taken message) = message_asks message

  pub verdict_asks : (bytes : List ℕ)
      → AsksAs market.row.name (investor_verdict market book moment bytes)
  unfolding investor_verdict
  verdict_asks bytes =
      arrival_asks (investor_arrival market.date market.row
      (investor_facts.expected_number book) bytes)
