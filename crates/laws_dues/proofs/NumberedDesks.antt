-- What an event adds at an investor's desk: the quotes that it is shown have names of dealers and
-- short numbers.
use Rattle.std.proofs.Common.{◌≡◌, ◌≤◌, ℕ, ◌+◌, ◌==◌, Bool, true, false, cond, List}
use Rattle.std.proofs.Common.{[], ◌∷◌, ◌++◌, find, IfSome, Option, Some, None}
use Rattle.std.proofs.Common.{option_and_then, if◌then◌else◌, refl, arith}
use Rattle.market_terms.specs.declared.closes.Reply.{Reply}
use Rattle.market_terms.specs.declared.rooms.Offer.{Offer}
use Rattle.market_terms.specs.declared.rooms.ResponseRef.{ResponseRef}
use Rattle.quote_messages.specs.Arrivals.{investor_arrival}
use Rattle.quote_messages.specs.declared.arrivals.Arrival.{Arrival}
use Rattle.quote_messages.specs.declared.arrivals.Arrival.TheVariants as arrival
use Rattle.investor_desk.specs.declared.refusals.RequestRefusal.{RequestRefusal}
use Rattle.quote_messages.specs.declared.requests.InvestorMessage.{InvestorMessage}
use Rattle.quote_messages.specs.declared.requests.InvestorMessage.TheVariants as asked
use Rattle.quote_messages.specs.declared.requests.QuoteHit.{QuoteHit}
use Rattle.quote_messages.specs.declared.requests.QuoteRequest.{QuoteRequest}
use Rattle.quote_messages.specs.declared.requests.RequestPass.{RequestPass}
use Rattle.venue_rows.specs.Texts.{same_text}
use Rattle.venue_rows.specs.declared.bond_rows.BondRow.{BondRow}
use Rattle.venue_rows.specs.declared.dealer_rows.DealerRow.{DealerRow}
use Rattle.investor_desk.specs.InvestorFacts.{Asked, InvestorBook, InvestorFact, Offered}
use Rattle.investor_desk.specs.InvestorFacts.{StandingRequest, book_of, expected_number}
use Rattle.investor_desk.specs.InvestorFacts.{is_open, offer_named, offer_of_dealer, offer_with_word}
use Rattle.investor_desk.specs.InvestorFacts.{offers_of, offers_shown, request_numbered}
use Rattle.investor_desk.specs.InvestorFacts.{request_with_id, requests_of, standing_on, stands_on}
use Rattle.investor_desk.specs.InvestorFacts.{while_open}
use Rattle.investor_desk.specs.InvestorOutput.{answer_facts, close_by_answer, closed_facts}
use Rattle.investor_desk.specs.InvestorOutput.{expiry_facts, gone_facts, next_offer, offer_facts}
use Rattle.investor_desk.specs.InvestorOutput.{own_facts, refusal_of, withdrawal_facts}
use Rattle.investor_desk.specs.InvestorRules.{InvestorMarket, arrival_verdict, hit_of, hit_verdict}
use Rattle.investor_desk.specs.InvestorRules.{investor_verdict, message_verdict, pass_of}
use Rattle.investor_desk.specs.InvestorRules.{pass_verdict, request_answer, request_verdict}
use Rattle.investor_desk.specs.declared.standing.RequestClose.{RequestClose}
use Rattle.investor_desk.specs.declared.standing.ShownOffer.{ShownOffer}
use Rattle.investor_desk.specs.declared.verdicts.InvestorVerdict.{InvestorVerdict}
use Rattle.investor_desk.specs.declared.verdicts.InvestorVerdict.TheVariants as answer
use Rattle.step_replay.specs.EachLemmas.{every_both}
use Rattle.step_replay.specs.Lists.{Every}
use Rattle.investor_texts.specs.ReadBack.{is_short_if}
use Rattle.investor_views.specs.InvestorDues.{number_of, quote_meant}
use Rattle.venue_text.specs.ReadBack.{is_short}
use Rattle.laws_dues.proofs.OfferCounts.{ByRow, bit, count, count_append, count_none}
use Rattle.laws_dues.proofs.OfferCounts.{is_offer, is_offer_of}

-- a quote that was shown is that of a dealer of the venue, and has a short number
abbrev pub FactNumbers : List DealerRow → InvestorFact → Type 0
FactNumbers rows (Offered shown) = ByRow rows shown.offer.dealer × (is_short shown.number ≡ true)
FactNumbers rows fact = Unit {0}

-- What is found at a desk has such a number.

abbrev Short : ShownOffer → Type 0
Short shown = is_short shown.number ≡ true

found : {A : Type 0} (P : A → Type 0) (test : A → Bool) (xs : List A) → Every P xs
    → IfSome (find test xs) P
found P test [] each = tt
found {A} P test (x ∷ xs) each = by_test (test x) (found P test xs each.1)
  where
    by_test : (b : Bool) → IfSome (find test xs) P → IfSome (cond b (Some x) (find test xs)) P
    by_test true later = each.0
    by_test false later = later

offers_short : (rows : List DealerRow) (facts : List InvestorFact) → Every (FactNumbers rows) facts
    → Every Short (offers_of facts)
offers_short rows [] each = tt
offers_short rows (Offered shown ∷ facts) each = (each.0.1, offers_short rows facts each.1)
offers_short rows (fact ∷ facts) each = offers_short rows facts each.1

standing_short : (rows : List DealerRow) (number : ℕ) (facts : List InvestorFact)
    → Every (FactNumbers rows) facts → Every Short (standing_on number facts)
standing_short rows number [] each = tt
standing_short rows number (Offered shown ∷ facts) each =
    by_test (stands_on number shown facts) (standing_short rows number facts each.1)
  where
    by_test : (b : Bool) → Every Short (standing_on number facts)
        → Every Short (if b then shown ∷ standing_on number facts else standing_on number facts)
    by_test true later = (each.0.1, later)
    by_test false later = later
standing_short rows number (fact ∷ facts) each = standing_short rows number facts each.1

abbrev StandsShort : StandingRequest → Type 0
StandsShort own = Every Short own.standing

requests_short : (rows : List DealerRow) (facts : List InvestorFact)
    → Every (FactNumbers rows) facts → Every StandsShort (requests_of facts)
requests_short rows [] each = tt
requests_short rows (Asked request ∷ facts) each =
    (standing_short rows request.number facts each.1, requests_short rows facts each.1)
requests_short rows (fact ∷ facts) each = requests_short rows facts each.1

-- the number of the quote that is taken back
pub meant_short : (rows : List DealerRow) (facts : List InvestorFact)
    → Every (FactNumbers rows) facts → (request word : ℕ)
    → is_short (number_of (quote_meant (book_of facts) request word)) ≡ true
unfolding request_numbered
meant_short rows facts each request word =
    by_request (request_numbered (book_of facts) request)
    (found StandsShort (λ own. own.request.number == request) (requests_of facts)
    (requests_short rows facts each))
  where
    by_offer : (shown : Option ShownOffer) → IfSome shown Short → is_short (number_of shown) ≡ true
    by_offer None short = refl
    by_offer (Some shown) short = short

    by_open : (own : StandingRequest) (b : Bool) → StandsShort own
        → is_short (number_of (option_and_then (λ (o : StandingRequest). offer_with_word o word)
        (if b then Some own else None))) ≡ true
    by_open own true short =
        by_offer (offer_with_word own word)
        (found Short (λ shown. shown.offer.word == word) own.standing short)
    by_open own false short = refl

    by_request : (own : Option StandingRequest) → IfSome own StandsShort
        → is_short (number_of (option_and_then (λ (o : StandingRequest). offer_with_word o word)
        (while_open own))) ≡ true
    by_request None short = refl
    by_request (Some own) short = by_open own (is_open own) short

-- Verdicts: a response names a quote of a short number, if it names one.

abbrev pub VerdictNumbers : InvestorVerdict → Type 0
VerdictNumbers (answer.Hits request response word) = is_short_if response.k ≡ true
VerdictNumbers (answer.Passes request response) = is_short_if response.k ≡ true
VerdictNumbers other = Unit {0}

module _ (rows : List DealerRow) (facts : List InvestorFact)
    (each : Every (FactNumbers rows) facts) (market : InvestorMarket) (moment : ℕ) where
  abbrev book : InvestorBook
  book = book_of facts

  request_numbers : (request : QuoteRequest) (bond : Option BondRow)
      (refusal : Option RequestRefusal)
      → VerdictNumbers (request_answer market book moment request bond refusal)
  request_numbers request bond (Some reason) = tt
  request_numbers request None None = tt
  request_numbers request (Some bond) None = tt

  hit_numbers : (hit : QuoteHit) (shown : Option ShownOffer) → IfSome shown Short
      → VerdictNumbers (hit_of hit shown)
  hit_numbers hit None short = tt
  hit_numbers hit (Some shown) short = short

  pass_numbers : (pass : RequestPass) (own : Option StandingRequest)
      → VerdictNumbers (pass_of pass own)
  pass_numbers pass None = tt
  pass_numbers pass (Some own) = refl

  message_numbers : (message : InvestorMessage)
      → VerdictNumbers (message_verdict market book moment message)
  unfolding request_verdict hit_verdict pass_verdict offer_named
  message_numbers (asked.Request request) = request_numbers request _ _
  message_numbers (asked.Hit hit) =
      hit_numbers hit (offer_named book hit.quote)
      (found Short _ (offers_of facts) (offers_short rows facts each))
  message_numbers (asked.Pass pass) = pass_numbers pass (request_with_id book pass.request)

  arrival_numbers : (came : Arrival InvestorMessage)
      → VerdictNumbers (arrival_verdict market book moment came)
  arrival_numbers arrival.Dropped = tt
  arrival_numbers (arrival.OutOfSequence reject) = tt
  arrival_numbers (arrival.Rejected reject) = tt
  arrival_numbers (arrival.Taken message) = message_numbers message

  pub verdict_numbers : (bytes : List ℕ)
      → VerdictNumbers (investor_verdict market book moment bytes)
  unfolding investor_verdict
  verdict_numbers bytes =
      arrival_numbers (investor_arrival market.date market.row (expected_number book) bytes)

-- What is added.

-- facts that say so, and how many quotes of each dealer
pub record FactsFew (rows : List DealerRow) (most : List ℕ → ℕ) (added : List InvestorFact)
    : Type 0 where
  pub numbers : Every (FactNumbers rows) added
  pub few : (name : List ℕ) → count (is_offer_of name) added ≤ most name

abbrev ArePlain : List InvestorFact → Type 0
ArePlain added = Every (λ fact. is_offer fact ≡ false) added

plain_numbers : (rows : List DealerRow) (added : List InvestorFact) → ArePlain added
    → Every (FactNumbers rows) added
plain_numbers rows [] plain = tt
plain_numbers rows (Offered shown ∷ added) plain =
    let clash : true ≡ false = plain.0 in
    cc
plain_numbers rows (fact ∷ added) plain = (tt, plain_numbers rows added plain.1)

plain_count : (name : List ℕ) (added : List InvestorFact) → ArePlain added
    → Every (λ fact. is_offer_of name fact ≡ false) added
plain_count name [] plain = tt
plain_count name (Offered shown ∷ added) plain =
    let clash : true ≡ false = plain.0 in
    cc
plain_count name (fact ∷ added) plain = (refl, plain_count name added plain.1)

pub plain_few : (rows : List DealerRow) (most : List ℕ → ℕ) (added : List InvestorFact)
    → ArePlain added → FactsFew rows most added
plain_few rows most added plain = record {
  numbers = plain_numbers rows added plain;
  few = λ name.
      let none : count (is_offer_of name) added ≡ 0 =
      count_none (is_offer_of name) added (plain_count name added plain) in
      omega arith;
}

gone_plain : (number : ℕ) (shown : Option ShownOffer) → ArePlain (gone_facts number shown)
gone_plain number None = tt
gone_plain number (Some shown) = (refl, tt)

pub withdrawal_plain : (number word : ℕ) (own : Option StandingRequest)
    → ArePlain (withdrawal_facts number word own)
withdrawal_plain number word None = tt
withdrawal_plain number word (Some own) = gone_plain number (offer_with_word own word)

closed_plain : (number : ℕ) (close : Option RequestClose) → ArePlain (closed_facts number close)
closed_plain number None = tt
closed_plain number (Some close) = (refl, tt)

pub answer_plain : (facts : InvestorBook) (number : ℕ) (response : ResponseRef) (reply : Reply)
    (own : Option StandingRequest) → ArePlain (answer_facts facts number response reply own)
answer_plain facts number response reply None = tt
answer_plain facts number response reply (Some own) =
    closed_plain number (close_by_answer facts response (refusal_of reply))

pub expiry_plain : (number : ℕ) (own : Option StandingRequest) → ArePlain (expiry_facts number own)
expiry_plain number None = tt
expiry_plain number (Some own) = (refl, tt)

pub own_plain : (moment : ℕ) (bytes : List ℕ) (v : InvestorVerdict)
    → ArePlain (own_facts moment bytes v)
own_plain moment bytes (answer.RequestAccepted id request) = (refl, (refl, tt))
own_plain moment bytes other = (refl, tt)

-- a quote that comes
pub offer_few : (rows : List DealerRow) (facts : InvestorBook) (number : ℕ) (offer : Offer)
    → ByRow rows offer.dealer → is_short (offers_shown facts + 1) ≡ true
    → (own : Option StandingRequest)
    → FactsFew rows (λ name. bit (same_text offer.dealer name))
    (offer_facts facts number offer own)
offer_few rows facts number offer by short None = plain_few rows _ [] tt
offer_few rows facts number offer by short (Some own) =
    let gone = gone_facts number (offer_of_dealer own offer.dealer) in
    let plain = gone_plain number (offer_of_dealer own offer.dealer) in
    let shown = next_offer facts number offer in
    record {
      numbers = every_both (FactNumbers rows) gone (Offered shown ∷ [])
          (plain_numbers rows gone plain) ((by, short), tt);
      few = λ name.
          let sum : count (is_offer_of name) (gone ++ Offered shown ∷ [])
          ≡ count (is_offer_of name) gone + count (is_offer_of name) (Offered shown ∷ []) =
          count_append (is_offer_of name) gone (Offered shown ∷ []) in
          let none : count (is_offer_of name) gone ≡ 0 =
          count_none (is_offer_of name) gone (plain_count name gone plain) in
          omega arith;
    }
