-- What is left of an investor's desk: no quote that it was shown, and not how a request was
-- closed. A request and a pass ask for neither, and a hit finds nothing.
use Rattle.std.proofs.Common.{◌≡◌, ℕ, ◌==◌, Bool, true, false, List, [], ◌∷◌, ◌++◌, map, length}
use Rattle.std.proofs.Common.{count_by, Option, Some, None, option_map, refl, sym, ap, ◌∙◌, subst}
use Rattle.std.proofs.Common.{filter, suc}
use Rattle.std.proofs.lemmas.List.Elements.{filter_map-append}
use Rattle.std.proofs.lemmas.List.Sums.{length-filter}
use Rattle.std.proofs.lemmas.Bool.{both_ways}
use Rattle.market_terms.proofs.ErasedLists.{erased, map_cond, or_map}
use Rattle.market_terms.specs.declared.closes.HitRefusal.{HitRefusal}
use Rattle.market_terms.specs.declared.closes.Reply.TheVariants as reply
use Rattle.market_terms.specs.declared.rooms.Offer.{Offer}
use Rattle.market_terms.specs.declared.rooms.ResponseRef.{ResponseRef}
use Rattle.quote_messages.specs.Arrivals.{investor_arrival}
use Rattle.quote_messages.specs.declared.arrivals.Arrival.{Arrival}
use Rattle.quote_messages.specs.declared.arrivals.Arrival.TheVariants as arrival
use Rattle.quote_messages.specs.declared.requests.QuoteRequest.{QuoteRequest}
use Rattle.quote_messages.specs.declared.requests.QuoteHit.{QuoteHit}
use Rattle.quote_messages.specs.declared.requests.RequestPass.{RequestPass}
use Rattle.quote_messages.specs.declared.requests.InvestorMessage.{InvestorMessage}
use Rattle.quote_messages.specs.declared.requests.InvestorMessage.TheVariants as message
use Rattle.venue_rows.specs.declared.bond_rows.BondRow.{BondRow}
use Rattle.investor_desk.specs.InvestorFacts.{InvestorFact, InvestorBook, StandingRequest, Came}
use Rattle.investor_desk.specs.InvestorFacts.{Offered, Asked, Closed, Gone, used_number, closes}
use Rattle.investor_desk.specs.InvestorFacts.{first_said, standing_on, requests_of, offers_of}
use Rattle.investor_desk.specs.InvestorFacts.{book_of, request_with_id, request_numbered}
use Rattle.investor_desk.specs.InvestorFacts.{offer_named, knows, offer_numbered, was_shown_on}
use Rattle.investor_desk.specs.InvestorFacts.{expected_number, open_request, offer_of_dealer}
use Rattle.investor_desk.specs.InvestorFacts.{offer_with_word}
use Rattle.investor_desk.specs.InvestorRules.{InvestorMarket, request_refusal, request_answer}
use Rattle.investor_desk.specs.InvestorRules.{request_verdict, bond_with_id, hit_of, hit_verdict}
use Rattle.investor_desk.specs.InvestorRules.{pass_of, pass_verdict, arrival_verdict}
use Rattle.investor_desk.specs.InvestorRules.{investor_verdict, response_to}
use Rattle.investor_desk.specs.InvestorOutput.{verdict_duty, uses_number, verdict_facts}
use Rattle.investor_desk.specs.InvestorOutput.{event_facts, gone_facts, offer_facts}
use Rattle.investor_desk.specs.InvestorOutput.{withdrawal_facts, expiry_facts, answer_facts}
use Rattle.investor_desk.specs.InvestorOutput.{next_offer}
use Rattle.investor_desk.specs.declared.refusals.RequestRefusal.{RequestRefusal}
use Rattle.investor_desk.specs.declared.standing.RequestClose.{RequestClose}
use Rattle.investor_desk.specs.declared.standing.RequestClose.TheVariants as close
use Rattle.investor_desk.specs.declared.standing.ShownOffer.{ShownOffer}
use Rattle.investor_desk.specs.declared.verdicts.InvestorVerdict.{InvestorVerdict}
use Rattle.investor_desk.specs.declared.verdicts.InvestorVerdict.TheVariants as verdict
use Rattle.investor_desk.specs.declared.events.InvestorEvent.{InvestorEvent}
use Rattle.investor_desk.specs.declared.events.InvestorEvent.TheVariants as event
use Rattle.laws_isolation.proofs.Left.{left_of_desk, no_response}
use Rattle.laws_isolation.proofs.LeftPlaces.{left_desk}
use Rattle.laws_isolation.proofs.QuietInvestor.{Hushes}

-- What is left of the book.

-- that a request was closed, not how
abbrev pub left_close : RequestClose → RequestClose
left_close how = close.Passed

-- a request without the quotes on it
abbrev pub left_request : StandingRequest → StandingRequest
left_request own = record {
  request = own.request;
  close = option_map left_close own.close;
  standing = [];
}

-- the book without quotes
abbrev pub left_book : InvestorBook → InvestorBook
left_book book = record {
  used = book.used;
  requests = map left_request book.requests;
  offers = [];
}

used_filtered : (facts : List InvestorFact)
    → length (filter used_number (left_desk facts)) ≡ length (filter used_number facts)
used_filtered [] = refl
used_filtered (Came moment bytes true ∷ later) = ap (λ (n : ℕ). suc n) (used_filtered later)
used_filtered (Came moment bytes false ∷ later) = used_filtered later
used_filtered (Offered shown ∷ later) = used_filtered later
used_filtered (Gone request quote ∷ later) = used_filtered later
used_filtered (Asked request ∷ later) = used_filtered later
used_filtered (Closed request how ∷ later) = used_filtered later

used_same : (facts : List InvestorFact)
    → count_by used_number (left_desk facts) ≡ count_by used_number facts
used_same facts =
    sym (length-filter used_number (left_desk facts)) ∙ used_filtered facts
    ∙ length-filter used_number facts

closes_left : (number request : ℕ) (how : RequestClose)
    → closes number (Closed request close.Passed)
    ≡ option_map left_close (closes number (Closed request how))
closes_left number request how = map_cond left_close (request == number) how None

close_left : (number : ℕ) (facts : List InvestorFact)
    → first_said (closes number) (left_desk facts)
    ≡ option_map left_close (first_said (closes number) facts)
close_left number [] = refl
close_left number (Offered shown ∷ later) = close_left number later
close_left number (Gone request quote ∷ later) = close_left number later
close_left number (Came moment bytes used ∷ later) = close_left number later
close_left number (Asked request ∷ later) = close_left number later
close_left number (Closed request how ∷ later) =
    rw (closes_left number request how, close_left number later)
    (or_map left_close (closes number (Closed request how)) (first_said (closes number) later))

none_stands : (number : ℕ) (facts : List InvestorFact) → standing_on number (left_desk facts) ≡ []
none_stands number [] = refl
none_stands number (Offered shown ∷ later) = none_stands number later
none_stands number (Gone request quote ∷ later) = none_stands number later
none_stands number (Came moment bytes used ∷ later) = none_stands number later
none_stands number (Asked request ∷ later) = none_stands number later
none_stands number (Closed request how ∷ later) = none_stands number later

requests_left : (facts : List InvestorFact)
    → requests_of (left_desk facts) ≡ map left_request (requests_of facts)
requests_left [] = refl
requests_left (Asked request ∷ later) =
    rw (close_left request.number later, none_stands request.number later, requests_left later)
    refl
requests_left (Offered shown ∷ later) = requests_left later
requests_left (Gone request quote ∷ later) = requests_left later
requests_left (Came moment bytes used ∷ later) = requests_left later
requests_left (Closed request how ∷ later) = requests_left later

no_offers : (facts : List InvestorFact) → offers_of (left_desk facts) ≡ []
no_offers [] = refl
no_offers (Offered shown ∷ later) = no_offers later
no_offers (Gone request quote ∷ later) = no_offers later
no_offers (Came moment bytes used ∷ later) = no_offers later
no_offers (Asked request ∷ later) = no_offers later
no_offers (Closed request how ∷ later) = no_offers later

pub book_left : (facts : List InvestorFact) → book_of (left_desk facts) ≡ left_book (book_of facts)
book_left facts = rw (used_same facts, requests_left facts, no_offers facts) refl

-- What the rules ask of the book.

module _ (book : InvestorBook) where
  pub with_id : (id : List ℕ)
      → request_with_id (left_book book) id
      ≡ option_map left_request (request_with_id book id)
  unfolding request_with_id
  with_id id = simp erased

  pub numbered : (number : ℕ)
      → request_numbered (left_book book) number
      ≡ option_map left_request (request_numbered book number)
  unfolding request_numbered
  numbered number = simp erased

  none_named : (name : List ℕ) → offer_named (left_book book) name ≡ None
  unfolding offer_named
  none_named name = refl

  -- a request that is known stays known
  pub knows_same : (number : ℕ) → knows (left_book book) number None ≡ knows book number None
  unfolding request_numbered
  knows_same number = simp erased

  -- Verdicts.

  request_verdict_same : (market : InvestorMarket) (moment : ℕ) (request : QuoteRequest)
      → request_verdict market (left_book book) moment request
      ≡ request_verdict market book moment request
  unfolding request_verdict request_refusal request_with_id
  request_verdict_same market moment request =
      simp erased
      (answered (bond_with_id market request.bond) (request_refusal market book moment request))
    where
      answered : (bond : Option BondRow) (refused : Option RequestRefusal)
          → request_answer market (left_book book) moment request bond refused
          ≡ request_answer market book moment request bond refused
      answered bond (Some reason) = refl
      answered None None = refl
      answered (Some bond) None = simp erased

  pass_same : (pass : RequestPass) (found : Option StandingRequest)
      → pass_of pass (option_map left_request found) ≡ pass_of pass found
  pass_same pass None = refl
  pass_same pass (Some own) = refl

-- whether a verdict is that a quote is hit
abbrev pub hits : InvestorVerdict → Bool
hits (verdict.Hits request response word) = true
hits other = false

-- A verdict by what is left of a book, and one by the book, add the same facts, and leave the same
-- where the second one is no hit. The first never is: it leaves nothing where the second one hits.
pub record IsHeardSo (one other : InvestorVerdict) : Type 0 where
  pub uses_are : uses_number one ≡ uses_number other
  pub facts_are : verdict_facts one ≡ verdict_facts other
  pub duty_is : hits other ≡ false → one ≡ other
  pub never_hits : hits one ≡ false
  pub lone : hits other ≡ true → (market : InvestorMarket) (moment : ℕ)
      → verdict_duty market moment one ≡ None

heard_same : (one other : InvestorVerdict) → one ≡ other → hits other ≡ false
    → IsHeardSo one other
heard_same one other same isnt = record {
  uses_are = ap (λ (v : InvestorVerdict). uses_number v) same;
  facts_are = ap (λ (v : InvestorVerdict). verdict_facts v) same;
  duty_is = λ no. same;
  never_hits = ap hits same ∙ isnt;
  lone = λ is market moment. absurd (both_ways (hits other) isnt is);
}

-- a hit of a quote, and of none
hit_heard : (hit : QuoteHit) (found : Option ShownOffer)
    → IsHeardSo (hit_of hit None) (hit_of hit found)
hit_heard hit None = heard_same (hit_of hit None) (hit_of hit None) refl refl
hit_heard hit (Some shown) = record {
  uses_are = refl;
  facts_are = refl;
  duty_is = λ isnt. cc;
  never_hits = refl;
  lone = λ is market moment. refl;
}

-- a request and a pass are no hits
request_no_hit : (market : InvestorMarket) (book : InvestorBook) (moment : ℕ)
    (request : QuoteRequest) (bond : Option BondRow) (refused : Option RequestRefusal)
    → hits (request_answer market book moment request bond refused) ≡ false
request_no_hit market book moment request bond (Some reason) = refl
request_no_hit market book moment request None None = refl
request_no_hit market book moment request (Some bond) None = refl

pass_no_hit : (pass : RequestPass) (found : Option StandingRequest)
    → hits (pass_of pass found) ≡ false
pass_no_hit pass None = refl
pass_no_hit pass (Some own) = refl

arrival_heard : (book : InvestorBook) (market : InvestorMarket) (moment : ℕ)
    (came : Arrival InvestorMessage)
    → IsHeardSo (arrival_verdict market (left_book book) moment came)
    (arrival_verdict market book moment came)
unfolding hit_verdict pass_verdict request_verdict
arrival_heard book market moment (arrival.Taken (message.Request request)) =
    heard_same _ _ (request_verdict_same book market moment request)
    (request_no_hit market book moment request (bond_with_id market request.bond)
    (request_refusal market book moment request))
arrival_heard book market moment (arrival.Taken (message.Hit hit)) =
    subst (λ (o : Option ShownOffer). IsHeardSo (hit_of hit o)
    (hit_of hit (offer_named book hit.quote))) (sym (none_named book hit.quote))
    (hit_heard hit (offer_named book hit.quote))
arrival_heard book market moment (arrival.Taken (message.Pass pass)) =
    heard_same _ _
    (ap (pass_of pass) (with_id book pass.request)
    ∙ pass_same book pass (request_with_id book pass.request))
    (pass_no_hit pass (request_with_id book pass.request))
arrival_heard book market moment arrival.Dropped = heard_same _ _ refl refl
arrival_heard book market moment (arrival.OutOfSequence reject) = heard_same _ _ refl refl
arrival_heard book market moment (arrival.Rejected reject) = heard_same _ _ refl refl

-- the verdict by what is left of the book
pub verdict_heard : (book : InvestorBook) (market : InvestorMarket) (moment : ℕ) (bytes : List ℕ)
    → IsHeardSo (investor_verdict market (left_book book) moment bytes)
    (investor_verdict market book moment bytes)
unfolding investor_verdict
verdict_heard book market moment bytes =
    arrival_heard book market moment
    (investor_arrival market.date market.row (expected_number book) bytes)

-- What an event adds.

module _ (market : InvestorMarket) (book : InvestorBook) where
  -- a message of the investor's own
  pub own_left : (moment : ℕ) (bytes : List ℕ)
      → event_facts market book (event.Received moment bytes)
      ≡ event_facts market (left_book book) (event.Received moment bytes)
  unfolding event_facts
  own_left moment bytes =
      let heard = verdict_heard book market moment bytes in
      sym (ap (λ (b : Bool). Came moment bytes b
      ∷ verdict_facts (investor_verdict market (left_book book) moment bytes)) heard.uses_are
      ∙ ap (λ (l : List InvestorFact).
      Came moment bytes (uses_number (investor_verdict market book moment bytes)) ∷ l)
      heard.facts_are)

  gone_hushed : (number : ℕ) (found : Option ShownOffer) → left_desk (gone_facts number found) ≡ []
  gone_hushed number None = refl
  gone_hushed number (Some shown) = refl

  offer_hushed : (number : ℕ) (offer : Offer) (found : Option StandingRequest)
      → left_desk (offer_facts book number offer found) ≡ []
  offer_hushed number offer None = refl
  offer_hushed number offer (Some own) =
      filter_map-append left_of_desk (gone_facts number (offer_of_dealer own offer.dealer))
      (Offered (next_offer book number offer) ∷ [])
      ∙ ap (λ (l : List InvestorFact). l ++ [])
      (gone_hushed number (offer_of_dealer own offer.dealer))

  withdrawal_hushed : (number word : ℕ) (found : Option StandingRequest)
      → left_desk (withdrawal_facts number word found) ≡ []
  withdrawal_hushed number word None = refl
  withdrawal_hushed number word (Some own) = gone_hushed number (offer_with_word own word)

  refused_hushed : (request : ℕ) (response : ResponseRef) (refused : HitRefusal)
      (found : Option StandingRequest)
      → left_desk (answer_facts book request response (reply.Refused refused) found) ≡ []
  refused_hushed request response refused None = refl
  refused_hushed request response refused (Some own) = refl

  pub facts_hushed : (more : InvestorEvent) → Hushes more
      → left_desk (event_facts market book more) ≡ []
  unfolding event_facts
  facts_hushed (event.QuoteCame request offer moment) is =
      offer_hushed request offer (open_request book request)
  facts_hushed (event.QuoteGone request word moment) is =
      withdrawal_hushed request word (open_request book request)
  facts_hushed (event.Answered request response (reply.Refused refused) moment) is =
      refused_hushed request response refused (request_numbered book request)
  facts_hushed other is = search

  -- a pass is answered
  passed_facts : (request : ℕ) (id : List ℕ) (found : Option StandingRequest)
      → left_desk (answer_facts book request (response_to id None) reply.Passed found)
      ≡ left_desk (answer_facts (left_book book) request no_response reply.Passed
      (option_map left_request found))
  passed_facts request id None = refl
  passed_facts request id (Some own) = refl

  pub passed_left : (request : ℕ) (id : List ℕ) (moment : ℕ)
      → left_desk (event_facts market book
      (event.Answered request (response_to id None) reply.Passed moment))
      ≡ left_desk (event_facts market (left_book book)
      (event.Answered request no_response reply.Passed moment))
  unfolding event_facts
  passed_left request id moment =
      passed_facts request id (request_numbered book request)
      ∙ ap (λ (o : Option StandingRequest).
      left_desk (answer_facts (left_book book) request no_response reply.Passed o))
      (sym (numbered book request))

  -- an award of a quote that is known closes the request as a pass does
  awarded_facts : (request : ℕ) (id : List ℕ) (quote : ℕ) (found : Option StandingRequest)
      (shown : Option ShownOffer) → offer_numbered book quote ≡ shown
      → was_shown_on request shown ≡ true
      → left_desk (answer_facts book request (response_to id (Some quote)) reply.Awarded found)
      ≡ left_desk (answer_facts (left_book book) request no_response reply.Passed
      (option_map left_request found))
  awarded_facts request id quote None shown is on = refl
  awarded_facts request id quote (Some own) None is on = cc
  awarded_facts request id quote (Some own) (Some shown) is on = rw is refl

  pub awarded_left : (request : ℕ) (id : List ℕ) (quote : ℕ) (moment : ℕ)
      → was_shown_on request (offer_numbered book quote) ≡ true
      → left_desk (event_facts market book
      (event.Answered request (response_to id (Some quote)) reply.Awarded moment))
      ≡ left_desk (event_facts market (left_book book)
      (event.Answered request no_response reply.Passed moment))
  unfolding event_facts
  awarded_left request id quote moment on =
      awarded_facts request id quote (request_numbered book request)
      (offer_numbered book quote) refl
      on
      ∙ ap (λ (o : Option StandingRequest).
      left_desk (answer_facts (left_book book) request no_response reply.Passed o))
      (sym (numbered book request))

  -- a request expires
  expired_facts : (request : ℕ) (found : Option StandingRequest)
      → expiry_facts request found ≡ expiry_facts request (option_map left_request found)
  expired_facts request None = refl
  expired_facts request (Some own) = refl

  pub expired_left : (request moment : ℕ)
      → event_facts market book (event.Closed request moment)
      ≡ event_facts market (left_book book) (event.Closed request moment)
  unfolding event_facts
  expired_left request moment =
      expired_facts request (request_numbered book request)
      ∙ ap (λ (o : Option StandingRequest). expiry_facts request o) (sym (numbered book request))
