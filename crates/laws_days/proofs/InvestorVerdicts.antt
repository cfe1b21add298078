-- What a verdict of an investor's desk says, and what comes to the desk brings of what stands of
-- its requests and quotes.
use Rattle.laws_days.proofs.Common.{Bool, IfSome, List, None, Option, Some, ℕ, [], ap, arith}
use Rattle.laws_days.proofs.Common.{eq-eqb, false, if◌then◌else◌, is_some, length, nat_le}
use Rattle.laws_days.proofs.Common.{option_map, refl, sym, true, ◌&&◌, ◌++◌, ◌+◌, ◌==◌, ◌∙◌, ◌∷◌}
use Rattle.laws_days.proofs.Common.{◌≡◌, not-false, or_left, or_right, append-nil}
use Rattle.laws_days.proofs.Common.{bytes_eq-Decides, are_distinct, ResponseRef, Configuration}
use Rattle.laws_days.proofs.Common.{bond_with_id, same_text, BondRow, InvestorRow, market_of}
use Rattle.laws_days.proofs.Common.{Asked, InvestorBook, InvestorFact, Offered, book_of, knows}
use Rattle.laws_days.proofs.Common.{offers_of, requests_of, own_facts, InvestorMarket}
use Rattle.laws_days.proofs.Common.{investor_verdict, InvestorEvent, AcceptedRequest, ShownOffer}
use Rattle.laws_days.proofs.Common.{InvestorVerdict, Each, Every, every_weaker, any_left}
use Rattle.laws_days.proofs.Common.{none_holds}
use Rattle.std.proofs.lemmas.List.{length-map}
use Rattle.std.proofs.lemmas.List.Quantifiers.{position-Some}
use Rattle.market_terms.specs.declared.rooms.Offer.{Offer}
use Rattle.quote_messages.specs.Arrivals.{investor_arrival}
use Rattle.quote_messages.specs.declared.arrivals.Arrival.TheVariants as arrival
use Rattle.investor_desk.specs.declared.refusals.RequestRefusal.{RequestRefusal}
use Rattle.quote_messages.specs.declared.requests.InvestorMessage.TheVariants as message
use Rattle.quote_messages.specs.declared.requests.QuoteHit.{QuoteHit}
use Rattle.quote_messages.specs.declared.requests.QuoteRequest.{QuoteRequest}
use Rattle.quote_messages.specs.declared.requests.RequestPass.{RequestPass}
use Rattle.investor_desk.specs.InvestorFacts.{Came, Gone, StandingRequest, expected_number, is_open}
use Rattle.investor_desk.specs.InvestorFacts.{offer_named, offer_of_dealer, offer_with_word}
use Rattle.investor_desk.specs.InvestorFacts.{open_request, request_numbered, request_with_id}
use Rattle.investor_desk.specs.InvestorFacts.{while_open}
use Rattle.investor_desk.specs.InvestorOutput.{answer_facts, close_by_answer, closed_facts}
use Rattle.investor_desk.specs.InvestorOutput.{event_facts, expiry_facts, gone_facts, next_offer}
use Rattle.investor_desk.specs.InvestorOutput.{offer_facts, refusal_of, uses_number}
use Rattle.investor_desk.specs.InvestorOutput.{withdrawal_facts}
use Rattle.investor_desk.specs.InvestorRules as rules
use Rattle.investor_desk.specs.InvestorRules.{arrival_verdict, dealer_named, dealer_numbers, hit_of}
use Rattle.investor_desk.specs.InvestorRules.{hit_verdict, pass_of, pass_verdict, request_answer}
use Rattle.investor_desk.specs.InvestorRules.{request_checks, request_refusal, request_verdict}
use Rattle.investor_desk.specs.declared.events.InvestorEvent.TheVariants as event
use Rattle.investor_desk.specs.declared.verdicts.InvestorVerdict.TheVariants as verdict
use Rattle.step_replay.specs.PlaceLemmas.{has_item}
use Rattle.laws_days.specs.AcceptedQuotes.{next_of_day}
use Rattle.laws_days.proofs.KnownDesks.{DeskFit, IsKnown, MayCome, asked, asked_is, asks}
use Rattle.laws_days.proofs.KnownDesks.{asked_known, facts_fit, offers_both, requests_both}
use Rattle.laws_days.proofs.ListLemmas.{first_of_every, found_all, found_passes}
use Rattle.laws_days.proofs.VenueInvariant.{IsDealer}
use Rattle.laws_days.proofs.VenueParts.{BearsLimits, limits_of}

-- What a verdict says.

-- an accepted request is the next of the day's, names dealers of the venue, none twice, and bears
-- the grid and the band of its bond
pub record RequestFit (config : Configuration) (row : InvestorRow) (facts : List InvestorFact)
    (request : AcceptedRequest) : Type 0 where
  pub number_is : request.number ≡ length (requests_of facts) + 1
  pub within : (nat_le 1 request.number && nat_le request.number row.requests) ≡ true
  pub distinct : are_distinct request.dealers ≡ true
  pub are_dealers : Every (IsDealer config) request.dealers
  pub bears : BearsLimits config request.ask

-- a response means a quote that the investor was shown, or none, on a request of its
pub record ResponseFit (facts : List InvestorFact) (request : ℕ) (response : ResponseRef)
    (some : Bool) : Type 0 where
  pub some_is : is_some response.k ≡ some
  pub knows_is : knows (book_of facts) request response.k ≡ true

abbrev pub VerdictFit : Configuration → InvestorRow → List InvestorFact → InvestorVerdict → Type 0
VerdictFit config row facts (verdict.RequestAccepted id request) =
    RequestFit config row facts request
VerdictFit config row facts (verdict.Hits request response word) =
    ResponseFit facts request response true
VerdictFit config row facts (verdict.Passes request response) =
    ResponseFit facts request response false
VerdictFit config row facts other = Unit {0}

-- each request that stands was accepted
abbrev IsAsked : List InvestorFact → StandingRequest → Type 0
IsAsked facts own = asked facts own.request.number ≡ true

requests_asked : (facts : List InvestorFact) → Every (IsAsked facts) (requests_of facts)
requests_asked [] = tt
requests_asked (Asked request ∷ facts) = (
  or_left _ _ (eq-eqb request.number request.number refl),
  every_weaker (IsAsked facts) (IsAsked (Asked request ∷ facts))
      (λ own is. or_right (request.number == own.request.number) _ is) (requests_of facts)
      (requests_asked facts),
)
requests_asked (fact ∷ facts) = requests_asked facts

module _ (config : Configuration) (firm : ℕ) (row : InvestorRow) (may : ℕ → Bool)
    (facts : List InvestorFact) (fit : DeskFit may facts) where
  abbrev market : InvestorMarket
  market = market_of config firm row

  abbrev book : InvestorBook
  book = book_of facts

  are_dealers : (names : List (List ℕ)) → Every (IsDealer config) (dealer_numbers market names)
  unfolding dealer_named
  are_dealers names =
      found_all (IsDealer config) (dealer_named market) (λ name dealer found.
      let is = position-Some (λ own. same_text own name) market.dealers dealer [] found in
      has_item config.dealers dealer (rw length-map at is.0)) names

  -- the bond that is found by its identifier is found by the identifier that it has
  found_again : (id : List ℕ) (bond : BondRow) → bond_with_id config id ≡ Some bond
      → bond_with_id config bond.id ≡ Some bond
  found_again id bond found =
      let passes = found_passes (λ (b : BondRow). same_text b.id id) config.bonds bond found in
      ap (bond_with_id config) ((bytes_eq-Decides bond.id id).0 passes) ∙ found

  request_fits : (moment : ℕ) (request : QuoteRequest) (bond : Option BondRow)
      (refused : Option RequestRefusal) → bond_with_id config request.bond ≡ bond
      → request_refusal market book moment request ≡ refused
      → VerdictFit config row facts (request_answer market book moment request bond refused)
  unfolding request_refusal
  request_fits moment request bond (Some reason) found is = tt
  request_fits moment request None None found is = tt
  request_fits moment request (Some bond) None found is =
      let checks = none_holds (request_checks market book moment request) is in
      record {
        number_is = refl;
        within = next_of_day row.requests (length (requests_of facts)) checks.1.1.1.1.1.1.1.1.0;
        distinct = not-false (are_distinct (dealer_numbers market request.dealers))
            checks.1.1.1.1.1.0;
        are_dealers = are_dealers request.dealers;
        bears = ap (option_map limits_of) (found_again request.bond bond found);
      }

  hit_fits : (hit : QuoteHit) (shown : Option ShownOffer) → IfSome shown (IsKnown facts)
      → VerdictFit config row facts (hit_of hit shown)
  hit_fits hit None known = tt
  hit_fits hit (Some shown) known = record { some_is = refl; knows_is = known }

  pass_fits : (pass : RequestPass) (own : Option StandingRequest) → IfSome own (IsAsked facts)
      → VerdictFit config row facts (pass_of pass own)
  pass_fits pass None known = tt
  pass_fits pass (Some own) known =
      record { some_is = refl; knows_is = asked_known facts own.request.number known }

  pub verdict_fits : (moment : ℕ) (bytes : List ℕ)
      → VerdictFit config row facts (investor_verdict market book moment bytes)
  unfolding investor_verdict request_verdict hit_verdict pass_verdict rules.bond_with_id offer_named request_with_id
  verdict_fits moment bytes =
      elim (investor_arrival market.date market.row (expected_number book) bytes)
      as (λ came. VerdictFit config row facts (arrival_verdict market book moment came)) [
        | arrival.Taken (message.Request request) ↦
            request_fits moment request (bond_with_id config request.bond) _ refl refl
        | arrival.Taken (message.Hit hit) ↦
            hit_fits hit (offer_named book hit.quote)
            (first_of_every (IsKnown facts) _ (offers_of facts) fit.known)
        | arrival.Taken (message.Pass pass) ↦
            pass_fits pass (request_with_id book pass.request)
            (first_of_every (IsAsked facts) _ (requests_of facts) (requests_asked facts))
        | other ↦ tt
      ]

  -- Events.

  -- what may come of an event
  abbrev Comes : List InvestorFact → Type 0
  Comes more = Each (MayCome may) facts more

  offer_comes : (number : ℕ) (offer : Offer) (own : Option StandingRequest)
      → is_some own ≡ asked facts number → Comes (offer_facts book number offer (while_open own))
  offer_comes number offer None known = tt
  offer_comes number offer (Some own) known =
      elim (is_open own)
      as (λ b. Comes (offer_facts book number offer (if b then Some own else None))) [
        | true ↦ behind (offer_of_dealer own offer.dealer)
        | false ↦ tt
      ]
    where
      behind : (old : Option ShownOffer)
          → Comes (gone_facts number old ++ Offered (next_offer book number offer) ∷ [])
      behind None = ((sym known, refl), tt)
      behind (Some old) =
          let gone = Gone number old.number ∷ [] in
          let same : offers_of (facts ++ gone) ≡ offers_of facts =
          offers_both facts gone ∙ append-nil (offers_of facts) in
          (tt, ((any_left (asks number) facts gone (sym known), rw same refl), tt))

  module _ (day : (number : ℕ) → (nat_le 1 number && nat_le number row.requests) ≡ true
      → may number ≡ true) where
    said_comes : (moment : ℕ) (bytes : List ℕ) (v : InvestorVerdict)
        → VerdictFit config row facts v → Comes (own_facts moment bytes v)
    said_comes moment bytes (verdict.RequestAccepted id request) fits =
        let came = Came moment bytes (uses_number (verdict.RequestAccepted id request)) ∷ [] in
        let next : request.number ≡ length (requests_of facts) + 1 = fits.number_is in
        let none = requests_both facts came in
        (tt, ((omega arith, day request.number fits.within), tt))
    said_comes moment bytes other fits = (tt, tt)

    event_comes : (more : InvestorEvent) → Comes (event_facts market book more)
    unfolding event_facts
    event_comes (event.Received moment bytes) =
        said_comes moment bytes (investor_verdict market book moment bytes)
        (verdict_fits moment bytes)
    event_comes (event.QuoteCame request offer moment) =
        offer_comes request offer (request_numbered book request) (asked_is request facts)
    event_comes (event.QuoteGone request word moment) =
        elim (open_request book request) as (λ own. Comes (withdrawal_facts request word own)) [
          | None ↦ tt
          | Some own ↦
              elim (offer_with_word own word) as (λ shown. Comes (gone_facts request shown)) [
                | None ↦ tt
                | Some shown ↦ (tt, tt)
              ]
        ]
    event_comes (event.Answered request response reply moment) =
        elim (request_numbered book request)
        as (λ own. Comes (answer_facts book request response reply own)) [
          | None ↦ tt
          | Some own ↦ elim (close_by_answer book response (refusal_of reply))
              as (λ close. Comes (closed_facts request close)) [ None ↦ tt | Some close ↦ (tt, tt) ]
        ]
    event_comes (event.Closed request moment) =
        elim (request_numbered book request) as (λ own. Comes (expiry_facts request own)) [
          | None ↦ tt
          | Some own ↦ (tt, tt)
        ]
    event_comes other = tt

    pub event_fits : (more : InvestorEvent) → DeskFit may (facts ++ event_facts market book more)
    event_fits more = facts_fit may facts _ fit (event_comes more)
