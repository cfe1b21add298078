-- What an investor's desk sends: the texts and moments of its messages may be said, and where a
-- room refused what a message answers, nothing is noted beside it.
use Rattle.std.proofs.Common.{◌≡◌, ℕ, ◌<◌, Bool, true, false, List, [], ◌∷◌, find}
use Rattle.std.proofs.Common.{Option, Some, None, refl, sym, subst, inl, inr, is_some}
use Rattle.std.proofs.Common.{option_map}
use Rattle.std.proofs.Common.{option_to_list}
use Rattle.std.proofs.lemmas.Bool.{cases_Bool, cond_both}
use Rattle.std.proofs.lemmas.Option.{same_Some}
use Rattle.fix_fields.specs.declared.limits.TheConstants.{A_DAY}
use Rattle.market_terms.specs.declared.closes.HitRefusal.{HitRefusal}
use Rattle.market_terms.specs.declared.closes.Reply.{Reply}
use Rattle.market_terms.specs.declared.rooms.Offer.{Offer}
use Rattle.market_terms.specs.declared.rooms.ResponseRef.{ResponseRef}
use Rattle.quote_messages.specs.Arrivals.{investor_arrival}
use Rattle.quote_messages.specs.declared.arrivals.Arrival.{Arrival}
use Rattle.quote_messages.specs.declared.arrivals.Arrival.TheVariants as arrival
use Rattle.quote_messages.specs.declared.out_messages.OutMessage.{OutMessage}
use Rattle.quote_messages.specs.declared.requests.InvestorMessage.{InvestorMessage}
use Rattle.quote_messages.specs.declared.requests.InvestorMessage.TheVariants as message
use Rattle.quote_messages.specs.declared.requests.QuoteHit.{QuoteHit}
use Rattle.quote_messages.specs.declared.requests.QuoteRequest.{QuoteRequest}
use Rattle.quote_messages.specs.declared.requests.RequestPass.{RequestPass}
use Rattle.venue_rows.specs.Texts.{same_text}
use Rattle.venue_rows.specs.declared.bond_rows.BondRow.{BondRow}
use Rattle.investor_desk.specs.InvestorFacts.{Asked, InvestorBook, InvestorFact}
use Rattle.investor_desk.specs.InvestorFacts.{StandingRequest, book_of, expected_number}
use Rattle.investor_desk.specs.InvestorFacts.{offer_named, offer_of_dealer}
use Rattle.investor_desk.specs.InvestorFacts.{open_request, request_numbered}
use Rattle.investor_desk.specs.InvestorFacts.{request_with_id, requests_of, while_open}
use Rattle.investor_desk.specs.InvestorOutput.{answer_messages, answer_note}
use Rattle.investor_desk.specs.InvestorOutput.{award_note}
use Rattle.investor_desk.specs.InvestorOutput.{close_by_answer}
use Rattle.investor_desk.specs.InvestorOutput.{event_facts, event_messages, event_note}
use Rattle.investor_desk.specs.InvestorOutput.{gone_message}
use Rattle.investor_desk.specs.InvestorOutput.{moment_of, next_offer}
use Rattle.investor_desk.specs.InvestorOutput.{offer_message, offer_messages}
use Rattle.investor_desk.specs.InvestorOutput.{refusal_of}
use Rattle.investor_desk.specs.InvestorOutput.{response_message, verdict_facts, verdict_message}
use Rattle.investor_desk.specs.InvestorOutput.{verdict_note}
use Rattle.investor_desk.specs.InvestorRules.{InvestorMarket, arrival_verdict, bond_with_id, hit_of}
use Rattle.investor_desk.specs.InvestorRules.{hit_verdict, investor_verdict, pass_of, pass_verdict}
use Rattle.investor_desk.specs.InvestorRules.{request_answer, request_verdict}
use Rattle.investor_desk.specs.declared.events.InvestorEvent.{InvestorEvent}
use Rattle.investor_desk.specs.declared.events.InvestorEvent.TheVariants as event
use Rattle.investor_desk.specs.declared.refusals.RequestRefusal.{RequestRefusal}
use Rattle.investor_desk.specs.declared.standing.ShownOffer.{ShownOffer}
use Rattle.investor_desk.specs.declared.verdicts.InvestorVerdict.{InvestorVerdict}
use Rattle.investor_desk.specs.declared.verdicts.InvestorVerdict.TheVariants as verdict
use Rattle.step_replay.specs.EachLemmas.{every_both}
use Rattle.step_replay.specs.Lists.{Every}
use Rattle.laws_days.proofs.NewsWalk.{gone_says, news_adds, news_says, offer_adds, reply_adds}
use Rattle.laws_shown.proofs.ReadFields.{text_same}
use Rattle.laws_wire.proofs.ArrivalTexts.{ArrivalGiven, InvestorSaid, investor_came}
use Rattle.laws_wire.proofs.DealerTexts.{IfThere, found_there}
use Rattle.laws_wire.proofs.FieldValues.{IsGiven}
use Rattle.laws_wire.proofs.MessageFields.{AskGiven, IfMoment, MessageGiven}
use Rattle.laws_wire.proofs.MessageFields.{has_reason}

-- Verdicts.

-- what a message comes to: a request, or a response to one
abbrev pub TakenGiven : (ℕ → Type 0) → InvestorVerdict → Type 0
TakenGiven D (verdict.RequestAccepted id request) = IsGiven request.id × AskGiven D request.ask
TakenGiven D (verdict.Hits request response word) = IsGiven response.id
TakenGiven D (verdict.Passes request response) = IsGiven response.id
TakenGiven D other = Unit {0}

-- what answers it, if anything does, and what it comes to
abbrev pub VerdictGiven : (ℕ → Type 0) → InvestorVerdict → Type 0
VerdictGiven D v = IfThere (MessageGiven D) (verdict_message v) × TakenGiven D v

-- what is found passes the test
passes : {A : Type 0} (test : A → Bool) (xs : List A) (x : A) → find test xs ≡ Some x
    → test x ≡ true
passes test [] x is = cc
passes test (y ∷ ys) x is = elim (cases_Bool (test y)) [
  | inl test_is ↦ subst (λ z. test z ≡ true) (same_Some y x (rw test_is at is)) test_is
  | inr fails ↦ passes test ys x (rw fails at is)
]

module _ (D : ℕ → Type 0) (of_day : (n : ℕ) → n < A_DAY → D n) (market : InvestorMarket)
    (named : IsGiven market.row.name) (book : InvestorBook) (moment : ℕ) where
  request_given : (request : QuoteRequest) (bond : Option BondRow)
      (refusal : Option RequestRefusal) → bond_with_id market request.bond ≡ bond
      → InvestorSaid D (message.Request request)
      → VerdictGiven D (request_answer market book moment request bond refusal)
  unfolding bond_with_id
  request_given request bond (Some refused) found said = ((said.0, said.1), tt)
  request_given request None None found said = ((said.0, said.1), tt)
  request_given request (Some bond) None found said =
      let same : bond.id ≡ request.bond = text_same bond.id request.bond
      (passes (λ (b : BondRow). same_text b.id request.bond) market.bonds bond found) in
      (said.0, (said.0, (subst IsGiven (sym same) said.1, named, said.2)))

  hit_given : (hit : QuoteHit) (shown : Option ShownOffer) → InvestorSaid D (message.Hit hit)
      → VerdictGiven D (hit_of hit shown)
  hit_given hit None said = (said, tt)
  hit_given hit (Some shown) said = (tt, said.0)

  pass_given : (pass : RequestPass) (own : Option StandingRequest)
      → InvestorSaid D (message.Pass pass) → VerdictGiven D (pass_of pass own)
  pass_given pass None said = (said, tt)
  pass_given pass (Some own) said = (tt, said.0)

  came_given : (came : Arrival InvestorMessage) → ArrivalGiven (InvestorSaid D) came
      → VerdictGiven D (arrival_verdict market book moment came)
  unfolding request_verdict hit_verdict pass_verdict
  came_given arrival.Dropped said = (tt, tt)
  came_given (arrival.OutOfSequence reject) said = (said, tt)
  came_given (arrival.Rejected reject) said = (said, tt)
  came_given (arrival.Taken (message.Request request)) said =
      request_given request (bond_with_id market request.bond) _ refl said
  came_given (arrival.Taken (message.Hit hit)) said =
      hit_given hit (offer_named book hit.quote) said
  came_given (arrival.Taken (message.Pass pass)) said =
      pass_given pass (request_with_id book pass.request) said

  pub verdict_given : (bytes : List ℕ) → VerdictGiven D (investor_verdict market book moment bytes)
  unfolding investor_verdict
  verdict_given bytes =
      came_given (investor_arrival market.date market.row (expected_number book) bytes)
      (investor_came D of_day market.date market.row (expected_number book) bytes)

-- Facts and events.

abbrev pub FactGiven : (ℕ → Type 0) → InvestorFact → Type 0
FactGiven D (Asked request) = IsGiven request.id × AskGiven D request.ask
FactGiven D other = Unit {0}

abbrev pub OfferGiven : (ℕ → Type 0) → Offer → Type 0
OfferGiven D offer = IsGiven offer.dealer × IfMoment D offer.valid_until

abbrev pub EventGiven : (ℕ → Type 0) → InvestorEvent → Type 0
EventGiven D (event.QuoteCame request offer moment) = OfferGiven D offer × D moment
EventGiven D (event.DealerDeclined request dealer moment) = IsGiven dealer × D moment
EventGiven D (event.Answered request response reply moment) = IsGiven response.id × D moment
EventGiven D other = D (moment_of other)

-- a message with what is noted beside it
abbrev pub MaySend : (ℕ → Type 0) → Bool → OutMessage → Type 0
MaySend D noted message =
    MessageGiven D message × (noted ≡ true → has_reason message ≡ false)

-- a request that stands
abbrev OwnGiven : (ℕ → Type 0) → StandingRequest → Type 0
OwnGiven D own = IsGiven own.request.id × AskGiven D own.request.ask

module _ (D : ℕ → Type 0) where
  requests_given : (facts : List InvestorFact) → Every (FactGiven D) facts
      → Every (OwnGiven D) (requests_of facts)
  requests_given [] every = tt
  requests_given (Asked request ∷ later) every = (every.0, requests_given later every.1)
  requests_given (fact ∷ later) every = requests_given later every.1

  numbered_given : (facts : List InvestorFact) (number : ℕ) → Every (FactGiven D) facts
      → IfThere (OwnGiven D) (request_numbered (book_of facts) number)
  unfolding request_numbered
  numbered_given facts number every =
      found_there (OwnGiven D) _ (requests_of facts) (requests_given facts every)

  while_given : (own : Option StandingRequest) → IfThere (OwnGiven D) own
      → IfThere (OwnGiven D) (while_open own)
  while_given None given = tt
  while_given (Some own) given =
      cond_both _ (Some own) None (IfThere (OwnGiven D)) (λ stands. given) (λ closed. tt)

  -- What a verdict adds.

  verdict_adds : (v : InvestorVerdict) → VerdictGiven D v → Every (FactGiven D) (verdict_facts v)
  verdict_adds (verdict.RequestAccepted id request) given = (given.1, tt)
  verdict_adds other given = tt

  -- What an event sends.

  verdict_sends : (v : InvestorVerdict) → VerdictGiven D v
      → Every (MaySend D (is_some (verdict_note v))) (option_to_list (verdict_message v))
  verdict_sends verdict.Dropped given = tt
  verdict_sends (verdict.Hits request response word) given = tt
  verdict_sends (verdict.Passes request response) given = tt
  verdict_sends other given = ((given.0, λ noted. refl), tt)

  offer_sends : (book : InvestorBook) (number : ℕ) (offer : Offer) (own : Option StandingRequest)
      → OfferGiven D offer → IfThere (OwnGiven D) own
      → Every (MaySend D false) (offer_messages book number offer own)
  offer_sends book number offer None came given = tt
  offer_sends book number offer (Some own) came given =
      every_both (MaySend D false)
      (option_to_list (option_map (gone_message own) (offer_of_dealer own offer.dealer)))
      (offer_message own (next_offer book number offer) ∷ [])
      (gone_says (MaySend D false) own (λ shown. (given.0, λ noted. refl))
      (offer_of_dealer own offer.dealer))
      (((given.0, given.1.0, came.0, came.1), λ noted. refl), tt)

  -- a room's refusal is noted by nothing
  response_sends : (book : InvestorBook) (own : StandingRequest) (response : ResponseRef)
      (refusal : Option HitRefusal) → OwnGiven D own → IsGiven response.id
      → MaySend D (is_some (award_note (close_by_answer book response refusal)))
      (response_message own response.id response.k refusal)
  response_sends book own response refusal given id = by_kind response.k refusal
    where
      by_kind : (k : Option ℕ) (why : Option HitRefusal)
          → MaySend D (is_some (award_note (close_by_answer book
          (record { id = response.id; k = k }) why)))
          (response_message own response.id k why)
      by_kind None None = ((id, given.0), λ noted. refl)
      by_kind None (Some why) = ((id, given.0), λ noted. cc)
      by_kind (Some quote) None = ((id, given.0), λ noted. refl)
      by_kind (Some quote) (Some why) = ((id, given.0), λ noted. cc)

  answer_sends : (book : InvestorBook) (response : ResponseRef) (said : Reply)
      (own : Option StandingRequest) → IfThere (OwnGiven D) own → IsGiven response.id
      → Every (MaySend D (is_some (answer_note book response said own)))
      (answer_messages response said own)
  answer_sends book response said None given id = tt
  answer_sends book response said (Some own) given id =
      (response_sends book own response (refusal_of said) given id, tt)

module _ (D : ℕ → Type 0) (of_day : (n : ℕ) → n < A_DAY → D n) (market : InvestorMarket)
    (named : IsGiven market.row.name) where
  pub event_adds : (book : InvestorBook) (more : InvestorEvent)
      → Every (FactGiven D) (event_facts market book more)
  unfolding event_facts
  event_adds book (event.Received moment bytes) = (
    tt,
    verdict_adds D (investor_verdict market book moment bytes)
        (verdict_given D of_day market named book moment bytes),
  )
  event_adds book (event.QuoteCame request offer moment) =
      offer_adds (FactGiven D) book request offer (λ quote. tt) tt (open_request book request)
  event_adds book (event.Answered request response said moment) =
      reply_adds (FactGiven D) book request response said (λ how. tt) (request_numbered book request)
  event_adds book other =
      news_adds (FactGiven D) market book other tt (λ request word moment at quote. tt) (λ request. tt)

  pub event_sends : (facts : List InvestorFact) → Every (FactGiven D) facts
      → (more : InvestorEvent) → EventGiven D more
      → Every (MaySend D (is_some (event_note market (book_of facts) more)))
      (event_messages market (book_of facts) more)
  unfolding event_messages event_note
  event_sends facts every (event.Received moment bytes) given =
      verdict_sends D (investor_verdict market (book_of facts) moment bytes)
      (verdict_given D of_day market named (book_of facts) moment bytes)
  event_sends facts every (event.QuoteCame request offer moment) given =
      offer_sends D (book_of facts) request offer (open_request (book_of facts) request) given.0
      (while_given D (request_numbered (book_of facts) request)
      (numbered_given D facts request every))
  event_sends facts every (event.Answered request response said moment) given =
      answer_sends D (book_of facts) response said (request_numbered (book_of facts) request)
      (numbered_given D facts request every) given.0
  event_sends facts every other given =
      news_says (MaySend D false) market (book_of facts) other tt (λ request own stands.
      let asked = subst (IfThere (OwnGiven D)) stands (numbered_given D facts request every) in
      record {
        gone = λ its word moment at shown. (asked.0, λ noted. refl);
        declined = λ its dealer moment at. ((asked.0, (subst (EventGiven D) at given).0), λ noted. refl);
        expired = (asked.0, λ noted. refl);
      })
