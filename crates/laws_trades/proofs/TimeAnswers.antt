-- The moment of an investor's answer, and the request that it answers.
use Rattle.std.proofs.Common.{◌≡◌, ◌==◌, ℕ, Bool, true, List, [], ◌∷◌, ◌++◌}
use Rattle.std.proofs.Common.{Option, Some, None, refl, sym, ap, ◌∙◌}
use Rattle.std.proofs.Common.{subst, inl, inr, find}
use Rattle.std.specs.Option.{option_to_list}
use Rattle.std.proofs.lemmas.Bool.{cases_Bool, eqb-true, false≢true}
use Rattle.std.proofs.lemmas.List.Elements.{filter_map-append}
use Rattle.std.proofs.lemmas.Option.{same_Some}
use Rattle.market_terms.specs.declared.closes.HitRefusal.{HitRefusal}
use Rattle.market_terms.specs.declared.closes.Reply.{Reply}
use Rattle.market_terms.specs.declared.closes.Reply.TheVariants as reply
use Rattle.market_terms.specs.declared.rooms.Offer.{Offer}
use Rattle.market_terms.specs.declared.rooms.ResponseRef.{ResponseRef}
use Rattle.quote_messages.specs.declared.out_messages.OutMessage.{OutMessage}
use Rattle.quote_messages.specs.declared.out_messages.OutMessage.TheVariants as out
use Rattle.venue_rows.specs.Rows.{Configuration}
use Rattle.venue_steps.specs.InvestorSteps.{replies_to}
use Rattle.investor_desk.specs.InvestorDesk.{market_of}
use Rattle.investor_desk.specs.InvestorFacts as investor_facts
use Rattle.investor_desk.specs.InvestorFacts.{InvestorFact}
use Rattle.investor_desk.specs.InvestorOutput as investor_output
use Rattle.investor_desk.specs.InvestorRules.{InvestorMarket, investor_verdict}
use Rattle.investor_desk.specs.declared.events.InvestorEvent.{InvestorEvent}
use Rattle.investor_desk.specs.declared.events.InvestorEvent.TheVariants as at_investor
use Rattle.investor_desk.specs.declared.standing.AcceptedRequest.{AcceptedRequest}
use Rattle.investor_desk.specs.declared.verdicts.InvestorVerdict.{InvestorVerdict}
use Rattle.investor_desk.specs.declared.verdicts.InvestorVerdict.TheVariants as asks
use Rattle.step_replay.specs.AuditTrail.{audit_trail}
use Rattle.step_replay.specs.GrowthLemmas.{all_in, in_left}
use Rattle.step_replay.specs.InvestorTrail as investor_trail
use Rattle.step_replay.specs.InvestorTrail.{InvestorEntry}
use Rattle.step_replay.specs.Lists.{Every, In}
use Rattle.step_replay.specs.VenueFacts.{AtInvestor, Fact, of_investor}
use Rattle.step_replay.specs.declared.steps.Step.{Step}
use Rattle.step_replay.specs.EachLemmas.{every_both}
use Rattle.laws_days.proofs.NewsWalk.{gone_says, news_says}
use Rattle.laws_trades.specs.TradeTimes.{IsAnsweredAt, IsAwarded, IsSaidTo, room_at}
use Rattle.laws_trades.proofs.AwardedWords.{found_passes}
use Rattle.laws_trades.proofs.TimeDays.{day_timed}
use Rattle.laws_trades.proofs.TimeParts.{FactTimed}

-- Lists.

found_in : {A : Type 0} (test : A → Bool) (xs : List A) (x : A) → find test xs ≡ Some x → In x xs
found_in test [] x is = cc
found_in test (y ∷ xs) x is = elim (cases_Bool (test y)) [
  | inl holds ↦ inl (same_Some y x (rw holds at is))
  | inr fails ↦ inr (found_in test xs x (rw fails at is))
]

-- What an investor is sent.

at_investor_all : (P : Fact → Type 0) (investor : ℕ) (some : List Fact) → Every P some
    → Every (λ (entry : InvestorEntry). P (AtInvestor investor entry)) (of_investor investor some)
unfolding of_investor
at_investor_all P investor [] every = tt
at_investor_all P investor (AtInvestor other entry ∷ some) every =
    elim (cases_Bool (other == investor)) [
      | inl test ↦ rw test (
        rw (eqb-true other investor test) at every.0,
        at_investor_all P investor some every.1,
      )
      | inr differs ↦ rw differs (at_investor_all P investor some every.1)
    ]
at_investor_all P investor (fact ∷ some) every = at_investor_all P investor some every.1

sent_in : (bytes : List ℕ) (trail : List InvestorEntry) → In bytes (investor_trail.sent_by trail)
    → In (investor_trail.Sent bytes) trail
sent_in bytes [] is = absurd is
sent_in bytes (investor_trail.Sent other ∷ trail) (inl is) = inl (ap (λ (b : List ℕ). investor_trail.Sent b) is)
sent_in bytes (investor_trail.Sent other ∷ trail) (inr is) = inr (sent_in bytes trail is)
sent_in bytes (investor_trail.AtDesk fact ∷ trail) is = inr (sent_in bytes trail is)
sent_in bytes (investor_trail.Happened event ∷ trail) is = inr (sent_in bytes trail is)

said_to : (config : Configuration) (steps : List Step) (investor : ℕ) (bytes : List ℕ)
    → In bytes (investor_trail.sent_by (of_investor investor (audit_trail config steps).facts))
    → IsSaidTo config (audit_trail config steps).facts investor bytes
said_to config steps investor bytes sent =
    let facts = (audit_trail config steps).facts in
    all_in (λ (e : InvestorEntry). FactTimed config facts (AtInvestor investor e)) (investor_trail.Sent bytes)
    (of_investor investor facts)
    (at_investor_all (FactTimed config facts) investor facts (day_timed config steps).facts)
    (sent_in bytes (of_investor investor facts) sent)

-- the event that says an award is a reply of that
module _ (market : InvestorMarket) (book : investor_facts.InvestorBook) (id name : List ℕ) (quote : ℕ) where
  abbrev answer : OutMessage
  answer = out.HitReport id name quote None

  record Replies (event : InvestorEvent) : Type 0 where
    pub request : ℕ
    pub response : ResponseRef
    pub reply_is : Reply
    pub moment : ℕ
    pub event_is : event ≡ at_investor.Answered request response reply_is moment
    pub one : investor_facts.StandingRequest
    pub found : investor_facts.request_numbered book request ≡ Some one
    pub named : one.request.id ≡ name
    pub is_hit : response.k ≡ Some quote
    pub unrefused : investor_output.refusal_of reply_is ≡ None

  -- another message than this answer
  abbrev Differs : OutMessage → Type 0
  Differs message = message ≡ answer → ⊥

  unsaid : (messages : List OutMessage) → Every Differs messages → In answer messages → ⊥
  unsaid [] differ is = is
  unsaid (message ∷ messages) differ (inl is) = differ.0 is
  unsaid (message ∷ messages) differ (inr is) = unsaid messages differ.1 is

  no_own : (v : InvestorVerdict) → Every Differs (option_to_list (investor_output.verdict_message v))
  no_own asks.Dropped = tt
  no_own (asks.Hits request response word) = tt
  no_own (asks.Passes request response) = tt
  no_own other = (λ at. cc, tt)

  no_offer : (number : ℕ) (offer : Offer) (own : Option investor_facts.StandingRequest)
      → Every Differs (investor_output.offer_messages book number offer own)
  no_offer number offer None = tt
  no_offer number offer (Some own) =
      every_both Differs _ _
      (gone_says Differs own (λ shown at. cc) (investor_facts.offer_of_dealer own offer.dealer))
      (λ at. cc, tt)

  -- a reply to a hit of a quote on this request
  record IsOfHit (response : ResponseRef) (given : Reply)
      (own : Option investor_facts.StandingRequest) : Type 0 where
    pub one : investor_facts.StandingRequest
    pub found : own ≡ Some one
    pub named : one.request.id ≡ name
    pub is_hit : response.k ≡ Some quote
    pub unrefused : investor_output.refusal_of given ≡ None

  reply_of : (response : ResponseRef) (given : Reply) (own : Option investor_facts.StandingRequest)
      → In answer (investor_output.answer_messages response given own) → IsOfHit response given own
  reply_of response given None is = absurd is
  reply_of response given (Some own) (inr is) = absurd is
  reply_of response given (Some own) (inl is) = by_quote response.k refl is
    where
      by_quote : (k : Option ℕ) → response.k ≡ k
          → investor_output.response_message own response.id k (investor_output.refusal_of given) ≡ answer
          → IsOfHit response given (Some own)
      by_quote None k_is at = cc
      by_quote (Some own_quote) k_is at = record {
        one = own;
        found = refl;
        named = ap name_said at;
        is_hit = k_is ∙ ap quote_said at;
        unrefused = ap refusal_said at;
      }
        where
          name_said : OutMessage → List ℕ
          name_said (out.HitReport one other number why) = other
          name_said other = own.request.id

          quote_said : OutMessage → Option ℕ
          quote_said (out.HitReport one other number why) = Some number
          quote_said other = None

          refusal_said : OutMessage → Option HitRefusal
          refusal_said (out.HitReport one other number why) = why
          refusal_said other = None

  award_replies : (event : InvestorEvent) → In answer (investor_output.event_messages market book event)
      → Replies event
  unfolding investor_output.event_messages
  award_replies (at_investor.Received moment bytes) is =
      absurd (unsaid _ (no_own (investor_verdict market book moment bytes)) is)
  award_replies (at_investor.QuoteCame request offer moment) is =
      absurd (unsaid _ (no_offer request offer (investor_facts.open_request book request)) is)
  award_replies (at_investor.Answered request response given moment) is =
      let so = reply_of response given (investor_facts.request_numbered book request) is in
      record {
        request = request;
        response = response;
        reply_is = given;
        moment = moment;
        event_is = refl;
        one = so.one;
        found = so.found;
        named = so.named;
        is_hit = so.is_hit;
        unrefused = so.unrefused;
      }
  award_replies other is =
      absurd (unsaid (investor_output.event_messages market book other)
      (news_says Differs market book other tt (λ request own stands. record {
        gone = λ its word moment at shown same. cc;
        declined = λ its dealer moment at same. cc;
        expired = λ same. cc;
      })) is)

awarded : (quote : ℕ) (given : Reply) → investor_output.refusal_of given ≡ None
    → replies_to (Some quote) given ≡ true → given ≡ reply.Awarded
awarded quote reply.Awarded unrefused may = refl
awarded quote reply.Passed unrefused may = absurd (false≢true may)
awarded quote (reply.Refused why) unrefused may = cc

-- the request that it answers
request_there : (book : investor_facts.InvestorBook) (request : ℕ) (one : investor_facts.StandingRequest)
    → investor_facts.request_numbered book request ≡ Some one
    → (In one book.requests) × (one.request.number ≡ request)
unfolding investor_facts.request_numbered
request_there book request one found = (
  found_in (λ (r : investor_facts.StandingRequest). r.request.number == request) book.requests one found,
  eqb-true one.request.number request
      (found_passes (λ (r : investor_facts.StandingRequest). r.request.number == request) book.requests one found),
)

asked_in : (one : investor_facts.StandingRequest) (facts : List InvestorFact)
    → In one (investor_facts.requests_of facts) → In (investor_facts.Asked one.request) facts
asked_in one [] is = absurd is
asked_in one (investor_facts.Asked request ∷ facts) (inl is) =
    inl (ap (λ (r : investor_facts.StandingRequest). investor_facts.Asked r.request) is)
asked_in one (investor_facts.Asked request ∷ facts) (inr is) = inr (asked_in one facts is)
asked_in one (fact ∷ facts) is = inr (asked_in one facts is)

asked_grown : (request : AcceptedRequest) (stood entries after : List InvestorEntry)
    → In (investor_facts.Asked request) (investor_trail.facts_of stood)
    → In (investor_facts.Asked request) (investor_trail.facts_of (stood ++ entries ++ after))
asked_grown request stood entries after is =
    rw (filter_map-append, filter_map-append)
    (in_left (investor_facts.Asked request) (investor_trail.facts_of stood ++ investor_trail.facts_of entries)
    (investor_trail.facts_of after)
    (in_left (investor_facts.Asked request) (investor_trail.facts_of stood) (investor_trail.facts_of entries) is))

pub answer_said : (config : Configuration) (steps : List Step) (investor : ℕ) (bytes : List ℕ)
    → In bytes (investor_trail.sent_by (of_investor investor (audit_trail config steps).facts))
    → (is : IsSaidTo config (audit_trail config steps).facts investor bytes)
    × ((id request : List ℕ) (quote : ℕ) → is.message ≡ out.HitReport id request quote None
    → IsAnsweredAt (audit_trail config steps).facts investor request
    (investor_output.moment_of is.event))
answer_said config steps investor bytes sent = (
  said_to config steps investor bytes sent,
  λ id request quote message_is.
      let is = said_to config steps investor bytes sent in
      let facts = (audit_trail config steps).facts in
      let market = market_of config investor is.row in
      let book = investor_trail.book_by is.stood in
      let r = award_replies market book id request quote is.event
      (subst (λ (m : OutMessage). In m (investor_output.event_messages market book is.event)) message_is is.says) in
      let may : replies_to (Some quote) r.reply_is ≡ true =
      ap (λ (k : Option ℕ). replies_to k r.reply_is) (sym r.is_hit)
      ∙ is.replies r.request r.response r.reply_is r.moment r.event_is in
      let same : r.reply_is ≡ reply.Awarded = awarded quote r.reply_is r.unrefused may in
      let event_is = r.event_is
      ∙ ap (λ (a : Reply). at_investor.Answered r.request r.response a r.moment) same in
      let there = request_there book r.request r.one r.found in
      record {
        asked = r.one.request;
        was_asked = subst (λ (l : List InvestorEntry). In (investor_facts.Asked r.one.request) (investor_trail.facts_of l))
            (sym is.trail_is)
            (asked_grown r.one.request is.stood (investor_trail.entries_of market is.stood is.event) is.after
            (asked_in r.one (investor_trail.facts_of is.stood) there.0));
        id_is = r.named;
        award = subst (λ (n : ℕ). IsAwarded facts (room_at investor n) (investor_output.moment_of is.event))
            (sym there.1)
            (subst (λ (m : ℕ). IsAwarded facts (room_at investor r.request) m)
            (sym (ap investor_output.moment_of r.event_is))
            (is.award r.request r.response r.moment event_is));
      },
)
