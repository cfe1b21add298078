-- The desk of an investor without the quotes that it was shown: a request and a pass read none, a
-- hit finds none, and what comes from a room but for an award is the same there.
use Rattle.std.proofs.Common.{◌≡◌, ℕ, ◌+◌, Bool, false, List, [], ◌∷◌, ◌++◌, map, filter, length}
use Rattle.std.proofs.Common.{Option, Some, None, option_map, refl, sym, ap, ◌∙◌}
use Rattle.std.proofs.lemmas.List.Elements.{filter-append}
use Rattle.market_terms.specs.declared.closes.HitRefusal.{HitRefusal}
use Rattle.market_terms.specs.declared.closes.Reply.TheVariants as reply
use Rattle.market_terms.specs.declared.rooms.Offer.{Offer}
use Rattle.market_terms.specs.declared.rooms.ResponseRef.{ResponseRef}
use Rattle.investor_desk.specs.InvestorFacts.{InvestorFact, InvestorBook, StandingRequest, Came}
use Rattle.investor_desk.specs.InvestorFacts.{Offered, request_numbered, open_request}
use Rattle.investor_desk.specs.InvestorFacts.{offer_of_dealer, offer_with_word}
use Rattle.investor_desk.specs.InvestorRules.{InvestorMarket, investor_verdict, response_to}
use Rattle.investor_desk.specs.InvestorOutput.{uses_number, verdict_facts, event_facts}
use Rattle.investor_desk.specs.InvestorOutput.{event_messages, gone_facts, offer_facts}
use Rattle.investor_desk.specs.InvestorOutput.{withdrawal_facts, expiry_facts, written_from}
use Rattle.investor_desk.specs.InvestorOutput.{answer_facts, next_offer, moment_of}
use Rattle.investor_desk.specs.declared.standing.ShownOffer.{ShownOffer}
use Rattle.investor_desk.specs.declared.events.InvestorEvent.{InvestorEvent}
use Rattle.investor_desk.specs.declared.events.InvestorEvent.TheVariants as event
use Rattle.step_replay.specs.InvestorTrail.{InvestorEntry, AtDesk, Sent, book_by, sent_by}
use Rattle.step_replay.specs.InvestorTrail.{entries_of}
use Rattle.laws_days.specs.KeptItems.{every_map, none_behind, none_kept, kept_in}
use Rattle.laws_isolation.proofs.Quiet.{stays_at_desk, stays_there}
use Rattle.laws_isolation.proofs.QuietVerdicts.{quiet_request, quiet_book, book_by_kept, numbered}
use Rattle.laws_isolation.proofs.QuietVerdicts.{verdict_heard}

-- What an event adds, without quotes and messages.

-- entries of facts, without what was sent
entries_kept : (market : InvestorMarket) (trail : List InvestorEntry) (more : InvestorEvent)
    → filter stays_there (entries_of market trail more)
    ≡ map AtDesk (filter stays_at_desk (event_facts market (book_by trail) more))
unfolding entries_of
entries_kept market trail more =
    let facts = event_facts market (book_by trail) more in
    let sent = written_from market (length (sent_by trail) + 1) (moment_of more)
    (event_messages market (book_by trail) more) in
    none_behind stays_there (map AtDesk facts) (map Sent sent)
    (none_kept stays_there (map Sent sent)
    (every_map (λ (entry : InvestorEntry). stays_there entry ≡ false) Sent (λ m. refl) sent))
    ∙ kept_in stays_there AtDesk stays_at_desk (λ fact. refl) facts

-- an event that adds the same facts to both
pub event_kept : (market : InvestorMarket) (trail : List InvestorEntry) (more : InvestorEvent)
    → filter stays_at_desk (event_facts market (book_by trail) more)
    ≡ filter stays_at_desk (event_facts market (quiet_book (book_by trail)) more)
    → filter stays_there (entries_of market trail more)
    ≡ filter stays_there (entries_of market (filter stays_there trail) more)
event_kept market trail more same =
    entries_kept market trail more
    ∙ ap (map AtDesk) same
    ∙ ap (λ (b : InvestorBook). map AtDesk (filter stays_at_desk (event_facts market b more)))
    (sym (book_by_kept trail))
    ∙ sym (entries_kept market (filter stays_there trail) more)

-- Events of which nothing stays: all but a message of the investor's own, an award or a pass, and
-- that its request expired.
abbrev pub Hushes : InvestorEvent → Type 0
Hushes (event.Received moment bytes) = ⊥
Hushes (event.Answered request response (reply.Refused refused) moment) = Unit {0}
Hushes (event.Answered request response reply moment) = ⊥
Hushes (event.Closed request moment) = ⊥
Hushes other = Unit {0}

module _ (market : InvestorMarket) (book : InvestorBook) where
  -- a message of the investor's own
  pub own_kept : (moment : ℕ) (bytes : List ℕ)
      → event_facts market book (event.Received moment bytes)
      ≡ event_facts market (quiet_book book) (event.Received moment bytes)
  unfolding event_facts
  own_kept moment bytes =
      let heard = verdict_heard book market moment bytes in
      sym (ap (λ (b : Bool). Came moment bytes b
      ∷ verdict_facts (investor_verdict market (quiet_book book) moment bytes)) heard.uses_are
      ∙ ap (λ (l : List InvestorFact).
      Came moment bytes (uses_number (investor_verdict market book moment bytes)) ∷ l)
      heard.facts_are)

  gone_hushed : (number : ℕ) (found : Option ShownOffer)
      → filter stays_at_desk (gone_facts number found) ≡ []
  gone_hushed number None = refl
  gone_hushed number (Some shown) = refl

  offer_hushed : (number : ℕ) (offer : Offer) (found : Option StandingRequest)
      → filter stays_at_desk (offer_facts book number offer found) ≡ []
  offer_hushed number offer None = refl
  offer_hushed number offer (Some own) =
      filter-append stays_at_desk (gone_facts number (offer_of_dealer own offer.dealer))
      (Offered (next_offer book number offer) ∷ [])
      ∙ ap (λ (l : List InvestorFact). l ++ [])
      (gone_hushed number (offer_of_dealer own offer.dealer))

  withdrawal_hushed : (number word : ℕ) (found : Option StandingRequest)
      → filter stays_at_desk (withdrawal_facts number word found) ≡ []
  withdrawal_hushed number word None = refl
  withdrawal_hushed number word (Some own) = gone_hushed number (offer_with_word own word)

  refused_hushed : (request : ℕ) (response : ResponseRef) (refused : HitRefusal)
      (found : Option StandingRequest)
      → filter stays_at_desk (answer_facts book request response (reply.Refused refused) found) ≡ []
  refused_hushed request response refused None = refl
  refused_hushed request response refused (Some own) = refl

  facts_hushed : (more : InvestorEvent) → Hushes more
      → filter stays_at_desk (event_facts market book more) ≡ []
  unfolding event_facts
  facts_hushed (event.QuoteCame request offer moment) is =
      offer_hushed request offer (open_request book request)
  facts_hushed (event.QuoteGone request word moment) is =
      withdrawal_hushed request word (open_request book request)
  facts_hushed (event.Answered request response (reply.Refused refused) moment) is =
      refused_hushed request response refused (request_numbered book request)
  facts_hushed other is = search

  -- a pass is answered
  passed_facts : (request : ℕ) (id : List ℕ) (found : Option StandingRequest)
      → answer_facts book request (response_to id None) reply.Passed found
      ≡ answer_facts (quiet_book book) request (response_to id None) reply.Passed
      (option_map quiet_request found)
  passed_facts request id None = refl
  passed_facts request id (Some own) = refl

  pub passed_kept : (request : ℕ) (id : List ℕ) (moment : ℕ)
      → event_facts market book
      (event.Answered request (response_to id None) reply.Passed moment)
      ≡ event_facts market (quiet_book book)
      (event.Answered request (response_to id None) reply.Passed moment)
  unfolding event_facts
  passed_kept request id moment =
      passed_facts request id (request_numbered book request)
      ∙ ap (λ (o : Option StandingRequest).
      answer_facts (quiet_book book) request (response_to id None) reply.Passed o)
      (sym (numbered book request))

  -- a request expires
  expired_facts : (request : ℕ) (found : Option StandingRequest)
      → expiry_facts request found ≡ expiry_facts request (option_map quiet_request found)
  expired_facts request None = refl
  expired_facts request (Some own) = refl

  pub expired_kept : (request moment : ℕ)
      → event_facts market book (event.Closed request moment)
      ≡ event_facts market (quiet_book book) (event.Closed request moment)
  unfolding event_facts
  expired_kept request moment =
      expired_facts request (request_numbered book request)
      ∙ ap (λ (o : Option StandingRequest). expiry_facts request o) (sym (numbered book request))

pub event_hushed : (market : InvestorMarket) (trail : List InvestorEntry) (more : InvestorEvent)
    → Hushes more → filter stays_there (entries_of market trail more) ≡ []
event_hushed market trail more is =
    entries_kept market trail more ∙ ap (map AtDesk) (facts_hushed market (book_by trail) more is)
