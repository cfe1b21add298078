-- What an event adds and sends at a desk with own numbers in the place of words: a decline, an
-- answer, an expiry.
use Rattle.std.proofs.Common.{◌≡◌, ℕ, List, [], ◌∷◌, map, length, Option, Some, None, option_map}
use Rattle.std.proofs.Common.{refl, ap, ◌∙◌}
use Rattle.quote_messages.specs.declared.out_messages.OutMessage.{OutMessage}
use Rattle.market_terms.specs.declared.closes.HitRefusal.{HitRefusal}
use Rattle.market_terms.specs.declared.closes.Reply.{Reply}
use Rattle.market_terms.specs.declared.rooms.ResponseRef.{ResponseRef}
use Rattle.investor_desk.specs.InvestorFacts.{InvestorFact, StandingRequest, offer_numbered}
use Rattle.investor_desk.specs.InvestorFacts.{offers_of, open_request, request_numbered}
use Rattle.investor_desk.specs.InvestorRules.{InvestorMarket}
use Rattle.investor_desk.specs.InvestorOutput.{answer_facts, answer_messages, answer_note}
use Rattle.investor_desk.specs.InvestorOutput.{award_note, award_of, close_by, event_note}
use Rattle.investor_desk.specs.InvestorOutput.{close_by_answer, closed_facts, decline_messages}
use Rattle.investor_desk.specs.InvestorOutput.{event_facts, event_messages, expiry_facts}
use Rattle.investor_desk.specs.InvestorOutput.{expiry_messages, refusal_of, response_message}
use Rattle.investor_desk.specs.declared.events.InvestorEvent.TheVariants as event
use Rattle.investor_views.proofs.NumberedBook.{numbered, offered, open_numbered}
use Rattle.investor_views.proofs.NumberLemmas.{NumberedFrom}
use Rattle.investor_views.proofs.Renamed.{renamed_fact, renamed_request}
use Rattle.investor_views.proofs.ItemLemmas.{Answers, closed_kept, award_same, closed_numbered}
use Rattle.investor_views.proofs.ItemLemmas.{book, again}

module _ (market : InvestorMarket) (facts : List InvestorFact) where
  -- A decline.

  declined_messages : (dealer : List ℕ) (found : Option StandingRequest)
      → decline_messages dealer (option_map renamed_request found) ≡ decline_messages dealer found
  declined_messages dealer None = refl
  declined_messages dealer (Some own) = refl

  pub declined_answers : (request : ℕ) (dealer : List ℕ) (moment : ℕ)
      → Answers market facts (event.DealerDeclined request dealer moment)
      (event.DealerDeclined request dealer moment)
  unfolding event_facts event_messages event_note
  declined_answers request dealer moment = record {
    facts_are = refl;
    messages_are = ap (decline_messages dealer) (open_numbered (book market facts) request)
        ∙ declined_messages dealer (open_request (book market facts) request);
    note_is = refl;
    numbered_on = tt;
  }

  -- An answer.

  module _ (request : ℕ) (response : ResponseRef) (reply : Reply) where
    closed_by : (quote : Option ℕ) → close_by (again market facts) quote ≡ close_by (book market
        facts) quote
    closed_by None = refl
    closed_by (Some quote) =
        ap (option_map award_of) (offered (book market facts) quote) ∙ award_same (offer_numbered
        (book market facts) quote)

    closes_so : (refused : Option HitRefusal)
        → close_by_answer (again market facts) response refused ≡ close_by_answer (book market
        facts) response
        refused
    closes_so None = closed_by response.k
    closes_so (Some refusal) = refl

    answered_facts : (found : Option StandingRequest)
        → answer_facts (again market facts) request response reply (option_map renamed_request
        found)
        ≡ map renamed_fact (answer_facts (book market facts) request response reply found)
    answered_facts None = refl
    answered_facts (Some own) =
        ap (closed_facts request) (closes_so (refusal_of reply))
        ∙ closed_kept request (close_by_answer (book market facts) response (refusal_of reply))

    answer_kind : (own : StandingRequest) (quote : Option ℕ) (refused : Option HitRefusal)
        → response_message (renamed_request own) response.id quote refused
        ≡ response_message own response.id quote refused
    answer_kind own None refused = refl
    answer_kind own (Some quote) refused = refl

    answered_messages : (found : Option StandingRequest)
        → answer_messages response reply (option_map renamed_request found)
        ≡ answer_messages response reply found
    answered_messages None = refl
    answered_messages (Some own) =
        ap (λ (m : OutMessage). m ∷ []) (answer_kind own response.k (refusal_of reply))

    answered_note : (found : Option StandingRequest)
        → answer_note (again market facts) response reply (option_map renamed_request found)
        ≡ answer_note (book market facts) response reply found
    answered_note None = refl
    answered_note (Some own) = ap award_note (closes_so (refusal_of reply))

    answered_on : (found : Option StandingRequest)
        → NumberedFrom (length (offers_of facts)) (answer_facts (book market facts) request response
        reply found)
    answered_on None = tt
    answered_on (Some own) =
        closed_numbered (length (offers_of facts)) request
        (close_by_answer (book market facts) response (refusal_of reply))

    pub answered_answers : (moment : ℕ)
        → Answers market facts (event.Answered request response reply moment)
        (event.Answered request response reply moment)
    unfolding event_facts event_messages event_note
    answered_answers moment = record {
      facts_are = ap (answer_facts (again market facts) request response reply) (numbered (book
          market facts)
          request)
          ∙ answered_facts (request_numbered (book market facts) request);
      messages_are = ap (answer_messages response reply) (numbered (book market facts) request)
          ∙ answered_messages (request_numbered (book market facts) request);
      note_is = ap (answer_note (again market facts) response reply)
          (numbered (book market facts) request)
          ∙ answered_note (request_numbered (book market facts) request);
      numbered_on = answered_on (request_numbered (book market facts) request);
    }

  -- An expiry.

  module _ (request : ℕ) where
    expired_facts : (found : Option StandingRequest)
        → expiry_facts request (option_map renamed_request found)
        ≡ map renamed_fact (expiry_facts request found)
    expired_facts None = refl
    expired_facts (Some own) = refl

    expired_messages : (found : Option StandingRequest)
        → expiry_messages (option_map renamed_request found) ≡ expiry_messages found
    expired_messages None = refl
    expired_messages (Some own) = refl

    expired_on : (found : Option StandingRequest)
        → NumberedFrom (length (offers_of facts)) (expiry_facts request found)
    expired_on None = tt
    expired_on (Some own) = tt

    pub expired_answers : (moment : ℕ)
        → Answers market facts (event.Closed request moment) (event.Closed request moment)
    unfolding event_facts event_messages event_note
    expired_answers moment = record {
      facts_are = ap (expiry_facts request) (numbered (book market facts) request)
          ∙ expired_facts (request_numbered (book market facts) request);
      messages_are = ap (λ (o : Option StandingRequest). expiry_messages o) (numbered (book market
          facts) request)
          ∙ expired_messages (request_numbered (book market facts) request);
      note_is = refl;
      numbered_on = expired_on (request_numbered (book market facts) request);
    }
