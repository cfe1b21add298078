-- What an event adds and sends at a desk with own numbers in the place of words: its own message,
-- and a quote that comes or goes.
use Rattle.std.proofs.Common.{◌≡◌, ℕ, ◌+◌, List, [], ◌∷◌, ◌++◌, map, length, Bool, Option, Some}
use Rattle.std.proofs.Common.{None, option_map, option_and_then, refl, ap, ◌∙◌}
use Rattle.std.specs.Option.{option_to_list}
use Rattle.quote_messages.specs.declared.out_messages.OutMessage.{OutMessage}
use Rattle.market_terms.specs.declared.rooms.Offer.{Offer}
use Rattle.investor_desk.specs.InvestorFacts.{InvestorFact, InvestorBook, StandingRequest, Came}
use Rattle.investor_desk.specs.InvestorFacts.{Gone, Offered, book_of, offer_of_dealer}
use Rattle.investor_desk.specs.InvestorFacts.{offer_with_word, offers_of, open_request}
use Rattle.investor_desk.specs.InvestorRules.{InvestorMarket, investor_verdict}
use Rattle.investor_desk.specs.InvestorOutput.{award_of, closed_facts, event_facts, event_messages}
use Rattle.investor_desk.specs.InvestorOutput.{event_note}
use Rattle.investor_desk.specs.InvestorOutput.{gone_facts, gone_message, next_offer, offer_facts}
use Rattle.investor_desk.specs.InvestorOutput.{offer_message, offer_messages, uses_number}
use Rattle.investor_desk.specs.InvestorOutput.{verdict_facts, withdrawal_facts, withdrawal_messages}
use Rattle.investor_desk.specs.declared.events.InvestorEvent.{InvestorEvent}
use Rattle.investor_desk.specs.declared.events.InvestorEvent.TheVariants as event
use Rattle.investor_desk.specs.declared.standing.RequestClose.{RequestClose}
use Rattle.investor_desk.specs.declared.standing.ShownOffer.{ShownOffer}
use Rattle.investor_desk.specs.declared.verdicts.InvestorVerdict.{InvestorVerdict}
use Rattle.investor_desk.specs.declared.verdicts.InvestorVerdict.TheVariants as verdict
use Rattle.investor_views.specs.InvestorDues.{number_of, quote_meant}
use Rattle.investor_views.specs.InvestorView.{offer_due}
use Rattle.investor_views.proofs.NumberedBook.{dealers_offer, open_numbered, shown_same}
use Rattle.investor_views.proofs.NumberedBook.{verdict_alike}
use Rattle.investor_views.proofs.NumberLemmas.{NumberedFrom, meant_same, open_rises}
use Rattle.investor_views.proofs.Renamed.{renamed, renamed_book, renamed_fact, renamed_request}
use Rattle.investor_views.proofs.Renamed.{unnumbered}

-- An event at a desk with these facts, and the one in its place with own numbers: they add the same
-- and send the same, the same is noted of them, and the quotes that are added are numbered on.
pub record Answers (market : InvestorMarket) (facts : List InvestorFact)
    (one other : InvestorEvent) : Type 0 where
  pub facts_are : event_facts (unnumbered market) (renamed_book (book_of facts)) other
      ≡ map renamed_fact (event_facts market (book_of facts) one)
  pub messages_are : event_messages (unnumbered market) (renamed_book (book_of facts)) other
      ≡ event_messages market (book_of facts) one
  pub note_is : event_note (unnumbered market) (renamed_book (book_of facts)) other
      ≡ event_note market (book_of facts) one
  pub numbered_on : NumberedFrom (length (offers_of facts))
      (event_facts market (book_of facts) one)

-- Parts.

gone_kept : (request : ℕ) (found : Option ShownOffer)
    → gone_facts request (option_map renamed found) ≡ map renamed_fact (gone_facts request found)
gone_kept request None = refl
gone_kept request (Some shown) = refl

gone_sent : (own : StandingRequest) (found : Option ShownOffer)
    → option_map (gone_message (renamed_request own)) (option_map renamed found)
    ≡ option_map (gone_message own) found
gone_sent own None = refl
gone_sent own (Some shown) = refl

pub closed_kept : (request : ℕ) (close : Option RequestClose)
    → closed_facts request close ≡ map renamed_fact (closed_facts request close)
closed_kept request None = refl
closed_kept request (Some close) = refl

pub award_same : (found : Option ShownOffer)
    → option_map award_of (option_map renamed found) ≡ option_map award_of found
award_same None = refl
award_same (Some shown) = refl

verdict_numbered : (count : ℕ) (v : InvestorVerdict) → NumberedFrom count (verdict_facts v)
verdict_numbered count (verdict.RequestAccepted id request) = tt
verdict_numbered count other = tt

gone_numbered : (count request : ℕ) (found : Option ShownOffer)
    → NumberedFrom count (gone_facts request found)
gone_numbered count request None = tt
gone_numbered count request (Some shown) = tt

pub closed_numbered : (count request : ℕ) (close : Option RequestClose)
    → NumberedFrom count (closed_facts request close)
closed_numbered count request None = tt
closed_numbered count request (Some close) = tt

module _ (market : InvestorMarket) (facts : List InvestorFact) where
  -- the book, and the same with own numbers
  abbrev pub book : InvestorBook
  book = book_of facts

  abbrev pub again : InvestorBook
  again = renamed_book book

  -- A message of the investor's own.

  pub own_answers : (moment : ℕ) (bytes : List ℕ)
      → Answers market facts (event.Received moment bytes) (event.Received moment bytes)
  unfolding event_facts event_messages event_note
  own_answers moment bytes =
      let same = verdict_alike book market moment bytes in
      record {
        facts_are =
            ap (λ (b : Bool). Came moment bytes b ∷ verdict_facts
            (investor_verdict (unnumbered market) again moment bytes)) same.uses_are
            ∙ ap (λ l. Came moment bytes
            (uses_number (investor_verdict market book moment bytes)) ∷ l)
            same.facts_are;
        messages_are = ap option_to_list same.message_is;
        note_is = same.note_is;
        numbered_on = verdict_numbered (length (offers_of facts))
            (investor_verdict market book moment bytes);
      }

  -- A quote that comes.

  module _ (request : ℕ) (offer : Offer) where
    -- the quote in its place
    abbrev offer_again : Offer
    offer_again = offer_due again offer.dealer offer.price offer.valid_until

    -- as it is shown where it has this number
    abbrev shown_as : ℕ → ShownOffer
    shown_as number = record {
      number = number;
      request = request;
      offer = record offer { word = number };
    }

    next_same : next_offer again request offer_again ≡ renamed (next_offer book request offer)
    next_same = ap (λ (n : ℕ). shown_as (n + 1)) (shown_same book)

    shown_facts : (replaced : Option ShownOffer)
        → gone_facts request (option_map renamed replaced)
        ++ Offered (next_offer again request offer_again) ∷ []
        ≡ map renamed_fact (gone_facts request replaced
        ++ Offered (next_offer book request offer) ∷ [])
    shown_facts None = ap (λ (s : ShownOffer). Offered s ∷ []) next_same
    shown_facts (Some shown) =
        ap (λ (s : ShownOffer). Gone request shown.number ∷ Offered s ∷ []) next_same

    came_facts : (found : Option StandingRequest)
        → offer_facts again request offer_again (option_map renamed_request found)
        ≡ map renamed_fact (offer_facts book request offer found)
    came_facts None = refl
    came_facts (Some own) =
        ap (λ (o : Option ShownOffer). gone_facts request o
        ++ Offered (next_offer again request offer_again) ∷ []) (dealers_offer own offer.dealer)
        ∙ shown_facts (offer_of_dealer own offer.dealer)

    came_messages : (found : Option StandingRequest)
        → offer_messages again request offer_again (option_map renamed_request found)
        ≡ offer_messages book request offer found
    came_messages None = refl
    came_messages (Some own) =
        ap (λ (o : Option ShownOffer). option_to_list
        (option_map (gone_message (renamed_request own)) o)
        ++ offer_message (renamed_request own) (next_offer again request offer_again) ∷ [])
        (dealers_offer own offer.dealer)
        ∙ ap (λ (o : Option OutMessage). option_to_list o
        ++ offer_message (renamed_request own) (next_offer again request offer_again) ∷ [])
        (gone_sent own (offer_of_dealer own offer.dealer))
        ∙ ap (λ (s : ShownOffer). option_to_list
        (option_map (gone_message own) (offer_of_dealer own offer.dealer))
        ++ offer_message (renamed_request own) s ∷ []) next_same

    shown_numbered : (replaced : Option ShownOffer)
        → NumberedFrom (length (offers_of facts)) (gone_facts request replaced
        ++ Offered (next_offer book request offer) ∷ [])
    shown_numbered None = (refl, tt)
    shown_numbered (Some shown) = (refl, tt)

    came_numbered : (found : Option StandingRequest)
        → NumberedFrom (length (offers_of facts)) (offer_facts book request offer found)
    came_numbered None = tt
    came_numbered (Some own) = shown_numbered (offer_of_dealer own offer.dealer)

    pub came_answers : (moment : ℕ)
        → Answers market facts (event.QuoteCame request offer moment)
        (event.QuoteCame request offer_again moment)
    unfolding event_facts event_messages event_note
    came_answers moment = record {
      facts_are = ap (offer_facts again request offer_again) (open_numbered book request)
          ∙ came_facts (open_request book request);
      messages_are = ap (offer_messages again request offer_again) (open_numbered book request)
          ∙ came_messages (open_request book request);
      note_is = refl;
      numbered_on = came_numbered (open_request book request);
    }

  -- A quote that goes.

  module _ (request word : ℕ) (numbered_so_far : NumberedFrom 0 facts) where
    gone_there : (found : Option StandingRequest) → open_request book request ≡ found
        → withdrawal_facts request
        (number_of (option_and_then (λ own. offer_with_word own word) found))
        (option_map renamed_request found)
        ≡ map renamed_fact (withdrawal_facts request word found)
    gone_there None is = refl
    gone_there (Some own) is =
        ap (gone_facts request)
        (meant_same own word (open_rises facts request own numbered_so_far is))
        ∙ gone_kept request (offer_with_word own word)

    gone_told : (found : Option StandingRequest) → open_request book request ≡ found
        → withdrawal_messages
        (number_of (option_and_then (λ own. offer_with_word own word) found))
        (option_map renamed_request found)
        ≡ withdrawal_messages word found
    gone_told None is = refl
    gone_told (Some own) is =
        ap (λ (o : Option ShownOffer). option_to_list
        (option_map (gone_message (renamed_request own)) o))
        (meant_same own word (open_rises facts request own numbered_so_far is))
        ∙ ap option_to_list (gone_sent own (offer_with_word own word))

    gone_on : (found : Option StandingRequest)
        → NumberedFrom (length (offers_of facts)) (withdrawal_facts request word found)
    gone_on None = tt
    gone_on (Some own) =
        gone_numbered (length (offers_of facts)) request (offer_with_word own word)

    pub gone_answers : (moment : ℕ)
        → Answers market facts (event.QuoteGone request word moment)
        (event.QuoteGone request (number_of (quote_meant book request word)) moment)
    unfolding event_facts event_messages event_note
    gone_answers moment =
        let number = number_of (quote_meant book request word) in
        record {
          facts_are = ap (withdrawal_facts request number) (open_numbered book request)
              ∙ gone_there (open_request book request) refl;
          messages_are = ap (withdrawal_messages number) (open_numbered book request)
              ∙ gone_told (open_request book request) refl;
          note_is = refl;
          numbered_on = gone_on (open_request book request);
        }
