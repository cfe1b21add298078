-- No verdict of an investor's desk, and nothing that the desk keeps, asks a price.
use Rattle.std.proofs.Common.{◌≡◌, ℕ, ◌==◌, Bool, ◌&&◌, List, [], ◌∷◌, map, Option, Some, None}
use Rattle.std.proofs.Common.{option_map, is_some, refl, ap}
use Rattle.market_terms.proofs.ErasedLists.{any_map, append_along, count_map, erased, find_map}
use Rattle.market_terms.proofs.ErasedLists.{if_map, map_cond, or_map}
use Rattle.market_terms.specs.Unpriced.{unpriced_offer}
use Rattle.market_terms.specs.declared.closes.HitRefusal.{HitRefusal}
use Rattle.market_terms.specs.declared.closes.Reply.{Reply}
use Rattle.market_terms.specs.declared.rooms.Offer.{Offer}
use Rattle.market_terms.specs.declared.rooms.ResponseRef.{ResponseRef}
use Rattle.quote_messages.specs.Arrivals.{investor_arrival}
use Rattle.quote_messages.specs.declared.arrivals.Arrival.{Arrival}
use Rattle.quote_messages.specs.declared.arrivals.Arrival.TheVariants as arrival
use Rattle.quote_messages.specs.declared.requests.InvestorMessage.{InvestorMessage}
use Rattle.quote_messages.specs.declared.requests.InvestorMessage.TheVariants as message
use Rattle.quote_messages.specs.declared.requests.QuoteHit.{QuoteHit}
use Rattle.quote_messages.specs.declared.requests.QuoteRequest.{QuoteRequest}
use Rattle.quote_messages.specs.declared.requests.RequestPass.{RequestPass}
use Rattle.venue_rows.specs.declared.bond_rows.BondRow.{BondRow}
use Rattle.investor_desk.specs.InvestorFacts.{InvestorFact, InvestorBook, StandingRequest, Asked}
use Rattle.investor_desk.specs.InvestorFacts.{Closed, Offered, book_of, closes, expected_number}
use Rattle.investor_desk.specs.InvestorFacts.{first_said, is_open, knows, offer_named}
use Rattle.investor_desk.specs.InvestorFacts.{offer_numbered, offer_of_dealer, offer_with_word}
use Rattle.investor_desk.specs.InvestorFacts.{offers_of, request_numbered}
use Rattle.investor_desk.specs.InvestorFacts.{request_with_id, requests_of, says_gone, standing_on}
use Rattle.investor_desk.specs.InvestorFacts.{stands_on, used_number, was_shown_on, while_open}
use Rattle.investor_desk.specs.InvestorRules.{InvestorMarket, arrival_verdict, bond_with_id, hit_of}
use Rattle.investor_desk.specs.InvestorRules.{hit_verdict, investor_verdict, pass_of, pass_verdict}
use Rattle.investor_desk.specs.InvestorRules.{request_answer, request_refusal, request_verdict}
use Rattle.investor_desk.specs.InvestorOutput.{answer_facts, award_of, close_by, close_by_answer}
use Rattle.investor_desk.specs.InvestorOutput.{closed_facts, event_facts, expiry_facts, gone_facts}
use Rattle.investor_desk.specs.InvestorOutput.{offer_facts, refusal_of, withdrawal_facts}
use Rattle.investor_desk.specs.Unpriced.{unpriced, unpriced_book, unpriced_close, unpriced_event}
use Rattle.investor_desk.specs.Unpriced.{unpriced_request, unpriced_shown}
use Rattle.investor_desk.specs.declared.events.InvestorEvent.{InvestorEvent}
use Rattle.investor_desk.specs.declared.events.InvestorEvent.TheVariants as event
use Rattle.investor_desk.specs.declared.refusals.RequestRefusal.{RequestRefusal}
use Rattle.investor_desk.specs.declared.standing.ShownOffer.{ShownOffer}

-- What one fact says.

used_same : (fact : InvestorFact) → used_number (unpriced fact) ≡ used_number fact
used_same (Offered shown) = refl
used_same fact = refl

closes_same : (number : ℕ) (fact : InvestorFact)
    → closes number (unpriced fact) ≡ option_map unpriced_close (closes number fact)
closes_same number (Closed request close) =
    map_cond unpriced_close (request == number) close None
closes_same number fact = refl

gone_same : (number quote : ℕ) (fact : InvestorFact)
    → says_gone number quote (unpriced fact) ≡ says_gone number quote fact
gone_same number quote (Offered shown) = refl
gone_same number quote fact = refl

-- The book.

close_same : (number : ℕ) (later : List InvestorFact)
    → first_said (closes number) (map unpriced later)
    ≡ option_map unpriced_close (first_said (closes number) later)
close_same number [] = refl
close_same number (fact ∷ later) =
    rw (closes_same number fact, close_same number later)
    (or_map unpriced_close (closes number fact) (first_said (closes number) later))

stands_same : (number : ℕ) (shown : ShownOffer) (later : List InvestorFact)
    → stands_on number (unpriced_shown shown) (map unpriced later) ≡ stands_on number shown later
stands_same number shown later = simp (any_map, gone_same)

standing_same : (number : ℕ) (facts : List InvestorFact)
    → standing_on number (map unpriced facts) ≡ map unpriced_shown (standing_on number facts)
standing_same number [] = refl
standing_same number (Offered shown ∷ later) =
    rw (stands_same number shown later, standing_same number later)
    (if_map unpriced_shown (stands_on number shown later) shown (standing_on number later))
standing_same number (fact ∷ later) = standing_same number later

requests_same : (facts : List InvestorFact)
    → requests_of (map unpriced facts) ≡ map unpriced_request (requests_of facts)
requests_same [] = refl
requests_same (Asked request ∷ later) =
    rw (
      close_same request.number later,
      standing_same request.number later,
      requests_same later,
    )
requests_same (fact ∷ later) = requests_same later

offers_same : (facts : List InvestorFact)
    → offers_of (map unpriced facts) ≡ map unpriced_shown (offers_of facts)
offers_same [] = refl
offers_same (Offered shown ∷ later) = rw (offers_same later)
offers_same (fact ∷ later) = offers_same later

-- the book by the facts without prices is the book without prices
pub book_same : (facts : List InvestorFact)
    → book_of (map unpriced facts) ≡ unpriced_book (book_of facts)
book_same facts = simp (count_map, used_same, requests_same facts, offers_same facts)

-- What is known.

pub knows_same : (book : InvestorBook) (number : ℕ) (quote : Option ℕ)
    → knows (unpriced_book book) number quote ≡ knows book number quote
unfolding request_numbered offer_numbered
knows_same book number None = simp erased
knows_same book number (Some quote) =
    simp erased (ap (λ (b : Bool). is_some (request_numbered book number) && b)
    (by_quote (offer_numbered book quote)))
  where
    by_quote : (found : Option ShownOffer)
        → was_shown_on number (option_map unpriced_shown found) ≡ was_shown_on number found
    by_quote None = refl
    by_quote (Some shown) = refl

-- Verdicts.

while_same : (found : Option StandingRequest)
    → while_open (option_map unpriced_request found)
    ≡ option_map unpriced_request (while_open found)
while_same None = refl
while_same (Some own) = simp erased (map_cond unpriced_request (is_open own) own None)

hit_same : (hit : QuoteHit) (found : Option ShownOffer)
    → hit_of hit (option_map unpriced_shown found) ≡ hit_of hit found
hit_same hit None = refl
hit_same hit (Some shown) = refl

pass_same : (pass : RequestPass) (found : Option StandingRequest)
    → pass_of pass (option_map unpriced_request found) ≡ pass_of pass found
pass_same pass None = refl
pass_same pass (Some own) = refl

module _ (market : InvestorMarket) (book : InvestorBook) where
  -- the book without prices
  abbrev bare : InvestorBook
  bare = unpriced_book book

  request_same : (moment : ℕ) (request : QuoteRequest)
      → request_verdict market bare moment request ≡ request_verdict market book moment request
  unfolding request_verdict request_refusal request_with_id
  request_same moment request =
      simp erased
      (answered (bond_with_id market request.bond) (request_refusal market book moment request))
    where
      answered : (bond : Option BondRow) (refused : Option RequestRefusal)
          → request_answer market bare moment request bond refused
          ≡ request_answer market book moment request bond refused
      answered bond (Some reason) = refl
      answered None None = refl
      answered (Some bond) None = simp erased

  taken_same : (moment : ℕ) (came : Arrival InvestorMessage)
      → arrival_verdict market bare moment came ≡ arrival_verdict market book moment came
  unfolding hit_verdict pass_verdict offer_named request_with_id
  taken_same moment (arrival.Taken (message.Request request)) = request_same moment request
  taken_same moment (arrival.Taken (message.Hit hit)) =
      rw find_map (hit_same hit (offer_named book hit.quote))
  taken_same moment (arrival.Taken (message.Pass pass)) =
      rw find_map (pass_same pass (request_with_id book pass.request))
  taken_same moment other = refl

  pub verdict_same : (moment : ℕ) (bytes : List ℕ)
      → investor_verdict market bare moment bytes ≡ investor_verdict market book moment bytes
  unfolding investor_verdict
  verdict_same moment bytes =
      taken_same moment (investor_arrival market.date market.row (expected_number book) bytes)

  -- What is kept.

  numbered : (number : ℕ)
      → request_numbered bare number ≡ option_map unpriced_request (request_numbered book number)
  unfolding request_numbered
  numbered number = simp erased

  offered : (number : ℕ)
      → offer_numbered bare number ≡ option_map unpriced_shown (offer_numbered book number)
  unfolding offer_numbered
  offered number = simp erased

  gone_kept : (number : ℕ) (found : Option ShownOffer)
      → map unpriced (gone_facts number (option_map unpriced_shown found))
      ≡ map unpriced (gone_facts number found)
  gone_kept number None = refl
  gone_kept number (Some shown) = refl

  close_kept : (number : ℕ) (response : ResponseRef) (refused : Option HitRefusal)
      → map unpriced (closed_facts number (close_by_answer bare response refused))
      ≡ map unpriced (closed_facts number (close_by_answer book response refused))
  close_kept number response (Some refusal) = refl
  close_kept number response None = by_quote response.k
    where
      by_offer : (found : Option ShownOffer)
          → map unpriced (closed_facts number (option_map award_of (option_map unpriced_shown found)))
          ≡ map unpriced (closed_facts number (option_map award_of found))
      by_offer None = refl
      by_offer (Some shown) = refl

      by_quote : (quote : Option ℕ)
          → map unpriced (closed_facts number (close_by bare quote))
          ≡ map unpriced (closed_facts number (close_by book quote))
      by_quote None = refl
      by_quote (Some quote) = rw (offered quote) (by_offer (offer_numbered book quote))

  offer_kept : (number : ℕ) (offer : Offer) (found : Option StandingRequest)
      → map unpriced
      (offer_facts bare number (unpriced_offer offer) (option_map unpriced_request found))
      ≡ map unpriced (offer_facts book number offer found)
  offer_kept number offer None = refl
  offer_kept number offer (Some own) =
      simp erased (append_along unpriced _ _ _ _
      (gone_kept number (offer_of_dealer own offer.dealer)) refl)

  withdrawal_kept : (number word : ℕ) (found : Option StandingRequest)
      → map unpriced (withdrawal_facts number word (option_map unpriced_request found))
      ≡ map unpriced (withdrawal_facts number word found)
  withdrawal_kept number word None = refl
  withdrawal_kept number word (Some own) =
      rw find_map (gone_kept number (offer_with_word own word))

  answer_kept : (number : ℕ) (response : ResponseRef) (reply : Reply)
      (found : Option StandingRequest)
      → map unpriced
      (answer_facts bare number response reply (option_map unpriced_request found))
      ≡ map unpriced (answer_facts book number response reply found)
  answer_kept number response reply None = refl
  answer_kept number response reply (Some own) = close_kept number response (refusal_of reply)

  expiry_kept : (number : ℕ) (found : Option StandingRequest)
      → map unpriced (expiry_facts number (option_map unpriced_request found))
      ≡ map unpriced (expiry_facts number found)
  expiry_kept number None = refl
  expiry_kept number (Some own) = refl

  -- what is looked up, and what is kept of it
  ruleset looked_up = (verdict_same, numbered, while_same)

  ruleset kept = (looked_up, offer_kept, withdrawal_kept, answer_kept, expiry_kept)

  pub kept_same : (more : InvestorEvent)
      → map unpriced (event_facts market bare (unpriced_event more))
      ≡ map unpriced (event_facts market book more)
  unfolding event_facts
  kept_same (event.DealerDeclined request dealer moment) = refl
  kept_same other = simp kept
