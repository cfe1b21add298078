-- Which messages of an investor's desk nobody reads as an answer 297=0 to a hit, and what the desk's
-- verdict on a message means.
use Rattle.laws_days.proofs.Common.{List, None, Option, Some, ℕ, [], ap, eq-eqb}
use Rattle.laws_days.proofs.Common.{option_to_list, refl, ◌==◌, ◌∙◌, ◌∷◌}
use Rattle.laws_days.proofs.Common.{◌≡◌, eqb-true}
use Rattle.laws_days.proofs.Common.{same_text, Asked, InvestorBook}
use Rattle.laws_days.proofs.Common.{InvestorFact, book_of}
use Rattle.laws_days.proofs.Common.{InvestorMarket, investor_verdict}
use Rattle.laws_days.proofs.Common.{ShownOffer, InvestorVerdict}
use Rattle.laws_days.proofs.Common.{Every, every_both, In}
use Rattle.market_terms.specs.declared.rooms.Offer.{Offer}
use Rattle.quote_messages.specs.Arrivals.{investor_arrival}
use Rattle.quote_messages.specs.Written.{msg_type_of, quote_name, written}
use Rattle.quote_messages.specs.declared.out_messages.OutMessage.{OutMessage}
use Rattle.quote_messages.specs.declared.out_messages.PassStatus.TheVariants as status
use Rattle.investor_desk.specs.InvestorOutput.{gone_message, head_of, offer_message}
use Rattle.investor_desk.specs.InvestorOutput.{offer_messages, verdict_message}
use Rattle.laws_days.proofs.Common.{option_map, false}
use Rattle.laws_trades.specs.SentTrades.{is_answer}
use Rattle.fix_fields.specs.Frame.{Field, IsValue, frame_of}
use Rattle.quote_messages.specs.declared.arrivals.Arrival.{Arrival}
use Rattle.quote_messages.specs.declared.arrivals.Arrival.TheVariants as arrival
use Rattle.investor_desk.specs.declared.refusals.RequestRefusal.{RequestRefusal}
use Rattle.quote_messages.specs.declared.requests.InvestorMessage.{InvestorMessage}
use Rattle.quote_messages.specs.declared.requests.InvestorMessage.TheVariants as message
use Rattle.quote_messages.specs.declared.requests.QuoteHit.{QuoteHit}
use Rattle.quote_messages.specs.declared.requests.QuoteRequest.{QuoteRequest}
use Rattle.quote_messages.specs.declared.requests.RequestPass.{RequestPass}
use Rattle.venue_rows.specs.declared.bond_rows.BondRow.{BondRow}
use Rattle.investor_desk.specs.InvestorFacts.{StandingRequest, expected_number}
use Rattle.investor_desk.specs.InvestorFacts.{offer_named, offer_numbered, offer_of_dealer}
use Rattle.investor_desk.specs.InvestorFacts.{open_request, request_numbered}
use Rattle.investor_desk.specs.InvestorFacts.{request_with_id, requests_of}
use Rattle.investor_desk.specs.InvestorOutput.{next_offer}
use Rattle.investor_desk.specs.InvestorRules.{arrival_verdict, hit_of, hit_verdict, pass_of}
use Rattle.investor_desk.specs.InvestorRules.{pass_verdict, request_answer}
use Rattle.investor_desk.specs.InvestorRules.{request_verdict}
use Rattle.investor_desk.specs.declared.events.InvestorEvent.{InvestorEvent}
use Rattle.investor_desk.specs.InvestorOutput.{event_messages}
use Rattle.investor_desk.specs.declared.verdicts.InvestorVerdict.TheVariants as verdict
use Rattle.laws_days.proofs.ListLemmas.{found_passes}
use Rattle.laws_days.proofs.NewsWalk.{IsNews, gone_says, news_says, while_found}
use Rattle.laws_shown.proofs.ShownMarket.{requests_in}
use Rattle.std.proofs.Common.{codes}
use Rattle.laws_trades.proofs.TradeLists.{find_fewer, find_in}
use Rattle.laws_trades.proofs.ReadIds.{ArrivalIds, IdsOf, arrival_ids}
use Rattle.laws_trades.proofs.ReadMessages.{accepted_read, declined_read, expired_read, gone_read}
use Rattle.laws_trades.proofs.ReadMessages.{other_answer, pass_read, unknown_read}
use Rattle.laws_trades.proofs.TradeParts.{MayBeRead}

-- a message of this desk that nobody reads as an answer 297=0 to a hit
abbrev pub Harmless : InvestorMarket → List InvestorFact → OutMessage → Type 0
Harmless at facts message = (number moment : ℕ) → MayBeRead at.date at.row.name facts
    → (fields : List Field) → frame_of (written (head_of at number moment) message) ≡ Some fields
    → is_answer fields ≡ false

-- one of another type than such an answer
other_harmless : (at : InvestorMarket) (facts : List InvestorFact) (message : OutMessage)
    → same_text (msg_type_of message) (codes "AI") ≡ false → Harmless at facts message
other_harmless at facts message other number moment may fields read =
    other_answer (head_of at number moment) message fields read other

-- what is found is a request that was accepted
abbrev pub WasAsked : List InvestorFact → Option StandingRequest → Type 0
WasAsked facts found = (own : StandingRequest) → found ≡ Some own → In (Asked own.request) facts

pub numbered_asked : (facts : List InvestorFact) (number : ℕ)
    → WasAsked facts (request_numbered (book_of facts) number)
unfolding request_numbered
numbered_asked facts number own is =
    requests_in facts own
    (find_in (λ (r : StandingRequest). r.request.number == number) (requests_of facts) own is)

pub open_asked : (facts : List InvestorFact) (number : ℕ)
    → WasAsked facts (open_request (book_of facts) number)
open_asked facts number own is =
    numbered_asked facts number own
    (while_found (request_numbered (book_of facts) number) own is)

module _ (at : InvestorMarket) (facts : List InvestorFact) where
  gone_harmless : (own : StandingRequest) → In (Asked own.request) facts → (shown : ShownOffer)
      → Harmless at facts (gone_message own shown)
  gone_harmless own asked shown = λ number moment may.
      gone_read (head_of at number moment) may.named may.dated own.request.id shown.number
      (may.ids own.request asked)

  pub offer_harmless : (book : InvestorBook) (request : ℕ) (offer : Offer)
      (own : Option StandingRequest) → WasAsked facts own
      → Every (Harmless at facts) (offer_messages book request offer own)
  offer_harmless book request offer None asked = tt
  offer_harmless book request offer (Some own) asked =
      every_both (Harmless at facts)
      (option_to_list (option_map (gone_message own) (offer_of_dealer own offer.dealer)))
      (offer_message own (next_offer book request offer) ∷ [])
      (gone_says (Harmless at facts) own (gone_harmless own (asked own refl))
      (offer_of_dealer own offer.dealer))
      (other_harmless at facts (offer_message own (next_offer book request offer)) refl, tt)

  pub news_harmless : (event : InvestorEvent) → IsNews event
      → Every (Harmless at facts) (event_messages at (book_of facts) event)
  news_harmless event news =
      news_says (Harmless at facts) at (book_of facts) event news (λ request own stands.
      let asked = numbered_asked facts request own stands in
      record {
        gone = λ its word when is shown. gone_harmless own asked shown;
        declined = λ its dealer when is number moment may.
            declined_read (head_of at number moment) may.named may.dated own.request.id dealer
            (may.ids own.request asked);
        expired = λ number moment may.
            expired_read (head_of at number moment) may.named may.dated own.request.id
            (may.ids own.request asked);
      })

-- What a verdict on a message means by a hit: a quote that was shown, under its number. The ids
-- that it answers by may stand in a field.

abbrev pub Means : InvestorMarket → List InvestorFact → InvestorVerdict → Type 0
Means market facts (verdict.RequestAccepted id request) =
    (request.ask.investor ≡ market.row.name) × IsValue id
Means market facts (verdict.Hits request response word) =
    (shown : ShownOffer) × (offer_numbered (book_of facts) shown.number ≡ Some shown)
    × (shown.request ≡ request) × (response.k ≡ Some shown.number) × (shown.offer.word ≡ word)
    × IsValue response.id
Means market facts (verdict.HitUnknown id quote) = IsValue id × IsValue quote
Means market facts (verdict.PassUnknown id request) = IsValue id × IsValue request
Means market facts (verdict.Passes request response) = IsValue response.id
Means market facts other = Unit {0}

pub verdict_harmless : (market : InvestorMarket) (facts : List InvestorFact) (v : InvestorVerdict)
    → Means market facts v → Every (Harmless market facts) (option_to_list (verdict_message v))
verdict_harmless market facts verdict.Dropped means = tt
verdict_harmless market facts (verdict.HitUnknown id quote) means = (
  λ number moment may. unknown_read (head_of market number moment) may.named may.dated id quote
      means.0 means.1,
  tt,
)
verdict_harmless market facts (verdict.PassUnknown id request) means = (
  λ number moment may. pass_read (head_of market number moment) may.named may.dated id request
      status.Unknown means.0 means.1,
  tt,
)
verdict_harmless market facts (verdict.RequestAccepted id request) means = (
  λ number moment may. accepted_read (head_of market number moment) may.named may.dated id means.1,
  tt,
)
verdict_harmless market facts (verdict.Hits request response word) means = tt
verdict_harmless market facts (verdict.Passes request response) means = tt
verdict_harmless market facts other means = (other_harmless market facts _ refl, tt)

module _ (market : InvestorMarket) (facts : List InvestorFact) where
  abbrev book : InvestorBook
  book = book_of facts

  hit_means : (hit : QuoteHit) (shown : Option ShownOffer) → offer_named book hit.quote ≡ shown
      → IdsOf (message.Hit hit) → Means market facts (hit_of hit shown)
  unfolding offer_named offer_numbered
  hit_means hit None is ids = ids
  hit_means hit (Some shown) is ids =
      let named = found_passes (λ (s : ShownOffer). same_text (quote_name s.number) hit.quote)
      book.offers shown is in (
        shown,
        find_fewer (λ (s : ShownOffer). same_text (quote_name s.number) hit.quote)
            (λ (s : ShownOffer). s.number == shown.number)
            (λ s same. ap (λ (n : ℕ). same_text (quote_name n) hit.quote)
            (eqb-true s.number shown.number same) ∙ named)
            book.offers shown is (eq-eqb shown.number shown.number refl),
        refl,
        refl,
        refl,
        ids.0,
      )

  request_means : (moment : ℕ) (request : QuoteRequest) (bond : Option BondRow)
      (refused : Option RequestRefusal) → IsValue request.id
      → Means market facts (request_answer market book moment request bond refused)
  request_means moment request bond (Some reason) id = tt
  request_means moment request None None id = tt
  request_means moment request (Some bond) None id = (refl, id)

  pass_means : (pass : RequestPass) (own : Option StandingRequest) → IdsOf (message.Pass pass)
      → Means market facts (pass_of pass own)
  pass_means pass None ids = ids
  pass_means pass (Some own) ids = ids.0

  came_means : (moment : ℕ) (came : Arrival InvestorMessage) → ArrivalIds came
      → Means market facts (arrival_verdict market book moment came)
  unfolding request_verdict hit_verdict pass_verdict
  came_means moment (arrival.Taken (message.Request request)) ids =
      request_means moment request _ _ ids
  came_means moment (arrival.Taken (message.Hit hit)) ids =
      hit_means hit (offer_named book hit.quote) refl ids
  came_means moment (arrival.Taken (message.Pass pass)) ids =
      pass_means pass (request_with_id book pass.request) ids
  came_means moment other ids = tt

  pub verdict_means : (moment : ℕ) (bytes : List ℕ)
      → Means market facts (investor_verdict market book moment bytes)
  unfolding investor_verdict
  verdict_means moment bytes =
      came_means moment (investor_arrival market.date market.row (expected_number book) bytes)
      (arrival_ids market.date market.row (expected_number book) bytes)
