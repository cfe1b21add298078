-- The book of a desk with own numbers in the place of words, and every verdict by it.
use Rattle.std.proofs.Common.{◌≡◌, ℕ, ◌==◌, Bool, true, false, ◌&&◌, not}
use Rattle.std.proofs.Common.{List, [], ◌∷◌, map, Option, Some, None}
use Rattle.std.proofs.Common.{option_map, is_some, if◌then◌else◌, refl, ap, subst, sym, ◌∙◌}
use Rattle.std.proofs.lemmas.List.{length-map}
use Rattle.quote_messages.specs.declared.arrivals.Arrival.{Arrival}
use Rattle.quote_messages.specs.declared.arrivals.Arrival.TheVariants as arrival
use Rattle.quote_messages.specs.declared.requests.QuoteRequest.{QuoteRequest}
use Rattle.quote_messages.specs.declared.requests.QuoteHit.{QuoteHit}
use Rattle.quote_messages.specs.declared.requests.RequestPass.{RequestPass}
use Rattle.quote_messages.specs.declared.requests.InvestorMessage.{InvestorMessage}
use Rattle.quote_messages.specs.declared.requests.InvestorMessage.TheVariants as message
use Rattle.investor_desk.specs.declared.refusals.RequestRefusal.{RequestRefusal}
use Rattle.quote_messages.specs.Arrivals.{investor_arrival}
use Rattle.quote_messages.specs.Written.{quote_name}
use Rattle.venue_rows.specs.Texts.{same_text}
use Rattle.venue_rows.specs.declared.bond_rows.BondRow.{BondRow}
use Rattle.investor_desk.specs.InvestorFacts.{InvestorFact, InvestorBook, StandingRequest}
use Rattle.investor_desk.specs.InvestorFacts.{Asked, Offered, used_number}
use Rattle.investor_desk.specs.InvestorFacts.{closes, says_gone, first_said, stands_on, standing_on}
use Rattle.investor_desk.specs.InvestorFacts.{requests_of, offers_of, book_of}
use Rattle.investor_desk.specs.InvestorFacts.{expected_number, requests_accepted, offers_shown}
use Rattle.investor_desk.specs.InvestorFacts.{is_open, requests_open, request_with_id}
use Rattle.investor_desk.specs.InvestorFacts.{request_numbered, while_open, open_request}
use Rattle.investor_desk.specs.InvestorFacts.{offer_named, offer_numbered, offer_of_dealer}
use Rattle.investor_desk.specs.InvestorFacts.{was_shown_on, knows_quote, knows}
use Rattle.investor_desk.specs.InvestorOutput.{uses_number, verdict_facts, verdict_message}
use Rattle.investor_desk.specs.InvestorOutput.{verdict_note}
use Rattle.investor_desk.specs.InvestorRules.{InvestorMarket, request_refusal, request_answer}
use Rattle.investor_desk.specs.InvestorRules.{request_verdict, bond_with_id, hit_of, hit_verdict}
use Rattle.investor_desk.specs.InvestorRules.{pass_of, pass_verdict, arrival_verdict}
use Rattle.investor_desk.specs.InvestorRules.{dealer_named, investor_verdict}
use Rattle.investor_desk.specs.declared.standing.ShownOffer.{ShownOffer}
use Rattle.investor_desk.specs.declared.verdicts.InvestorVerdict.{InvestorVerdict}
use Rattle.investor_desk.specs.declared.verdicts.InvestorVerdict.TheVariants as verdict
use Rattle.investor_views.proofs.ListLemmas.{any_changed, count_changed, find_changed, map_cond}
use Rattle.investor_views.proofs.ListLemmas.{some_map}
use Rattle.investor_views.proofs.Renamed.{renamed, renamed_book, renamed_fact, renamed_request}
use Rattle.investor_views.proofs.Renamed.{unnumbered}

-- What one fact says.

used_same : (fact : InvestorFact) → used_number (renamed_fact fact) ≡ used_number fact
used_same (Offered shown) = refl
used_same fact = refl

closes_same : (number : ℕ) (fact : InvestorFact)
    → closes number (renamed_fact fact) ≡ closes number fact
closes_same number (Offered shown) = refl
closes_same number fact = refl

gone_same : (number quote : ℕ) (fact : InvestorFact)
    → says_gone number quote (renamed_fact fact) ≡ says_gone number quote fact
gone_same number quote (Offered shown) = refl
gone_same number quote fact = refl

-- The book.

close_same : (number : ℕ) (later : List InvestorFact)
    → first_said (closes number) (map renamed_fact later) ≡ first_said (closes number) later
close_same number [] = refl
close_same number (fact ∷ later) = rw (closes_same number fact, close_same number later) refl

stands_same : (number : ℕ) (shown : ShownOffer) (later : List InvestorFact)
    → stands_on number (renamed shown) (map renamed_fact later) ≡ stands_on number shown later
stands_same number shown later =
    ap (λ (b : Bool). (shown.request == number) && not b)
    (any_changed renamed_fact (says_gone number shown.number)
    (says_gone number shown.number) (gone_same number shown.number) later)

if_map : {X Y : Type 0} (e : X → Y) (b : Bool) (x : X) (rest : List X)
    → (if b then e x ∷ map e rest else map e rest) ≡ map e (if b then x ∷ rest else rest)
if_map e true x rest = refl
if_map e false x rest = refl

standing_same : (number : ℕ) (facts : List InvestorFact)
    → standing_on number (map renamed_fact facts) ≡ map renamed (standing_on number facts)
standing_same number [] = refl
standing_same number (Offered shown ∷ later) =
    rw (stands_same number shown later, standing_same number later)
    (if_map renamed (stands_on number shown later) shown (standing_on number later))
standing_same number (fact ∷ later) = standing_same number later

requests_same : (facts : List InvestorFact)
    → requests_of (map renamed_fact facts) ≡ map renamed_request (requests_of facts)
requests_same [] = refl
requests_same (Asked request ∷ later) =
    rw (
      close_same request.number later,
      standing_same request.number later,
      requests_same later,
    ) refl
requests_same (fact ∷ later) = requests_same later

offers_same : (facts : List InvestorFact)
    → offers_of (map renamed_fact facts) ≡ map renamed (offers_of facts)
offers_same [] = refl
offers_same (Offered shown ∷ later) = ap (λ l. renamed shown ∷ l) (offers_same later)
offers_same (fact ∷ later) = offers_same later

-- the book by the facts with own numbers is the book with own numbers
pub book_same : (facts : List InvestorFact)
    → book_of (map renamed_fact facts) ≡ renamed_book (book_of facts)
book_same facts =
    rw (
      count_changed renamed_fact used_number used_number used_same facts,
      requests_same facts,
      offers_same facts,
    ) refl

-- What the rules ask of the book.

while_same : (found : Option StandingRequest)
    → while_open (option_map renamed_request found) ≡ option_map renamed_request (while_open found)
while_same None = refl
while_same (Some own) = map_cond renamed_request (is_open own) own None

pub dealers_offer : (own : StandingRequest) (dealer : List ℕ)
    → offer_of_dealer (renamed_request own) dealer
    ≡ option_map renamed (offer_of_dealer own dealer)
dealers_offer own dealer =
    find_changed renamed (λ (shown : ShownOffer). same_text shown.offer.dealer dealer)
    (λ (shown : ShownOffer). same_text shown.offer.dealer dealer) (λ shown. refl) own.standing

-- a verdict says the same with own numbers in the place of words
pub record Alike (one other : InvestorVerdict) : Type 0 where
  pub uses_are : uses_number other ≡ uses_number one
  pub facts_are : verdict_facts other ≡ map renamed_fact (verdict_facts one)
  pub message_is : verdict_message other ≡ verdict_message one
  pub note_is : verdict_note other ≡ verdict_note one

plain : (v : InvestorVerdict) → verdict_facts v ≡ map renamed_fact (verdict_facts v)
plain (verdict.RequestAccepted id request) = refl
plain other = refl

alike : (one other : InvestorVerdict) → other ≡ one → Alike one other
alike one other same = record {
  uses_are = ap uses_number same;
  facts_are = ap verdict_facts same ∙ plain one;
  message_is = ap verdict_message same;
  note_is = ap verdict_note same;
}

module _ (book : InvestorBook) where
  with_id : (id : List ℕ)
      → request_with_id (renamed_book book) id
      ≡ option_map renamed_request (request_with_id book id)
  unfolding request_with_id
  with_id id =
      find_changed renamed_request (λ (own : StandingRequest). same_text own.request.id id)
      (λ (own : StandingRequest). same_text own.request.id id) (λ own. refl) book.requests

  pub numbered : (number : ℕ)
      → request_numbered (renamed_book book) number
      ≡ option_map renamed_request (request_numbered book number)
  unfolding request_numbered
  numbered number =
      find_changed renamed_request (λ (own : StandingRequest). own.request.number == number)
      (λ (own : StandingRequest). own.request.number == number) (λ own. refl) book.requests

  pub open_numbered : (number : ℕ)
      → open_request (renamed_book book) number
      ≡ option_map renamed_request (open_request book number)
  open_numbered number =
      ap (λ (o : Option StandingRequest). while_open o) (numbered number)
      ∙ while_same (request_numbered book number)

  named : (name : List ℕ)
      → offer_named (renamed_book book) name ≡ option_map renamed (offer_named book name)
  unfolding offer_named
  named name =
      find_changed renamed (λ (shown : ShownOffer). same_text (quote_name shown.number) name)
      (λ (shown : ShownOffer). same_text (quote_name shown.number) name) (λ shown. refl)
      book.offers

  pub offered : (number : ℕ)
      → offer_numbered (renamed_book book) number ≡ option_map renamed (offer_numbered book number)
  unfolding offer_numbered
  offered number =
      find_changed renamed (λ (shown : ShownOffer). shown.number == number)
      (λ (shown : ShownOffer). shown.number == number) (λ shown. refl) book.offers

  accepted_same : requests_accepted (renamed_book book) ≡ requests_accepted book
  accepted_same = length-map book.requests renamed_request

  pub shown_same : offers_shown (renamed_book book) ≡ offers_shown book
  shown_same = length-map book.offers renamed

  open_count_same : requests_open (renamed_book book) ≡ requests_open book
  open_count_same = count_changed renamed_request is_open is_open (λ own. refl) book.requests

  was_shown_same : (number : ℕ) (found : Option ShownOffer)
      → was_shown_on number (option_map renamed found) ≡ was_shown_on number found
  was_shown_same number None = refl
  was_shown_same number (Some shown) = refl

  knows_quote_same : (number : ℕ) (quote : Option ℕ)
      → knows_quote (renamed_book book) number quote ≡ knows_quote book number quote
  knows_quote_same number None = refl
  knows_quote_same number (Some quote) =
      ap (λ (o : Option ShownOffer). was_shown_on number o) (offered quote)
      ∙ was_shown_same number (offer_numbered book quote)

  is_numbered : (number : ℕ)
      → is_some (request_numbered (renamed_book book) number)
      ≡ is_some (request_numbered book number)
  is_numbered number =
      ap (λ (o : Option StandingRequest). is_some o) (numbered number)
      ∙ some_map renamed_request (request_numbered book number)

  pub knows_same : (number : ℕ) (quote : Option ℕ)
      → knows (renamed_book book) number quote ≡ knows book number quote
  knows_same number quote =
      ap (λ (b : Bool). b && knows_quote (renamed_book book) number quote) (is_numbered number)
      ∙ ap (λ (b : Bool). is_some (request_numbered book number) && b)
      (knows_quote_same number quote)

  -- Verdicts.

  unused_same : (id : List ℕ)
      → is_some (request_with_id (renamed_book book) id) ≡ is_some (request_with_id book id)
  unused_same id =
      ap (λ (o : Option StandingRequest). is_some o) (with_id id)
      ∙ some_map renamed_request (request_with_id book id)

  module _ (market : InvestorMarket) (moment : ℕ) where
    refusal_same : (request : QuoteRequest)
        → request_refusal (unnumbered market) (renamed_book book) moment request
        ≡ request_refusal market book moment request
    unfolding request_refusal bond_with_id dealer_named
    refusal_same request = rw (unused_same request.id, accepted_same, open_count_same) refl

    request_answer_same : (request : QuoteRequest) (bond : Option BondRow)
        (refused : Option RequestRefusal)
        → request_answer (unnumbered market) (renamed_book book) moment request bond refused
        ≡ request_answer market book moment request bond refused
    unfolding dealer_named
    request_answer_same request bond (Some reason) = refl
    request_answer_same request None None = refl
    request_answer_same request (Some bond) None = rw accepted_same refl

    request_verdict_same : (request : QuoteRequest)
        → request_verdict (unnumbered market) (renamed_book book) moment request
        ≡ request_verdict market book moment request
    unfolding request_verdict bond_with_id
    request_verdict_same request =
        let bond = bond_with_id market request.bond in
        ap (request_answer (unnumbered market) (renamed_book book) moment request bond)
        (refusal_same request)
        ∙ request_answer_same request bond (request_refusal market book moment request)

    hit_alike : (hit : QuoteHit) (found : Option ShownOffer)
        → Alike (hit_of hit found) (hit_of hit (option_map renamed found))
    hit_alike hit None = record {
      uses_are = refl;
      facts_are = refl;
      message_is = refl;
      note_is = refl;
    }
    hit_alike hit (Some shown) = record {
      uses_are = refl;
      facts_are = refl;
      message_is = refl;
      note_is = refl;
    }

    pass_same : (pass : RequestPass) (found : Option StandingRequest)
        → pass_of pass (option_map renamed_request found) ≡ pass_of pass found
    pass_same pass None = refl
    pass_same pass (Some own) = refl

    taken_alike : (came : Arrival InvestorMessage)
        → Alike (arrival_verdict market book moment came)
        (arrival_verdict (unnumbered market) (renamed_book book) moment came)
    unfolding hit_verdict pass_verdict
    taken_alike arrival.Dropped = alike _ _ refl
    taken_alike (arrival.OutOfSequence reject) = alike _ _ refl
    taken_alike (arrival.Rejected reject) = alike _ _ refl
    taken_alike (arrival.Taken (message.Request request)) =
        alike _ _ (request_verdict_same request)
    taken_alike (arrival.Taken (message.Hit hit)) =
        subst (λ (o : Option ShownOffer). Alike (hit_of hit (offer_named book hit.quote))
        (hit_of hit o)) (sym (named hit.quote)) (hit_alike hit (offer_named book hit.quote))
    taken_alike (arrival.Taken (message.Pass pass)) =
        alike _ _ (ap (pass_of pass) (with_id pass.request)
        ∙ pass_same pass (request_with_id book pass.request))

    -- the verdict by the book with own numbers says the same
    pub verdict_alike : (bytes : List ℕ)
        → Alike (investor_verdict market book moment bytes)
        (investor_verdict (unnumbered market) (renamed_book book) moment bytes)
    unfolding investor_verdict
    verdict_alike bytes =
        taken_alike (investor_arrival market.date market.row (expected_number book) bytes)
