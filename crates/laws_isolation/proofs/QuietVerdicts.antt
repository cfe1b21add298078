-- The verdicts by the book of an investor's desk without quotes.
use Rattle.std.proofs.Common.{◌≡◌, ℕ, ◌==◌, Bool, true, false, cond, List, [], ◌∷◌, map, filter}
use Rattle.std.proofs.Common.{find, length, Option, Some, None, option_map, is_some, refl, sym, ap}
use Rattle.std.proofs.Common.{◌∙◌, ◌&&◌, subst}
use Rattle.std.specs.Option.{option_or}
use Rattle.std.proofs.lemmas.List.{length-map}
use Rattle.std.proofs.lemmas.List.Sums.{length-filter}
use Rattle.quote_messages.specs.declared.arrivals.Arrival.{Arrival}
use Rattle.quote_messages.specs.declared.arrivals.Arrival.TheVariants as arrival
use Rattle.quote_messages.specs.declared.requests.QuoteRequest.{QuoteRequest}
use Rattle.quote_messages.specs.declared.requests.QuoteHit.{QuoteHit}
use Rattle.quote_messages.specs.declared.requests.RequestPass.{RequestPass}
use Rattle.quote_messages.specs.declared.requests.InvestorMessage.{InvestorMessage}
use Rattle.quote_messages.specs.declared.requests.InvestorMessage.TheVariants as message
use Rattle.investor_desk.specs.declared.refusals.RequestRefusal.{RequestRefusal}
use Rattle.quote_messages.specs.Arrivals.{investor_arrival}
use Rattle.venue_rows.specs.Texts.{same_text}
use Rattle.venue_rows.specs.declared.bond_rows.BondRow.{BondRow}
use Rattle.investor_desk.specs.InvestorFacts.{InvestorFact, InvestorBook, StandingRequest, Came}
use Rattle.investor_desk.specs.InvestorFacts.{Offered, Asked, Closed, used_number, closes}
use Rattle.investor_desk.specs.InvestorFacts.{first_said, standing_on, requests_of, offers_of}
use Rattle.investor_desk.specs.InvestorFacts.{book_of, requests_accepted, is_open, requests_open}
use Rattle.investor_desk.specs.InvestorFacts.{request_with_id, request_numbered, offer_named, knows}
use Rattle.investor_desk.specs.InvestorFacts.{expected_number}
use Rattle.investor_desk.specs.declared.standing.RequestClose.{RequestClose}
use Rattle.investor_desk.specs.InvestorRules.{InvestorMarket, request_refusal, request_answer}
use Rattle.investor_desk.specs.InvestorRules.{request_verdict, bond_with_id, hit_of, hit_verdict}
use Rattle.investor_desk.specs.InvestorRules.{pass_of, pass_verdict, arrival_verdict}
use Rattle.investor_desk.specs.InvestorRules.{investor_verdict}
use Rattle.investor_desk.specs.InvestorOutput.{uses_number, verdict_facts}
use Rattle.investor_desk.specs.declared.standing.ShownOffer.{ShownOffer}
use Rattle.investor_desk.specs.declared.verdicts.InvestorVerdict.{InvestorVerdict}
use Rattle.investor_desk.specs.declared.verdicts.InvestorVerdict.TheVariants as verdict
use Rattle.step_replay.specs.InvestorTrail.{InvestorEntry, AtDesk, Happened, Sent, fact_in, facts_of}
use Rattle.step_replay.specs.InvestorTrail.{book_by}
use Rattle.laws_days.specs.KeptItems.{count_kept, found_of_kept, kept_in, where_kept}
use Rattle.laws_isolation.proofs.Quiet.{stays_at_desk, stays_there}

-- Options and lists.

map_cond : {X Y : Type 0} (e : X → Y) (b : Bool) (x : X) (rest : Option X)
    → cond b (Some (e x)) (option_map e rest) ≡ option_map e (cond b (Some x) rest)
map_cond e true x rest = refl
map_cond e false x rest = refl

pub some_map : {X Y : Type 0} (e : X → Y) (o : Option X) → is_some (option_map e o) ≡ is_some o
some_map e None = refl
some_map e (Some x) = refl

find_map : {X Y : Type 0} (e : X → Y) (p : X → Bool) (q : Y → Bool)
    → ((x : X) → q (e x) ≡ p x) → (xs : List X) → find q (map e xs) ≡ option_map e (find p xs)
find_map e p q same [] = refl
find_map e p q same (x ∷ xs) =
    rw (same x, find_map e p q same xs) (map_cond e (p x) x (find p xs))

-- What stays of the book.

-- a request without the quotes on it
abbrev pub quiet_request : StandingRequest → StandingRequest
quiet_request own = record own { standing = [] }

-- the book without quotes
abbrev pub quiet_book : InvestorBook → InvestorBook
quiet_book book = record {
  used = book.used;
  requests = map quiet_request book.requests;
  offers = [];
}

uses_none : (fact : InvestorFact) → stays_at_desk fact ≡ false → used_number fact ≡ false
uses_none (Came moment bytes used) is = cc
uses_none fact is = refl

close_kept : (number : ℕ) (facts : List InvestorFact)
    → first_said (closes number) (filter stays_at_desk facts) ≡ first_said (closes number) facts
close_kept number [] = refl
close_kept number (Closed request close ∷ later) =
    ap (λ (o : Option RequestClose). option_or (closes number (Closed request close)) o)
    (close_kept number later)
close_kept number (fact ∷ later) = close_kept number later

none_stands : (number : ℕ) (facts : List InvestorFact)
    → standing_on number (filter stays_at_desk facts) ≡ []
none_stands number [] = refl
none_stands number (Offered shown ∷ later) = none_stands number later
none_stands number (fact ∷ later) = none_stands number later

requests_kept : (facts : List InvestorFact)
    → requests_of (filter stays_at_desk facts) ≡ map quiet_request (requests_of facts)
requests_kept [] = refl
requests_kept (Asked request ∷ later) =
    rw (close_kept request.number later, none_stands request.number later, requests_kept later)
    refl
requests_kept (fact ∷ later) = requests_kept later

no_offers : (facts : List InvestorFact) → offers_of (filter stays_at_desk facts) ≡ []
no_offers [] = refl
no_offers (Offered shown ∷ later) = no_offers later
no_offers (fact ∷ later) = no_offers later

book_kept : (facts : List InvestorFact)
    → book_of (filter stays_at_desk facts) ≡ quiet_book (book_of facts)
book_kept facts =
    rw (count_kept stays_at_desk used_number uses_none facts, requests_kept facts, no_offers facts)
    refl

-- the book by what stays of a trail
pub book_by_kept : (trail : List InvestorEntry)
    → book_by (filter stays_there trail) ≡ quiet_book (book_by trail)
book_by_kept trail =
    ap (λ (l : List InvestorFact). book_of l)
    (found_of_kept stays_there stays_at_desk fact_in each trail)
    ∙ book_kept (facts_of trail)
  where
    each : (entry : InvestorEntry)
        → where_kept stays_at_desk (fact_in entry)
        ≡ cond (stays_there entry) (fact_in entry) None
    each (Happened event) = refl
    each (AtDesk fact) = refl
    each (Sent message) = refl

-- What the rules ask of the book.

module _ (book : InvestorBook) where
  pub with_id : (id : List ℕ)
      → request_with_id (quiet_book book) id
      ≡ option_map quiet_request (request_with_id book id)
  unfolding request_with_id
  with_id id =
      find_map quiet_request (λ (own : StandingRequest). same_text own.request.id id)
      (λ (own : StandingRequest). same_text own.request.id id) (λ own. refl) book.requests

  pub numbered : (number : ℕ)
      → request_numbered (quiet_book book) number
      ≡ option_map quiet_request (request_numbered book number)
  unfolding request_numbered
  numbered number =
      find_map quiet_request (λ (own : StandingRequest). own.request.number == number)
      (λ (own : StandingRequest). own.request.number == number) (λ own. refl) book.requests

  pub none_named : (name : List ℕ) → offer_named (quiet_book book) name ≡ None
  unfolding offer_named
  none_named name = refl

  pub accepted_same : requests_accepted (quiet_book book) ≡ requests_accepted book
  accepted_same = length-map book.requests quiet_request

  pub open_count_same : requests_open (quiet_book book) ≡ requests_open book
  open_count_same =
      sym (length-filter is_open (map quiet_request book.requests))
      ∙ ap length (kept_in is_open quiet_request is_open (λ own. refl) book.requests)
      ∙ length-map (filter is_open book.requests) quiet_request
      ∙ length-filter is_open book.requests

  -- a request that is known stays known
  pub knows_same : (number : ℕ) → knows (quiet_book book) number None ≡ knows book number None
  knows_same number =
      ap (λ (o : Option StandingRequest). is_some o && true) (numbered number)
      ∙ ap (λ (b : Bool). b && true) (some_map quiet_request (request_numbered book number))

module _ (book : InvestorBook) where
  -- Verdicts.

  unused_same : (id : List ℕ)
      → is_some (request_with_id (quiet_book book) id) ≡ is_some (request_with_id book id)
  unused_same id =
      ap (λ (o : Option StandingRequest). is_some o) (with_id book id)
      ∙ some_map quiet_request (request_with_id book id)

  refusal_same : (market : InvestorMarket) (moment : ℕ) (request : QuoteRequest)
      → request_refusal market (quiet_book book) moment request
      ≡ request_refusal market book moment request
  unfolding request_refusal
  refusal_same market moment request =
      rw (unused_same request.id, accepted_same book, open_count_same book) refl

  request_answer_same : (market : InvestorMarket) (moment : ℕ) (request : QuoteRequest)
      (bond : Option BondRow) (refused : Option RequestRefusal)
      → request_answer market (quiet_book book) moment request bond refused
      ≡ request_answer market book moment request bond refused
  request_answer_same market moment request bond (Some reason) = refl
  request_answer_same market moment request None None = refl
  request_answer_same market moment request (Some bond) None = rw (accepted_same book) refl

  request_verdict_same : (market : InvestorMarket) (moment : ℕ) (request : QuoteRequest)
      → request_verdict market (quiet_book book) moment request
      ≡ request_verdict market book moment request
  unfolding request_verdict
  request_verdict_same market moment request =
      let bond = bond_with_id market request.bond in
      ap (request_answer market (quiet_book book) moment request bond)
      (refusal_same market moment request)
      ∙ request_answer_same market moment request bond
      (request_refusal market book moment request)

  pass_same : (pass : RequestPass) (found : Option StandingRequest)
      → pass_of pass (option_map quiet_request found) ≡ pass_of pass found
  pass_same pass None = refl
  pass_same pass (Some own) = refl

-- whether a verdict is that a quote is hit
abbrev pub hits : InvestorVerdict → Bool
hits (verdict.Hits request response word) = true
hits other = false

-- Two verdicts add the same facts, and leave the same where the second one is no hit.
pub record IsHeardSo (one other : InvestorVerdict) : Type 0 where
  pub uses_are : uses_number one ≡ uses_number other
  pub facts_are : verdict_facts one ≡ verdict_facts other
  pub duty_is : hits other ≡ false → one ≡ other

heard_same : (one other : InvestorVerdict) → one ≡ other → IsHeardSo one other
heard_same one other same = record {
  uses_are = ap (λ (v : InvestorVerdict). uses_number v) same;
  facts_are = ap (λ (v : InvestorVerdict). verdict_facts v) same;
  duty_is = λ isnt. same;
}

-- a hit of a quote, and of none
hit_heard : (hit : QuoteHit) (found : Option ShownOffer)
    → IsHeardSo (hit_of hit None) (hit_of hit found)
hit_heard hit None = heard_same (hit_of hit None) (hit_of hit None) refl
hit_heard hit (Some shown) = record {
  uses_are = refl;
  facts_are = refl;
  duty_is = λ isnt. cc;
}

arrival_heard : (book : InvestorBook) (market : InvestorMarket) (moment : ℕ)
    (came : Arrival InvestorMessage)
    → IsHeardSo (arrival_verdict market (quiet_book book) moment came)
    (arrival_verdict market book moment came)
unfolding hit_verdict pass_verdict
arrival_heard book market moment (arrival.Taken (message.Request request)) =
    heard_same _ _ (request_verdict_same book market moment request)
arrival_heard book market moment (arrival.Taken (message.Hit hit)) =
    subst (λ (o : Option ShownOffer). IsHeardSo (hit_of hit o)
    (hit_of hit (offer_named book hit.quote))) (sym (none_named book hit.quote))
    (hit_heard hit (offer_named book hit.quote))
arrival_heard book market moment (arrival.Taken (message.Pass pass)) =
    heard_same _ _
    (ap (pass_of pass) (with_id book pass.request)
    ∙ pass_same book pass (request_with_id book pass.request))
arrival_heard book market moment other = heard_same _ _ refl

-- the verdict by the book without quotes
pub verdict_heard : (book : InvestorBook) (market : InvestorMarket) (moment : ℕ) (bytes : List ℕ)
    → IsHeardSo (investor_verdict market (quiet_book book) moment bytes)
    (investor_verdict market book moment bytes)
unfolding investor_verdict
verdict_heard book market moment bytes =
    arrival_heard book market moment
    (investor_arrival market.date market.row (expected_number book) bytes)
