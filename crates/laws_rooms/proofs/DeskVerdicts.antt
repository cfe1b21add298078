-- What a dealer's verdict says of the quotes and the requests that stand at its desk.
use Rattle.std.proofs.Common.{◌≡◌, ◌≤◌, ℕ, ◌+◌, Bool, true, false, List, [], ◌∷◌, find, filter_map, length}
use Rattle.std.proofs.Common.{Option, Some, None, IfSome, is_none, refl, ap, arith, subst, inl, inr}
use Rattle.std.proofs.lemmas.Bool.{and_parts, cases_Bool, cond_both, or_parts}
use Rattle.std.proofs.lemmas.Option.{same_Some}
use Rattle.market_terms.specs.Checks.{first_refusal}
use Rattle.venue_rows.specs.Texts.{same_text}
use Rattle.venue_rows.specs.declared.dealer_rows.DealerRow.{DealerRow}
use Rattle.quote_messages.specs.Arrivals.{dealer_arrival}
use Rattle.quote_messages.specs.Written.{request_name}
use Rattle.quote_messages.specs.declared.arrivals.Arrival.{Arrival}
use Rattle.quote_messages.specs.declared.arrivals.Arrival.TheVariants as arrival
use Rattle.quote_messages.specs.declared.quotes.CancelScope.{CancelScope}
use Rattle.quote_messages.specs.declared.quotes.CancelScope.TheVariants as cancels
use Rattle.quote_messages.specs.declared.quotes.DealerMessage.{DealerMessage}
use Rattle.quote_messages.specs.declared.quotes.DealerMessage.TheVariants as message
use Rattle.quote_messages.specs.declared.quotes.Quote.{Quote}
use Rattle.dealer_desk.specs.declared.refusals.CancelRefusal.{CancelRefusal}
use Rattle.dealer_desk.specs.declared.refusals.DeclineRefusal.{DeclineRefusal}
use Rattle.dealer_desk.specs.declared.refusals.QuoteRefusal.{QuoteRefusal}
use Rattle.dealer_desk.specs.DealerFacts.{DealerBook, DealerFact, Shown, book_of, expected_number, is_closing}
use Rattle.dealer_desk.specs.DealerFacts.{is_droppable, is_live, is_withdrawal, live_number_on, quote_to_drop}
use Rattle.dealer_desk.specs.DealerFacts.{quote_with_id, quotes_accepted, request_named, requests_from}
use Rattle.dealer_desk.specs.DealerFacts.{standing_request, standings}
use Rattle.dealer_desk.specs.DealerRules.{arrival_verdict, cancel_answer, cancel_checks, cancel_of}
use Rattle.dealer_desk.specs.DealerRules.{cancel_verdict, dealer_verdict, decline_answer, decline_verdict}
use Rattle.dealer_desk.specs.DealerRules.{quote_answer, quote_verdict}
use Rattle.dealer_desk.specs.declared.standing.QuoteEnd.{QuoteEnd}
use Rattle.dealer_desk.specs.declared.standing.QuoteEnd.TheVariants as ended
use Rattle.dealer_desk.specs.declared.standing.StandingQuote.{StandingQuote}
use Rattle.dealer_desk.specs.declared.standing.StandingRequest.{StandingRequest}
use Rattle.dealer_desk.specs.declared.verdicts.DealerVerdict.{DealerVerdict}
use Rattle.dealer_desk.specs.declared.verdicts.DealerVerdict.TheVariants as verdict
use Rattle.laws_days.specs.AcceptedQuotes.{none_holds}
use Rattle.step_replay.specs.Lists.{In}
use Rattle.laws_days.proofs.ShownRequests.{shown_in}

-- the one that is found stands in the list, and passes the test
pub found_there : {X : Type 0} (test : X → Bool) (xs : List X) (x : X) → find test xs ≡ Some x
    → In x xs × (test x ≡ true)
found_there test [] x is = cc
found_there test (y ∷ ys) x is = elim (cases_Bool (test y)) [
  | inl passes ↦
      (let same = same_Some y x (rw passes at is) in
      (inl same, subst (λ z. test z ≡ true) same passes))
  | inr fails ↦ let later = found_there test ys x (rw fails at is) in (inr later.0, later.1)
]

-- how many requests some facts show
abbrev pub shown_count : List DealerFact → ℕ
shown_count facts = length (filter_map shown_in facts)

-- a number of one of so many requests
abbrev pub IsOneOf : ℕ → ℕ → Type 0
IsOneOf count number = (1 ≤ number) × (number ≤ count)

-- the request that is found has one of their numbers
found_within : (test : StandingRequest → Bool) (first : ℕ) (facts : List DealerFact) (own : StandingRequest)
    → find test (requests_from first facts) ≡ Some own
    → (first ≤ own.number) × (own.number + 1 ≤ first + shown_count facts)
found_within test first [] own found = cc
found_within test first (Shown ask moment ∷ later) own found =
    elim (cases_Bool (test (standing_request first ask later))) [
      | inl is ↦
          (let same : first ≡ own.number =
          ap (λ (r : StandingRequest). r.number) (same_Some (standing_request first ask later) own (rw is at found)) in
          (omega arith, omega arith))
      | inr isnt ↦
          (let rest = found_within test (first + 1) later own (rw isnt at found) in
          let least : first + 1 ≤ own.number = rest.0 in
          let most : own.number + 1 ≤ first + 1 + shown_count later = rest.1 in
          (omega arith, omega arith))
    ]
found_within test first (fact ∷ later) own found = found_within test first later own found

-- a quote that is neither withdrawn nor closed is live
not_ended : (end : Option QuoteEnd) → is_withdrawal end ≡ false → is_closing end ≡ false → is_none end ≡ true
not_ended None still open_yet = refl
not_ended (Some (ended.Withdrawn how)) still open_yet = cc
not_ended (Some (ended.Closed close)) still open_yet = cc

module _ (facts : List DealerFact) where
  abbrev pub book : DealerBook
  book = book_of facts

  -- a live quote with this number, on this request
  pub record LiveQuote (number request : ℕ) : Type 0 where
    pub own : StandingQuote
    pub there : In own (standings facts)
    pub live : is_live own ≡ true
    pub number_is : own.quote.number ≡ number
    pub request_is : own.quote.request ≡ request

  -- a request that was shown
  abbrev pub WasShown : ℕ → Type 0
  WasShown number = IsOneOf (shown_count facts) number

  -- a quote is the next one and replaces the live one on its request; a cancel names a live quote
  abbrev pub SaysOk : DealerVerdict → Type 0
  SaysOk (verdict.QuoteAccepted name id quote replaced) =
      (quote.number ≡ length (standings facts) + 1) × WasShown quote.request
      × (replaced ≡ live_number_on book quote.request)
  SaysOk (verdict.CancelAccepted id number request) = LiveQuote number request
  SaysOk (verdict.DeclineAccepted name number) = WasShown number
  SaysOk other = Unit {0}

  shown_if : (test : StandingRequest → Bool)
      → IfSome (find test (requests_from 1 facts)) (λ (r : StandingRequest). WasShown r.number)
  shown_if test = by_found (find test (requests_from 1 facts)) refl
    where
      by_found : (found : Option StandingRequest) → find test (requests_from 1 facts) ≡ found
          → IfSome found (λ (r : StandingRequest). WasShown r.number)
      by_found None is = tt
      by_found (Some own) is =
          let within = found_within test 1 facts own is in
          let most : own.number + 1 ≤ 1 + shown_count facts = within.1 in
          (within.0, omega arith)

  found_if : (test : StandingQuote → Bool)
      → IfSome (find test (standings facts)) (λ (own : StandingQuote). In own (standings facts))
  found_if test = by_found (find test (standings facts)) refl
    where
      by_found : (found : Option StandingQuote) → find test (standings facts) ≡ found
          → IfSome found (λ (own : StandingQuote). In own (standings facts))
      by_found None is = tt
      by_found (Some own) is = (found_there test (standings facts) own is).0

  by_refusal : (id : List ℕ) (own : StandingQuote) → In own (standings facts) → (refusal : Option CancelRefusal)
      → first_refusal (cancel_checks own) ≡ refusal → SaysOk (cancel_answer id own refusal)
  by_refusal id own there (Some reason) is = tt
  by_refusal id own there None is =
      let checks = none_holds (cancel_checks own) is in
      record {
        own = own;
        there = there;
        live = not_ended own.end checks.0
            (or_parts (is_closing own.end) own.is_known_lifted checks.1.0).0;
        number_is = refl;
        request_is = refl;
      }

  cancel_says : (id : List ℕ) (found : Option StandingQuote)
      → IfSome found (λ (own : StandingQuote). In own (standings facts)) → SaysOk (cancel_of id found)
  cancel_says id None there = tt
  cancel_says id (Some own) there = by_refusal id own there (first_refusal (cancel_checks own)) refl

  scope_says : (scope : CancelScope) → SaysOk (cancel_verdict book scope)
  unfolding cancel_verdict quote_with_id
  scope_says (cancels.One id) =
      cancel_says id (quote_with_id book id) (found_if (λ own. same_text own.quote.id id))
  scope_says (cancels.All id) =
      cond_both (is_none (quote_to_drop book (quotes_accepted book))) _ _ SaysOk (λ is. tt) (λ isnt. tt)
  scope_says (cancels.Other cancel_type id) = tt

  decline_says : (name : List ℕ) (request : Option StandingRequest) (refusal : Option DeclineRefusal)
      → IfSome request (λ (r : StandingRequest). WasShown r.number)
      → SaysOk (decline_answer name request refusal)
  decline_says name request (Some reason) shown = tt
  decline_says name None None shown = tt
  decline_says name (Some request) None shown = shown

  -- a drop names a live quote
  pub drop_says : (last : ℕ) (own : StandingQuote) → quote_to_drop book last ≡ Some own
      → LiveQuote own.quote.number own.quote.request
  unfolding quote_to_drop
  drop_says last own is =
      let found = found_there _ (standings facts) own is in
      record {
        own = own;
        there = found.0;
        live = (and_parts (is_live own) _ (and_parts (is_droppable own) _ found.1).0).0;
        number_is = refl;
        request_is = refl;
      }

  module _ (row : DealerRow) (moment : ℕ) where
    quote_says : (quote : Quote) (request : Option StandingRequest) (refusal : Option QuoteRefusal)
        → IfSome request (λ (r : StandingRequest). WasShown r.number)
        → SaysOk (quote_answer book moment quote request refusal)
    quote_says quote request (Some reason) shown = tt
    quote_says quote None None shown = tt
    quote_says quote (Some request) None shown = (refl, shown, refl)

    arrival_says : (came : Arrival DealerMessage) → SaysOk (arrival_verdict row book moment came)
    unfolding quote_verdict decline_verdict request_named
    arrival_says (arrival.Taken (message.Quote quote)) =
        quote_says quote (request_named book quote.request) _
        (shown_if (λ request. same_text (request_name request.number) quote.request))
    arrival_says (arrival.Taken (message.Cancel cancel)) = scope_says cancel.scope
    arrival_says (arrival.Taken (message.Decline decline)) =
        decline_says decline.request (request_named book decline.request) _
        (shown_if (λ request. same_text (request_name request.number) decline.request))
    arrival_says other = tt

    pub verdict_says : (date : List ℕ) (bytes : List ℕ) → SaysOk (dealer_verdict date row book moment bytes)
    unfolding dealer_verdict
    verdict_says date bytes = arrival_says (dealer_arrival date row (expected_number book) bytes)
