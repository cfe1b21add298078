-- What a dealer's desk accepts is on a request whose notice was not told.
use Rattle.std.proofs.Common.{◌≡◌, ◌≤◌, ℕ, ◌+◌, ◌==◌, true, false, Bool, List, [], ◌∷◌, find, Option, Some}
use Rattle.std.proofs.Common.{None, refl, ap, ◌∙◌, arith, inl, inr, is_none}
use Rattle.std.specs.List.{list_any}
use Rattle.std.proofs.lemmas.Bool.{cases_Bool, cond_both, eq-eqb, ne_eqb, or_parts}
use Rattle.std.proofs.lemmas.Option.{same_Some}
use Rattle.market_terms.specs.Checks.{first_refusal}
use Rattle.market_terms.specs.declared.rooms.RoomRef.{RoomRef}
use Rattle.venue_rows.specs.Texts.{same_text}
use Rattle.venue_rows.specs.declared.dealer_rows.DealerRow.{DealerRow}
use Rattle.quote_messages.specs.Arrivals.{dealer_arrival}
use Rattle.quote_messages.specs.Written.{request_name}
use Rattle.quote_messages.specs.declared.arrivals.Arrival.{Arrival}
use Rattle.quote_messages.specs.declared.arrivals.Arrival.TheVariants as arrival
use Rattle.quote_messages.specs.declared.quotes.CancelScope.{CancelScope}
use Rattle.quote_messages.specs.declared.quotes.CancelScope.TheVariants as cancels
use Rattle.quote_messages.specs.declared.quotes.DealerMessage.{DealerMessage}
use Rattle.quote_messages.specs.declared.quotes.DealerMessage.TheVariants as message
use Rattle.quote_messages.specs.declared.quotes.Quote.{Quote}
use Rattle.dealer_desk.specs.declared.refusals.DeclineRefusal.{DeclineRefusal}
use Rattle.dealer_desk.specs.declared.refusals.QuoteRefusal.{QuoteRefusal}
use Rattle.dealer_desk.specs.DealerFacts.{DealerBook, DealerFact, Shown, book_of, expected_number, has_lifted_quote}
use Rattle.dealer_desk.specs.DealerFacts.{quote_to_drop, quote_with_id, quotes_accepted, request_named}
use Rattle.dealer_desk.specs.DealerFacts.{requests_from, standing_request, tells}
use Rattle.dealer_desk.specs.DealerRules.{arrival_verdict, cancel_answer, cancel_checks, cancel_of}
use Rattle.dealer_desk.specs.DealerRules.{cancel_verdict, dealer_verdict, decline_answer, decline_checks}
use Rattle.dealer_desk.specs.DealerRules.{decline_verdict, quote_answer, quote_checks, quote_refusal, quote_verdict}
use Rattle.dealer_desk.specs.declared.standing.StandingQuote.{StandingQuote}
use Rattle.dealer_desk.specs.declared.standing.StandingRequest.{StandingRequest}
use Rattle.dealer_desk.specs.declared.verdicts.DealerVerdict.{DealerVerdict}
use Rattle.dealer_desk.specs.declared.verdicts.DealerVerdict.TheVariants as verdict
use Rattle.laws_days.specs.AcceptedQuotes.{none_holds}
use Rattle.laws_days.proofs.NoticeLemmas.{Noticed}
use Rattle.laws_days.proofs.ShownRequests.{found, has_notice}

-- the request that is found is found by its number, too
found_same : (test : StandingRequest → Bool) (first : ℕ) (facts : List DealerFact) (own : StandingRequest)
    → find test (requests_from first facts) ≡ Some own
    → (first ≤ own.number) × (found own.number first facts ≡ Some own)
found_same test first [] own is = cc
found_same test first (Shown ask moment ∷ later) own is =
    elim (cases_Bool (test (standing_request first ask later))) [
      | inl passes ↦
          (let it : standing_request first ask later ≡ own =
          same_Some (standing_request first ask later) own (rw passes at is) in
          let number_is : first ≡ own.number = ap (λ (r : StandingRequest). r.number) it in
          let same : (first == own.number) ≡ true = eq-eqb first own.number number_is in
          (omega arith, rw same (ap (λ (r : StandingRequest). Some r) it)))
      | inr fails ↦
          (let rest = found_same test (first + 1) later own (rw fails at is) in
          let least : first + 1 ≤ own.number = rest.0 in
          let differs : (first == own.number) ≡ false = ne_eqb first own.number (λ same. omega arith) in
          (omega arith, rw differs (rest.1)))
    ]
found_same test first (fact ∷ later) own is = found_same test first later own is

module _ (facts : List DealerFact) where
  -- a request whose notice was not told
  abbrev pub IsOpen : ℕ → Type 0
  IsOpen number = list_any (tells number) facts ≡ false

  abbrev pub OnOpen : DealerVerdict → Type 0
  OnOpen (verdict.QuoteAccepted name id quote replaced) = IsOpen quote.request
  OnOpen (verdict.DeclineAccepted name number) = IsOpen number
  OnOpen other = Unit {0}

module _ (facts : List DealerFact) (rooms : List RoomRef) (noticed : Noticed facts rooms) where
  abbrev book : DealerBook
  book = book_of facts

  abbrev Opens : DealerVerdict → Type 0
  Opens v = OnOpen facts v

  open_by : (test : StandingRequest → Bool) (own : StandingRequest)
      → find test (requests_from 1 facts) ≡ Some own → own.is_told ≡ false → IsOpen facts own.number
  open_by test own is told =
      noticed.told_as own.number ∙ ap has_notice (found_same test 1 facts own is).1 ∙ told

  found_open : (id : List ℕ) (own : Option StandingQuote) → Opens (cancel_of id own)
  found_open id None = tt
  found_open id (Some own) =
      elim (first_refusal (cancel_checks own))
      as (λ refusal. Opens (cancel_answer id own refusal)) [ None ↦ tt | Some reason ↦ tt ]

  scope_open : (scope : CancelScope) → Opens (cancel_verdict book scope)
  unfolding cancel_verdict
  scope_open (cancels.One id) = found_open id (quote_with_id book id)
  scope_open (cancels.All id) =
      cond_both (is_none (quote_to_drop book (quotes_accepted book))) _ _ Opens (λ is. tt) (λ isnt. tt)
  scope_open (cancels.Other cancel_type id) = tt

  decline_open : (name : List ℕ) (request : Option StandingRequest) (refusal : Option DeclineRefusal)
      → request_named book name ≡ request → first_refusal (decline_checks book request) ≡ refusal
      → Opens (decline_answer name request refusal)
  unfolding request_named
  decline_open name request (Some reason) named is = tt
  decline_open name None None named is = tt
  decline_open name (Some shown) None named is =
      open_by (λ request. same_text (request_name request.number) name) shown named
      (none_holds (decline_checks book (Some shown)) is).1.1.0

  module _ (row : DealerRow) (moment : ℕ) where
    quote_open : (quote : Quote) (request : Option StandingRequest) (refusal : Option QuoteRefusal)
        → request_named book quote.request ≡ request → quote_refusal row book moment quote request ≡ refusal
        → Opens (quote_answer book moment quote request refusal)
    unfolding request_named quote_refusal
    quote_open quote request (Some reason) named is = tt
    quote_open quote None None named is = tt
    quote_open quote (Some shown) None named is =
        open_by (λ request. same_text (request_name request.number) quote.request) shown named
        (or_parts shown.is_told (has_lifted_quote book shown.number)
        (none_holds (quote_checks row book moment quote (Some shown)) is).1.1.0).0

    arrival_open : (came : Arrival DealerMessage) → Opens (arrival_verdict row book moment came)
    unfolding quote_verdict decline_verdict
    arrival_open (arrival.Taken (message.Quote quote)) =
        quote_open quote (request_named book quote.request) _ refl refl
    arrival_open (arrival.Taken (message.Cancel cancel)) = scope_open cancel.scope
    arrival_open (arrival.Taken (message.Decline decline)) =
        decline_open decline.request (request_named book decline.request) _ refl refl
    arrival_open other = tt

    pub verdict_open : (date : List ℕ) (bytes : List ℕ) → OnOpen facts (dealer_verdict date row book moment bytes)
    unfolding dealer_verdict
    verdict_open date bytes = arrival_open (dealer_arrival date row (expected_number book) bytes)
