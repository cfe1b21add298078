-- What the verdict of a dealer's desk says where it accepts a quote.
use Rattle.std.proofs.Common.{Bool, IfSome, List, None, Option, Some, ℕ, [], arith, false, find, inl}
use Rattle.std.proofs.Common.{inr, is_none, nat_le, refl, true, ◌&&◌, ◌+◌, ◌∷◌, ◌≡◌, ◌≤◌}
use Rattle.std.proofs.lemmas.Bool.{cases_Bool, cond_both}
use Rattle.std.proofs.lemmas.Bool.Decides.{nat_tests}
use Rattle.market_terms.specs.Checks.{first_refusal}
use Rattle.quote_messages.specs.Arrivals.{dealer_arrival}
use Rattle.quote_messages.specs.declared.arrivals.Arrival.{Arrival}
use Rattle.quote_messages.specs.declared.arrivals.Arrival.TheVariants as arrival
use Rattle.quote_messages.specs.declared.quotes.CancelScope.{CancelScope}
use Rattle.quote_messages.specs.declared.quotes.CancelScope.TheVariants as cancels
use Rattle.quote_messages.specs.declared.quotes.DealerMessage.{DealerMessage}
use Rattle.quote_messages.specs.declared.quotes.DealerMessage.TheVariants as message
use Rattle.quote_messages.specs.declared.quotes.Quote.{Quote}
use Rattle.dealer_desk.specs.declared.refusals.QuoteRefusal.{QuoteRefusal}
use Rattle.dealer_desk.specs.declared.refusals.DeclineRefusal.{DeclineRefusal}
use Rattle.venue_rows.specs.declared.dealer_rows.DealerRow.{DealerRow}
use Rattle.dealer_desk.specs.DealerFacts.{DealerBook, DealerFact, Shown, book_of, expected_number}
use Rattle.dealer_desk.specs.DealerFacts.{quote_to_drop, quote_with_id, quotes_accepted}
use Rattle.dealer_desk.specs.DealerFacts.{request_named, requests_from, standing_request}
use Rattle.dealer_desk.specs.DealerRules.{arrival_verdict, cancel_answer, cancel_checks, cancel_of}
use Rattle.dealer_desk.specs.DealerRules.{cancel_verdict, dealer_verdict, decline_answer}
use Rattle.dealer_desk.specs.DealerRules.{decline_verdict, quote_answer, quote_checks}
use Rattle.dealer_desk.specs.DealerRules.{quote_refusal, quote_verdict}
use Rattle.dealer_desk.specs.declared.standing.StandingQuote.{StandingQuote}
use Rattle.dealer_desk.specs.declared.standing.StandingRequest.{StandingRequest}
use Rattle.dealer_desk.specs.declared.verdicts.DealerVerdict.{DealerVerdict}
use Rattle.dealer_desk.specs.declared.verdicts.DealerVerdict.TheVariants as verdict
use Rattle.step_replay.specs.Lists.{Every}

-- the first refusal of some checks is none, where none of them holds
pub none_holds : {A : Type 0} (checks : List (Bool × A)) → first_refusal checks ≡ None
    → Every (λ (check : Bool × A). check.0 ≡ false) checks
none_holds [] none = tt
none_holds (check ∷ checks) none = elim (cases_Bool check.0) [
  | inl holds ↦ cc (rw holds at none)
  | inr fails ↦ (fails, none_holds checks (rw fails at none))
]

-- one more is of the day, where they are not as many yet
pub next_of_day : (most accepted : ℕ) → nat_le most accepted ≡ false
    → (nat_le 1 (accepted + 1) && nat_le (accepted + 1) most) ≡ true
next_of_day most accepted few = grind (arith, nat_tests)

-- an accepted quote is one of the day's, on a request from 1 on
abbrev pub AcceptOk : DealerRow → DealerVerdict → Type 0
AcceptOk row (verdict.QuoteAccepted name id quote replaced) =
    (1 ≤ quote.request) × ((nat_le 1 quote.number && nat_le quote.number row.quotes) ≡ true)
AcceptOk row other = Unit {0}

-- requests are numbered from the first on
from_first : (test : StandingRequest → Bool) (first : ℕ) (facts : List DealerFact) → 1 ≤ first
    → IfSome (find test (requests_from first facts)) (λ (shown : StandingRequest). 1 ≤ shown.number)
from_first test first [] least = tt
from_first test first (Shown ask moment ∷ later) least =
    cond_both (test (standing_request first ask later)) (Some (standing_request first ask later))
    (find test (requests_from (first + 1) later))
    (λ (found : Option StandingRequest). IfSome found (λ (r : StandingRequest). 1 ≤ r.number))
    (λ is. least) (λ isnt. from_first test (first + 1) later (omega arith))
from_first test first (fact ∷ later) least = from_first test first later least

module _ (row : DealerRow) (facts : List DealerFact) (moment : ℕ) where
  -- the book by these facts
  abbrev book : DealerBook
  book = book_of facts

  quote_accepts : (quote : Quote) (request : Option StandingRequest)
      (refusal : Option QuoteRefusal) → quote_refusal row book moment quote request ≡ refusal
      → IfSome request (λ (shown : StandingRequest). 1 ≤ shown.number)
      → AcceptOk row (quote_answer book moment quote request refusal)
  unfolding quote_refusal
  quote_accepts quote request (Some reason) is least = tt
  quote_accepts quote None None is least = tt
  quote_accepts quote (Some shown) None is least = (
    least,
    next_of_day row.quotes (quotes_accepted book)
        (none_holds (quote_checks row book moment quote (Some shown)) is).1.1.1.1.1.1.1.1.1.1.1.0,
  )

  found_accepts : (id : List ℕ) (own : Option StandingQuote) → AcceptOk row (cancel_of id own)
  found_accepts id None = tt
  found_accepts id (Some own) =
      elim (first_refusal (cancel_checks own))
      as (λ refusal. AcceptOk row (cancel_answer id own refusal)) [ None ↦ tt | Some reason ↦ tt ]

  cancel_accepts : (scope : CancelScope) → AcceptOk row (cancel_verdict book scope)
  unfolding cancel_verdict
  cancel_accepts (cancels.One id) = found_accepts id (quote_with_id book id)
  cancel_accepts (cancels.All id) =
      cond_both (is_none (quote_to_drop book (quotes_accepted book))) _ _ (AcceptOk row) (λ is. tt)
      (λ isnt. tt)
  cancel_accepts (cancels.Other cancel_type id) = tt

  decline_accepts : (name : List ℕ) (request : Option StandingRequest)
      (refusal : Option DeclineRefusal) → AcceptOk row (decline_answer name request refusal)
  decline_accepts name request (Some reason) = tt
  decline_accepts name None None = tt
  decline_accepts name (Some request) None = tt

  arrival_accepts : (came : Arrival DealerMessage)
      → AcceptOk row (arrival_verdict row book moment came)
  unfolding quote_verdict decline_verdict request_named
  arrival_accepts (arrival.Taken (message.Quote quote)) =
      quote_accepts quote (request_named book quote.request) _ refl
      (from_first _ 1 facts (omega arith))
  arrival_accepts (arrival.Taken (message.Cancel cancel)) = cancel_accepts cancel.scope
  arrival_accepts (arrival.Taken (message.Decline decline)) = decline_accepts decline.request _ _
  arrival_accepts other = tt

  pub verdict_accepts : (date : List ℕ) (bytes : List ℕ)
      → AcceptOk row (dealer_verdict date row book moment bytes)
  unfolding dealer_verdict
  verdict_accepts date bytes =
      arrival_accepts (dealer_arrival date row (expected_number book) bytes)
