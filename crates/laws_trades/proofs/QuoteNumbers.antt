-- At a dealer's desk no two quotes have one number, and each is for what its request asks.
use Rattle.laws_days.proofs.Common.{Bool, IfSome, List, None, Option, Some, ℕ, [], arith}
use Rattle.laws_days.proofs.Common.{filter_map, find, inl, inr, is_none, length, refl, subst, suc}
use Rattle.laws_days.proofs.Common.{◌⊎◌, sym, ◌++◌, ◌+◌, ◌-◌, ◌∙◌, ◌∷◌, ◌≡◌, ◌≤◌}
use Rattle.laws_days.proofs.Common.{append-nil, append_assoc, filter_map-append, slice_get, Ask}
use Rattle.laws_days.proofs.Common.{Settled, Configuration, dealer_numbered, DealerRow, DealerFact}
use Rattle.laws_days.proofs.Common.{Came, Dropped, Quoted, Shown, Withdrawn, number_to_drop}
use Rattle.laws_days.proofs.Common.{requests_from, event_facts, settled_facts, verdict_facts}
use Rattle.laws_days.proofs.Common.{uses_number, dealer_verdict, settlement_of, audit_trail}
use Rattle.laws_days.proofs.Common.{facts_grown, book_by, facts_of, Each, In}
use Rattle.laws_days.proofs.Common.{kept_by_all, IsKept, of_dealer, Step, AcceptedQuote}
use Rattle.laws_days.proofs.Common.{StandingQuote, StandingRequest, DealerVerdict}
use Rattle.laws_days.proofs.Common.{answer_to_drop, ap}
use Rattle.market_terms.specs.Checks.{first_refusal}
use Rattle.quote_messages.specs.Arrivals.{dealer_arrival}
use Rattle.quote_messages.specs.declared.arrivals.Arrival.{Arrival}
use Rattle.quote_messages.specs.declared.arrivals.Arrival.TheVariants as arrival
use Rattle.quote_messages.specs.declared.quotes.CancelScope.{CancelScope}
use Rattle.quote_messages.specs.declared.quotes.CancelScope.TheVariants as cancels
use Rattle.quote_messages.specs.declared.quotes.DealerMessage.{DealerMessage}
use Rattle.quote_messages.specs.declared.quotes.DealerMessage.TheVariants as message
use Rattle.quote_messages.specs.declared.quotes.Quote.{Quote}
use Rattle.dealer_desk.specs.declared.refusals.QuoteRefusal.{QuoteRefusal}
use Rattle.dealer_desk.specs.declared.refusals.DeclineRefusal.{DeclineRefusal}
use Rattle.quote_word.specs.declared.settled.Settled.TheVariants as settled
use Rattle.dealer_desk.specs.DealerFacts.{DealerBook, book_of, expected_number}
use Rattle.dealer_desk.specs.DealerFacts.{quote_to_drop, quote_with_id, quotes_accepted}
use Rattle.dealer_desk.specs.DealerFacts.{request_named, standings}
use Rattle.dealer_desk.specs.DealerRules.{arrival_verdict, cancel_answer, cancel_checks, cancel_of}
use Rattle.dealer_desk.specs.DealerRules.{cancel_verdict, decline_answer, decline_verdict}
use Rattle.dealer_desk.specs.DealerRules.{quote_answer, quote_verdict}
use Rattle.dealer_desk.specs.declared.standing.Withdrawal.{Withdrawal}
use Rattle.dealer_desk.specs.declared.standing.Withdrawal.TheVariants as by
use Rattle.dealer_desk.specs.declared.verdicts.DealerVerdict.TheVariants as verdict
use Rattle.std.proofs.lemmas.Bool.{cond_both}
use Rattle.laws_days.proofs.ListLemmas.{in_both, in_one}
use Rattle.laws_days.proofs.ShownRequests.{shown_in}
use Rattle.laws_trades.proofs.TradeLists.{find_in, get_grown}

-- what is asked for in the requests that some facts show, in their order
abbrev pub asks_in : List DealerFact → List Ask
asks_in facts = filter_map shown_in facts

-- a quote is for what its request asks
pub record IsFor (facts : List DealerFact) (quote : AcceptedQuote) : Type 0 where
  pub ask : Ask
  pub there : slice_get (asks_in facts) (quote.request - 1) ≡ Some ask
  pub bond : quote.bond ≡ ask.bond
  pub side : quote.side ≡ ask.side
  pub quantity : quote.quantity ≡ ask.quantity

-- the quotes of a desk
pub record QuotesFit (facts : List DealerFact) : Type 0 where
  pub below : (one : AcceptedQuote) → In (Quoted one) facts → one.number ≤ length (standings facts)
  pub alone : (one other : AcceptedQuote) → In (Quoted one) facts → In (Quoted other) facts
      → one.number ≡ other.number → one ≡ other
  pub are_for : (one : AcceptedQuote) → In (Quoted one) facts → IsFor facts one

pub for_grown : (facts more : List DealerFact) (quote : AcceptedQuote) → IsFor facts quote
    → IsFor (facts ++ more) quote
for_grown facts more quote is = record {
  ask = is.ask;
  there = rw filter_map-append (get_grown (asks_in facts) (asks_in more) _ is.ask is.there);
  bond = is.bond;
  side = is.side;
  quantity = is.quantity;
}

standings_both : (facts more : List DealerFact)
    → length (standings (facts ++ more)) ≡ length (standings facts) + length (standings more)
standings_both [] more = omega arith
standings_both (Quoted quote ∷ facts) more =
    let later : length (standings (facts ++ more))
    ≡ length (standings facts) + length (standings more) = standings_both facts more in
    omega arith
standings_both (fact ∷ facts) more = standings_both facts more

-- the next quote
pub record NextQuote (facts : List DealerFact) (quote : AcceptedQuote) : Type 0 where
  pub number_is : quote.number ≡ length (standings facts) + 1
  pub is_for : IsFor facts quote

abbrev MayStand : List DealerFact → DealerFact → List DealerFact → Type 0
MayStand facts (Quoted quote) later = NextQuote facts quote
MayStand facts fact later = Unit {0}

-- One fact more.

module _ (facts : List DealerFact) (fit : QuotesFit facts) where
  other_fit : (fact : DealerFact) → ((quote : AcceptedQuote) → fact ≡ Quoted quote → ⊥)
      → QuotesFit (facts ++ fact ∷ [])
  other_fit fact never = record {
    below = λ one is.
        let least : one.number ≤ length (standings facts) = fit.below one (before one is) in
        let both : length (standings (facts ++ fact ∷ []))
        ≡ length (standings facts) + length (standings (fact ∷ [])) =
        standings_both facts (fact ∷ []) in
        omega arith;
    alone = λ one other is also. fit.alone one other (before one is) (before other also);
    are_for = λ one is. for_grown facts (fact ∷ []) one (fit.are_for one (before one is));
  }
    where
      before : (one : AcceptedQuote) → In (Quoted one) (facts ++ fact ∷ []) → In (Quoted one) facts
      before one is = elim (in_both (Quoted one) facts (fact ∷ []) is) [
        | inl there ↦ there
        | inr here ↦ absurd (never one (in_one (Quoted one) fact here))
      ]

  next_fit : (quote : AcceptedQuote) → NextQuote facts quote
      → QuotesFit (facts ++ Quoted quote ∷ [])
  next_fit quote next = record {
    below = λ one is.
        let both : length (standings (facts ++ Quoted quote ∷ []))
        ≡ length (standings facts) + 1 = standings_both facts (Quoted quote ∷ []) in
        let number : quote.number ≡ length (standings facts) + 1 = next.number_is in
        elim (where_is one is) [
          | inl there ↦
              let least : one.number ≤ length (standings facts) = fit.below one there in omega arith
          | inr here ↦ rw (← here) (omega arith)
        ];
    alone = λ one other is also same.
        let number : quote.number ≡ length (standings facts) + 1 = next.number_is in
        elim (where_is one is) [
          | inl there ↦ elim (where_is other also) [
            | inl there_too ↦ fit.alone one other there there_too same
            | inr here_too ↦
                let least : one.number ≤ length (standings facts) = fit.below one there in
                let its : quote.number ≡ other.number = ap (λ (q : AcceptedQuote). q.number) here_too in
                absurd (omega arith)
          ]
          | inr here ↦ elim (where_is other also) [
            | inl there_too ↦
                let least : other.number ≤ length (standings facts) = fit.below other there_too in
                let its : quote.number ≡ one.number = ap (λ (q : AcceptedQuote). q.number) here in
                absurd (omega arith)
            | inr here_too ↦ sym here ∙ here_too
          ]
        ];
    are_for = λ one is. for_grown facts (Quoted quote ∷ []) one (elim (where_is one is) [
      | inl there ↦ fit.are_for one there
      | inr here ↦ subst (IsFor facts) here next.is_for
    ]);
  }
    where
      same_quote : (one other : AcceptedQuote) → Quoted one ≡ Quoted other → one ≡ other
      same_quote one other is = cc

      where_is : (one : AcceptedQuote) → In (Quoted one) (facts ++ Quoted quote ∷ [])
          → In (Quoted one) facts ⊎ (quote ≡ one)
      where_is one is = elim (in_both (Quoted one) facts (Quoted quote ∷ []) is) [
        | inl there ↦ inl there
        | inr here ↦ inr (same_quote quote one (in_one (Quoted one) (Quoted quote) here))
      ]

fact_fit : (facts : List DealerFact) → QuotesFit facts → (fact : DealerFact)
    (later : List DealerFact) → MayStand facts fact later → QuotesFit (facts ++ fact ∷ [])
fact_fit facts fit (Quoted quote) later next = next_fit facts fit quote next
fact_fit facts fit fact later next = other_fit facts fit fact (λ quote is. cc)

facts_fit : (facts more : List DealerFact) → QuotesFit facts → Each MayStand facts more
    → QuotesFit (facts ++ more)
facts_fit facts [] fit each = rw append-nil fit
facts_fit facts (fact ∷ more) fit each =
    subst QuotesFit (append_assoc facts (fact ∷ []) more)
    (facts_fit (facts ++ fact ∷ []) more (fact_fit facts fit fact more each.0) each.1)

-- What a verdict accepts.

next_still : (facts : List DealerFact) (fact : DealerFact) (quote : AcceptedQuote)
    → length (standings (fact ∷ [])) ≡ 0 → NextQuote facts quote
    → NextQuote (facts ++ fact ∷ []) quote
next_still facts fact quote none next =
    let both : length (standings (facts ++ fact ∷ []))
    ≡ length (standings facts) + length (standings (fact ∷ [])) =
    standings_both facts (fact ∷ []) in
    let number : quote.number ≡ length (standings facts) + 1 = next.number_is in
    record {
      number_is = omega arith;
      is_for = for_grown facts (fact ∷ []) quote next.is_for;
    }

abbrev NextIn : List DealerFact → DealerVerdict → Type 0
NextIn facts (verdict.QuoteAccepted name id quote replaced) = NextQuote facts quote
NextIn facts other = Unit {0}

-- a request that was shown asks for what stands at its place
pub request_at : (first : ℕ) (facts : List DealerFact) (shown : StandingRequest)
    → In shown (requests_from first facts)
    → (place : ℕ) × (shown.number ≡ first + place)
    × (slice_get (asks_in facts) place ≡ Some shown.ask)
request_at first [] shown is = absurd is
request_at first (Shown ask moment ∷ facts) shown (inl is) = (
  0,
  let number = ap (λ (r : StandingRequest). r.number) is in omega arith,
  ap (λ (r : StandingRequest). Some r.ask) is,
)
request_at first (Shown ask moment ∷ facts) shown (inr is) =
    let later = request_at (first + 1) facts shown is in
    (suc later.0, omega arith, later.2)
request_at first (fact ∷ facts) shown is = request_at first facts shown is

module _ (row : DealerRow) (facts : List DealerFact) (moment : ℕ) where
  abbrev book : DealerBook
  book = book_of facts

  quote_next : (quote : Quote) (request : Option StandingRequest)
      (refusal : Option QuoteRefusal)
      → IfSome request (λ (shown : StandingRequest). In shown (requests_from 1 facts))
      → NextIn facts (quote_answer book moment quote request refusal)
  quote_next quote request (Some reason) is = tt
  quote_next quote None None is = tt
  quote_next quote (Some shown) None is =
      let at = request_at 1 facts shown is in
      let place : shown.number - 1 ≡ at.0 = omega (arith, at.1) in
      record {
        number_is = refl;
        is_for = record {
          ask = shown.ask;
          there = ap (slice_get (asks_in facts)) place ∙ at.2;
          bond = refl;
          side = refl;
          quantity = refl;
        };
      }

  found_next : (id : List ℕ) (own : Option StandingQuote) → NextIn facts (cancel_of id own)
  found_next id None = tt
  found_next id (Some own) =
      elim (first_refusal (cancel_checks own))
      as (λ refusal. NextIn facts (cancel_answer id own refusal)) [ None ↦ tt | Some reason ↦ tt ]

  cancel_next : (scope : CancelScope) → NextIn facts (cancel_verdict book scope)
  unfolding cancel_verdict
  cancel_next (cancels.One id) = found_next id (quote_with_id book id)
  cancel_next (cancels.All id) =
      cond_both (is_none (quote_to_drop book (quotes_accepted book))) _ _ (NextIn facts) (λ is. tt)
      (λ isnt. tt)
  cancel_next (cancels.Other cancel_type id) = tt

  decline_next : (name : List ℕ) (request : Option StandingRequest)
      (refusal : Option DeclineRefusal) → NextIn facts (decline_answer name request refusal)
  decline_next name request (Some reason) = tt
  decline_next name None None = tt
  decline_next name (Some request) None = tt

  found_request : (test : StandingRequest → Bool)
      → IfSome (find test (requests_from 1 facts))
      (λ (shown : StandingRequest). In shown (requests_from 1 facts))
  found_request test = by_found (find test (requests_from 1 facts)) refl
    where
      by_found : (found : Option StandingRequest) → find test (requests_from 1 facts) ≡ found
          → IfSome found (λ (shown : StandingRequest). In shown (requests_from 1 facts))
      by_found None is = tt
      by_found (Some shown) is = find_in test (requests_from 1 facts) shown is

  arrival_next : (came : Arrival DealerMessage)
      → NextIn facts (arrival_verdict row book moment came)
  unfolding quote_verdict decline_verdict request_named
  arrival_next (arrival.Taken (message.Quote quote)) = quote_next quote _ _ (found_request _)
  arrival_next (arrival.Taken (message.Cancel cancel)) = cancel_next cancel.scope
  arrival_next (arrival.Taken (message.Decline decline)) = decline_next decline.request _ _
  arrival_next other = tt

  verdict_next : (date : List ℕ) (bytes : List ℕ)
      → NextIn facts (dealer_verdict date row book moment bytes)
  unfolding dealer_verdict
  verdict_next date bytes = arrival_next (dealer_arrival date row (expected_number book) bytes)

-- What comes to a desk.

settled_stand : (facts : List DealerFact) (asked : Option ℕ) (how : Withdrawal)
    (settlement : Option Settled) → Each MayStand facts (settled_facts asked how settlement)
settled_stand facts None how settlement = tt
settled_stand facts (Some quote) how None = tt
settled_stand facts (Some quote) how (Some settled.Withdrawn) = (tt, tt)
settled_stand facts (Some quote) how (Some settled.Lifted) = (tt, tt)

verdict_stands : (facts : List DealerFact) (moment : ℕ) (bytes : List ℕ) (used : Bool)
    (v : DealerVerdict) (settlement : Option Settled) → NextIn facts v
    → Each MayStand facts (Came moment bytes used ∷ verdict_facts v settlement)
verdict_stands facts moment bytes used (verdict.QuoteAccepted name id quote None) settlement next =
    (tt, (next_still facts (Came moment bytes used) quote refl next, tt))
verdict_stands facts moment bytes used (verdict.QuoteAccepted name id quote (Some old)) None next =
    (tt, tt)
verdict_stands facts moment bytes used (verdict.QuoteAccepted name id quote (Some old))
    (Some settled.Lifted) next = (tt, (tt, tt))
verdict_stands facts moment bytes used (verdict.QuoteAccepted name id quote (Some old))
    (Some settled.Withdrawn) next = (
      tt,
      (
        tt,
        (
          next_still (facts ++ Came moment bytes used ∷ []) (Withdrawn old by.Replacement) quote refl
              (next_still facts (Came moment bytes used) quote refl next),
          tt,
        ),
      ),
    )
verdict_stands facts moment bytes used (verdict.CancelAccepted id quote request) settlement next =
    (tt, settled_stand (facts ++ Came moment bytes used ∷ []) (Some quote) by.Cancel settlement)
verdict_stands facts moment bytes used (verdict.DeclineAccepted request number) settlement next =
    (tt, (tt, tt))
verdict_stands facts moment bytes used other settlement next = (tt, tt)

quotes_are_kept : (date : List ℕ) (row : DealerRow)
    → IsKept date row (λ trail. QuotesFit (facts_of trail))
unfolding event_facts
quotes_are_kept date row = record {
  own = λ trail moment bytes before.
      let v = dealer_verdict date row (book_by trail) moment bytes in
      rw facts_grown (facts_fit (facts_of trail) _ before
      (verdict_stands (facts_of trail) moment bytes (uses_number v) v (settlement_of trail v)
      (verdict_next row (facts_of trail) moment date bytes)));
  drop = λ trail last moment before.
      rw facts_grown (facts_fit (facts_of trail) _ before (
        tt,
        settled_stand (facts_of trail ++ Dropped last moment ∷ [])
            (number_to_drop (book_by trail) last) by.Cancel (answer_to_drop trail last),
      ));
  shown = λ trail room ask moment before. rw facts_grown (facts_fit (facts_of trail) _ before (tt, tt));
  told = λ trail request close moment may before.
      rw (facts_grown, may) (facts_fit (facts_of trail) _ before (tt, tt));
  lifted = λ trail quote within stays before. rw (filter_map-append, append-nil) before;
}

pub quotes_fit : (config : Configuration) (steps : List Step) (dealer : ℕ) (row : DealerRow)
    → dealer_numbered config dealer ≡ Some row
    → QuotesFit (facts_of (of_dealer dealer (audit_trail config steps).facts))
quotes_fit config steps dealer row is =
    kept_by_all config dealer row is (λ trail. QuotesFit (facts_of trail))
    (quotes_are_kept config.date row) (record {
      below = λ one is. absurd is;
      alone = λ one other is. absurd is;
      are_for = λ one is. absurd is;
    }) steps
