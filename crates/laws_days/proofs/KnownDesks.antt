-- What stands at an investor's desk, and goes on to stand: which requests and quotes it knows, and
-- that its quotes are numbered.
use Rattle.laws_days.proofs.Common.{Bool, List, None, Option, Some, ℕ, [], ap, arith, eq-eqb}
use Rattle.laws_days.proofs.Common.{false, find, inl, inr, is_some, length, refl, subst, true}
use Rattle.laws_days.proofs.Common.{◌++◌, ◌+◌, ◌==◌, ◌∷◌, ◌≡◌, ◌≤◌, or-false, and_parts}
use Rattle.laws_days.proofs.Common.{cases_Bool, eqb-true, or_cases, append-nil, append_assoc}
use Rattle.laws_days.proofs.Common.{length-append, list_any-append, list_any, Asked, InvestorFact}
use Rattle.laws_days.proofs.Common.{Offered, book_of, knows, offers_of, requests_of, ShownOffer}
use Rattle.laws_days.proofs.Common.{Each, Every, every_both, every_weaker, any_left}
use Rattle.std.proofs.Common.{◌<◌}
use Rattle.std.proofs.lemmas.Bool.{ne_eqb}
use Rattle.investor_desk.specs.InvestorFacts.{knows_quote, offer_numbered, request_numbered}
use Rattle.laws_days.proofs.ListLemmas.{cases_some, find_grown}

-- Requests.

-- whether a fact accepts the request with this number
abbrev pub asks : ℕ → InvestorFact → Bool
asks number (Asked request) = request.number == number
asks number fact = false

-- whether the investor knows the request with this number
abbrev pub asked : List InvestorFact → ℕ → Bool
asked facts number = list_any (asks number) facts

pub asked_is : (number : ℕ) (facts : List InvestorFact)
    → is_some (request_numbered (book_of facts) number) ≡ asked facts number
unfolding request_numbered
asked_is number [] = refl
asked_is number (Asked request ∷ facts) = elim (cases_Bool (request.number == number)) [
  | inl same ↦ rw same refl
  | inr differs ↦ rw differs (asked_is number facts)
]
asked_is number (fact ∷ facts) = asked_is number facts

-- a request that is known, with no quote
pub asked_known : (facts : List InvestorFact) (number : ℕ) → asked facts number ≡ true
    → knows (book_of facts) number None ≡ true
asked_known facts number is = rw (asked_is number facts, is) refl

pub known_asked : (facts : List InvestorFact) (number : ℕ) (quote : Option ℕ)
    → knows (book_of facts) number quote ≡ true → asked facts number ≡ true
known_asked facts number quote is = (and_parts _ _ (rw (asked_is number facts) at is)).0

-- More facts.

pub requests_both : (facts more : List InvestorFact)
    → length (requests_of (facts ++ more))
    ≡ length (requests_of facts) + length (requests_of more)
requests_both [] more = omega arith
requests_both (Asked request ∷ facts) more =
    let later : length (requests_of (facts ++ more))
    ≡ length (requests_of facts) + length (requests_of more) = requests_both facts more in
    omega arith
requests_both (fact ∷ facts) more = requests_both facts more

pub offers_both : (facts more : List InvestorFact)
    → offers_of (facts ++ more) ≡ offers_of facts ++ offers_of more
offers_both [] more = refl
offers_both (Offered shown ∷ facts) more = ap (λ l. shown ∷ l) (offers_both facts more)
offers_both (fact ∷ facts) more = offers_both facts more

module _ (facts more : List InvestorFact) (number : ℕ) where
  quote_grown : (quote : Option ℕ) → knows_quote (book_of facts) number quote ≡ true
      → knows_quote (book_of (facts ++ more)) number quote ≡ true
  unfolding offer_numbered
  quote_grown None is = refl
  quote_grown (Some quote) is =
      elim (cases_some (find (λ (s : ShownOffer). s.number == quote) (offers_of facts))) [
        | inl none ↦ cc (rw none at is)
        | inr some ↦ rw (offers_both facts more, find_grown _ _ (offers_of more) some.0 some.1)
            (rw (some.1) at is)
      ]

  pub knows_grown : (quote : Option ℕ) → knows (book_of facts) number quote ≡ true
      → knows (book_of (facts ++ more)) number quote ≡ true
  knows_grown quote is =
      let parts = and_parts _ _ (rw (asked_is number facts) at is) in
      rw (asked_is number (facts ++ more), any_left (asks number) facts more parts.0)
      (quote_grown quote parts.1)

-- Desks.

-- a quote of which the investor knows that it was shown
abbrev pub IsKnown : List InvestorFact → ShownOffer → Type 0
IsKnown facts s = knows (book_of facts) s.request (Some s.number) ≡ true

-- what stands at an investor's desk that may have these requests: it knows each quote, whose number
-- is not beyond how many there are, and so it is with the numbers of its requests
pub record DeskFit (may : ℕ → Bool) (facts : List InvestorFact) : Type 0 where
  pub known : Every (IsKnown facts) (offers_of facts)
  pub below : Every (λ (s : ShownOffer). s.number ≤ length (offers_of facts)) (offers_of facts)
  pub asked_ok : (number : ℕ) → asked facts number ≡ true
      → (number ≤ length (requests_of facts)) × (may number ≡ true)

pub start_fit : (may : ℕ → Bool) → DeskFit may []
start_fit may = record { known = tt; below = tt; asked_ok = λ number is. cc }

-- a quote with a number beyond those before it is found by it
found_last : (most : ℕ) (offers : List ShownOffer) (shown : ShownOffer)
    → Every (λ (s : ShownOffer). s.number ≤ most) offers → most < shown.number
    → find (λ (s : ShownOffer). s.number == shown.number) (offers ++ shown ∷ []) ≡ Some shown
found_last most [] shown below beyond = rw (eq-eqb shown.number shown.number refl) refl
found_last most (other ∷ offers) shown below beyond =
    rw (ne_eqb other.number shown.number (λ same. omega arith))
    (found_last most offers shown below.1 beyond)

module _ (may : ℕ → Bool) where
  -- a fact that may come: the next request of the day, or the next quote, on a request that is known
  abbrev pub MayCome : List InvestorFact → InvestorFact → List InvestorFact → Type 0
  MayCome facts (Asked request) later =
      (request.number ≡ length (requests_of facts) + 1) × (may request.number ≡ true)
  MayCome facts (Offered shown) later =
      (asked facts shown.request ≡ true) × (shown.number ≡ length (offers_of facts) + 1)
  MayCome facts fact later = Unit {0}

  module _ (facts : List InvestorFact) (fit : DeskFit may facts) (fact : InvestorFact) where
    -- what is to be so of the quote that it shows, and of the request that it accepts
    fit_with : Every (IsKnown (facts ++ fact ∷ [])) (offers_of (fact ∷ []))
        → Every (λ (s : ShownOffer).
        s.number ≤ length (offers_of facts) + length (offers_of (fact ∷ []))) (offers_of (fact ∷ []))
        → ((number : ℕ) → asks number fact ≡ true
        → (number ≤ length (requests_of facts) + length (requests_of (fact ∷ [])))
        × (may number ≡ true))
        → DeskFit may (facts ++ fact ∷ [])
    fit_with known below added = record {
      known = rw (offers_both facts (fact ∷ [])) (every_both (IsKnown (facts ++ fact ∷ [])) _ _
          (every_weaker (IsKnown facts) _
          (λ s is. knows_grown facts (fact ∷ []) s.request (Some s.number) is) _ fit.known) known);
      below = rw (offers_both facts (fact ∷ []), length-append) (every_both _ _ _
          (every_weaker (λ (s : ShownOffer). s.number ≤ length (offers_of facts)) _
          (λ s least. omega arith) _ fit.below) below);
      asked_ok = λ number asks_it. rw (requests_both facts (fact ∷ []))
          (elim (or_cases _ _ (rw (list_any-append, or-false) at asks_it)) [
            | inl before ↦ let stood = fit.asked_ok number before in (omega arith, stood.1)
            | inr now ↦ added number now
          ]);
    }

  fact_fit : (facts : List InvestorFact) → DeskFit may facts → (fact : InvestorFact)
      (later : List InvestorFact) → MayCome facts fact later → DeskFit may (facts ++ fact ∷ [])
  unfolding offer_numbered
  fact_fit facts fit (Asked request) later next =
      fit_with facts fit (Asked request) tt tt (λ number test.
      let same = eqb-true request.number number test in
      (omega arith, rw same at next.1))
  fact_fit facts fit (Offered shown) later next =
      let beyond : length (offers_of facts) < shown.number = omega arith in
      fit_with facts fit (Offered shown) (
        rw (
          asked_is shown.request (facts ++ Offered shown ∷ []),
          any_left (asks shown.request) facts (Offered shown ∷ []) next.0,
          offers_both facts (Offered shown ∷ []),
          found_last (length (offers_of facts)) (offers_of facts) shown fit.below beyond,
        ) (eq-eqb shown.request shown.request refl),
        tt,
      ) (omega arith, tt) (λ number never. cc)
  fact_fit facts fit fact later next = fit_with facts fit fact tt tt (λ number never. cc)

  pub facts_fit : (facts more : List InvestorFact) → DeskFit may facts → Each MayCome facts more
      → DeskFit may (facts ++ more)
  facts_fit facts [] fit each = rw append-nil fit
  facts_fit facts (fact ∷ more) fit each =
      subst (DeskFit may) (append_assoc facts (fact ∷ []) more)
      (facts_fit (facts ++ fact ∷ []) more (fact_fit facts fit fact more each.0) each.1)
