-- What a dealer answers on a request, as it stands at its desk: each withdrawal is of the quote that
-- stands.
use Rattle.std.proofs.Common.{◌≡◌, ◌≤◌, ◌==◌, ◌+◌, ◌&&◌, ℕ, Bool, true, false, List, [], ◌∷◌, ◌++◌}
use Rattle.std.proofs.Common.{filter_map, find, length, Option, Some, None, is_none, option_map, refl, sym, ap}
use Rattle.std.proofs.Common.{◌∙◌, arith, subst, inl, inr}
use Rattle.std.specs.List.{cons_option, list_any}
use Rattle.std.specs.Option.{option_or}
use Rattle.std.proofs.lemmas.Bool.{and_from, and_parts, cases_Bool, eq-eqb, eqb-true, false≢true, or_cases}
use Rattle.std.proofs.lemmas.Bool.{or_parts}
use Rattle.std.proofs.lemmas.List.{append-nil, append_assoc, length-append}
use Rattle.std.proofs.lemmas.List.Elements.{filter_map-append}
use Rattle.std.proofs.lemmas.List.Folds.{list_any-append}
use Rattle.std.proofs.lemmas.Option.{same_Some}
use Rattle.market_terms.specs.declared.asks.Ask.{Ask}
use Rattle.quote_word.specs.declared.settled.Settled.{Settled}
use Rattle.quote_word.specs.declared.settled.Settled.TheVariants as settled
use Rattle.dealer_desk.specs.DealerFacts.{Came, DealerFact, Declined, Dropped, Late, Quoted, Shown, Told}
use Rattle.dealer_desk.specs.DealerFacts.{Withdrawn, book_of, ends, first_said, is_live, is_live_on}
use Rattle.dealer_desk.specs.DealerFacts.{live_number_on, live_quote_on, number_to_drop, quote_to_drop}
use Rattle.dealer_desk.specs.DealerFacts.{standing_quote, standings, tells}
use Rattle.dealer_desk.specs.DealerOutput.{answer_facts, event_facts, settled_facts, uses_number}
use Rattle.dealer_desk.specs.DealerOutput.{verdict_facts}
use Rattle.dealer_desk.specs.DealerRules.{dealer_verdict}
use Rattle.dealer_desk.specs.DeskLaws.{withdraws}
use Rattle.dealer_desk.specs.declared.accepted.AcceptedQuote.{AcceptedQuote}
use Rattle.dealer_desk.specs.declared.standing.QuoteEnd.{QuoteEnd}
use Rattle.dealer_desk.specs.declared.standing.StandingQuote.{StandingQuote}
use Rattle.dealer_desk.specs.declared.standing.Withdrawal.TheVariants as by
use Rattle.dealer_desk.specs.declared.verdicts.DealerVerdict.{DealerVerdict}
use Rattle.dealer_desk.specs.declared.verdicts.DealerVerdict.TheVariants as verdict
use Rattle.venue_steps.specs.Dealers.{Dealer, word_for}
use Rattle.venue_rows.specs.Rows.{Configuration, dealer_numbered}
use Rattle.venue_rows.specs.declared.dealer_rows.DealerRow.{DealerRow}
use Rattle.step_replay.specs.Actions.{answer_to_drop, settlement_of}
use Rattle.step_replay.specs.AuditTrail.{audit_trail}
use Rattle.step_replay.specs.DealerGrowth.{facts_grown}
use Rattle.step_replay.specs.DealerTrail.{DealerEntry, book_by, facts_of, rooms_by}
use Rattle.step_replay.specs.EachLemmas.{every_both, every_weaker}
use Rattle.step_replay.specs.Lists.{Every, In}
use Rattle.step_replay.specs.StepLemmas.{kept_by_all}
use Rattle.step_replay.specs.TrailKept.{IsKept}
use Rattle.step_replay.specs.VenueFacts.{of_dealer}
use Rattle.step_replay.specs.declared.steps.Step.{Step}
use Rattle.laws_shown.proofs.ListLemmas.{AreFrom, from_both, one_with}
use Rattle.laws_shown.proofs.OwnNumbers.{quotes}
use Rattle.laws_shown.proofs.ShownOrder.{accepted_count, quoted_in}
use Rattle.laws_days.proofs.NoticeLemmas.{IsNoticed, noticed_is_kept, start_noticed}
use Rattle.laws_days.proofs.ShownRequests.{shown_in}
use Rattle.laws_rooms.specs.Answered.{Answer, accepts, answer_at, answers_behind}
use Rattle.laws_rooms.proofs.DeskVerdicts.{IsOneOf, LiveQuote, SaysOk, drop_says, found_there, shown_count}
use Rattle.laws_rooms.proofs.DeskVerdicts.{verdict_says}
use Rattle.laws_rooms.proofs.DeskUntold.{OnOpen, verdict_open}
use Rattle.laws_rooms.proofs.TurnLists.{Fit, after_both, fit_both, stands_after}

-- Quotes that stand.

pub quoted_of : (facts : List DealerFact) (standing : StandingQuote) → In standing (standings facts)
    → In standing.quote (quotes facts)
quoted_of [] standing is = absurd is
quoted_of (Quoted quote ∷ facts) standing (inl is) = inl (ap (λ (s : StandingQuote). s.quote) is)
quoted_of (Quoted quote ∷ facts) standing (inr is) = inr (quoted_of facts standing is)
quoted_of (fact ∷ facts) standing is = quoted_of facts standing is

said_none : (says : DealerFact → Option QuoteEnd) (facts more : List DealerFact)
    → is_none (first_said says (facts ++ more)) ≡ true
    → (is_none (first_said says facts) ≡ true) × (is_none (first_said says more) ≡ true)
said_none says [] more is = (refl, is)
said_none says (fact ∷ facts) more is = by_said (says fact) refl (λ none. said_none says facts more none) is
  where
    by_said : (found : Option QuoteEnd) → says fact ≡ found
        → (is_none (first_said says (facts ++ more)) ≡ true
        → (is_none (first_said says facts) ≡ true) × (is_none (first_said says more) ≡ true))
        → is_none (option_or found (first_said says (facts ++ more))) ≡ true
        → (is_none (first_said says (fact ∷ facts)) ≡ true) × (is_none (first_said says more) ≡ true)
    by_said (Some end) said later none = cc
    by_said None said later none = rw said (later none)

-- one that is not ended is not withdrawn
not_withdrawn : (quote : AcceptedQuote) (facts : List DealerFact) → is_none (first_said (ends quote) facts) ≡ true
    → list_any (withdraws quote.number) facts ≡ false
not_withdrawn quote [] none = refl
not_withdrawn quote (Withdrawn number how ∷ facts) none = elim (cases_Bool (number == quote.number)) [
  | inl same ↦ absurd (false≢true (rw same at none))
  | inr differs ↦ rw differs (not_withdrawn quote facts (rw differs at none))
]
not_withdrawn quote (Told request close moment ∷ facts) none = elim (cases_Bool (request == quote.request)) [
  | inl same ↦ absurd (false≢true (rw same at none))
  | inr differs ↦ not_withdrawn quote facts (rw differs at none)
]
not_withdrawn quote (fact ∷ facts) none = not_withdrawn quote facts none

-- nor was the notice of its request told
not_told : (quote : AcceptedQuote) (facts : List DealerFact) → is_none (first_said (ends quote) facts) ≡ true
    → list_any (tells quote.request) facts ≡ false
not_told quote [] none = refl
not_told quote (Withdrawn number how ∷ facts) none = elim (cases_Bool (number == quote.number)) [
  | inl same ↦ absurd (false≢true (rw same at none))
  | inr differs ↦ not_told quote facts (rw differs at none)
]
not_told quote (Told request close moment ∷ facts) none = elim (cases_Bool (request == quote.request)) [
  | inl same ↦ absurd (false≢true (rw same at none))
  | inr differs ↦ rw differs (not_told quote facts (rw differs at none))
]
not_told quote (fact ∷ facts) none = not_told quote facts none

-- one that is live behind more facts was live before, and they neither withdraw it nor tell the notice of
-- its request; or they accept it
data Lives (facts more : List DealerFact) (standing : StandingQuote) : Type 0 where
  stood_before : (was : StandingQuote) → In was (standings facts) → was.quote ≡ standing.quote → is_live was ≡ true
      → list_any (withdraws standing.quote.number) more ≡ false
      → list_any (tells standing.quote.request) more ≡ false → Lives facts more standing
  came_new : In standing.quote (quotes more) → Lives facts more standing

lives : (facts more : List DealerFact) (standing : StandingQuote) → In standing (standings (facts ++ more))
    → is_live standing ≡ true → Lives facts more standing
lives [] more standing is live = came_new (quoted_of more standing is)
lives (Quoted quote ∷ facts) more standing (inl is) live =
    let quote_is : quote ≡ standing.quote = ap (λ (s : StandingQuote). s.quote) is in
    let none : is_none (first_said (ends quote) (facts ++ more)) ≡ true =
    subst (λ (s : StandingQuote). is_live s ≡ true) (sym is) live in
    let parts = said_none (ends quote) facts more none in
    stood_before (standing_quote quote facts) (inl refl) quote_is parts.0
    (subst (λ (q : AcceptedQuote). list_any (withdraws q.number) more ≡ false) quote_is
    (not_withdrawn quote more parts.1))
    (subst (λ (q : AcceptedQuote). list_any (tells q.request) more ≡ false) quote_is
    (not_told quote more parts.1))
lives (Quoted quote ∷ facts) more standing (inr is) live = elim (lives facts more standing is live) [
  | stood_before was there quote_is was_live stays untold ↦
      stood_before was (inr there) quote_is was_live stays untold
  | came_new there ↦ came_new there
]
lives (fact ∷ facts) more standing is live = elim (lives facts more standing is live) [
  | stood_before was there quote_is was_live stays untold ↦
      stood_before was there quote_is was_live stays untold
  | came_new there ↦ came_new there
]

none_found : (test : StandingQuote → Bool) (some : List StandingQuote) → find test some ≡ None
    → (standing : StandingQuote) → In standing some → test standing ≡ true → ⊥
none_found test [] none standing is passes = is
none_found test (first ∷ some) none standing (inl is) passes =
    cc (rw (ap test is ∙ passes) at none)
none_found test (first ∷ some) none standing (inr is) passes = elim (cases_Bool (test first)) [
  | inl found ↦ cc (rw found at none)
  | inr fails ↦ none_found test some (rw fails at none) standing is passes
]

-- Numbers count up.

abbrev pub its_number : AcceptedQuote → ℕ
its_number quote = quote.number

least_from : (first : ℕ) (some : List AcceptedQuote) → AreFrom its_number first some → (quote : AcceptedQuote)
    → In quote some → first ≤ quote.number
least_from first [] from quote is = absurd is
least_from first (other ∷ some) from quote (inl is) =
    let same : quote.number ≡ first = sym (ap its_number is) ∙ from.0 in omega arith
least_from first (other ∷ some) from quote (inr is) =
    let later : first + 1 ≤ quote.number = least_from (first + 1) some from.1 quote is in omega arith

-- what is said of requests: each is one of those that were shown
abbrev pub IsOn : ℕ → DealerFact → Type 0
IsOn count (Quoted quote) = IsOneOf count quote.request
IsOn count (Declined number) = IsOneOf count number
IsOn count fact = Unit {0}

on_more : (count more : ℕ) → count ≤ more → (fact : DealerFact) → IsOn count fact → IsOn more fact
on_more count more least (Quoted quote) is = let most : quote.request ≤ count = is.1 in (is.0, omega arith)
on_more count more least (Declined number) is = let most : number ≤ count = is.1 in (is.0, omega arith)
on_more count more least fact is = tt

cons_both : (found : Option Answer) (some more : List Answer)
    → cons_option found (some ++ more) ≡ cons_option found some ++ more
cons_both None some more = refl
cons_both (Some answer) some more = refl

module _ (config : Configuration) (own : Dealer) (request : ℕ) where
  abbrev word : ℕ → ℕ
  word number = word_for config own number

  abbrev behind : List DealerFact → List DealerFact → List Answer
  behind before facts = answers_behind config own request before facts

  abbrev pub answers : List DealerFact → List Answer
  answers facts = behind [] facts

  -- the word of the quote that stands
  abbrev pub live_word : List DealerFact → Option ℕ
  live_word facts = stands_after None (answers facts)

  pub behind_both : (before facts more : List DealerFact)
      → behind before (facts ++ more) ≡ behind before facts ++ behind (before ++ facts) more
  behind_both before [] more = ap (λ (l : List DealerFact). behind l more) (sym (append-nil before))
  behind_both before (fact ∷ facts) more =
      ap (λ (l : List Answer). cons_option (answer_at config own request before fact) l)
      (behind_both (before ++ fact ∷ []) facts more)
      ∙ cons_both (answer_at config own request before fact) (behind (before ++ fact ∷ []) facts)
      (behind ((before ++ fact ∷ []) ++ facts) more)
      ∙ ap (λ (l : List DealerFact). behind before (fact ∷ facts) ++ behind l more)
      (append_assoc before (fact ∷ []) facts)

  -- what stands at a desk with these facts
  pub record DealerFits (facts : List DealerFact) : Type 0 where
    pub numbers : AreFrom its_number 1 (quotes facts)
    pub known : Every (IsOn (shown_count facts)) facts
    pub fit : Fit None (answers facts)
    pub stands : (standing : StandingQuote) → In standing (standings facts) → is_live_on request standing ≡ true
        → live_word facts ≡ Some (word standing.quote.number)
    pub open_yet : (standing : StandingQuote) → In standing (standings facts)
        → is_live_on request standing ≡ true → list_any (tells request) facts ≡ false

  -- none is live on the request
  abbrev NoneLive : List DealerFact → Type 0
  NoneLive facts = (standing : StandingQuote) → In standing (standings facts) → is_live_on request standing ≡ true → ⊥

  -- the quote with a number was accepted, and is the one that stands if it is on the request
  record Named (facts : List DealerFact) (number : ℕ) : Type 0 where
    pub quote : AcceptedQuote
    pub there : In quote (quotes facts)
    pub number_is : quote.number ≡ number
    pub stands : (quote.request == request) ≡ true → live_word facts ≡ Some (word number)

  -- a fact that may come
  abbrev MayCome : List DealerFact → DealerFact → Type 0
  MayCome facts (Quoted quote) =
      (quote.number ≡ length (quotes facts) + 1) × IsOneOf (shown_count facts) quote.request
      × ((quote.request == request) ≡ true → NoneLive facts)
      × ((quote.request == request) ≡ true → list_any (tells request) facts ≡ false)
  MayCome facts (Withdrawn number by.Cancel) = Named facts number
  MayCome facts (Declined number) = IsOneOf (shown_count facts) number
  MayCome facts fact = Unit {0}

  same_word : (one other : ℕ) → 1 ≤ one → 1 ≤ other → word one ≡ word other → one ≡ other
  same_word one other first second same = omega arith

  -- the quote that a fact accepts under a number
  pub accepted_as : (number : ℕ) (facts : List DealerFact) → list_any (accepts request number) facts ≡ true
      → (quote : AcceptedQuote) × In quote (quotes facts) × (quote.number ≡ number)
      × ((quote.request == request) ≡ true)
  accepted_as number [] is = cc
  accepted_as number (Quoted quote ∷ facts) is =
      elim (or_cases ((quote.number == number) && (quote.request == request))
      (list_any (accepts request number) facts) is) [
        | inl now ↦
            (let parts = and_parts (quote.number == number) (quote.request == request) now in
            (quote, inl refl, eqb-true quote.number number parts.0, parts.1))
        | inr behind_it ↦
            (let later = accepted_as number facts behind_it in (later.0, inr later.1, later.2, later.3))
      ]
  accepted_as number (fact ∷ facts) is = accepted_as number facts is

  module _ (facts : List DealerFact) (fits : DealerFits facts) where
    abbrev now : Option ℕ
    now = live_word facts

    stood : (was standing : StandingQuote) → In was (standings facts) → was.quote ≡ standing.quote
        → is_live was ≡ true → (standing.quote.request == request) ≡ true
        → now ≡ Some (word standing.quote.number)
    stood was standing there quote_is live asked =
        subst (λ (q : AcceptedQuote). now ≡ Some (word q.number)) quote_is
        (fits.stands was there (and_from (is_live was) (was.quote.request == request) live
        (ap (λ (q : AcceptedQuote). q.request == request) quote_is ∙ asked)))

    module _ (fact : DealerFact) where
      abbrev then_facts : List DealerFact
      then_facts = facts ++ fact ∷ []

      abbrev more : List Answer
      more = cons_option (answer_at config own request facts fact) []

      grown : answers then_facts ≡ answers facts ++ more
      grown = behind_both [] facts (fact ∷ [])

      then_word : live_word then_facts ≡ stands_after now more
      then_word = ap (stands_after None) grown ∙ after_both None (answers facts) more

      counted : shown_count then_facts ≡ shown_count facts + shown_count (fact ∷ [])
      counted =
          ap (λ (l : List Ask). length l) (filter_map-append shown_in facts (fact ∷ []))
          ∙ length-append (filter_map shown_in facts) (filter_map shown_in (fact ∷ []))

      with_it : AreFrom its_number (1 + length (quotes facts)) (quotes (fact ∷ []))
          → IsOn (shown_count facts) fact → Fit now more
          → ((standing : StandingQuote) → In standing (standings then_facts) → is_live_on request standing ≡ true
          → stands_after now more ≡ Some (word standing.quote.number))
          → ((quote : AcceptedQuote) → In quote (quotes (fact ∷ [])) → (quote.request == request) ≡ true
          → list_any (tells request) then_facts ≡ false)
          → DealerFits then_facts
      with_it numbers on fit stands new =
          let least : shown_count facts ≤ shown_count then_facts = omega (arith, counted) in
          record {
            numbers = subst (AreFrom its_number 1) (sym (filter_map-append quoted_in facts (fact ∷ [])))
                (from_both its_number 1 (quotes facts) (quotes (fact ∷ [])) fits.numbers numbers);
            known = every_both (IsOn (shown_count then_facts)) facts (fact ∷ [])
                (every_weaker (IsOn (shown_count facts)) (IsOn (shown_count then_facts))
                (on_more (shown_count facts) (shown_count then_facts) least) facts fits.known)
                (on_more (shown_count facts) (shown_count then_facts) least fact on, tt);
            fit = subst (Fit None) (sym grown) (fit_both None (answers facts) more fits.fit fit);
            stands = λ standing there live. then_word ∙ stands standing there live;
            open_yet = λ standing there live.
                let parts = and_parts (is_live standing) (standing.quote.request == request) live in
                elim (lives facts (fact ∷ []) standing there parts.0) [
                  | stood_before was was_there quote_is was_live stays untold ↦
                      (let asked = eqb-true standing.quote.request request parts.1 in
                      list_any-append (tells request) facts (fact ∷ [])
                      ∙ rw (
                        fits.open_yet was was_there
                            (and_from (is_live was) (was.quote.request == request) was_live
                            (ap (λ (q : AcceptedQuote). q.request == request) quote_is ∙ parts.1)),
                        rw asked at untold,
                      ) refl)
                  | came_new it ↦ new standing.quote it parts.1
                ];
          }

      -- one that accepts no quote, and leaves standing what stood
      still : quotes (fact ∷ []) ≡ [] → IsOn (shown_count facts) fact → Fit now more → stands_after now more ≡ now
          → DealerFits then_facts
      still none on fit same =
          with_it (subst (AreFrom its_number (1 + length (quotes facts))) (sym none) tt) on fit
          (λ standing there live.
          let parts = and_parts (is_live standing) (standing.quote.request == request) live in
          elim (lives facts (fact ∷ []) standing there parts.0) [
            | stood_before was was_there quote_is was_live stays untold ↦
                same ∙ stood was standing was_there quote_is was_live parts.1
            | came_new is ↦ absurd (subst (λ (l : List AcceptedQuote). In standing.quote l) none is)
          ])
          (λ quote is asked. absurd (subst (λ (l : List AcceptedQuote). In quote l) none is))

    -- none is live behind one more that accepts none
    none_still : (fact : DealerFact) → quotes (fact ∷ []) ≡ [] → NoneLive facts → NoneLive (facts ++ fact ∷ [])
    none_still fact none before_it standing there live =
        let parts = and_parts (is_live standing) (standing.quote.request == request) live in
        elim (lives facts (fact ∷ []) standing there parts.0) [
          | stood_before was was_there quote_is was_live stays untold ↦ before_it was was_there
              (and_from (is_live was) (was.quote.request == request) was_live
              (ap (λ (q : AcceptedQuote). q.request == request) quote_is ∙ parts.1))
          | came_new is ↦ absurd (subst (λ (l : List AcceptedQuote). In standing.quote l) none is)
        ]

    -- the one that stands is the one with a number: none other is live
    only_it : (number : ℕ) → 1 ≤ number → now ≡ Some (word number) → (was standing : StandingQuote)
        → In was (standings facts) → was.quote ≡ standing.quote → is_live was ≡ true
        → (standing.quote.request == request) ≡ true
        → list_any (withdraws standing.quote.number) (Withdrawn number by.Replacement ∷ []) ≡ false → ⊥
    only_it number least is was standing there quote_is live asked stays =
        let words = same_Some (word number) (word standing.quote.number)
        (sym is ∙ stood was standing there quote_is live asked) in
        let first : 1 ≤ standing.quote.number =
        subst (λ (q : AcceptedQuote). 1 ≤ q.number) quote_is
        (least_from 1 (quotes facts) fits.numbers was.quote (quoted_of facts was there)) in
        let same : (number == standing.quote.number) ≡ true =
        eq-eqb number standing.quote.number (same_word number standing.quote.number least first words) in
        let parts = or_parts (number == standing.quote.number) false stays in
        false≢true (sym parts.0 ∙ same)

    -- where the one that stands is withdrawn none is live
    none_then : (number : ℕ) → 1 ≤ number → now ≡ Some (word number)
        → NoneLive (facts ++ Withdrawn number by.Replacement ∷ [])
    none_then number least is standing there live =
        let parts = and_parts (is_live standing) (standing.quote.request == request) live in
        elim (lives facts (Withdrawn number by.Replacement ∷ []) standing there parts.0) [
          | stood_before was was_there quote_is was_live stays untold ↦
              only_it number least is was standing was_there quote_is was_live parts.1 stays
          | came_new it ↦ absurd it
        ]

    quoted : (quote : AcceptedQuote) → MayCome facts (Quoted quote) → DealerFits (facts ++ Quoted quote ∷ [])
    quoted quote may = elim (cases_Bool (quote.request == request)) [
      | inl same ↦ with_it (Quoted quote) (number, tt) may.1 (rw same tt)
          (λ standing there live.
          let parts = and_parts (is_live standing) (standing.quote.request == request) live in
          elim (lives facts (Quoted quote ∷ []) standing there parts.0) [
            | stood_before was was_there quote_is was_live stays untold ↦ absurd (may.2 same was was_there
                (and_from (is_live was) (was.quote.request == request) was_live
                (ap (λ (q : AcceptedQuote). q.request == request) quote_is ∙ parts.1)))
            | came_new it ↦ elim it [
              | inl is ↦ rw same (ap (λ (q : AcceptedQuote). Some (word q.number)) is)
              | inr none ↦ absurd none
            ]
          ]) open_then
      | inr differs ↦ with_it (Quoted quote) (number, tt) may.1 (rw differs tt)
          (λ standing there live.
          let parts = and_parts (is_live standing) (standing.quote.request == request) live in
          elim (lives facts (Quoted quote ∷ []) standing there parts.0) [
            | stood_before was was_there quote_is was_live stays untold ↦
                rw differs (stood was standing was_there quote_is was_live parts.1)
            | came_new it ↦ elim it [
              | inl is ↦ absurd (false≢true (sym differs
                  ∙ ap (λ (q : AcceptedQuote). q.request == request) is ∙ parts.1))
              | inr none ↦ absurd none
            ]
          ]) open_then
    ]
      where
        number : quote.number ≡ 1 + length (quotes facts)
        number = let its : quote.number ≡ length (quotes facts) + 1 = may.0 in omega arith

        open_then : (other : AcceptedQuote) → In other (quotes (Quoted quote ∷ [])) → (other.request == request) ≡ true
            → list_any (tells request) (facts ++ Quoted quote ∷ []) ≡ false
        open_then other (inr none) asked = absurd none
        open_then other (inl it) asked =
            list_any-append (tells request) facts (Quoted quote ∷ [])
            ∙ rw (may.3 (ap (λ (q : AcceptedQuote). q.request == request) it ∙ asked)) refl

    withdrawn : (number : ℕ) → Named facts number → DealerFits (facts ++ Withdrawn number by.Cancel ∷ [])
    withdrawn number named = elim (cases_Bool (list_any (accepts request number) facts)) [
      | inr none ↦ still (Withdrawn number by.Cancel) refl tt (rw none tt) (rw none refl)
      | inl is ↦
          (let it = accepted_as number facts is in
          let one : it.0 ≡ named.quote = one_with its_number 1 (quotes facts) fits.numbers it.0 named.quote it.1
          named.there (it.2 ∙ sym named.number_is) in
          let asked : (named.quote.request == request) ≡ true =
          ap (λ (q : AcceptedQuote). q.request == request) (sym one) ∙ it.3 in
          let live_is = named.stands asked in
          let least : 1 ≤ number =
          subst (λ (n : ℕ). 1 ≤ n) named.number_is
          (least_from 1 (quotes facts) fits.numbers named.quote named.there) in
          with_it (Withdrawn number by.Cancel) tt tt (rw is (live_is, tt))
          (λ standing there live.
          let parts = and_parts (is_live standing) (standing.quote.request == request) live in
          elim (lives facts (Withdrawn number by.Cancel ∷ []) standing there parts.0) [
            | stood_before was was_there quote_is was_live stays untold ↦
                absurd (only_it number least live_is was standing was_there quote_is was_live parts.1 stays)
            | came_new none ↦ absurd none
          ]) (λ quote none asked. absurd none))
    ]

    declined : (number : ℕ) → IsOneOf (shown_count facts) number → DealerFits (facts ++ Declined number ∷ [])
    declined number shown = elim (cases_Bool (number == request)) [
      | inl same ↦ still (Declined number) refl shown (rw same tt) (rw same refl)
      | inr differs ↦ still (Declined number) refl shown (rw differs tt) (rw differs refl)
    ]

    pushed : (fact : DealerFact) → MayCome facts fact → DealerFits (facts ++ fact ∷ [])
    pushed (Quoted quote) may = quoted quote may
    pushed (Withdrawn number by.Cancel) may = withdrawn number may
    pushed (Withdrawn number by.Replacement) may = still (Withdrawn number by.Replacement) refl tt tt refl
    pushed (Declined number) may = declined number may
    pushed other may = still other refl tt tt refl

  -- An event.

  module _ (facts : List DealerFact) (fits : DealerFits facts) where
    -- a fact that says nothing of quotes and declines
    pub record IsSilent (first : DealerFact) : Type 0 where
      pub untold : answer_at config own request facts first ≡ None
      pub unquoted : quotes (first ∷ []) ≡ []
      pub unshown : filter_map shown_in (first ∷ []) ≡ []
      pub on : IsOn (shown_count facts) first
      pub untells : tells request first ≡ false

    module _ (first : DealerFact) (silent : IsSilent first) where
      abbrev then_first : List DealerFact
      then_first = facts ++ first ∷ []

      fits_first : DealerFits then_first
      fits_first = still facts fits first silent.unquoted silent.on (rw (silent.untold) tt) (rw (silent.untold) refl)

      same_word_first : live_word then_first ≡ live_word facts
      same_word_first = then_word facts fits first ∙ rw (silent.untold) refl

      same_quotes : quotes then_first ≡ quotes facts
      same_quotes =
          filter_map-append quoted_in facts (first ∷ [])
          ∙ ap (λ (l : List AcceptedQuote). quotes facts ++ l) silent.unquoted ∙ append-nil (quotes facts)

      same_shown : shown_count then_first ≡ shown_count facts
      same_shown =
          ap (λ (l : List Ask). length l) (filter_map-append shown_in facts (first ∷ [])
          ∙ ap (λ (l : List Ask). filter_map shown_in facts ++ l) silent.unshown
          ∙ append-nil (filter_map shown_in facts))

      -- a quote that was live
      named : (number on : ℕ) → LiveQuote facts number on → Named then_first number
      named number on it = record {
        quote = it.own.quote;
        there = subst (λ (l : List AcceptedQuote). In it.own.quote l) (sym same_quotes)
            (quoted_of facts it.own it.there);
        number_is = it.number_is;
        stands = λ asked. same_word_first
            ∙ fits.stands it.own it.there (and_from (is_live it.own) (it.own.quote.request == request) it.live asked)
            ∙ ap (λ (n : ℕ). Some (word n)) it.number_is;
      }

      pub answered : (number on : ℕ) → LiveQuote facts number on → (settlement : Option Settled)
          → DealerFits (then_first ++ answer_facts number by.Cancel settlement)
      answered number on it (Some settled.Withdrawn) =
          pushed then_first fits_first (Withdrawn number by.Cancel) (named number on it)
      answered number on it (Some settled.Lifted) = pushed then_first fits_first (Late number) tt
      answered number on it None = subst DealerFits (sym (append-nil then_first)) fits_first

      module _ (quote : AcceptedQuote) (number_is : quote.number ≡ length (standings facts) + 1)
          (shown : IsOneOf (shown_count facts) quote.request)
          (untold : list_any (tells quote.request) facts ≡ false) where
        open_first : (quote.request == request) ≡ true → list_any (tells request) then_first ≡ false
        open_first asked =
            list_any-append (tells request) facts (first ∷ [])
            ∙ rw (rw (eqb-true quote.request request asked) at untold, silent.untells) refl

        next_number : quote.number ≡ length (quotes then_first) + 1
        next_number =
            number_is ∙ ap (λ (n : ℕ). n + 1) (accepted_count facts
            ∙ ap (λ (l : List AcceptedQuote). length l) (sym same_quotes))

        shown_first : IsOneOf (shown_count then_first) quote.request
        shown_first = subst (λ (n : ℕ). IsOneOf n quote.request) (sym same_shown) shown

        fresh : live_number_on (book_of facts) quote.request ≡ None
            → DealerFits (then_first ++ Quoted quote ∷ [])
        unfolding live_quote_on
        fresh none =
            pushed then_first fits_first (Quoted quote) (
              next_number,
              shown_first,
              λ asked.
                  none_still facts fits first silent.unquoted (λ standing there live.
                  none_found (is_live_on quote.request) (standings facts)
                  (unmapped (find (is_live_on quote.request) (standings facts)) none) standing there
                  (subst (λ (n : ℕ). is_live_on n standing ≡ true) (sym (eqb-true quote.request request asked)) live)),
              open_first,
            )
          where
            unmapped : (found : Option StandingQuote)
                → option_map (λ (own : StandingQuote). own.quote.number) found ≡ None → found ≡ None
            unmapped None is = refl
            unmapped (Some standing) is = cc

        module _ (number : ℕ) (replaces : Some number ≡ live_number_on (book_of facts) quote.request) where
          old : LiveQuote facts number quote.request
          unfolding live_quote_on
          old = by_found (find (is_live_on quote.request) (standings facts)) refl replaces
            where
              by_found : (found : Option StandingQuote)
                  → find (is_live_on quote.request) (standings facts) ≡ found
                  → Some number ≡ option_map (λ (own : StandingQuote). own.quote.number) found
                  → LiveQuote facts number quote.request
              by_found None is mapped = cc
              by_found (Some standing) is mapped =
                  let found = found_there (is_live_on quote.request) (standings facts) standing is in
                  let parts = and_parts (is_live standing) (standing.quote.request == quote.request) found.1 in
                  record {
                    own = standing;
                    there = found.0;
                    live = parts.0;
                    number_is = sym (same_Some number standing.quote.number mapped);
                    request_is = eqb-true standing.quote.request quote.request parts.1;
                  }

          abbrev then_old : List DealerFact
          then_old = then_first ++ Withdrawn number by.Replacement ∷ []

          replaced : DealerFits (then_old ++ Quoted quote ∷ [])
          unfolding named old
          replaced =
              let gone = Withdrawn number by.Replacement in
              let it = named number quote.request old in
              let fits_old = pushed then_first fits_first gone tt in
              let quotes_are : quotes then_old ≡ quotes then_first =
              filter_map-append quoted_in then_first (gone ∷ []) ∙ append-nil (quotes then_first) in
              let shown_are : shown_count then_old ≡ shown_count then_first =
              ap (λ (l : List Ask). length l) (filter_map-append shown_in then_first (gone ∷ [])
              ∙ append-nil (filter_map shown_in then_first)) in
              let least : 1 ≤ number =
              subst (λ (n : ℕ). 1 ≤ n) it.number_is
              (least_from 1 (quotes then_first) fits_first.numbers it.quote it.there) in
              pushed then_old fits_old (Quoted quote) (
                next_number ∙ ap (λ (l : List AcceptedQuote). length l + 1) (sym quotes_are),
                subst (λ (n : ℕ). IsOneOf n quote.request) (sym shown_are) shown_first,
                λ asked. none_then then_first fits_first number least (it.stands
                    (ap (λ (n : ℕ). n == request) old.request_is ∙ asked)),
                λ asked. list_any-append (tells request) then_first (gone ∷ []) ∙ rw (open_first asked) refl,
              )

          pub settled_then : (settlement : Option Settled)
              → DealerFits (then_first ++ verdict_facts (verdict.QuoteAccepted [] [] quote (Some number)) settlement)
          settled_then (Some settled.Withdrawn) =
              subst DealerFits (append_assoc then_first (Withdrawn number by.Replacement ∷ []) (Quoted quote ∷ []))
              replaced
          settled_then (Some settled.Lifted) = pushed then_first fits_first (Late number) tt
          settled_then None = subst DealerFits (sym (append-nil then_first)) fits_first

      pub said : (v : DealerVerdict) (settlement : Option Settled) → SaysOk facts v → OnOpen facts v
          → DealerFits (then_first ++ verdict_facts v settlement)
      said (verdict.QuoteAccepted name id quote None) settlement says untold =
          fresh quote says.0 says.1 untold (sym says.2)
      said (verdict.QuoteAccepted name id quote (Some number)) settlement says untold =
          settled_then quote says.0 says.1 untold number says.2 settlement
      said (verdict.CancelAccepted id number on) settlement says untold = answered number on says settlement
      said (verdict.DeclineAccepted name number) settlement says untold =
          pushed then_first fits_first (Declined number)
          (subst (λ (n : ℕ). IsOneOf n number) (sym same_shown) says)
      said other settlement says untold = subst DealerFits (sym (append-nil then_first)) fits_first

      -- a drop
      pub dropped : (last : ℕ) (settlement : Option Settled) → (found : Option StandingQuote)
          → quote_to_drop (book_of facts) last ≡ found
          → DealerFits (then_first ++ settled_facts (option_map (λ (own : StandingQuote). own.quote.number) found)
          by.Cancel settlement)
      dropped last settlement None is = subst DealerFits (sym (append-nil then_first)) fits_first
      dropped last settlement (Some standing) is =
          answered standing.quote.number standing.quote.request (drop_says facts last standing is) settlement

  -- All events.

  abbrev AtDesk : List DealerEntry → Type 0
  AtDesk trail = DealerFits (facts_of trail) × IsNoticed trail

  fits_kept : (date : List ℕ) (row : DealerRow) → IsKept date row AtDesk
  unfolding event_facts
  fits_kept date row = record {
    own = λ trail moment bytes before.
        let facts = facts_of trail in
        let noticed = (noticed_is_kept date row).own trail moment bytes before.1 in
        let v = dealer_verdict date row (book_by trail) moment bytes in
        let came = Came moment bytes (uses_number v) in (
          rw facts_grown (subst DealerFits
              (append_assoc facts (came ∷ []) (verdict_facts v (settlement_of trail v)))
              (said facts before.0 came (record { untold = refl; unquoted = refl; unshown = refl; on = tt; untells = refl }) v
              (settlement_of trail v) (verdict_says facts row moment date bytes)
              (verdict_open facts (rooms_by trail) before.1 row moment date bytes))),
          noticed,
        );
    drop = λ trail last moment before.
        let facts = facts_of trail in
        let first = Dropped last moment in (
          rw facts_grown (subst DealerFits
              (append_assoc facts (first ∷ []) (settled_facts (number_to_drop (book_by trail) last) by.Cancel
              (answer_to_drop trail last)))
              (dropped facts before.0 first
              (record { untold = refl; unquoted = refl; unshown = refl; on = tt; untells = refl }) last
              (answer_to_drop trail last) (quote_to_drop (book_by trail) last) refl)),
          (noticed_is_kept date row).drop trail last moment before.1,
        );
    shown = λ trail room ask moment before. (
      rw facts_grown (pushed (facts_of trail) before.0 (Shown ask moment) tt),
      (noticed_is_kept date row).shown trail room ask moment before.1,
    );
    told = λ trail number close moment may before. (
      rw (facts_grown, may) (pushed (facts_of trail) before.0 (Told number close moment) tt),
      (noticed_is_kept date row).told trail number close moment may before.1,
    );
    lifted = λ trail quote within stays before. (
      rw (filter_map-append, append-nil) before.0,
      (noticed_is_kept date row).lifted trail quote within stays before.1,
    );
  }

  start_fits : DealerFits []
  start_fits = record {
    numbers = tt;
    known = tt;
    fit = tt;
    stands = λ standing there live. absurd there;
    open_yet = λ standing there live. absurd there;
  }

  pub dealer_fits : (dealer : ℕ) (row : DealerRow) → dealer_numbered config dealer ≡ Some row → (steps : List Step)
      → DealerFits (facts_of (of_dealer dealer (audit_trail config steps).facts))
  dealer_fits dealer row is steps =
      (kept_by_all config dealer row is AtDesk (fits_kept config.date row) (start_fits, start_noticed) steps).0
