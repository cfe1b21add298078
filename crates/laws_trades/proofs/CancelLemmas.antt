-- The quotes of a desk that may be dropped: each drop takes the first of them out.
use Rattle.std.proofs.Common.{◌≡◌, ◌<◌, ◌≤◌, ◌==◌, ◌+◌, ◌&&◌, ◌||◌, ℕ, Bool, true, false, List, [], ◌∷◌, ◌++◌}
use Rattle.std.proofs.Common.{map, filter, find, length, suc, Option, Some, None, is_none, refl, sym, ap, ◌∙◌}
use Rattle.std.proofs.Common.{arith, nat_le, inl, inr, if◌then◌else◌}
use Rattle.std.specs.List.{list_any}
use Rattle.std.specs.Option.{option_or}
use Rattle.std.proofs.lemmas.Bool.{cases_Bool}
use Rattle.std.proofs.lemmas.Bool.Decides.{nat_tests}
use Rattle.std.proofs.lemmas.List.{append-nil, append_assoc}
use Rattle.std.proofs.lemmas.List.Elements.{filter_map-append}
use Rattle.std.proofs.Math.Bool.{or-false}
use Rattle.quote_word.specs.declared.settled.Settled.{Settled}
use Rattle.quote_word.specs.declared.settled.Settled.TheVariants as settled
use Rattle.venue_rows.specs.Rows.{Configuration, dealer_numbered}
use Rattle.venue_rows.specs.declared.dealer_rows.DealerRow.{DealerRow}
use Rattle.dealer_desk.specs.BookChanges.{quote_added, quote_after}
use Rattle.dealer_desk.specs.DealerFacts.{Came, DealerFact, Dropped, Late, Quoted, Withdrawn, ends}
use Rattle.dealer_desk.specs.DealerFacts.{finds_lifted, first_said, is_droppable, number_to_drop}
use Rattle.dealer_desk.specs.DealerFacts.{standing_quote, standings}
use Rattle.dealer_desk.specs.DealerOutput.{answer_facts, event_facts, goes_through, settled_facts}
use Rattle.dealer_desk.specs.DealerOutput.{verdict_facts}
use Rattle.dealer_desk.specs.DealerRules.{dealer_verdict}
use Rattle.dealer_desk.specs.declared.accepted.AcceptedQuote.{AcceptedQuote}
use Rattle.dealer_desk.specs.declared.standing.QuoteEnd.{QuoteEnd}
use Rattle.dealer_desk.specs.declared.standing.StandingQuote.{StandingQuote}
use Rattle.dealer_desk.specs.declared.standing.Withdrawal.{Withdrawal}
use Rattle.dealer_desk.specs.declared.standing.Withdrawal.TheVariants as by_way
use Rattle.dealer_desk.specs.declared.verdicts.DealerVerdict.{DealerVerdict}
use Rattle.dealer_desk.specs.declared.verdicts.DealerVerdict.TheVariants as verdict
use Rattle.step_replay.specs.Actions.{answer_to_drop, settlement_of}
use Rattle.step_replay.specs.AuditTrail.{audit_trail}
use Rattle.step_replay.specs.DealerGrowth.{facts_grown}
use Rattle.step_replay.specs.DealerTrail.{DealerEntry, book_by, facts_of}
use Rattle.step_replay.specs.StepLemmas.{kept_by_all}
use Rattle.step_replay.specs.TrailKept.{IsKept}
use Rattle.step_replay.specs.VenueFacts.{of_dealer}
use Rattle.step_replay.specs.declared.steps.Step.{Step}
use Rattle.quote_messages.specs.Written.{written}
use Rattle.laws_trades.specs.Cancels.{report_on, reports}
use Rattle.laws_shown.proofs.AcceptedQuotes.{AcceptOk, verdict_accepts}
use Rattle.laws_shown.proofs.ListLemmas.{AreFrom, from_both}
use Rattle.laws_shown.proofs.OwnNumbers.{answers_quote, quotes, settled_quote}
use Rattle.laws_shown.proofs.ShownOrder.{accepted_count, quoted_in}

-- One fact more.

or_assoc : (a b c : Bool) → (a || (b || c)) ≡ ((a || b) || c)
or_assoc true b c = refl
or_assoc false b c = refl

any_push : {A : Type 0} (p : A → Bool) (xs : List A) (x : A)
    → list_any p (xs ++ x ∷ []) ≡ (list_any p xs || p x)
any_push p [] x = or-false (p x)
any_push p (y ∷ xs) x = ap (λ (b : Bool). p y || b) (any_push p xs x) ∙ or_assoc (p y) (list_any p xs) (p x)

or_none : (a : Option QuoteEnd) → option_or a None ≡ a
or_none None = refl
or_none (Some end) = refl

or_else : (a b c : Option QuoteEnd) → option_or a (option_or b c) ≡ option_or (option_or a b) c
or_else None b c = refl
or_else (Some end) b c = refl

said_push : (says : DealerFact → Option QuoteEnd) (facts : List DealerFact) (fact : DealerFact)
    → first_said says (facts ++ fact ∷ []) ≡ option_or (first_said says facts) (says fact)
said_push says [] fact = or_none (says fact)
said_push says (first ∷ facts) fact =
    ap (λ (o : Option QuoteEnd). option_or (says first) o) (said_push says facts fact)
    ∙ or_else (says first) (first_said says facts) (says fact)

abbrev standing_as : AcceptedQuote → Bool → Option QuoteEnd → StandingQuote
standing_as quote lifted end = record { quote = quote; is_known_lifted = lifted; end = end }

quote_push : (quote : AcceptedQuote) (facts : List DealerFact) (fact : DealerFact)
    → standing_quote quote (facts ++ fact ∷ []) ≡ quote_after fact (standing_quote quote facts)
quote_push quote facts fact =
    ap (λ (b : Bool). standing_as quote b (first_said (ends quote) (facts ++ fact ∷ [])))
    (any_push (finds_lifted quote.number) facts fact)
    ∙ ap (λ (e : Option QuoteEnd).
    standing_as quote (list_any (finds_lifted quote.number) facts || finds_lifted quote.number fact) e)
    (said_push (ends quote) facts fact)

quotes_push : (facts : List DealerFact) (fact : DealerFact)
    → standings (facts ++ fact ∷ []) ≡ map (quote_after fact) (standings facts) ++ quote_added fact
quotes_push [] (Quoted quote) = refl
quotes_push [] fact = refl
quotes_push (Quoted quote ∷ facts) fact =
    ap (λ (q : StandingQuote). q ∷ standings (facts ++ fact ∷ [])) (quote_push quote facts fact)
    ∙ ap (λ (l : List StandingQuote). quote_after fact (standing_quote quote facts) ∷ l) (quotes_push facts fact)
quotes_push (first ∷ facts) fact = quotes_push facts fact

map_same : (f : StandingQuote → StandingQuote) → ((own : StandingQuote) → f own ≡ own)
    → (owns : List StandingQuote) → map f owns ≡ owns
map_same f same [] = refl
map_same f same (own ∷ owns) =
    ap (λ (q : StandingQuote). q ∷ map f owns) (same own)
    ∙ ap (λ (l : List StandingQuote). own ∷ l) (map_same f same owns)

-- a fact that says nothing of quotes
as_it_was : (own : StandingQuote)
    → standing_as own.quote (own.is_known_lifted || false) (option_or own.end None) ≡ own
as_it_was own =
    ap (λ (b : Bool). standing_as own.quote b (option_or own.end None)) (or-false own.is_known_lifted)
    ∙ ap (λ (e : Option QuoteEnd). standing_as own.quote own.is_known_lifted e) (or_none own.end)

pub came_same : (facts : List DealerFact) (moment : ℕ) (bytes : List ℕ) (used : Bool)
    → standings (facts ++ Came moment bytes used ∷ []) ≡ standings facts
came_same facts moment bytes used =
    quotes_push facts (Came moment bytes used) ∙ append-nil (map (quote_after (Came moment bytes used)) (standings facts))
    ∙ map_same (quote_after (Came moment bytes used)) as_it_was (standings facts)

pub dropped_same : (facts : List DealerFact) (last moment : ℕ)
    → standings (facts ++ Dropped last moment ∷ []) ≡ standings facts
dropped_same facts last moment =
    quotes_push facts (Dropped last moment) ∙ append-nil (map (quote_after (Dropped last moment)) (standings facts))
    ∙ map_same (quote_after (Dropped last moment)) as_it_was (standings facts)

-- A fact that takes out the quote with a number.

pub record Takes (number : ℕ) (fact : DealerFact) : Type 0 where
  pub adds : quote_added fact ≡ []
  pub others : (own : StandingQuote) → (number == own.quote.number) ≡ false → quote_after fact own ≡ own
  pub this : (own : StandingQuote) → (number == own.quote.number) ≡ true
      → is_droppable (quote_after fact own) ≡ false

or_some : (end : Option QuoteEnd) (how : QuoteEnd) → is_none (option_or end (Some how)) ≡ false
or_some None how = refl
or_some (Some other) how = refl

or_true : (b : Bool) → (b || true) ≡ true
or_true true = refl
or_true false = refl

and_false : (b : Bool) → (b && false) ≡ false
and_false true = refl
and_false false = refl

withdrawn_takes : (number : ℕ) (how : Withdrawal) → Takes number (Withdrawn number how)
withdrawn_takes number how = record {
  adds = refl;
  others = λ own differs. rw differs (as_it_was own);
  this = λ own same. rw (same, or_some own.end) refl;
}

late_takes : (number : ℕ) → Takes number (Late number)
late_takes number = record {
  adds = refl;
  others = λ own differs. rw differs (as_it_was own);
  this = λ own same. rw (same, or_true own.is_known_lifted) (and_false (is_none (option_or own.end None)));
}

-- Numbers count up.

abbrev pub number_at : StandingQuote → ℕ
number_at own = own.quote.number

abbrev number_quoted : AcceptedQuote → ℕ
number_quoted quote = quote.number

quotes_of : (facts : List DealerFact) (first : ℕ) → AreFrom number_quoted first (quotes facts)
    → AreFrom number_at first (standings facts)
quotes_of [] first from = tt
quotes_of (Quoted quote ∷ facts) first from = (from.0, quotes_of facts (first + 1) from.1)
quotes_of (fact ∷ facts) first from = quotes_of facts first from

-- what may be dropped up to a number
abbrev pub may_drop : ℕ → StandingQuote → Bool
may_drop last own = is_droppable own && nat_le own.quote.number last

module _ (last : ℕ) where
  pub up_to : (first : ℕ) (owns : List StandingQuote) → AreFrom number_at first owns
      → first + length owns ≤ last + 1 → filter (may_drop last) owns ≡ filter is_droppable owns
  up_to first [] from few = refl
  up_to first (own ∷ owns) from few =
      let number : own.quote.number ≡ first = from.0 in
      let within : nat_le own.quote.number last ≡ true = grind (arith, nat_tests) in
      let rest : first + 1 + length owns ≤ last + 1 = omega arith in
      let later = up_to (first + 1) owns from.1 rest in
      rw within (by_test (is_droppable own) later)
    where
      by_test : (b : Bool) → filter (may_drop last) owns ≡ filter is_droppable owns
          → (if b && true then own ∷ filter (may_drop last) owns else filter (may_drop last) owns)
          ≡ (if b then own ∷ filter is_droppable owns else filter is_droppable owns)
      by_test true later = ap (λ (l : List StandingQuote). own ∷ l) later
      by_test false later = later

  pub found_first : (owns : List StandingQuote) (own : StandingQuote) (rest : List StandingQuote)
      → filter (may_drop last) owns ≡ own ∷ rest → find (may_drop last) owns ≡ Some own
  found_first [] own rest is = cc
  found_first (one ∷ owns) own rest is = elim (cases_Bool (may_drop last one)) [
    | inl test ↦ rw test (cc_head one own (filter (may_drop last) owns) rest (rw test at is))
    | inr fails ↦ rw fails (found_first owns own rest (rw fails at is))
  ]
    where
      cc_head : (a b : StandingQuote) (xs ys : List StandingQuote) → a ∷ xs ≡ b ∷ ys → Some a ≡ Some b
      cc_head a b xs ys same = cc

  pub found_none : (owns : List StandingQuote) → filter (may_drop last) owns ≡ []
      → find (may_drop last) owns ≡ None
  found_none [] is = refl
  found_none (one ∷ owns) is = elim (cases_Bool (may_drop last one)) [
    | inl test ↦ absurd (not_both one (filter (may_drop last) owns) (rw test at is))
    | inr fails ↦ rw fails (found_none owns (rw fails at is))
  ]
    where
      not_both : (a : StandingQuote) (xs : List StandingQuote) → a ∷ xs ≡ [] → ⊥
      not_both a xs same = cc

  module _ (number : ℕ) (fact : DealerFact) (takes : Takes number fact) where
    later_same : (first : ℕ) (owns : List StandingQuote) → AreFrom number_at first owns → number < first
        → map (quote_after fact) owns ≡ owns
    later_same first [] from above = refl
    later_same first (own ∷ owns) from above =
        let its : own.quote.number ≡ first = from.0 in
        let differs : (number == own.quote.number) ≡ false = grind (arith, nat_tests) in
        let next : number < first + 1 = omega arith in
        ap (λ (q : StandingQuote). q ∷ map (quote_after fact) owns) (takes.others own differs)
        ∙ ap (λ (l : List StandingQuote). own ∷ l) (later_same (first + 1) owns from.1 next)

    -- the first of those that may be dropped is the one with this number: the others are left
    pub takes_first : (first : ℕ) (owns : List StandingQuote) → AreFrom number_at first owns
        → (own : StandingQuote) (rest : List StandingQuote) → filter (may_drop last) owns ≡ own ∷ rest
        → own.quote.number ≡ number
        → filter (may_drop last) (map (quote_after fact) owns) ≡ rest
    takes_first first [] from own rest is same = cc
    takes_first first (one ∷ owns) from own rest is same = elim (cases_Bool (may_drop last one)) [
      | inl test ↦
          (let parts = heads one own (filter (may_drop last) owns) rest (rw test at is) in
          let its : one.quote.number ≡ first = from.0 in
          let own_its : one.quote.number ≡ number = ap (λ (q : StandingQuote). q.quote.number) parts.0 ∙ same in
          let found : (number == one.quote.number) ≡ true = grind (arith, nat_tests) in
          let above : number < first + 1 = omega arith in
          rw (takes.this one found)
          (ap (filter (may_drop last)) (later_same (first + 1) owns from.1 above) ∙ parts.1))
      | inr fails ↦
          (let its : one.quote.number ≡ first = from.0 in
          let later : filter (may_drop last) owns ≡ own ∷ rest = rw fails at is in
          let least : first + 1 ≤ own.quote.number = above_first (first + 1) owns from.1 own rest later in
          let number_is : own.quote.number ≡ number = same in
          let differs : (number == one.quote.number) ≡ false = grind (arith, nat_tests) in
          let stays : may_drop last (quote_after fact one) ≡ false =
          ap (may_drop last) (takes.others one differs) ∙ fails in
          rw stays (takes_first (first + 1) owns from.1 own rest later same))
    ]
      where
        heads : (a b : StandingQuote) (xs ys : List StandingQuote) → a ∷ xs ≡ b ∷ ys → (a ≡ b) × (xs ≡ ys)
        heads a b xs ys joined = (ap (first_or a) joined, ap behind joined)
          where
            first_or : StandingQuote → List StandingQuote → StandingQuote
            first_or other [] = other
            first_or other (x ∷ zs) = x

            behind : List StandingQuote → List StandingQuote
            behind [] = []
            behind (x ∷ zs) = zs

        above_first : (least : ℕ) (some : List StandingQuote) → AreFrom number_at least some
            → (it : StandingQuote) (ys : List StandingQuote) → filter (may_drop last) some ≡ it ∷ ys
            → least ≤ it.quote.number
        above_first least [] counts it ys at_it = cc
        above_first least (x ∷ some) counts it ys at_it = elim (cases_Bool (may_drop last x)) [
          | inl test ↦
              (let one_is = (heads x it (filter (may_drop last) some) ys (rw test at at_it)).0 in
              let number_is : x.quote.number ≡ it.quote.number = ap (λ (q : StandingQuote). q.quote.number) one_is in
              let counted : x.quote.number ≡ least = counts.0 in
              omega arith)
          | inr fails ↦
              (let later : least + 1 ≤ it.quote.number =
              above_first (least + 1) some counts.1 it ys (rw fails at at_it) in
              omega arith)
        ]

-- A drop.

module _ (last : ℕ) (facts : List DealerFact) (from : AreFrom number_at 1 (standings facts)) where
  by_fact : (own : StandingQuote) (rest : List StandingQuote) (moment : ℕ) (fact : DealerFact)
      → Takes own.quote.number fact → filter (may_drop last) (standings facts) ≡ own ∷ rest
      → filter (may_drop last) (standings (facts ++ Dropped last moment ∷ fact ∷ [])) ≡ rest
  by_fact own rest moment fact takes is =
      ap (λ (l : List DealerFact). filter (may_drop last) (standings l))
      (sym (append_assoc facts (Dropped last moment ∷ []) (fact ∷ [])))
      ∙ ap (filter (may_drop last)) (quotes_push (facts ++ Dropped last moment ∷ []) fact
      ∙ rw (takes.adds) (append-nil (map (quote_after fact) (standings (facts ++ Dropped last moment ∷ []))))
      ∙ ap (map (quote_after fact)) (dropped_same facts last moment))
      ∙ takes_first last own.quote.number fact takes 1 (standings facts) from own rest is refl

  -- it takes out the first, whatever its word is found to be
  pub drop_takes : (own : StandingQuote) (rest : List StandingQuote) (moment : ℕ) (settlement : Settled)
      → filter (may_drop last) (standings facts) ≡ own ∷ rest
      → filter (may_drop last) (standings (facts ++ Dropped last moment
      ∷ answer_facts own.quote.number by_way.Cancel (Some settlement))) ≡ rest
  drop_takes own rest moment settled.Withdrawn is =
      by_fact own rest moment (Withdrawn own.quote.number by_way.Cancel)
      (withdrawn_takes own.quote.number by_way.Cancel) is
  drop_takes own rest moment settled.Lifted is =
      by_fact own rest moment (Late own.quote.number) (late_takes own.quote.number) is

-- The quotes of a dealer are numbered from 1.

abbrev AreNumbered : List DealerEntry → Type 0
AreNumbered trail = AreFrom number_quoted 1 (quotes (facts_of trail))

numbered_with : (facts more : List DealerFact) → AreFrom number_quoted 1 (quotes facts)
    → AreFrom number_quoted (1 + length (quotes facts)) (quotes more)
    → AreFrom number_quoted 1 (quotes (facts ++ more))
numbered_with facts more before then_numbered =
    rw (filter_map-append quoted_in facts more)
    (from_both number_quoted 1 (quotes facts) (quotes more) before then_numbered)

said_numbers : (date : List ℕ) (row : DealerRow) (facts : List DealerFact) (moment : ℕ)
    (bytes : List ℕ) (v : DealerVerdict) (settlement : Option Settled)
    → AcceptOk date row facts moment bytes v
    → AreFrom number_quoted (1 + length (quotes facts)) (quotes (verdict_facts v settlement))
said_numbers date row facts moment bytes (verdict.QuoteAccepted name id quote old) settlement accepts =
    rw (
      filter_map-append quoted_in (settled_facts old by_way.Replacement settlement)
          (if goes_through old settlement then Quoted quote ∷ [] else []),
      settled_quote old by_way.Replacement settlement,
    ) (by_test (goes_through old settlement))
  where
    by_test : (b : Bool) → AreFrom number_quoted (1 + length (quotes facts))
        (quotes (if b then Quoted quote ∷ [] else []))
    by_test true =
        let counted : length (standings facts) ≡ length (quotes facts) = accepted_count facts in
        let number : quote.number ≡ length (standings facts) + 1 = accepts.number_is in
        (omega arith, tt)
    by_test false = tt
said_numbers date row facts moment bytes (verdict.CancelAccepted id quote request) settlement accepts =
    rw (answers_quote quote by_way.Cancel settlement) tt
said_numbers date row facts moment bytes (verdict.DeclineAccepted request number) settlement accepts = tt
said_numbers date row facts moment bytes other settlement accepts = tt

numbers_kept : (date : List ℕ) (row : DealerRow) → IsKept date row AreNumbered
unfolding event_facts
numbers_kept date row = record {
  own = λ trail moment bytes before.
      let v = dealer_verdict date row (book_by trail) moment bytes in
      rw facts_grown (numbered_with (facts_of trail) _ before
      (said_numbers date row (facts_of trail) moment bytes v (settlement_of trail v)
      (verdict_accepts date row (facts_of trail) moment bytes)));
  drop = λ trail last moment before.
      rw facts_grown (numbered_with (facts_of trail) _ before
      (rw (settled_quote (number_to_drop (book_by trail) last) by_way.Cancel
      (answer_to_drop trail last)) tt));
  shown = λ trail room ask moment before.
      rw facts_grown (numbered_with (facts_of trail) _ before tt);
  told = λ trail request close moment may before.
      rw (facts_grown, may) (numbered_with (facts_of trail) _ before tt);
  lifted = λ trail quote within stays before.
      rw (filter_map-append, append-nil) before;
}

pub numbered_from : (config : Configuration) (dealer : ℕ) (row : DealerRow)
    → dealer_numbered config dealer ≡ Some row → (steps : List Step)
    → AreFrom number_at 1 (standings (facts_of (of_dealer dealer (audit_trail config steps).facts)))
numbered_from config dealer row is steps =
    quotes_of (facts_of (of_dealer dealer (audit_trail config steps).facts)) 1
    (kept_by_all config dealer row is AreNumbered (numbers_kept config.date row) tt steps)

-- Reports, one more.

module _ (date : List ℕ) (row : DealerRow) (trail : List DealerEntry) (moment : ℕ) where
  abbrev pub report_as : ℕ → StandingQuote → List ℕ
  report_as number own =
      written (record { date = date; firm = row.name; number = number; moment = moment }) (report_on trail own)

  pub reports_more : (number : ℕ) (owns : List StandingQuote) (own : StandingQuote)
      → reports date row trail moment number (owns ++ own ∷ [])
      ≡ reports date row trail moment number owns ++ report_as (number + length owns) own ∷ []
  reports_more number [] own =
      let same : number ≡ number + 0 = omega arith in
      ap (λ (n : ℕ). report_as n own ∷ []) same
  reports_more number (one ∷ owns) own =
      let same : number + 1 + length owns ≡ number + length (one ∷ owns) = omega arith in
      ap (λ (l : List (List ℕ)). report_as number one ∷ l)
      (reports_more (number + 1) owns own
      ∙ ap (λ (n : ℕ). reports date row trail moment (number + 1) owns ++ report_as n own ∷ []) same)

  pub reports_counted : (number : ℕ) (owns : List StandingQuote)
      → length (reports date row trail moment number owns) ≡ length owns
  reports_counted number [] = refl
  reports_counted number (own ∷ owns) = ap suc (reports_counted (number + 1) owns)
