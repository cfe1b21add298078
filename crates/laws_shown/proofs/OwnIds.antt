-- No two accepted quotes of a dealer have one QuoteID (117).
use Rattle.std.proofs.Common.{◌≡◌, ℕ, Bool, true, false, List, [], ◌∷◌, ◌++◌}
use Rattle.std.proofs.Common.{Option, Some, refl, ap, ◌∙◌, subst}
use Rattle.std.proofs.Common.{if◌then◌else◌}
use Rattle.std.proofs.lemmas.List.{append-nil}
use Rattle.std.proofs.lemmas.List.Elements.{filter_map-append}
use Rattle.quote_word.specs.declared.settled.Settled.{Settled}
use Rattle.venue_rows.specs.Rows.{Configuration, dealer_numbered}
use Rattle.venue_rows.specs.declared.dealer_rows.DealerRow.{DealerRow}
use Rattle.dealer_desk.specs.DealerFacts.{DealerFact, Quoted, number_to_drop, standings}
use Rattle.dealer_desk.specs.DealerOutput.{event_facts, goes_through}
use Rattle.dealer_desk.specs.DealerOutput.{settled_facts, verdict_facts}
use Rattle.dealer_desk.specs.DealerRules.{dealer_verdict}
use Rattle.dealer_desk.specs.declared.accepted.AcceptedQuote.{AcceptedQuote}
use Rattle.dealer_desk.specs.declared.standing.Withdrawal.TheVariants as by_way
use Rattle.dealer_desk.specs.declared.verdicts.DealerVerdict.{DealerVerdict}
use Rattle.dealer_desk.specs.declared.verdicts.DealerVerdict.TheVariants as verdict
use Rattle.step_replay.specs.Actions.{answer_to_drop, settlement_of}
use Rattle.step_replay.specs.AuditTrail.{audit_trail}
use Rattle.step_replay.specs.DealerGrowth.{facts_grown}
use Rattle.step_replay.specs.DealerTrail.{DealerEntry, book_by, facts_of}
use Rattle.step_replay.specs.StepLemmas.{kept_by_all}
use Rattle.step_replay.specs.TrailKept.{IsKept}
use Rattle.step_replay.specs.declared.steps.Step.{Step}
use Rattle.laws_shown.specs.ShownRequests.{at_dealer}
use Rattle.laws_shown.proofs.AcceptedQuotes.{AcceptOk, verdict_accepts}
use Rattle.laws_shown.proofs.ShownOrder.{quoted_in}
use Rattle.std.proofs.Common.{find, inl, inr, is_some}
use Rattle.std.proofs.lemmas.Bool.{both_ways, cases_Bool}
use Rattle.std.proofs.lemmas.Slice.Eq.{bytes_eq-Decides}
use Rattle.venue_rows.specs.Texts.{same_text}
use Rattle.dealer_desk.specs.DealerFacts.{quote_with_id}
use Rattle.dealer_desk.specs.declared.standing.StandingQuote.{StandingQuote}
use Rattle.step_replay.specs.EachLemmas.{every_both}
use Rattle.step_replay.specs.GrowthLemmas.{all_in, in_right}
use Rattle.step_replay.specs.Lists.{Every}
use Rattle.laws_shown.proofs.OwnNumbers.{answers_quote, quotes, settled_quote, split_quotes}

-- each has another identifier than those behind it
abbrev Distinct : List AcceptedQuote → Type 0
Distinct [] = Unit {0}
Distinct (x ∷ xs) = Every (λ (y : AcceptedQuote). same_text x.id y.id ≡ false) xs × Distinct xs

distinct_push : (xs : List AcceptedQuote) (y : AcceptedQuote) → Distinct xs
    → Every (λ (x : AcceptedQuote). same_text x.id y.id ≡ false) xs → Distinct (xs ++ y ∷ [])
distinct_push [] y distinct is_new = (tt, tt)
distinct_push (x ∷ xs) y distinct is_new = (
  every_both (λ (z : AcceptedQuote). same_text x.id z.id ≡ false) xs (y ∷ []) distinct.0
      (is_new.0, tt),
  distinct_push xs y distinct.1 is_new.1,
)

distinct_apart : (xs : List AcceptedQuote) (x : AcceptedQuote) (ys : List AcceptedQuote)
    (y : AcceptedQuote) (zs : List AcceptedQuote) → Distinct (xs ++ x ∷ (ys ++ y ∷ zs))
    → same_text x.id y.id ≡ false
distinct_apart [] x ys y zs distinct =
    all_in (λ (z : AcceptedQuote). same_text x.id z.id ≡ false) y (ys ++ y ∷ zs) distinct.0
    (in_right y ys (y ∷ zs) (inl refl))
distinct_apart (z ∷ xs) x ys y zs distinct = distinct_apart xs x ys y zs distinct.1

-- where none is found that has an identifier, none has it
none_has : (id : List ℕ) (facts : List DealerFact)
    → is_some (find (λ (own : StandingQuote). same_text own.quote.id id) (standings facts)) ≡ false
    → Every (λ (quote : AcceptedQuote). same_text quote.id id ≡ false) (quotes facts)
none_has id [] none = tt
none_has id (Quoted quote ∷ later) none = elim (cases_Bool (same_text quote.id id)) [
  | inl is ↦ cc (rw is at none)
  | inr isnt ↦ (isnt, none_has id later (rw isnt at none))
]
none_has id (fact ∷ later) none = none_has id later none

said_distinct : (date : List ℕ) (row : DealerRow) (facts : List DealerFact) (moment : ℕ)
    (bytes : List ℕ) (v : DealerVerdict) (settlement : Option Settled)
    → AcceptOk date row facts moment bytes v → Distinct (quotes facts)
    → Distinct (quotes facts ++ quotes (verdict_facts v settlement))
unfolding quote_with_id
said_distinct date row facts moment bytes (verdict.QuoteAccepted name id quote old) settlement
    accepts distinct =
    rw (
      filter_map-append quoted_in (settled_facts old by_way.Replacement settlement)
          (if goes_through old settlement then Quoted quote ∷ [] else []),
      settled_quote old by_way.Replacement settlement,
    ) (by_test (goes_through old settlement))
  where
    by_test : (b : Bool) → Distinct (quotes facts ++ quotes (if b then Quoted quote ∷ [] else []))
    by_test true =
        distinct_push (quotes facts) quote distinct (none_has quote.id facts accepts.is_new)
    by_test false = rw (append-nil (quotes facts)) distinct
said_distinct date row facts moment bytes (verdict.CancelAccepted id quote request) settlement
    accepts distinct =
    rw (answers_quote quote by_way.Cancel settlement, append-nil (quotes facts)) distinct
said_distinct date row facts moment bytes (verdict.DeclineAccepted request number) settlement
    accepts distinct = rw (append-nil (quotes facts)) distinct
said_distinct date row facts moment bytes other settlement accepts distinct =
    rw (append-nil (quotes facts)) distinct

abbrev AreDistinct : List DealerEntry → Type 0
AreDistinct trail = Distinct (quotes (facts_of trail))

ids_kept : (date : List ℕ) (row : DealerRow) → IsKept date row AreDistinct
unfolding event_facts
ids_kept date row = record {
  own = λ trail moment bytes before.
      let v = dealer_verdict date row (book_by trail) moment bytes in
      rw (facts_grown, filter_map-append) (said_distinct date row (facts_of trail) moment bytes v
      (settlement_of trail v) (verdict_accepts date row (facts_of trail) moment bytes) before);
  drop = λ trail last moment before.
      rw (
        facts_grown,
        filter_map-append,
        settled_quote (number_to_drop (book_by trail) last)
            by_way.Cancel (answer_to_drop trail last),
        append-nil,
      ) before;
  shown = λ trail room ask moment before.
      rw (facts_grown, filter_map-append, append-nil) before;
  told = λ trail request close moment may before.
      rw (facts_grown, may, filter_map-append, append-nil) before;
  lifted = λ trail quote within stays before.
      rw (filter_map-append, append-nil) before;
}

pub own_ids : (config : Configuration) (steps : List Step) (dealer : ℕ) (row : DealerRow)
    → dealer_numbered config dealer ≡ Some row → (before between after : List DealerFact)
    (first second : AcceptedQuote)
    → at_dealer dealer (audit_trail config steps).facts
    ≡ before ++ Quoted first ∷ between ++ Quoted second ∷ after
    → first.id ≡ second.id → ⊥
own_ids config steps dealer row is before between after first second splits same =
    let stands = kept_by_all config dealer row is AreDistinct (ids_kept config.date row) tt steps in
    both_ways (same_text first.id second.id)
    (distinct_apart (quotes before) first (quotes between) second (quotes after)
    (subst (λ l. Distinct l) (ap quotes splits ∙ split_quotes before between after first second)
    stands)) ((bytes_eq-Decides first.id second.id).1 same)
