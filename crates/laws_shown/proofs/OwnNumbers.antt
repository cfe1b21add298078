-- A dealer's own numbers count its accepted quotes as they came.
use Rattle.std.proofs.Common.{◌≡◌, ◌<◌, ℕ, ◌+◌, Bool, true, false, List, [], ◌∷◌, ◌++◌, filter_map}
use Rattle.std.proofs.Common.{length, Option, Some, None, refl, ap, ◌∙◌, subst, arith}
use Rattle.std.proofs.Common.{if◌then◌else◌}
use Rattle.std.proofs.lemmas.List.{append-nil, append_assoc}
use Rattle.std.proofs.lemmas.List.Elements.{filter_map-append}
use Rattle.quote_word.specs.declared.settled.Settled.{Settled}
use Rattle.quote_word.specs.declared.settled.Settled.TheVariants as settled
use Rattle.venue_rows.specs.Rows.{Configuration, dealer_numbered}
use Rattle.venue_rows.specs.declared.dealer_rows.DealerRow.{DealerRow}
use Rattle.dealer_desk.specs.DealerFacts.{DealerFact, Quoted, number_to_drop, standings}
use Rattle.dealer_desk.specs.DealerOutput.{answer_facts, event_facts, goes_through}
use Rattle.dealer_desk.specs.DealerOutput.{settled_facts, verdict_facts}
use Rattle.dealer_desk.specs.DealerRules.{dealer_verdict}
use Rattle.dealer_desk.specs.declared.accepted.AcceptedQuote.{AcceptedQuote}
use Rattle.dealer_desk.specs.declared.standing.Withdrawal.{Withdrawal}
use Rattle.dealer_desk.specs.declared.standing.Withdrawal.TheVariants as by_way
use Rattle.dealer_desk.specs.declared.verdicts.DealerVerdict.{DealerVerdict}
use Rattle.dealer_desk.specs.declared.verdicts.DealerVerdict.TheVariants as verdict
use Rattle.step_replay.specs.Actions.{answer_to_drop, settlement_of}
use Rattle.step_replay.specs.AuditTrail.{audit_trail}
use Rattle.step_replay.specs.DealerGrowth.{facts_grown}
use Rattle.step_replay.specs.DealerTrail.{DealerEntry, book_by, facts_of}
use Rattle.step_replay.specs.StepLemmas.{kept_by_all}
use Rattle.step_replay.specs.TrailKept.{IsKept}
use Rattle.step_replay.specs.declared.steps.Step.{Step}
use Rattle.laws_shown.specs.ShownRequests.{at_dealer}
use Rattle.laws_shown.proofs.AcceptedQuotes.{AcceptOk, verdict_accepts}
use Rattle.laws_shown.proofs.ListLemmas.{AreFrom, from_apart, from_both}
use Rattle.laws_shown.proofs.ShownOrder.{accepted_count, quoted_in}

-- the quotes that some facts say were accepted
abbrev pub quotes : List DealerFact → List AcceptedQuote
quotes facts = filter_map quoted_in facts

abbrev number_quoted : AcceptedQuote → ℕ
number_quoted quote = quote.number

abbrev AreNumbered : List DealerEntry → Type 0
AreNumbered trail = AreFrom number_quoted 1 (quotes (facts_of trail))

-- Facts of which none is an acceptance.

pub answers_quote : (quote : ℕ) (how : Withdrawal) (settlement : Option Settled)
    → quotes (answer_facts quote how settlement) ≡ []
answers_quote quote how None = refl
answers_quote quote how (Some settled.Withdrawn) = refl
answers_quote quote how (Some settled.Lifted) = refl

pub settled_quote : (asked : Option ℕ) (how : Withdrawal) (settlement : Option Settled)
    → quotes (settled_facts asked how settlement) ≡ []
settled_quote None how settlement = refl
settled_quote (Some quote) how settlement = answers_quote quote how settlement

-- more facts

numbered_with : (facts more : List DealerFact) → AreFrom number_quoted 1 (quotes facts)
    → AreFrom number_quoted (1 + length (quotes facts)) (quotes more)
    → AreFrom number_quoted 1 (quotes (facts ++ more))
numbered_with facts more before then_numbered =
    rw (filter_map-append quoted_in facts more)
    (from_both number_quoted 1 (quotes facts) (quotes more) before then_numbered)

said_numbers : (date : List ℕ) (row : DealerRow) (facts : List DealerFact) (moment : ℕ)
    (bytes : List ℕ) (v : DealerVerdict) (settlement : Option Settled)
    → AcceptOk date row facts moment bytes v
    → AreFrom number_quoted (1 + length (quotes facts)) (quotes (verdict_facts v settlement))
said_numbers date row facts moment bytes (verdict.QuoteAccepted name id quote old) settlement
    accepts =
    rw (
      filter_map-append quoted_in (settled_facts old by_way.Replacement settlement)
          (if goes_through old settlement then Quoted quote ∷ [] else []),
      settled_quote old by_way.Replacement settlement,
    ) (by_test (goes_through old settlement))
  where
    by_test : (b : Bool) → AreFrom number_quoted (1 + length (quotes facts))
        (quotes (if b then Quoted quote ∷ [] else []))
    by_test true =
        let counted : length (standings facts) ≡ length (quotes facts) = accepted_count facts in
        let number : quote.number ≡ length (standings facts) + 1 = accepts.number_is in
        (omega arith, tt)
    by_test false = tt
said_numbers date row facts moment bytes (verdict.CancelAccepted id quote request) settlement
    accepts = rw (answers_quote quote by_way.Cancel settlement) tt
said_numbers date row facts moment bytes (verdict.DeclineAccepted request number) settlement
    accepts = tt
said_numbers date row facts moment bytes other settlement accepts = tt

numbers_kept : (date : List ℕ) (row : DealerRow) → IsKept date row AreNumbered
unfolding event_facts
numbers_kept date row = record {
  own = λ trail moment bytes before.
      let v = dealer_verdict date row (book_by trail) moment bytes in
      rw facts_grown (numbered_with (facts_of trail) _ before
      (said_numbers date row (facts_of trail) moment bytes v (settlement_of trail v)
      (verdict_accepts date row (facts_of trail) moment bytes)));
  drop = λ trail last moment before.
      rw facts_grown (numbered_with (facts_of trail) _ before
      (rw (settled_quote (number_to_drop (book_by trail) last) by_way.Cancel
      (answer_to_drop trail last)) tt));
  shown = λ trail room ask moment before.
      rw facts_grown (numbered_with (facts_of trail) _ before tt);
  told = λ trail request close moment may before.
      rw (facts_grown, may) (numbered_with (facts_of trail) _ before tt);
  lifted = λ trail quote within stays before.
      rw (filter_map-append, append-nil) before;
}

-- two of them that stand in some facts
pub split_quotes : (b m a : List DealerFact) (one other : AcceptedQuote)
    → quotes (b ++ Quoted one ∷ m ++ Quoted other ∷ a)
    ≡ quotes b ++ one ∷ (quotes m ++ other ∷ quotes a)
split_quotes b m a one other =
    rw (
      filter_map-append quoted_in (b ++ Quoted one ∷ m) (Quoted other ∷ a),
      filter_map-append quoted_in b (Quoted one ∷ m),
    )
    (append_assoc (quotes b) (one ∷ quotes m) (other ∷ quotes a))

pub own_numbers : (config : Configuration) (steps : List Step) (dealer : ℕ) (row : DealerRow)
    → dealer_numbered config dealer ≡ Some row → (before between after : List DealerFact)
    (first second : AcceptedQuote)
    → at_dealer dealer (audit_trail config steps).facts
    ≡ before ++ Quoted first ∷ between ++ Quoted second ∷ after
    → first.number < second.number
own_numbers config steps dealer row is before between after first second splits =
    let stands = kept_by_all config dealer row is AreNumbered (numbers_kept config.date row) tt
    steps in
    from_apart number_quoted 1 (quotes before) first (quotes between) second (quotes after)
    (subst (λ l. AreFrom number_quoted 1 l)
    (ap quotes splits ∙ split_quotes before between after first second) stands)
