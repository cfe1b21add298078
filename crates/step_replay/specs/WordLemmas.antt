-- No quote is both lifted and withdrawn: whoever asks its word is told what it is already.
use Rattle.std.proofs.Common.{◌≡◌, ℕ, ◌==◌, Bool, true, false, ◌||◌, ◌&&◌, List, [], ◌∷◌, ◌++◌}
use Rattle.std.proofs.Common.{Option, Some, None, is_some, option_map, if◌then◌else◌, refl, sym, ap}
use Rattle.std.proofs.Common.{◌∙◌, arith}
use Rattle.std.specs.List.{list_any}
use Rattle.std.proofs.lemmas.Bool.Decides.{nat_tests}
use Rattle.std.proofs.lemmas.List.Folds.{list_any-append}
use Rattle.quote_word.specs.declared.settled.Settled.TheVariants as settled
use Rattle.venue_rows.specs.declared.dealer_rows.DealerRow.{DealerRow}
use Rattle.dealer_desk.specs.DealerFacts.{DealerFact, Quoted, Told, number_to_drop}
use Rattle.dealer_desk.specs.DealerRules.{dealer_verdict}
use Rattle.dealer_desk.specs.DealerOutput.{event_facts, verdict_facts, settled_facts, answer_facts}
use Rattle.dealer_desk.specs.DealerOutput.{goes_through, closable}
use Rattle.dealer_desk.specs.DeskLaws.{withdraws}
use Rattle.dealer_desk.specs.declared.accepted.AcceptedQuote.{AcceptedQuote}
use Rattle.dealer_desk.specs.declared.standing.Withdrawal.{Withdrawal}
use Rattle.dealer_desk.specs.declared.standing.Withdrawal.TheVariants as by
use Rattle.dealer_desk.specs.declared.verdicts.DealerVerdict.{DealerVerdict}
use Rattle.dealer_desk.specs.declared.verdicts.DealerVerdict.TheVariants as verdict
use Rattle.dealer_desk.specs.declared.events.DealerEvent.{DealerEvent}
use Rattle.dealer_desk.specs.declared.events.DealerEvent.TheVariants as event
use Rattle.step_replay.specs.DealerTrail.{DealerEntry, Lifted, facts_of, book_by, lifts, fact_in}
use Rattle.step_replay.specs.DealerTrail.{was_lifted, was_withdrawn, answer_to_dealer, entries_of}
use Rattle.step_replay.specs.Actions.{settlement_of, drop_at}
use Rattle.step_replay.specs.DealerGrowth.{facts_grown, lifted_grown}
use Rattle.step_replay.specs.StepLemmas.{kept_by_all}
use Rattle.step_replay.specs.TrailKept.{IsKept}
use Rattle.step_replay.specs.AuditTrail.{audit_trail}
use Rattle.step_replay.specs.VenueFacts.{of_dealer}
use Rattle.step_replay.specs.declared.steps.Step.{Step}
use Rattle.venue_rows.specs.Rows.{Configuration, dealer_numbered}
use Rattle.market_terms.specs.declared.closes.Close.{Close}
use Rattle.std.proofs.lemmas.List.{append-nil}
use Rattle.std.proofs.lemmas.List.Elements.{filter_map-append}
use Rattle.std.proofs.Math.Bool.{and-false}

-- no quote of a trail is both
abbrev pub IsOneOf : List DealerEntry → Type 0
IsOneOf trail = (quote : ℕ) → (was_lifted trail quote && was_withdrawn trail quote) ≡ false

-- Tests.

-- both before, or withdrawn now though it is not lifted
still_one : (lifted withdrawn now : Bool) → (lifted && withdrawn) ≡ false
    → (now ≡ true → lifted ≡ false) → (lifted && (withdrawn || now)) ≡ false
still_one false withdrawn now one open_word = refl
still_one true true now one open_word = cc
still_one true false true one open_word =
    let never : true ≡ false = open_word refl in cc
still_one true false false one open_word = refl

-- neither one nor the other more
one_more : (lifted withdrawn : Bool) → (lifted && withdrawn) ≡ false
    → ((lifted || false) && withdrawn) ≡ false
one_more true withdrawn one = one
one_more false withdrawn one = refl

-- A word that is asked and withdrawn was not lifted.

module _ (trail : List DealerEntry) (quote : ℕ) where
  answered_facts : (asked : ℕ) (how : Withdrawal) (lifted : Bool) → was_lifted trail asked ≡ lifted
      → list_any (withdraws quote) (answer_facts asked how
      (Some (if lifted then settled.Lifted else settled.Withdrawn))) ≡ true
      → was_lifted trail quote ≡ false
  answered_facts asked how true is withdrawn = cc
  answered_facts asked how false is withdrawn = by_test (asked == quote) refl withdrawn
    where
      by_test : (b : Bool) → (asked == quote) ≡ b → (b || false) ≡ true
          → was_lifted trail quote ≡ false
      by_test true test now =
          let equal : asked ≡ quote = grind (arith, nat_tests) in
          ap (was_lifted trail) (sym equal) ∙ is
      by_test false test now = cc

  asked_facts : (asked : Option ℕ) (how : Withdrawal)
      → list_any (withdraws quote)
      (settled_facts asked how (option_map (answer_to_dealer trail) asked)) ≡ true
      → was_lifted trail quote ≡ false
  asked_facts None how withdrawn = cc
  asked_facts (Some asked) how withdrawn =
      answered_facts asked how (was_lifted trail asked) refl withdrawn

  no_quoting : (b : Bool) (own : AcceptedQuote)
      → list_any (withdraws quote) (if b then Quoted own ∷ [] else []) ≡ false
  no_quoting true own = refl
  no_quoting false own = refl

  or_no : (b c : Bool) → c ≡ false → (b || c) ≡ true → b ≡ true
  or_no true c never is = refl
  or_no false true never is = cc
  or_no false false never is = is

  said_facts : (v : DealerVerdict)
      → list_any (withdraws quote) (verdict_facts v (settlement_of trail v)) ≡ true
      → was_lifted trail quote ≡ false
  said_facts (verdict.QuoteAccepted request id own replaced) withdrawn =
      asked_facts replaced by.Replacement
      (or_no _ _ (no_quoting (goes_through replaced
      (option_map (answer_to_dealer trail) replaced)) own)
      (sym (list_any-append (withdraws quote)
      (settled_facts replaced by.Replacement
      (option_map (answer_to_dealer trail) replaced)) _) ∙ withdrawn))
  said_facts (verdict.CancelAccepted id asked request) withdrawn =
      asked_facts (Some asked) by.Cancel withdrawn
  said_facts (verdict.DeclineAccepted request number) withdrawn = cc
  said_facts other withdrawn = cc

-- After each event that withdraws no lifted quote, and after each lifting of a quote that was not
-- withdrawn, no quote is both.

event_one : (date : List ℕ) (row : DealerRow) (trail : List DealerEntry) (more : DealerEvent)
    → ((quote : ℕ)
    → list_any (withdraws quote) (event_facts date row (book_by trail) more) ≡ true
    → was_lifted trail quote ≡ false)
    → IsOneOf trail → IsOneOf (trail ++ entries_of date row trail more)
event_one date row trail more open_words before quote =
    let now = list_any (withdraws quote) (event_facts date row (book_by trail) more) in
    ap (λ (b : Bool). b && was_withdrawn (trail ++ entries_of date row trail more) quote)
    (lifted_grown date row trail more quote)
    ∙ ap (λ (facts : List DealerFact). was_lifted trail quote && list_any (withdraws quote) facts)
    (facts_grown date row trail more)
    ∙ ap (λ (b : Bool). was_lifted trail quote && b)
    (list_any-append (withdraws quote) (facts_of trail)
    (event_facts date row (book_by trail) more))
    ∙ still_one (was_lifted trail quote) (was_withdrawn trail quote) now (before quote)
    (open_words quote)

told_facts : (b : Bool) (trail : List DealerEntry) (quote request : ℕ) (close : Close) (moment : ℕ)
    → list_any (withdraws quote) (if b then Told request close moment ∷ [] else []) ≡ true
    → was_lifted trail quote ≡ false
told_facts true trail quote request close moment withdrawn = cc
told_facts false trail quote request close moment withdrawn = cc

lifted_one : (trail : List DealerEntry) (quote : ℕ) → was_withdrawn trail quote ≡ false
    → IsOneOf trail → IsOneOf (trail ++ Lifted quote ∷ [])
lifted_one trail quote still before other =
    ap (λ (b : Bool). b && was_withdrawn (trail ++ Lifted quote ∷ []) other)
    (list_any-append (lifts other) trail (Lifted quote ∷ []))
    ∙ ap (λ (facts : List DealerFact).
    (was_lifted trail other || ((quote == other) || false))
    && list_any (withdraws other) facts)
    (filter_map-append fact_in trail (Lifted quote ∷ []) ∙ append-nil (facts_of trail))
    ∙ by_test (quote == other) refl
  where
    by_test : (b : Bool) → (quote == other) ≡ b
        → ((was_lifted trail other || (b || false)) && was_withdrawn trail other) ≡ false
    by_test true test =
        let equal : quote ≡ other = grind (arith, nat_tests) in
        let open_word : was_withdrawn trail other ≡ false =
        ap (was_withdrawn trail) (sym equal) ∙ still in
        rw open_word (and-false (was_lifted trail other || true))
    by_test false test = one_more (was_lifted trail other) (was_withdrawn trail other) (before other)

pub one_is_kept : (date : List ℕ) (row : DealerRow) → IsKept date row IsOneOf
unfolding event_facts
one_is_kept date row = record {
  own = λ trail moment bytes before.
      event_one date row trail (event.Received moment bytes
      (settlement_of trail (dealer_verdict date row (book_by trail) moment bytes)))
      (λ quote withdrawn. said_facts trail quote
      (dealer_verdict date row (book_by trail) moment bytes) withdrawn)
      before;
  drop = λ trail last moment before.
      event_one date row trail (drop_at trail last moment)
      (λ quote withdrawn. asked_facts trail quote (number_to_drop (book_by trail) last) by.Cancel
      withdrawn)
      before;
  shown = λ trail room ask moment before.
      event_one date row trail (event.Shown room ask moment) (λ quote withdrawn. cc) before;
  told = λ trail request close moment may before.
      event_one date row trail (event.Told request close moment)
      (λ quote withdrawn. told_facts (is_some (closable (book_by trail) request)) trail quote
      request close moment withdrawn)
      before;
  lifted = λ trail quote within still before. lifted_one trail quote still before;
}

pub is_one_of : (config : Configuration) (steps : List Step) (dealer : ℕ) (row : DealerRow)
    → dealer_numbered config dealer ≡ Some row
    → IsOneOf (of_dealer dealer (audit_trail config steps).facts)
is_one_of config steps dealer row is =
    kept_by_all config dealer row is IsOneOf (one_is_kept config.date row) (λ quote. refl) steps
