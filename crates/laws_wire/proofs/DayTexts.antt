-- On a day of a configuration that keeps its limits, what was due to each firm may be said.
use Rattle.std.proofs.Common.{◌≡◌, ℕ, ◌-◌, ◌<◌, ◌==◌, zero, suc, Bool, true, false, not, List, []}
use Rattle.std.proofs.Common.{◌∷◌, ◌++◌, count_by, drop, filter_map, fold, length, map}
use Rattle.std.proofs.Common.{Option, Some, None, refl, sym, subst, ◌∙◌}
use Rattle.std.proofs.Common.{if◌then◌else◌, IsTrue, inl, inr}
use Rattle.std.specs.List.{AllByRecursion}
use Rattle.std.specs.Prelude.{slice_get}
use Rattle.std.proofs.lemmas.Bool.{and_parts, cases_Bool}
use Rattle.std.proofs.lemmas.List.Elements.{recursion_from_All}
use Rattle.std.proofs.lemmas.Option.{same_Some}
use Rattle.fix_fields.specs.declared.limits.TheConstants.{A_DAY}
use Rattle.market_terms.specs.declared.duties.Duty.{Duty}
use Rattle.venue_rows.specs.Rows.{Configuration, KeepsLimits, firm_names}
use Rattle.venue_rows.specs.Texts.{is_among, is_firm_name, is_name, reserved_names}
use Rattle.venue_rows.specs.declared.dealer_rows.DealerRow.{DealerRow}
use Rattle.venue_rows.specs.declared.investor_rows.InvestorRow.{InvestorRow}
use Rattle.dealer_desk.specs.DealerFacts.{Came, Declined, Dropped, Late, Quoted, Shown, Told}
use Rattle.dealer_desk.specs.DealerFacts.{Withdrawn}
use Rattle.investor_desk.specs.InvestorDesk.{DeskEvents, book_at, market_for, no_events}
use Rattle.investor_desk.specs.InvestorDesk.{with_event}
use Rattle.investor_desk.specs.InvestorRules.{InvestorMarket}
use Rattle.investor_desk.specs.declared.events.InvestorEvent.{InvestorEvent}
use Rattle.investor_desk.specs.declared.events.InvestorEvent.TheVariants as happens
use Rattle.investor_views.specs.InvestorDues.{due_by, due_to_investor, dues_where, event_dues_from}
use Rattle.venue_steps.specs.declared.actors.Actor.{Actor}
use Rattle.venue_steps.specs.declared.actors.Actor.TheVariants as actor
use Rattle.step_replay.specs.Actions.{Effect}
use Rattle.step_replay.specs.AuditTrail.{AuditTrail, Caused, after_step, after_turn, audit_trail}
use Rattle.step_replay.specs.AuditTrail.{due_to, duty_of, is_same_actor, no_steps, pending}
use Rattle.step_replay.specs.DealerTrail as dealer_trail
use Rattle.step_replay.specs.DealerTrail.{DealerEntry}
use Rattle.step_replay.specs.DueList.{due_list}
use Rattle.step_replay.specs.DutyEffects.{duty_effect, message_effect, sweep_effect}
use Rattle.step_replay.specs.EachLemmas.{every_both}
use Rattle.step_replay.specs.InvestorEvents.{events_of}
use Rattle.step_replay.specs.Lists.{Every}
use Rattle.step_replay.specs.PlaceLemmas.{behind_dealers, numbered_at}
use Rattle.step_replay.specs.InvestorTrail.{AtDesk, Happened, Sent}
use Rattle.step_replay.specs.VenueFacts.{AtDealer, AtInvestor, Fact, InRoom, of_dealer}
use Rattle.step_replay.specs.VenueFacts.{of_investor}
use Rattle.step_replay.specs.declared.steps.Step.{Step}
use Rattle.step_replay.specs.declared.steps.Step.TheVariants as step
use Rattle.laws_wire.proofs.ActionTexts.{duty_given, message_given, sweep_given}
use Rattle.laws_wire.proofs.DealerSaid as dealer
use Rattle.laws_wire.proofs.DutyTexts.{AreNamed, DutyGiven, EffectGiven, EntryGiven, FactGiven}
use Rattle.laws_wire.proofs.DutyTexts.{each_mapped}
use Rattle.laws_wire.proofs.FieldValues.{IsGiven, name_given}
use Rattle.laws_wire.proofs.InvestorSaid as investor
use Rattle.laws_wire.proofs.InvestorTexts.{EventGiven}

-- Names.

abbrev Named : List ℕ → Type 0
Named name = IsTrue (is_firm_name name)

firm_given : (name : List ℕ) → Named name → IsGiven name
firm_given name is =
    name_given name (and_parts (not (is_among reserved_names name)) (is_name name) is).1

dealer_there : (rows : List DealerRow) (others : List (List ℕ)) (at : ℕ) (row : DealerRow)
    → slice_get rows at ≡ Some row
    → AllByRecursion Named (map (λ (r : DealerRow). r.name) rows ++ others) → Named row.name
dealer_there [] others at row is each = cc
dealer_there (first ∷ rows) others zero row is each =
    subst (λ (r : DealerRow). Named r.name) (same_Some first row is) each.0
dealer_there (first ∷ rows) others (suc at) row is each = dealer_there rows others at row is each.1

behind : (xs ys : List (List ℕ)) → AllByRecursion Named (xs ++ ys) → AllByRecursion Named ys
behind [] ys each = each
behind (x ∷ xs) ys each = behind xs ys each.1

investor_there : (rows : List InvestorRow) (at : ℕ) (row : InvestorRow)
    → slice_get rows at ≡ Some row
    → AllByRecursion Named (map (λ (r : InvestorRow). r.name) rows) → Named row.name
investor_there [] at row is each = cc
investor_there (first ∷ rows) zero row is each =
    subst (λ (r : InvestorRow). Named r.name) (same_Some first row is) each.0
investor_there (first ∷ rows) (suc at) row is each = investor_there rows at row is each.1

pub limits_name : (config : Configuration) → KeepsLimits config → AreNamed config
limits_name config limits =
    let each = recursion_from_All Named (firm_names config) limits.firms_named in
    let others = map (λ (r : InvestorRow). r.name) config.investors in
    record {
      dealers = λ number row is. firm_given row.name
          (dealer_there config.dealers others number row is each);
      investors = λ number row is.
          let at : slice_get config.investors (number - length config.dealers) ≡ Some row =
          sym (numbered_at config number (behind_dealers config number row is)) ∙ is in
          firm_given row.name
          (investor_there config.investors (number - length config.dealers) row at
          (behind (map (λ (r : DealerRow). r.name) config.dealers) others each));
    }

-- Lists.

dropped : {A : Type 0} (P : A → Type 0) (n : ℕ) (xs : List A) → Every P xs → Every P (drop n xs)
dropped P zero xs all = all
dropped P (suc n) [] all = tt
dropped P (suc n) (x ∷ xs) all = dropped P n xs all.1

found : {A B : Type 0} (P : A → Type 0) (Q : B → Type 0) (says : A → Option B)
    → ((x : A) (y : B) → says x ≡ Some y → P x → Q y) → (xs : List A) → Every P xs
    → Every Q (filter_map says xs)
found P Q says each [] every = tt
found {A} {B} P Q says each (x ∷ xs) every =
    by_found (says x) refl (found P Q says each xs every.1)
  where
    by_found : (o : Option B) → says x ≡ o → Every Q (filter_map says xs)
        → Every Q (filter_map says (x ∷ xs))
    by_found None is later = rw is later
    by_found (Some y) is later = rw is (each x y is every.0, later)

-- Steps.

-- a step's moment
abbrev pub StepGiven : (ℕ → Type 0) → Step → Type 0
StepGiven D (step.In firm moment bytes) = D moment
StepGiven D (step.Turn by) = Unit {0}
StepGiven D (step.Expire at moment) = D moment

pub record DayGiven (D : ℕ → Type 0) (day : AuditTrail) : Type 0 where
  pub facts : Every (FactGiven D) day.facts
  pub caused : Every (λ (c : Caused). DutyGiven D c.duty) day.caused

module _ (D : ℕ → Type 0) (of_day : (n : ℕ) → n < A_DAY → D n) (config : Configuration)
    (named : AreNamed config) where
  pending_given : (by : Actor) (day : AuditTrail) → DayGiven D day
      → Every (DutyGiven D) (pending by day)
  pending_given by day given =
      dropped (DutyGiven D) (count_by (is_same_actor by) day.done)
      (filter_map (duty_of by) day.caused)
      (found (λ (c : Caused). DutyGiven D c.duty) (DutyGiven D) (duty_of by) each day.caused
      given.caused)
    where
      each : (c : Caused) (left : Duty) → duty_of by c ≡ Some left → DutyGiven D c.duty
          → DutyGiven D left
      each c left is given = by_test (is_same_actor c.by by) is
        where
          by_test : (b : Bool) → (if b then Some c.duty else None) ≡ Some left → DutyGiven D left
          by_test true same = subst (DutyGiven D) (same_Some c.duty left same) given
          by_test false none = cc

  grown : (by : Actor) (facts : List Fact) (caused : List Caused) (effect : Effect)
      → Every (FactGiven D) facts → Every (λ (c : Caused). DutyGiven D c.duty) caused
      → EffectGiven D effect
      → Every (FactGiven D) (facts ++ effect.facts)
      × Every (λ (c : Caused). DutyGiven D c.duty)
      (caused ++ map (λ (left : Duty). record { by = by; duty = left }) effect.duties)
  grown by facts caused effect before duties given = (
    every_both (FactGiven D) facts effect.facts before given.facts,
    every_both (λ (c : Caused). DutyGiven D c.duty) caused
        (map (λ (left : Duty). record { by = by; duty = left }) effect.duties) duties
        (each_mapped (λ (c : Caused). DutyGiven D c.duty)
        (λ (left : Duty). record { by = by; duty = left })
        effect.duties given.duties),
  )

  turn_given : (by : Actor) (day : AuditTrail) (duties : List Duty) → DayGiven D day
      → Every (DutyGiven D) duties → DayGiven D (after_turn config by day duties)
  turn_given by day [] given left = given
  turn_given by day (first ∷ later) given left =
      let more = grown by day.facts day.caused (duty_effect config day.facts by first) given.facts
      given.caused
      (duty_given D of_day config named day.facts by first left.0) in
      record { facts = more.0; caused = more.1 }

  step_given : (day : AuditTrail) (more : Step) → DayGiven D day → StepGiven D more
      → DayGiven D (after_step config day more)
  unfolding after_step
  step_given day (step.In firm moment bytes) given moment_is =
      let more = grown (actor.Firm firm) day.facts day.caused
      (message_effect config day.facts firm moment bytes) given.facts given.caused
      (message_given D of_day config named day.facts firm moment bytes moment_is) in
      record { facts = more.0; caused = more.1 }
  step_given day (step.Turn by) given moment_is =
      turn_given by day (pending by day) given (pending_given by day given)
  step_given day (step.Expire at moment) given moment_is =
      let more = grown actor.Clock day.facts day.caused (sweep_effect config day.facts at moment)
      given.facts given.caused (sweep_given D of_day config named day.facts at moment moment_is) in
      record { facts = more.0; caused = more.1 }

  steps_given : (steps : List Step) (day : AuditTrail) → DayGiven D day → Every (StepGiven D) steps
      → DayGiven D (fold (after_step config) day steps)
  steps_given [] day given moments = given
  steps_given (more ∷ steps) day given moments =
      steps_given steps (after_step config day more) (step_given day more given moments.0) moments.1

  -- What was due to a dealer.

  entry_given : (number : ℕ) (facts : List Fact) → Every (FactGiven D) facts
      → Every (EntryGiven D) (of_dealer number facts)
  unfolding of_dealer
  entry_given number [] every = tt
  entry_given number (AtDealer other entry ∷ facts) every =
      by_test (other == number) refl (entry_given number facts every.1)
    where
      by_test : (b : Bool) → (other == number) ≡ b
          → Every (EntryGiven D) (of_dealer number facts)
          → Every (EntryGiven D) (of_dealer number (AtDealer other entry ∷ facts))
      by_test true is later = rw is (every.0, later)
      by_test false is later = rw is later
  entry_given number (InRoom at fact ∷ facts) every = entry_given number facts every.1
  entry_given number (AtInvestor other entry ∷ facts) every = entry_given number facts every.1

  list_given : (trail : List DealerEntry) → Every (EntryGiven D) trail
      → Every (dealer.DueGiven D) (due_list trail)
  list_given [] every = tt
  list_given (dealer_trail.AtDesk (Came moment bytes used) ∷ trail) every =
      (every.0, list_given trail every.1)
  list_given (dealer_trail.AtDesk (Shown ask moment) ∷ trail) every =
      (every.0, list_given trail every.1)
  list_given (dealer_trail.AtDesk (Told request close moment) ∷ trail) every =
      (every.0, list_given trail every.1)
  list_given (dealer_trail.AtDesk (Dropped last moment) ∷ trail) every =
      (every.0, list_given trail every.1)
  list_given (dealer_trail.AtDesk (Quoted quote) ∷ trail) every = list_given trail every.1
  list_given (dealer_trail.AtDesk (Withdrawn quote how) ∷ trail) every = list_given trail every.1
  list_given (dealer_trail.AtDesk (Late quote) ∷ trail) every = list_given trail every.1
  list_given (dealer_trail.AtDesk (Declined request) ∷ trail) every = list_given trail every.1
  list_given (dealer_trail.ShownIn at ∷ trail) every = list_given trail every.1
  list_given (dealer_trail.Lifted quote ∷ trail) every = (tt, list_given trail every.1)
  list_given (dealer_trail.Sent bytes ∷ trail) every = list_given trail every.1

  pub dealer_dues_given : (steps : List Step) (number : ℕ) → Every (StepGiven D) steps
      → Every (dealer.DueGiven D) (due_to number (audit_trail config steps))
  unfolding audit_trail
  dealer_dues_given steps number moments =
      let day = steps_given steps no_steps (record { facts = tt; caused = tt }) moments in
      list_given (of_dealer number (fold (after_step config) no_steps steps).facts)
      (entry_given number (fold (after_step config) no_steps steps).facts day.facts)

  -- What was due to an investor.

  events_given : (number : ℕ) (facts : List Fact) → Every (FactGiven D) facts
      → Every (EventGiven D) (events_of (of_investor number facts))
  unfolding of_investor
  events_given number [] every = tt
  events_given number (AtInvestor other (Happened event) ∷ facts) every =
      let later = events_given number facts every.1 in
      elim (cases_Bool (other == number)) [
        | inl own ↦ rw own (every.0, later)
        | inr another ↦ rw another later
      ]
  events_given number (AtInvestor other (AtDesk fact) ∷ facts) every =
      let later = events_given number facts every.1 in
      elim (cases_Bool (other == number)) [ inl own ↦ rw own later | inr another ↦ rw another later ]
  events_given number (AtInvestor other (Sent bytes) ∷ facts) every =
      let later = events_given number facts every.1 in
      elim (cases_Bool (other == number)) [ inl own ↦ rw own later | inr another ↦ rw another later ]
  events_given number (InRoom at fact ∷ facts) every = events_given number facts every.1
  events_given number (AtDealer other entry ∷ facts) every = events_given number facts every.1

  due_of : (desk : DeskEvents) (event : InvestorEvent) → EventGiven D event
      → investor.DueGiven D (due_by (book_at desk) event)
  unfolding due_by
  due_of desk (happens.Received moment bytes) given = given
  due_of desk (happens.QuoteCame request offer moment) given = given
  due_of desk (happens.QuoteGone request word moment) given = given
  due_of desk (happens.DealerDeclined request dealer moment) given = given
  due_of desk (happens.Answered request response reply moment) given = given
  due_of desk (happens.Closed request moment) given = given

  dues_of : (events : List InvestorEvent) (desk : DeskEvents)
      → Every (EventGiven D) events
      → Every (investor.DueGiven D) (event_dues_from desk events)
  dues_of [] desk every = tt
  dues_of (first ∷ later) desk every =
      (due_of desk first every.0, dues_of later (with_event desk first) every.1)

  pub investor_dues_given : (steps : List Step) (number : ℕ) → Every (StepGiven D) steps
      → Every (investor.DueGiven D) (due_to_investor config number steps)
  unfolding audit_trail
  investor_dues_given steps number moments = by_market (market_for config number)
    where
      facts : List Fact
      facts = (fold (after_step config) no_steps steps).facts

      by_market : (o : Option InvestorMarket)
          → Every (investor.DueGiven D) (dues_where o (events_of (of_investor number facts)))
      by_market None = tt
      by_market (Some market) =
          dues_of (events_of (of_investor number facts)) (no_events market)
          (events_given number facts
          (steps_given steps no_steps (record { facts = tt; caused = tt }) moments).facts)
