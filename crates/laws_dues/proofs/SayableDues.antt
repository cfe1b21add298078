-- After every list of steps whose messages have bytes, what is due to each investor can be said.
use Rattle.std.proofs.Common.{◌≡◌, ◌==◌, ℕ, true, List, [], ◌∷◌, ◌++◌, fold, refl, sym, subst}
use Rattle.std.proofs.Common.{Option, Some, None, option_map, inl, inr}
use Rattle.std.specs.List.{list_all}
use Rattle.std.proofs.lemmas.Bool.{and_from, and_parts, cases_Bool}
use Rattle.std.proofs.lemmas.List.{append-nil, append_assoc}
use Rattle.std.proofs.lemmas.List.Sums.{fold-append}
use Rattle.market_terms.specs.declared.duties.Duty.{Duty}
use Rattle.venue_rows.specs.Rows.{Configuration, KeepsLimits, investor_numbered}
use Rattle.venue_rows.specs.declared.dealer_rows.DealerRow.{DealerRow}
use Rattle.venue_rows.specs.declared.investor_rows.InvestorRow.{InvestorRow}
use Rattle.investor_desk.specs.InvestorDesk.{DeskEvents, market_of}
use Rattle.investor_desk.specs.InvestorFacts.{InvestorFact, book_of}
use Rattle.investor_desk.specs.InvestorOutput.{DeskState, after_event, desk_after, event_facts}
use Rattle.investor_desk.specs.InvestorOutput.{no_facts}
use Rattle.investor_desk.specs.InvestorRules.{InvestorMarket}
use Rattle.investor_desk.specs.declared.events.InvestorEvent.{InvestorEvent}
use Rattle.investor_desk.specs.declared.events.InvestorEvent.TheVariants as event
use Rattle.venue_steps.specs.declared.actors.Actor.{Actor}
use Rattle.step_replay.specs.AuditTrail.{AuditTrail, after_step, after_turn, audit_trail}
use Rattle.step_replay.specs.AuditTrail.{no_steps, pending}
use Rattle.step_replay.specs.DutyEffects.{duty_effect, message_effect, sweep_effect}
use Rattle.step_replay.specs.EachLemmas.{every_both}
use Rattle.step_replay.specs.InvestorEvents.{events_of, happened_to}
use Rattle.step_replay.specs.InvestorTrail.{AtDesk, Happened, Sent, facts_of}
use Rattle.step_replay.specs.Lists.{Every}
use Rattle.step_replay.specs.VenueFacts.{AtDealer, AtInvestor, Fact, InRoom, of_investor}
use Rattle.step_replay.specs.declared.steps.Step.{Step}
use Rattle.step_replay.specs.declared.steps.Step.TheVariants as step
use Rattle.investor_views.specs.InvestorDues.{due_by, due_to_investor, dues_where, event_dues_from}
use Rattle.investor_views.specs.InvestorDues.{number_of, quote_meant}
use Rattle.investor_texts.specs.ReadBack.{is_sayable}
use Rattle.venue_text.specs.ReadBack.{is_short}
use Rattle.laws_dues.specs.SaidSteps.{has_bytes}
use Rattle.laws_dues.proofs.SayableEffects.{AcceptsFew}
use Rattle.laws_dues.proofs.NumberedDays.{day_stands, pending_numbers}
use Rattle.laws_dues.proofs.NumberedDesks.{FactNumbers, meant_short}
use Rattle.laws_dues.proofs.NumberedDuties.{DutyNumbers}
use Rattle.laws_dues.proofs.SayableItems.{EventSaid, FactSaid, duty_said, message_said, sweep_said}

-- At a desk.

every_front : {A : Type 0} (P : A → Type 0) (xs ys : List A) → Every P (xs ++ ys) → Every P xs
every_front P [] ys every = tt
every_front P (x ∷ xs) ys every = (every.0, every_front P xs ys every.1)

item_said : (dealers : List DealerRow) (facts : List InvestorFact)
    → Every (FactNumbers dealers) facts → (one : InvestorEvent) → EventSaid one
    → is_sayable (due_by (book_of facts) one) ≡ true
unfolding due_by
item_said dealers facts numbers (event.QuoteGone request word moment) said =
    and_from (is_short request) (is_short (number_of (quote_meant (book_of facts) request word)))
    (and_parts (is_short request) _ said).0 (meant_short dealers facts numbers request word)
item_said dealers facts numbers other said = said

module _ (dealers : List DealerRow) (market : InvestorMarket) where
  -- what is so of all facts is so of those that stood before
  facts_before : (events : List InvestorEvent) (desk : DeskState)
      → Every (FactNumbers dealers) (fold (after_event market) desk events).facts
      → Every (FactNumbers dealers) desk.facts
  facts_before [] desk numbers = numbers
  facts_before (first ∷ later) desk numbers =
      every_front (FactNumbers dealers) desk.facts
      (event_facts market (book_of desk.facts) first)
      (facts_before later (after_event market desk first) numbers)

  -- the desk to which these events came
  abbrev desk_with : List InvestorEvent → DeskEvents
  desk_with events = record { market = market; events = events }

  dues_said : (front later : List InvestorEvent)
      → Every (FactNumbers dealers) (desk_after market (front ++ later)).facts
      → Every EventSaid later
      → list_all is_sayable (event_dues_from (desk_with front) later) ≡ true
  unfolding desk_after
  dues_said front [] numbers said = refl
  dues_said front (first ∷ later) numbers said =
      let behind = front ++ first ∷ [] in
      let before = fold (after_event market) no_facts front in
      let here = facts_before (first ∷ later) before
      (subst (λ (state : DeskState). Every (FactNumbers dealers) state.facts)
      (fold-append (after_event market) no_facts front (first ∷ later)) numbers) in
      and_from (is_sayable (due_by (book_of before.facts) first))
      (list_all is_sayable (event_dues_from (desk_with behind) later))
      (item_said dealers before.facts here first said.0)
      (dues_said behind later
      (subst (λ (l : List InvestorEvent). Every (FactNumbers dealers)
      (fold (after_event market) no_facts l).facts)
      (sym (append_assoc front (first ∷ []) later)) numbers) said.1)

-- All steps.

module _ (config : Configuration) (limits : KeepsLimits config) (accepts : AcceptsFew) where
  turn_said : (by : Actor) (day : AuditTrail) (duties : List Duty) → Every FactSaid day.facts
      → Every (DutyNumbers config by) duties → Every FactSaid (after_turn config by day duties).facts
  turn_said by day [] before says = before
  turn_said by day (left ∷ later) before says =
      every_both FactSaid day.facts (duty_effect config day.facts by left).facts before
      (duty_said config limits day.facts by left says.0)

  step_said : (done : List Step) (next : Step) → has_bytes next ≡ true
      → Every FactSaid (audit_trail config done).facts
      → Every FactSaid (after_step config (audit_trail config done) next).facts
  unfolding after_step
  step_said done (step.In firm moment bytes) has before =
      let facts = (audit_trail config done).facts in
      every_both FactSaid facts (message_effect config facts firm moment bytes).facts before
      (message_said config limits facts firm moment bytes has)
  step_said done (step.Turn by) has before =
      let day = audit_trail config done in
      turn_said by day (pending by day) before
      (pending_numbers config limits accepts by day (day_stands config limits accepts done).caused)
  step_said done (step.Expire room moment) has before =
      let facts = (audit_trail config done).facts in
      every_both FactSaid facts (sweep_effect config facts room moment).facts before
      (sweep_said config limits facts room moment)

  trail_more : (done : List Step) (next : Step)
      → audit_trail config (done ++ next ∷ []) ≡ after_step config (audit_trail config done) next
  unfolding audit_trail
  trail_more done next = fold-append (after_step config) no_steps done (next ∷ [])

  abbrev FactsSaid : List Step → Type 0
  FactsSaid done = Every FactSaid (audit_trail config done).facts

  steps_said : (done rest : List Step) → Every (λ s. has_bytes s ≡ true) rest → FactsSaid done
      → FactsSaid (done ++ rest)
  steps_said done [] has before = subst FactsSaid (sym (append-nil done)) before
  steps_said done (next ∷ rest) has before =
      subst FactsSaid (append_assoc done (next ∷ []) rest)
      (steps_said (done ++ next ∷ []) rest has.1
      (subst (λ (trail : AuditTrail). Every FactSaid trail.facts) (sym (trail_more done next))
      (step_said done next has.0 before)))

  -- the events at one desk
  events_said : (investor : ℕ) (facts : List Fact) → Every FactSaid facts
      → Every EventSaid (events_of (of_investor investor facts))
  unfolding of_investor
  events_said investor [] said = tt
  events_said investor (AtInvestor other (Happened one) ∷ facts) said =
      let later = events_said investor facts said.1 in
      elim (cases_Bool (other == investor)) [
        | inl own ↦ rw own (said.0, later)
        | inr another ↦ rw another later
      ]
  events_said investor (AtInvestor other (AtDesk fact) ∷ facts) said =
      let later = events_said investor facts said.1 in
      elim (cases_Bool (other == investor)) [ inl own ↦ rw own later | inr another ↦ rw another later ]
  events_said investor (AtInvestor other (Sent bytes) ∷ facts) said =
      let later = events_said investor facts said.1 in
      elim (cases_Bool (other == investor)) [ inl own ↦ rw own later | inr another ↦ rw another later ]
  events_said investor (InRoom room fact ∷ facts) said = events_said investor facts said.1
  events_said investor (AtDealer dealer entry ∷ facts) said = events_said investor facts said.1

  start_said : FactsSaid []
  unfolding audit_trail
  start_said = tt

  -- the desk of a day has the facts of its investor's trail
  abbrev pub FactsAreOne : Type 0
  FactsAreOne = (config : Configuration) (steps : List Step) (investor : ℕ) (row : InvestorRow)
      → investor_numbered config investor ≡ Some row
      → (desk_after (market_of config investor row)
      (happened_to investor (audit_trail config steps))).facts
      ≡ facts_of (of_investor investor (audit_trail config steps).facts)

  pub investor_sayable : FactsAreOne → (investor : ℕ) (steps : List Step)
      → Every (λ s. has_bytes s ≡ true) steps
      → list_all is_sayable (due_to_investor config investor steps) ≡ true
  investor_sayable are_one investor steps has = by_row (investor_numbered config investor) refl
    where
      happened : List InvestorEvent
      happened = happened_to investor (audit_trail config steps)

      by_row : (found : Option InvestorRow) → investor_numbered config investor ≡ found
          → list_all is_sayable (dues_where (option_map (market_of config investor) found) happened)
          ≡ true
      by_row None is = refl
      by_row (Some row) is =
          dues_said config.dealers (market_of config investor row) [] happened
          (subst (Every (FactNumbers config.dealers)) (sym (are_one config steps investor row is))
          ((day_stands config limits accepts steps).shown investor))
          (events_said investor (audit_trail config steps).facts (steps_said [] steps has start_said))
