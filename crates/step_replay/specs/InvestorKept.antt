-- What is kept of an investor's trail by each event that fits what stands at its desk is kept by every
-- step of the venue.
use Rattle.std.proofs.Common.{◌≡◌, ℕ, ◌==◌, true, inl, inr, List, [], ◌∷◌, ◌++◌, map, fold}
use Rattle.std.proofs.Common.{Option, Some, None, option_map, Result, Ok, Err, refl, sym, ap, ◌∙◌}
use Rattle.std.proofs.Common.{subst}
use Rattle.std.proofs.lemmas.Bool.{cases_Bool, eqb-true}
use Rattle.std.proofs.lemmas.Option.{same_Some}
use Rattle.market_terms.specs.declared.closes.HitRefusal.{HitRefusal}
use Rattle.market_terms.specs.declared.duties.Duty.{Duty}
use Rattle.market_terms.specs.declared.rooms.RoomRef.{RoomRef}
use Rattle.venue_rows.specs.Rows.{Configuration, investor_numbered}
use Rattle.venue_rows.specs.declared.investor_rows.InvestorRow.{InvestorRow}
use Rattle.venue_steps.specs.RoomDuties.{hit_word}
use Rattle.venue_steps.specs.declared.actors.Actor.{Actor}
use Rattle.investor_desk.specs.InvestorDesk.{market_of}
use Rattle.investor_desk.specs.declared.events.InvestorEvent.{InvestorEvent}
use Rattle.request_room.specs.Book.{event_facts, hit_outcome}
use Rattle.request_room.specs.declared.ends.End.{End}
use Rattle.request_room.specs.declared.events.RoomEvent.TheVariants as at_room
use Rattle.step_replay.specs.ActionKinds.{IsAction, by_dealer, by_hit, by_investor, by_room, idle}
use Rattle.step_replay.specs.ActionKinds.{duty_action, message_action, sweep_action}
use Rattle.step_replay.specs.Actions.{Effect, QuoteRef, answer_to_hit, lifting, quote_asked}
use Rattle.step_replay.specs.Actions.{quote_with_word}
use Rattle.step_replay.specs.AuditTrail.{AuditTrail, after_step, after_turn, audit_trail, no_steps}
use Rattle.step_replay.specs.AuditTrail.{pending}
use Rattle.step_replay.specs.DealerTrail as dealer_trail
use Rattle.step_replay.specs.DutyEffects.{duty_effect, message_effect, sweep_effect}
use Rattle.step_replay.specs.Fitting.{fits}
use Rattle.step_replay.specs.InvestorTrail.{InvestorEntry, book_by, entries_of}
use Rattle.step_replay.specs.PlaceLemmas.{investor_at_dealer, investor_grown, investor_in_room}
use Rattle.step_replay.specs.PlaceLemmas.{investor_stays, other_investor, own_investor}
use Rattle.step_replay.specs.VenueFacts.{AtInvestor, Fact, InRoom, of_dealer, of_investor}
use Rattle.step_replay.specs.VenueFacts.{of_room}
use Rattle.step_replay.specs.declared.steps.Step.{Step}
use Rattle.step_replay.specs.declared.steps.Step.TheVariants as step

-- a lifting says nothing of an investor
pub nothing_lifted : (investor : ℕ) (found : Option QuoteRef) (outcome : Result End HitRefusal)
    → of_investor investor (lifting found outcome) ≡ []
unfolding of_investor
nothing_lifted investor None outcome = refl
nothing_lifted investor (Some hit) (Err reason) = refl
nothing_lifted investor (Some hit) (Ok award) = refl

module _ (config : Configuration) (own : ℕ) (row : InvestorRow)
    (is_investor : investor_numbered config own ≡ Some row) (P : List InvestorEntry → Type 0)
    (kept : (trail : List InvestorEntry) (event : InvestorEvent)
    → fits (book_by trail) event ≡ true → P trail
    → P (trail ++ entries_of (market_of config own row) trail event)) where
  -- it is so of the investor's trail by these facts
  abbrev IsSo : List Fact → Type 0
  IsSo facts = P (of_investor own facts)

  stays : (facts added : List Fact) → of_investor own added ≡ [] → IsSo facts
      → IsSo (facts ++ added)
  stays facts added none so = subst P (sym (investor_stays own facts added none)) so

  own_event : (facts : List Fact) (event : InvestorEvent)
      → fits (book_by (of_investor own facts)) event ≡ true → IsSo facts
      → IsSo (facts ++ map (AtInvestor own)
      (entries_of (market_of config own row) (of_investor own facts) event))
  own_event facts event fit so =
      let entries = entries_of (market_of config own row) (of_investor own facts) event in
      subst P
      (sym (investor_grown own facts (map (AtInvestor own) entries)
      ∙ ap (λ (l : List InvestorEntry). of_investor own facts ++ l) (own_investor own entries)))
      (kept (of_investor own facts) event fit so)

  -- what an event at a desk adds keeps it
  abbrev EventKeeps : List Fact → InvestorEvent → ℕ → InvestorRow → Type 0
  EventKeeps facts event number other = fits (book_by (of_investor number facts)) event ≡ true
      → IsSo (facts ++ map (AtInvestor number)
      (entries_of (market_of config number other) (of_investor number facts) event))

  event_keeps : (facts : List Fact) (number : ℕ) (other : InvestorRow) (event : InvestorEvent)
      → investor_numbered config number ≡ Some other → IsSo facts
      → EventKeeps facts event number other
  event_keeps facts number other event found so = elim (cases_Bool (number == own)) [
    | inl same ↦
        let here : own ≡ number = sym (eqb-true number own same) in
        let one : row ≡ other =
        same_Some row other (sym is_investor ∙ ap (investor_numbered config) here ∙ found) in
        subst (λ (n : ℕ). EventKeeps facts event n other) here
        (subst (λ (r : InvestorRow). EventKeeps facts event own r) one
        (λ fit. own_event facts event fit so))
    | inr differs ↦ λ fit. stays facts _ (other_investor own number differs _) so
  ]

  action_keeps : (facts : List Fact) (desk : Option ℕ) (at : Option RoomRef) (effect : Effect)
      → IsAction config facts desk at effect → IsSo facts → IsSo (facts ++ effect.facts)
  unfolding of_investor
  action_keeps facts desk at effect (idle is) so =
      subst (λ (e : Effect). IsSo (facts ++ e.facts)) (sym is) (stays facts [] refl so)
  action_keeps facts desk at effect (by_dealer number other event duties desk_is found comes is) so =
      subst (λ (e : Effect). IsSo (facts ++ e.facts)) (sym is)
      (stays facts _ (investor_at_dealer own number
      (dealer_trail.entries_of config.date other (of_dealer number facts) event)) so)
  action_keeps facts desk at effect (by_investor number other event duties desk_is found fit is) so =
      subst (λ (e : Effect). IsSo (facts ++ e.facts)) (sym is)
      (event_keeps facts number other event found so fit)
  action_keeps facts desk at effect (by_room here event duties at_is is) so =
      subst (λ (e : Effect). IsSo (facts ++ e.facts)) (sym is)
      (stays facts _ (investor_in_room own here (event_facts (of_room here facts) event)) so)
  action_keeps facts desk at effect (by_hit here response word moment at_is is) so =
      let known = of_room here facts in
      let settlement = option_map (answer_to_hit facts)
      (quote_asked config (hit_word known word moment)) in
      let outcome = hit_outcome known word moment settlement in
      let lifted = lifting (quote_with_word config word) outcome in
      let happened = event_facts known (at_room.Hit word moment settlement) in
      subst (λ (e : Effect). IsSo (facts ++ e.facts)) (sym is)
      (stays facts (lifted ++ map (InRoom here) happened)
      (investor_grown own lifted (map (InRoom here) happened)
      ∙ ap (λ (l : List InvestorEntry). l ++ of_investor own (map (InRoom here) happened))
      (nothing_lifted own (quote_with_word config word) outcome)
      ∙ investor_in_room own here happened) so)

  -- All steps.

  turn_keeps : (by : Actor) (day : AuditTrail) (duties : List Duty) → IsSo day.facts
      → IsSo (after_turn config by day duties).facts
  turn_keeps by day [] so = so
  turn_keeps by day (duty ∷ later) so =
      action_keeps day.facts _ _ (duty_effect config day.facts by duty)
      (duty_action config day.facts by duty) so

  step_keeps : (day : AuditTrail) (next : Step) → IsSo day.facts
      → IsSo (after_step config day next).facts
  unfolding after_step
  step_keeps day (step.In firm moment bytes) so =
      action_keeps day.facts _ _ (message_effect config day.facts firm moment bytes)
      (message_action config day.facts firm moment bytes) so
  step_keeps day (step.Turn by) so = turn_keeps by day (pending by day) so
  step_keeps day (step.Expire at moment) so =
      action_keeps day.facts _ _ (sweep_effect config day.facts at moment)
      (sweep_action config day.facts at moment) so

  steps_keep : (steps : List Step) (day : AuditTrail) → IsSo day.facts
      → IsSo (fold (after_step config) day steps).facts
  steps_keep [] day so = so
  steps_keep (next ∷ later) day so =
      steps_keep later (after_step config day next) (step_keeps day next so)

  -- what is kept, and stands at the start of the day, stands after all steps
  pub kept_by_all : P [] → (steps : List Step) → IsSo (audit_trail config steps).facts
  unfolding audit_trail of_investor
  kept_by_all start steps = steps_keep steps no_steps start
