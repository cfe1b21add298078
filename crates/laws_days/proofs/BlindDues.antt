-- Blindness to prices: two days that are one but for the prices of other dealers stay one without
-- prices, step by step, and what is due to a dealer is one in both but for the cover.
use Rattle.laws_days.proofs.Common.{◌≡◌, ℕ, List, [], ◌∷◌, ◌++◌, map, filter_map, count_by, fold}
use Rattle.laws_days.proofs.Common.{Some, refl, sym, ap, ◌∙◌, ◌==◌, ◌⊎◌, inl, inr, true, eq-eqb}
use Rattle.laws_days.proofs.Common.{cases_Bool, map-append, map-map, uncovered, unpriced_duty}
use Rattle.laws_days.proofs.Common.{Duty, Field, frame_of, Configuration, Actor, Told, Effect}
use Rattle.laws_days.proofs.Common.{dealer_of, AuditTrail, Caused, after_step, after_turn}
use Rattle.laws_days.proofs.Common.{audit_trail, duty_of, is_same_actor, no_steps, pending, AtDesk}
use Rattle.laws_days.proofs.Common.{DealerEntry, Sent, book_by, due_list, duty_effect}
use Rattle.laws_days.proofs.Common.{message_effect, sweep_effect, Fact, of_dealer, Step}
use Rattle.laws_days.proofs.Common.{IsPricedByAnother}
use Rattle.std.proofs.lemmas.List.{drop-map}
use Rattle.market_terms.specs.declared.closes.Close.TheVariants as closes
use Rattle.fix_fields.specs.Frame.{IsFrame}
use Rattle.venue_steps.specs.declared.actors.Actor.TheVariants as actor
use Rattle.step_replay.specs.AuditTrail.{due_to, with_effect}
use Rattle.step_replay.specs.declared.dues.Due.{Due}
use Rattle.step_replay.specs.declared.dues.Due.TheVariants as due
use Rattle.step_replay.specs.declared.steps.Step.TheVariants as step
use Rattle.laws_days.specs.PriceAlike.{IsCoverAgainstDoneAway, IsOneButForCover, IsPriceAlike}
use Rattle.laws_days.proofs.Erasing.{bare, bare_append, erase_entry, trail_left}
use Rattle.laws_days.proofs.ErasedSteps.{duty_left, left, message_left, said_left, sweep_left}
use Rattle.laws_days.proofs.LiveQuotes.{LoneQuotes}
use Rattle.laws_days.proofs.PricedMessages.{verdicts_alike}
use Rattle.laws_days.proofs.VenueDay.{step_stands, venue_ok}
use Rattle.laws_days.proofs.VenueDesk.{WordsOfDay}
use Rattle.laws_days.proofs.VenueInvariant.{VenueOk}
use Rattle.laws_days.proofs.VenueKnown.{book_bears}

-- Days.

-- a duty in a queue without prices
abbrev erase_caused : Caused → Caused
erase_caused caused = record { by = caused.by; duty = unpriced_duty caused.duty }

-- a day without prices
bare_day : ℕ → AuditTrail → AuditTrail
bare_day own trail = record {
  facts = bare own trail.facts;
  caused = map erase_caused trail.caused;
  done = trail.done;
}

duties_left : (by : Actor) (caused : List Caused)
    → filter_map (duty_of by) (map erase_caused caused)
    ≡ map unpriced_duty (filter_map (duty_of by) caused)
duties_left by [] = refl
duties_left by (next ∷ caused) =
    let rest = duties_left by caused in
    elim (cases_Bool (is_same_actor next.by by)) [ inl is ↦ rw (is, rest) | inr is ↦ rw (is, rest) ]

module _ (config : Configuration) (own : ℕ) where
  -- the day without prices after a turn with these duties to do, and after a step

  turned : Actor → AuditTrail → List Duty → AuditTrail
  turned by trail [] = trail
  turned by trail (more ∷ later) = with_effect by (record trail { done = trail.done ++ by ∷ [] })
      (left own (duty_effect config trail.facts by more))

  stepped : AuditTrail → Step → AuditTrail
  stepped trail (step.In firm moment bytes) =
      with_effect (actor.Firm firm) trail
      (left own (message_effect config trail.facts firm moment bytes))
  stepped trail (step.Turn by) = turned by trail (pending by trail)
  stepped trail (step.Expire room moment) =
      with_effect actor.Clock trail (left own (sweep_effect config trail.facts room moment))

  effect_left : (by : Actor) (trail : AuditTrail) (effect : Effect)
      → bare_day own (with_effect by trail effect)
      ≡ with_effect by (bare_day own trail) (left own effect)
  unfolding bare_day left
  effect_left by trail effect = simp (bare_append, map-append, map-map)

  turn_left : (by : Actor) (trail : AuditTrail) (duties : List Duty)
      → bare_day own (after_turn config by trail duties)
      ≡ turned by (bare_day own trail) (map unpriced_duty duties)
  unfolding bare_day turned
  turn_left by trail [] = refl
  turn_left by trail (more ∷ later) =
      effect_left by (record trail { done = trail.done ++ by ∷ [] })
      (duty_effect config trail.facts by more)
      ∙ rw (duty_left config own trail.facts by more)

  step_left : (trail : AuditTrail) (more : Step)
      → bare_day own (after_step config trail more) ≡ stepped (bare_day own trail) more
  unfolding bare_day stepped after_step
  step_left trail (step.In firm moment bytes) =
      effect_left (actor.Firm firm) trail (message_effect config trail.facts firm moment bytes)
      ∙ rw (message_left config own trail.facts firm moment bytes)
  step_left trail (step.Turn by) =
      let same : pending by (bare_day own trail) ≡ map unpriced_duty (pending by trail) =
      rw (duties_left by trail.caused) (drop-map unpriced_duty
      (count_by (is_same_actor by) trail.done) (filter_map (duty_of by) trail.caused)) in
      rw same (turn_left by trail (pending by trail))
  step_left trail (step.Expire room moment) =
      effect_left actor.Clock trail (sweep_effect config trail.facts room moment)
      ∙ rw (sweep_left config own trail.facts room moment)

  -- that frames are read
  module _ (lone : LoneQuotes) (words : WordsOfDay)
      (reads : (bytes : List ℕ) (fields : List Field) → IsFrame bytes fields
      → frame_of bytes ≡ Some fields) where
    either_left : (trail : AuditTrail) (more later : Step) → VenueOk config trail
        → (more ≡ later) ⊎ IsPricedByAnother config own more later
        → bare_day own (after_step config trail more) ≡ stepped (bare_day own trail) later
    unfolding bare_day stepped after_step message_effect
    either_left trail more later stood (inl same) = rw same (step_left trail later)
    either_left trail more later stood (inr priced) =
        let prices = priced.prices in
        let said : left own (message_effect config (bare own trail.facts) priced.firm priced.moment
        priced.priced)
        ≡ left own (message_effect config trail.facts priced.firm priced.moment priced.message) =
        rw priced.is_dealer (said_left config own trail.facts priced.moment priced.priced
        priced.message (dealer_of priced.firm priced.row)
        (sym (verdicts_alike config config.date priced.row
        (book_by (of_dealer priced.firm trail.facts)) priced.moment
        (book_bears config trail stood priced.firm) prices.fields prices.others prices.fields_are
        priced.message priced.priced (reads priced.message prices.fields prices.one_is)
        (reads priced.priced prices.others prices.other_is)))
        (rw priced.is_another)) in
        rw (priced.one_is, priced.other_is) (effect_left (actor.Firm priced.firm) trail
        (message_effect config trail.facts priced.firm priced.moment priced.message) ∙ rw said)

    days_left : (one other : AuditTrail) (steps others : List Step) → VenueOk config one
        → bare_day own one ≡ bare_day own other → IsPriceAlike config own steps others
        → bare_day own (fold (after_step config) one steps)
        ≡ bare_day own (fold (after_step config) other others)
    days_left one other [] [] stood before alike = before
    days_left one other [] (later ∷ others) stood before alike = elim alike [ ]
    days_left one other (more ∷ steps) [] stood before alike = elim alike [ ]
    days_left one other (more ∷ steps) (later ∷ others) stood before alike =
        days_left (after_step config one more) (after_step config other later) steps others
        (step_stands lone words config one stood more)
        (either_left one more later stood alike.0
        ∙ ap (λ (day : AuditTrail). stepped day later) before ∙ sym (step_left other later)) alike.1

-- Due lists.

-- an item without the cover
abbrev erase_due : Due → Due
erase_due (due.Closed request close moment) = due.Closed request (uncovered close) moment
erase_due other = other

due_left : (trail : List DealerEntry)
    → due_list (filter_map (erase_entry true) trail) ≡ map erase_due (due_list trail)
due_left [] = refl
due_left (AtDesk (Told request close moment) ∷ trail) = rw (due_left trail)
due_left (Sent message ∷ trail) = due_left trail
due_left (entry ∷ trail) = rw (due_left trail)

-- two items are one, but that Cover may stand against Done Away
items : (one other : Due) → erase_due one ≡ erase_due other
    → (one ≡ other) ⊎ IsCoverAgainstDoneAway one other ⊎ IsCoverAgainstDoneAway other one
items (due.Closed request closes.Cover moment) (due.Closed again closes.Cover later) same =
    inl (cc)
items (due.Closed request closes.Cover moment) (due.Closed again closes.DoneAway later) same =
    inr (inl ((cc), (cc)))
items (due.Closed request closes.DoneAway moment) (due.Closed again closes.Cover later) same =
    inr (inr ((cc), (cc)))
items (due.Closed request closes.Cover moment) other same = cc
items one (due.Closed again closes.Cover later) same = cc
items one other same = inl same

lists : (dues others : List Due) → map erase_due dues ≡ map erase_due others
    → IsOneButForCover dues others
lists [] [] same = tt
lists [] (other ∷ others) same = cc
lists (one ∷ dues) [] same = cc
lists (one ∷ dues) (other ∷ others) same =
    (items one other (cc), lists dues others (cc))

-- what is due is one but for the cover
pub is_blind : LoneQuotes → WordsOfDay
    → ((bytes : List ℕ) (fields : List Field) → IsFrame bytes fields
    → frame_of bytes ≡ Some fields) → (config : Configuration) (steps others : List Step) (own : ℕ)
    → IsPriceAlike config own steps others
    → IsOneButForCover (due_to own (audit_trail config steps))
    (due_to own (audit_trail config others))
unfolding bare_day audit_trail
is_blind lone words reads config steps others own alike =
    lists (due_to own (audit_trail config steps)) (due_to own (audit_trail config others))
    (sym (known (audit_trail config steps).facts)
    ∙ ap (λ (day : AuditTrail). due_list (of_dealer own day.facts))
    (days_left config own lone words reads no_steps no_steps steps others
    (venue_ok lone words config []) refl alike)
    ∙ known (audit_trail config others).facts)
  where
    known : (facts : List Fact)
        → due_list (of_dealer own (bare own facts)) ≡ map erase_due (due_list (of_dealer own facts))
    known facts =
        let same : (own == own) ≡ true = eq-eqb own own refl in
        rw (trail_left own own facts, same) (due_left (of_dealer own facts))
