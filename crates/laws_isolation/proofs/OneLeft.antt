-- Two days of which the same is left, and a step of another dealer in one of them: the same is
-- left of both behind it.
use Rattle.std.proofs.Common.{◌≡◌, ℕ, Bool, true, false, List, [], ◌∷◌, ◌++◌, map, refl, sym, ap}
use Rattle.std.proofs.Common.{◌∙◌, subst}
use Rattle.std.proofs.lemmas.Bool.{both_ways, false_from_ne_true}
use Rattle.std.proofs.lemmas.List.{append-nil}
use Rattle.market_terms.specs.declared.closes.Reply.TheVariants as reply
use Rattle.market_terms.specs.declared.duties.Duty.{Duty}
use Rattle.market_terms.specs.declared.duties.Duty.TheVariants as duty
use Rattle.venue_rows.specs.Rows.{Configuration}
use Rattle.venue_steps.specs.declared.actors.Actor.{Actor}
use Rattle.venue_steps.specs.declared.actors.Actor.TheVariants as actor
use Rattle.step_replay.specs.Actions.{Effect}
use Rattle.step_replay.specs.AuditTrail.{AuditTrail, after_step, after_turn, is_same_actor}
use Rattle.step_replay.specs.AuditTrail.{pending, with_effect}
use Rattle.step_replay.specs.DutyEffects.{duty_effect, message_effect}
use Rattle.step_replay.specs.Lists.{Every}
use Rattle.step_replay.specs.QueueLemmas.{one_actor, other_pending, other_turned, same_either}
use Rattle.step_replay.specs.declared.steps.Step.{Step}
use Rattle.step_replay.specs.declared.steps.Step.TheVariants as step
use Rattle.laws_days.specs.DayParts.{CausedOk, left_ok, pending_ok}
use Rattle.laws_days.specs.DealerDuties.{IsQuoting}
use Rattle.laws_days.specs.KeptItems.{every_all}
use Rattle.laws_isolation.specs.Silence.{is_another, acts_as_another, is_hit, is_of_another}
use Rattle.laws_days.proofs.LiveQuotes.{LoneQuotes}
use Rattle.laws_days.proofs.VenueDay.{step_stands}
use Rattle.laws_days.proofs.VenueDesk.{WordsOfDay}
use Rattle.laws_days.proofs.VenueInvariant.{VenueOk}
use Rattle.laws_isolation.proofs.Left.{IsUnseen, left, left_append, left_duty, no_response, no_room}
use Rattle.laws_isolation.proofs.Unseen.{duty_quoting, duty_unseen, is_dealer}
use Rattle.laws_isolation.proofs.Unseen.{message_quoting, message_unseen}

-- Lists.

pub cancel : {X : Type 0} (xs ys zs : List X) → xs ++ ys ≡ xs ++ zs → ys ≡ zs
cancel [] ys zs same = same
cancel (x ∷ xs) ys zs same = cancel xs ys zs (cc)

-- what is added behind the same, where the wholes are the same
pub added_same : {X : Type 0} (xs xs_too ys zs : List X) → xs ≡ xs_too → xs ++ ys ≡ xs_too ++ zs
    → ys ≡ zs
added_same xs xs_too ys zs same whole = cancel xs ys zs (rw (← same) at whole)

-- whether it is a hit is left of a duty
hit_is : (d : Duty) → is_hit (left_duty d) ≡ is_hit d
hit_is (duty.Answer room response reply.Awarded moment) = refl
hit_is (duty.Answer room response reply.Passed moment) = refl
hit_is (duty.Answer room response (reply.Refused why) moment) = refl
hit_is other = refl

pub hit_kept : (d e : Duty) → left_duty d ≡ left_duty e → is_hit d ≡ is_hit e
hit_kept d e so = sym (hit_is d) ∙ ap is_hit so ∙ hit_is e

pub moment_same : (moment moment_too : ℕ)
    → duty.Hit no_room no_response 0 moment ≡ duty.Hit no_room no_response 0 moment_too
    → moment ≡ moment_too
moment_same moment moment_too so = cc

module _ (config : Configuration) (own : ℕ) where
  -- What stands in a queue: another dealer's quotes and declines.

  abbrev pub SuitsIf : Bool → Duty → Type 0
  SuitsIf true more = IsQuoting more
  SuitsIf false more = Unit {0}

  abbrev pub Suits : Actor → Duty → Type 0
  Suits by more = SuitsIf (acts_as_another config own by) more

  abbrev pub DayFits : AuditTrail → Type 0
  DayFits trail = Every (CausedOk Suits) trail.caused

  pub fits_then : (by : Actor) (b : Bool) → acts_as_another config own by ≡ b → (trail : AuditTrail)
      (effect : Effect) → DayFits trail → Every (SuitsIf b) effect.duties
      → DayFits (with_effect by trail effect)
  fits_then by b is trail effect fits each =
      left_ok Suits by trail.caused effect.duties fits
      (subst (λ (c : Bool). Every (SuitsIf c) effect.duties) (sym is) each)

  pub fits_own : (by : Actor) → acts_as_another config own by ≡ false → (trail : AuditTrail)
      (effect : Effect) → DayFits trail → DayFits (with_effect by trail effect)
  fits_own by isnt trail effect fits =
      fits_then by false isnt trail effect fits
      (every_all (SuitsIf false) (λ more. tt) effect.duties)

  -- Two days of which the same is left.
  pub record IsOneLeft (one other : AuditTrail) : Type 0 where
    pub facts_are : left own one.facts ≡ left own other.facts
    pub queues_are : (by : Actor) → acts_as_another config own by ≡ false
        → map left_duty (pending by one) ≡ map left_duty (pending by other)
    pub stood : VenueOk config one
    pub stood_too : VenueOk config other
    pub fits : DayFits one
    pub fits_too : DayFits other

  pub turned_round : (one other : AuditTrail) → IsOneLeft one other → IsOneLeft other one
  turned_round one other same = record {
    facts_are = sym same.facts_are;
    queues_are = λ by isnt. sym (same.queues_are by isnt);
    stood = same.stood_too;
    stood_too = same.stood;
    fits = same.fits_too;
    fits_too = same.fits;
  }

  -- actors of which one is another dealer are two
  pub differs : (by other : Actor) → acts_as_another config own by ≡ true
      → acts_as_another config own other ≡ false → is_same_actor by other ≡ false
  differs by other is isnt =
      false_from_ne_true (is_same_actor by other)
      (λ test. both_ways (acts_as_another config own by)
      (ap (acts_as_another config own) (one_actor by other test) ∙ isnt) is)

  module _ (lone : LoneQuotes) (words : WordsOfDay) where
    pub stands : (trail : AuditTrail) (s : Step) → VenueOk config trail
        → VenueOk config (after_step config trail s)
    stands trail s stood = step_stands lone words config trail stood s

    -- A step of another dealer in one of the days.

    module _ (one other : AuditTrail) (same : IsOneLeft one other) where
      unseen_facts : (by : Actor) (effect : Effect) → IsUnseen own effect
          → left own (one.facts ++ effect.facts) ≡ left own other.facts
      unseen_facts by effect unseen =
          rw (left_append own one.facts effect.facts, unseen.no_facts, append-nil) (same.facts_are)

      unseen_turn : (by : Actor) → acts_as_another config own by ≡ true → (duties : List Duty)
          → pending by one ≡ duties → VenueOk config (after_turn config by one duties)
          → IsOneLeft (after_turn config by one duties) other
      unseen_turn by is [] now stood = same
      unseen_turn by is (more ∷ later) now stood =
          let suits : Every (Suits by) (more ∷ later) =
          rw now at (pending_ok Suits by one same.fits) in
          let quoting : IsQuoting more = rw is at suits.0 in
          let effect = duty_effect config one.facts by more in record {
            facts_are = unseen_facts by effect
                (duty_unseen config own one.facts by more is quoting);
            queues_are = λ who isnt.
                let apart = differs by who is isnt in
                ap (map left_duty) (other_turned by who one effect apart
                (same_either by who apart)) ∙ same.queues_are who isnt;
            stood = stood;
            stood_too = same.stood_too;
            fits = fits_then by true is (record one { done = one.done ++ by ∷ [] }) effect same.fits
                (duty_quoting config one.facts by more quoting).each;
            fits_too = same.fits_too;
          }

      unseen_message : (firm moment : ℕ) (bytes : List ℕ) → is_another config own firm ≡ true
          → VenueOk config (with_effect (actor.Firm firm) one
          (message_effect config one.facts firm moment bytes))
          → IsOneLeft (with_effect (actor.Firm firm) one
          (message_effect config one.facts firm moment bytes)) other
      unseen_message firm moment bytes is stood =
          let effect = message_effect config one.facts firm moment bytes in record {
            facts_are = unseen_facts (actor.Firm firm) effect
                (message_unseen config own one.facts firm moment bytes is);
            queues_are = λ who isnt.
                ap (map left_duty) (other_pending (actor.Firm firm) who one effect
                (differs (actor.Firm firm) who is isnt)) ∙ same.queues_are who isnt;
            stood = stood;
            stood_too = same.stood_too;
            fits = fits_then (actor.Firm firm) true is one effect same.fits
                (message_quoting config one.facts firm moment bytes
                (is_dealer config own one.facts firm is)).each;
            fits_too = same.fits_too;
          }

      unseen_in : (firm moment : ℕ) (bytes : List ℕ) → is_another config own firm ≡ true
          → IsOneLeft (after_step config one (step.In firm moment bytes)) other
      unfolding after_step
      unseen_in firm moment bytes is =
          unseen_message firm moment bytes is (stands one (step.In firm moment bytes) same.stood)

      unseen_by : (by : Actor) → acts_as_another config own by ≡ true
          → IsOneLeft (after_step config one (step.Turn by)) other
      unfolding after_step
      unseen_by by is =
          unseen_turn by is (pending by one) refl (stands one (step.Turn by) same.stood)

      pub unseen_step : (s : Step) → is_of_another config own s ≡ true
          → IsOneLeft (after_step config one s) other
      unseen_step (step.In firm moment bytes) is = unseen_in firm moment bytes is
      unseen_step (step.Turn by) is = unseen_by by is
      unseen_step (step.Expire room moment) is = absurd (both_ways false refl is)
