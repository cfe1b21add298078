-- A step of both days: the same is left of both behind it, where the same is awarded and the same
-- messages leave a hit.
use Rattle.std.proofs.Common.{◌⊎◌, ◌≡◌, ℕ, inl, inr, Bool, true, false, List, [], ◌∷◌, ◌++◌, map}
use Rattle.std.proofs.Common.{filter_map, Some, refl, is_some, sym, ap, ◌∙◌, subst}
use Rattle.std.proofs.lemmas.Bool.{both_ways, cases_Bool}
use Rattle.std.proofs.lemmas.List.{map-append}
use Rattle.std.proofs.lemmas.List.Elements.{filter_map-append}
use Rattle.fix_fields.specs.Frame.{Field, IsFrame, frame_of}
use Rattle.market_terms.specs.declared.duties.Duty.{Duty}
use Rattle.market_terms.specs.declared.duties.Duty.TheVariants as duty
use Rattle.venue_rows.specs.Rows.{Configuration, dealer_numbered}
use Rattle.investor_desk.specs.InvestorFacts.{InvestorBook}
use Rattle.investor_desk.specs.InvestorRules.{InvestorMarket, investor_verdict}
use Rattle.venue_steps.specs.declared.actors.Actor.{Actor}
use Rattle.venue_steps.specs.declared.actors.Actor.TheVariants as actor
use Rattle.step_replay.specs.Actions.{Effect}
use Rattle.step_replay.specs.AuditTrail.{AuditTrail, after_step, is_same_actor}
use Rattle.step_replay.specs.AuditTrail.{pending, with_effect}
use Rattle.step_replay.specs.DutyEffects.{duty_effect, message_effect, sweep_effect}
use Rattle.step_replay.specs.QueueLemmas.{one_actor, other_pending, other_turned, own_pending}
use Rattle.step_replay.specs.QueueLemmas.{own_turned, same_either, turned}
use Rattle.step_replay.specs.VenueFacts.{Fact}
use Rattle.step_replay.specs.declared.steps.Step.{Step}
use Rattle.step_replay.specs.declared.steps.Step.TheVariants as step
use Rattle.laws_isolation.specs.Silence.{acts_as_another, is_another, is_hit, is_of_another}
use Rattle.laws_days.specs.Conditions.{is_met, may_hit}
use Rattle.laws_days.proofs.ConditionMet.{met}
use Rattle.laws_days.proofs.LiveQuotes.{LoneQuotes}
use Rattle.laws_days.proofs.VenueDesk.{WordsOfDay}
use Rattle.laws_days.proofs.VenueInvariant.{VenueOk}
use Rattle.laws_days.proofs.VenueKnown.{pending_ok as due_ok}
use Rattle.laws_days.proofs.VenueParts.{later_same}
use Rattle.laws_isolation.specs.Presence.{AreHitsOfQuotes, award_in, awards, hit_left, hits_left}
use Rattle.laws_isolation.proofs.OtherHits.{IsSaidAlike, hits_said, same_said}
use Rattle.laws_isolation.proofs.Left.{AreAlike, alike_back, alike_then, left, left_append}
use Rattle.laws_isolation.proofs.Left.{left_duty, numbered_own, same_alike}
use Rattle.laws_isolation.proofs.LeftHits.{hits_alike}
use Rattle.laws_isolation.proofs.Calm.{turn_is}
use Rattle.laws_isolation.proofs.LeftMessages.{hits_by, message_alike}
use Rattle.laws_isolation.proofs.LeftOwn.{said_alike as own_said}
use Rattle.laws_isolation.proofs.LeftSteps as steps
use Rattle.laws_isolation.proofs.OneLeft.{IsOneLeft, added_same, fits_own, hit_kept, moment_same}
use Rattle.laws_isolation.proofs.OneLeft.{stands, turned_round, unseen_step}

-- What waits in two queues of which the same is left: nothing, or a duty each.

pub record Waiting (duties duties_too : List Duty) : Type 0 where
  pub more : Duty
  pub later : List Duty
  pub more_too : Duty
  pub later_too : List Duty
  pub is : duties ≡ more ∷ later
  pub is_too : duties_too ≡ more_too ∷ later_too
  pub first : left_duty more ≡ left_duty more_too
  pub rest : map left_duty later ≡ map left_duty later_too

waiting : (duties duties_too : List Duty) → map left_duty duties ≡ map left_duty duties_too
    → ((duties ≡ []) × (duties_too ≡ [])) ⊎ Waiting duties duties_too
waiting [] [] same = inl (refl, refl)
waiting [] (more_too ∷ later_too) same = cc
waiting (more ∷ later) [] same = cc
waiting (more ∷ later) (more_too ∷ later_too) same = inr record {
  more = more;
  later = later;
  more_too = more_too;
  later_too = later_too;
  is = refl;
  is_too = refl;
  first = cc;
  rest = cc;
}

module _ (config : Configuration) (own : ℕ) where
  module _ (lone : LoneQuotes) (words : WordsOfDay) where
    -- A step of both.

    module _ (one other : AuditTrail) (same : IsOneLeft config own one other) where
      alike_facts : (effect effect_too : Effect) → AreAlike own effect effect_too
          → left own (one.facts ++ effect.facts) ≡ left own (other.facts ++ effect_too.facts)
      alike_facts effect effect_too alike =
          rw (left_append, left_append, same.facts_are, alike.facts_are) refl

      -- what an actor that is no other dealer does beside its queue
      alike_step : (by : Actor) → acts_as_another config own by ≡ false
          → (effect effect_too : Effect) → AreAlike own effect effect_too
          → VenueOk config (with_effect by one effect)
          → VenueOk config (with_effect by other effect_too)
          → IsOneLeft config own (with_effect by one effect) (with_effect by other effect_too)
      alike_step by isnt effect effect_too alike stood stood_too = record {
        facts_are = alike_facts effect effect_too alike;
        queues_are = λ who is. elim (cases_Bool (is_same_actor by who)) [
          | inl test ↦
              let mine : by ≡ who = one_actor by who test in
              subst (λ (a : Actor). map left_duty (pending a (with_effect by one effect))
              ≡ map left_duty (pending a (with_effect by other effect_too))) mine
              (rw (
                own_pending by one effect (same.stood.queues by).within,
                own_pending by other effect_too (same.stood_too.queues by).within,
                map-append,
                map-append,
                same.queues_are by isnt,
                alike.duties_are,
              ) refl)
          | inr apart ↦
              ap (map left_duty) (other_pending by who one effect apart)
              ∙ same.queues_are who is
              ∙ ap (map left_duty) (sym (other_pending by who other effect_too apart))
        ];
        stood = stood;
        stood_too = stood_too;
        fits = fits_own config own by isnt one effect same.fits;
        fits_too = fits_own config own by isnt other effect_too same.fits_too;
      }

      -- what a turn of one does
      alike_turn : (by : Actor) → acts_as_another config own by ≡ false
          → (more more_too : Duty) (later later_too : List Duty)
          → pending by one ≡ more ∷ later → pending by other ≡ more_too ∷ later_too
          → map left_duty later ≡ map left_duty later_too
          → (effect effect_too : Effect) → AreAlike own effect effect_too
          → VenueOk config (turned by one effect) → VenueOk config (turned by other effect_too)
          → IsOneLeft config own (turned by one effect) (turned by other effect_too)
      alike_turn by isnt more more_too later later_too now now_too rest effect effect_too alike
          stood
          stood_too = record {
            facts_are = alike_facts effect effect_too alike;
            queues_are = λ who is. elim (cases_Bool (is_same_actor by who)) [
              | inl test ↦
                  let mine : by ≡ who = one_actor by who test in
                  subst (λ (a : Actor). map left_duty (pending a (turned by one effect))
                  ≡ map left_duty (pending a (turned by other effect_too))) mine
                  (rw (
                    own_turned by one effect more later now,
                    own_turned by other effect_too more_too later_too now_too,
                    map-append,
                    map-append,
                    rest,
                    alike.duties_are,
                  ) refl)
              | inr apart ↦
                  ap (map left_duty) (other_turned by who one effect apart
                  (same_either by who apart))
                  ∙ same.queues_are who is
                  ∙ ap (map left_duty) (sym (other_turned by who other effect_too apart
                  (same_either by who apart)))
            ];
            stood = stood;
            stood_too = stood_too;
            fits = fits_own config own by isnt
                (record one { done = one.done ++ by ∷ [] }) effect same.fits;
            fits_too = fits_own config own by isnt
                (record other { done = other.done ++ by ∷ [] }) effect_too
                same.fits_too;
          }

      -- a duty meets its test as its turn comes
      pub is_met_now : (by : Actor) (trail : AuditTrail) → VenueOk config trail → (more : Duty)
          (later : List Duty) → pending by trail ≡ more ∷ later
          → is_met config trail.facts by more ≡ true
      is_met_now by trail stood more later now =
          let fits = due_ok stood by more later now in
          met stood by words more (fits.0 trail (later_same trail)) fits.1

      -- two hits
      both_hit : (by : Actor) (d e : Duty) → is_hit d ≡ true → is_hit e ≡ true → left_duty d
          ≡ left_duty e
          → is_met config one.facts by d ≡ true → is_met config other.facts by e ≡ true
          → filter_map award_in (duty_effect config one.facts by d).facts
          ≡ filter_map award_in (duty_effect config other.facts by e).facts
          → AreAlike own (duty_effect config one.facts by d)
          (duty_effect config other.facts by e)
      unfolding is_met
      both_hit by (duty.Hit room response word moment)
          (duty.Hit room_too response_too word_too moment_too) is is_too so now now_too same_too =
          subst (λ (m : ℕ). may_hit config other.facts room_too word_too m ≡ true
          → filter_map award_in
          (duty_effect config one.facts by (duty.Hit room response word moment)).facts
          ≡ filter_map award_in
          (duty_effect config other.facts by (duty.Hit room_too response_too word_too m)).facts
          → AreAlike own (duty_effect config one.facts by (duty.Hit room response word moment))
          (duty_effect config other.facts by (duty.Hit room_too response_too word_too m)))
          (moment_same moment moment_too so)
          (λ may_now same_now. hits_alike config own one other same.stood same.stood_too
          same.facts_are room room_too response response_too word word_too moment by now may_now
          same_now) now_too same_too
      both_hit by (duty.Hit room response word moment) e is is_too so now now_too same_too = cc
      both_hit by d e is is_too so now now_too same_too = cc

      duties_alike : (by : Actor) → acts_as_another config own by ≡ false
          → (more more_too : Duty) → left_duty more ≡ left_duty more_too
          → is_met config one.facts by more ≡ true → is_met config other.facts by more_too ≡ true
          → filter_map award_in (duty_effect config one.facts by more).facts
          ≡ filter_map award_in (duty_effect config other.facts by more_too).facts
          → AreAlike own (duty_effect config one.facts by more)
          (duty_effect config other.facts by more_too)
      duties_alike by isnt more more_too lefts may may_too awarded =
          elim (cases_Bool (is_hit more)) [
            | inl hit ↦ both_hit by more more_too hit (sym (hit_kept more more_too lefts)
                ∙ hit) lefts
                may may_too awarded
            | inr none ↦
                alike_then own _ _ _ (steps.duty_alike config own one.facts by more isnt none may)
                (alike_then own _ _ _
                (same_alike own _ _
                (ap (λ (l : List Fact). duty_effect config l by (left_duty more)) same.facts_are
                ∙ ap (duty_effect config (left own other.facts) by) lefts))
                (alike_back own _ _ (steps.duty_alike config own other.facts by more_too isnt
                (sym (hit_kept more more_too lefts) ∙ none) may_too)))
          ]

      -- a turn that finds a duty in both
      more_turn : (by : Actor) → acts_as_another config own by ≡ false
          → Waiting (pending by one) (pending by other) → awards one ≡ awards other
          → awards (after_step config one (step.Turn by))
          ≡ awards (after_step config other (step.Turn by))
          → IsOneLeft config own (after_step config one (step.Turn by))
          (after_step config other (step.Turn by))
      more_turn by isnt some before after =
          let effect = duty_effect config one.facts by some.more in
          let effect_too = duty_effect config other.facts by some.more_too in
          let is : after_step config one (step.Turn by) ≡ turned by one effect =
          turn_is config by one (some.more ∷ some.later) some.is in
          let is_too : after_step config other (step.Turn by) ≡ turned by other effect_too =
          turn_is config by other (some.more_too ∷ some.later_too) some.is_too in
          let stood = subst (VenueOk config) is
          (stands config own lone words one (step.Turn by) same.stood) in
          let stood_too = subst (VenueOk config) is_too
          (stands config own lone words other (step.Turn by) same.stood_too) in
          let awarded : filter_map award_in effect.facts ≡ filter_map award_in effect_too.facts =
          added_same (awards one) (awards other) _ _ before
          (sym (filter_map-append award_in one.facts effect.facts) ∙ sym (ap awards is) ∙ after
          ∙ ap awards is_too ∙ filter_map-append award_in other.facts effect_too.facts) in
          let same_now = alike_turn by isnt some.more some.more_too some.later some.later_too
          some.is
          some.is_too some.rest effect effect_too
          (duties_alike by isnt some.more some.more_too some.first
          (is_met_now by one same.stood some.more some.later some.is)
          (is_met_now by other same.stood_too some.more_too some.later_too some.is_too) awarded)
          stood stood_too in
          rw (is, is_too) same_now

      -- A turn, a message and a sweep.

      pub same_turn : (by : Actor) → acts_as_another config own by ≡ false
          → awards one ≡ awards other
          → awards (after_step config one (step.Turn by))
          ≡ awards (after_step config other (step.Turn by))
          → IsOneLeft config own (after_step config one (step.Turn by))
          (after_step config other (step.Turn by))
      same_turn by isnt before after =
          elim (waiting (pending by one) (pending by other) (same.queues_are by isnt)) [
            | inl none ↦ rw (turn_is config by one [] none.0, turn_is config by other [] none.1)
                same
            | inr some ↦ more_turn by isnt some before after
          ]

      -- a message of the dealer itself
      left_message : (facts : List Fact) (firm moment : ℕ) (bytes : List ℕ)
          → is_another config own firm ≡ false → is_some (dealer_numbered config firm) ≡ true
          → AreAlike own (message_effect config facts firm moment bytes)
          (message_effect config (left own facts) firm moment bytes)
      unfolding message_effect
      left_message facts firm moment bytes isnt is =
          rw is (numbered_own config own firm isnt _ _
          (λ dealer mine. own_said config own facts dealer mine moment bytes))

      own_message : (firm moment : ℕ) (bytes : List ℕ) → is_another config own firm ≡ false
          → is_some (dealer_numbered config firm) ≡ true
          → AreAlike own (message_effect config one.facts firm moment bytes)
          (message_effect config other.facts firm moment bytes)
      own_message firm moment bytes isnt is =
          alike_then own _ _ _ (left_message one.facts firm moment bytes isnt is)
          (alike_then own _ _ _
          (same_alike own _ _
          (ap (λ (l : List Fact). message_effect config l firm moment bytes) same.facts_are))
          (alike_back own _ _ (left_message other.facts firm moment bytes isnt is)))

      -- which hits a message leaves
      same_hits : (firm moment : ℕ) (bytes bytes_too : List ℕ) → hits_left one ≡ hits_left other
          → hits_left (after_step config one (step.In firm moment bytes))
          ≡ hits_left (after_step config other (step.In firm moment bytes_too))
          → hits_by (actor.Firm firm) (message_effect config one.facts firm moment bytes).duties
          ≡ hits_by (actor.Firm firm)
          (message_effect config other.facts firm moment bytes_too).duties
      unfolding after_step
      same_hits firm moment bytes bytes_too before after =
          added_same (hits_left one) (hits_left other) _ _ before
          (sym (filter_map-append hit_left one.caused _) ∙ after
          ∙ filter_map-append hit_left other.caused _)

      pub message_both : (firm moment : ℕ) (bytes bytes_too : List ℕ)
          → is_another config own firm ≡ false
          → (is_some (dealer_numbered config firm) ≡ true → bytes ≡ bytes_too)
          → ((market : InvestorMarket) (book : InvestorBook) → IsSaidAlike market moment
          (investor_verdict market book moment bytes)
          (investor_verdict market book moment bytes_too))
          → (is_some (dealer_numbered config firm) ≡ false
          → hits_by (actor.Firm firm) (message_effect config one.facts firm moment bytes).duties
          ≡ hits_by (actor.Firm firm)
          (message_effect config other.facts firm moment bytes_too).duties)
          → IsOneLeft config own (after_step config one (step.In firm moment bytes))
          (after_step config other (step.In firm moment bytes_too))
      unfolding after_step
      message_both firm moment bytes bytes_too isnt same_bytes said hit =
          alike_step (actor.Firm firm) isnt _ _
          (either (is_some (dealer_numbered config firm)) refl)
          (stands config own lone words one (step.In firm moment bytes) same.stood)
          (stands config own lone words other (step.In firm moment bytes_too) same.stood_too)
        where
          either : (b : Bool) → is_some (dealer_numbered config firm) ≡ b
              → AreAlike own (message_effect config one.facts firm moment bytes)
              (message_effect config other.facts firm moment bytes_too)
          either true is =
              subst (λ (l : List ℕ). AreAlike own
              (message_effect config one.facts firm moment bytes)
              (message_effect config other.facts firm moment l)) (same_bytes is)
              (own_message firm moment bytes isnt is)
          either false none =
              message_alike config own one.facts other.facts same.facts_are firm moment bytes
              bytes_too (actor.Firm firm) none said
              (hit none)

      pub sweep_both : (room : _) (moment : ℕ)
          → IsOneLeft config own (after_step config one (step.Expire room moment))
          (after_step config other (step.Expire room moment))
      unfolding after_step
      sweep_both room moment =
          alike_step actor.Clock refl _ _
          (alike_then own _ _ _ (steps.sweep_alike config own one.facts room moment)
          (alike_then own _ _ _
          (same_alike own _ _
          (ap (λ (l : List Fact). sweep_effect config l room moment) same.facts_are))
          (alike_back own _ _ (steps.sweep_alike config own other.facts room moment))))
          (stands config own lone words one (step.Expire room moment) same.stood)
          (stands config own lone words other (step.Expire room moment) same.stood_too)

    -- A line of the two days.

    module _ (one other : AuditTrail) (same : IsOneLeft config own one other) where
      -- another dealer's step in both
      pub unseen_both : (s : Step) → is_of_another config own s ≡ true
          → IsOneLeft config own (after_step config one s) (after_step config other s)
      unseen_both s is =
          turned_round config own (after_step config other s) (after_step config one s)
          (unseen_step config own lone words other (after_step config one s)
          (turned_round config own (after_step config one s) other
          (unseen_step config own lone words one other same s is)) s is)

      pub same_step : (s : Step) → awards one ≡ awards other → hits_left one ≡ hits_left other
          → awards (after_step config one s) ≡ awards (after_step config other s)
          → hits_left (after_step config one s) ≡ hits_left (after_step config other s)
          → IsOneLeft config own (after_step config one s) (after_step config other s)
      same_step (step.In firm moment bytes) awarded hit awarded_now hit_now =
          elim (cases_Bool (is_another config own firm)) [
            | inl is ↦ unseen_both (step.In firm moment bytes) is
            | inr isnt ↦ message_both one other same firm moment bytes bytes isnt (λ is. refl)
                (λ market book. same_said market moment (investor_verdict market book moment bytes))
                (λ none. same_hits one other same firm moment bytes bytes hit hit_now)
          ]
      same_step (step.Turn by) awarded hit awarded_now hit_now =
          elim (cases_Bool (acts_as_another config own by)) [
            | inl is ↦ unseen_both (step.Turn by) is
            | inr isnt ↦ same_turn one other same by isnt awarded awarded_now
          ]
      same_step (step.Expire room moment) awarded hit awarded_now hit_now =
          sweep_both one other same room moment

      pub hits_step : (s s_too : Step) → AreHitsOfQuotes config s s_too
          → ((bytes : List ℕ) (fields : List Field) → IsFrame bytes fields
          → frame_of bytes ≡ Some fields)
          → hits_left one ≡ hits_left other
          → hits_left (after_step config one s) ≡ hits_left (after_step config other s_too)
          → IsOneLeft config own (after_step config one s) (after_step config other s_too)
      hits_step s s_too hits reads before after =
          let isnt : is_another config own hits.firm ≡ false = rw (hits.no_dealer) refl in
          let now = rw (hits.one_is, hits.other_is) at after in
          rw (hits.one_is, hits.other_is)
          (message_both one other same hits.firm hits.moment hits.message hits.message_too isnt
          (λ is. absurd (both_ways (is_some (dealer_numbered config hits.firm)) hits.no_dealer is))
          (λ market book. hits_said market hits.moment book hits.message hits.message_too
          hits.fields
          hits.fields_too (reads hits.message hits.fields hits.is_frame)
          (reads hits.message_too hits.fields_too hits.is_frame_too) hits.hits hits.fields_are)
          (λ none. same_hits one other same hits.firm hits.moment hits.message hits.message_too
          before
          now))
