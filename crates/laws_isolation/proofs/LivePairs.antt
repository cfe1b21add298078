-- Two live days side by side: a message with all turns behind it. Where a message leaves a hit in
-- one of them alone, that hit is refused, and of its refusal nothing is left.
use Rattle.std.proofs.Common.{◌≡◌, ℕ, inl, inr, true, false, List, [], ◌∷◌, ◌++◌, map, filter_map}
use Rattle.std.proofs.Common.{fold, zero, suc, Option, Some, refl, sym, ap, ◌∙◌, Result, Ok, Err}
use Rattle.std.proofs.lemmas.List.{append-nil}
use Rattle.std.proofs.lemmas.List.Elements.{filter_map-append}
use Rattle.market_terms.specs.declared.closes.HitRefusal.{HitRefusal}
use Rattle.market_terms.specs.declared.closes.Reply.TheVariants as reply
use Rattle.market_terms.specs.declared.duties.Duty.{Duty}
use Rattle.market_terms.specs.declared.duties.Duty.TheVariants as duty
use Rattle.market_terms.specs.declared.rooms.ResponseRef.{ResponseRef}
use Rattle.market_terms.specs.declared.rooms.RoomRef.{RoomRef}
use Rattle.venue_rows.specs.Rows.{Configuration}
use Rattle.venue_steps.specs.declared.actors.Actor.{Actor}
use Rattle.step_replay.specs.Actions.{Effect, quote_with_word}
use Rattle.step_replay.specs.AuditTrail.{AuditTrail, after_step, after_turn, pending, with_effect}
use Rattle.step_replay.specs.DutyEffects.{duty_effect}
use Rattle.step_replay.specs.Lists.{Every}
use Rattle.step_replay.specs.LiveDays.{actor_of, with_turns}
use Rattle.step_replay.specs.QueueLemmas.{own_pending, own_turned, turned}
use Rattle.step_replay.specs.declared.steps.Step.{Step}
use Rattle.step_replay.specs.declared.steps.Step.TheVariants as step
use Rattle.step_replay.specs.declared.steps.TheConstants.{MOST_TURNS_BEHIND}
use Rattle.laws_isolation.specs.Silence.{acts_as_another, is_hit, is_of_another}
use Rattle.laws_days.proofs.LiveQuotes.{LoneQuotes}
use Rattle.laws_days.proofs.VenueDesk.{WordsOfDay}
use Rattle.laws_days.proofs.VenueInvariant.{VenueOk}
use Rattle.laws_isolation.specs.Presence.{awards, Award, award_in}
use Rattle.laws_isolation.proofs.Calm.{Few, NoHit, turn_calm, turn_is, turns, turns_calm}
use Rattle.laws_isolation.proofs.Calm.{turns_idle, IsCalm, duty_no_hit}
use Rattle.laws_isolation.proofs.Left.{left, left_append, left_duty}
use Rattle.laws_isolation.proofs.OneLeft.{DayFits, IsOneLeft, cancel, fits_own, hit_kept, stands}
use Rattle.laws_isolation.proofs.OneLeft.{unseen_step}
use Rattle.laws_isolation.proofs.PairedSteps.{same_turn}
use Rattle.quote_word.specs.declared.settled.Settled.{Settled}
use Rattle.request_room.specs.Book.{hit_outcome}
use Rattle.request_room.specs.declared.ends.End.{End}
use Rattle.step_replay.specs.VenueFacts.{Fact, of_room}
use Rattle.laws_days.specs.Conditions.{is_met}
use Rattle.laws_days.proofs.ConditionMet.{met}
use Rattle.laws_days.proofs.VenueKnown.{pending_ok as due_ok}
use Rattle.laws_days.proofs.VenueParts.{later_same}
use Rattle.laws_isolation.proofs.HitOutcomes.{award_awards, awarded as awarded_is, hit_is}
use Rattle.laws_isolation.proofs.HitOutcomes.{lifted_none, meant, settled_for, with_outcome}
use Rattle.laws_isolation.proofs.LeftMessages.{IsLone}
use Rattle.laws_isolation.proofs.LeftSteps.{refused_answer}

not_one : {X : Type 0} (x : X) → x ∷ [] ≡ [] → ⊥
not_one x is = cc

module _ (config : Configuration) (own : ℕ) (lone : LoneQuotes) (words : WordsOfDay) where
  -- Turns of another dealer.

  unseen_turns : (by : Actor) → acts_as_another config own by ≡ true → (n : ℕ)
      → (one other : AuditTrail) → IsOneLeft config own one other
      → IsOneLeft config own (turns config by n one) other
  unseen_turns by is zero one other same = same
  unseen_turns by is (suc n) one other same =
      unseen_turns by is n (after_step config one (step.Turn by)) other
      (unseen_step config own lone words one other same (step.Turn by) is)

  -- Turns of both.

  -- no hit waits in one where none does in the other
  none_waits : (duties duties_too : List Duty) → map left_duty duties ≡ map left_duty duties_too
      → Every NoHit duties → Every NoHit duties_too
  none_waits [] [] same none = tt
  none_waits [] (more_too ∷ later_too) same none = cc
  none_waits (more ∷ later) [] same none = cc
  none_waits (more ∷ later) (more_too ∷ later_too) same none =
      let first : left_duty more ≡ left_duty more_too = cc in
      let rest : map left_duty later ≡ map left_duty later_too = cc in
      (sym (hit_kept more more_too first) ∙ none.0, none_waits later later_too rest none.1)

  module _ (by : Actor) (isnt : acts_as_another config own by ≡ false) where
    -- the day after a turn
    abbrev next : AuditTrail → AuditTrail
    next trail = after_step config trail (step.Turn by)

    -- what waits after a turn, and what is awarded, where no hit waits
    next_calm : (trail : AuditTrail) → Every NoHit (pending by trail)
        → (awards (next trail) ≡ awards trail) × Every NoHit (pending by (next trail))
    next_calm trail none =
        let turn = turn_calm config by trail (pending by trail) refl none in
        let is = turn_is config by trail (pending by trail) refl in
        (ap awards is ∙ turn.0, rw is (turn.1))

    calm_turns : (n : ℕ) (one other : AuditTrail) → IsOneLeft config own one other
        → Every NoHit (pending by one) → awards one ≡ awards other
        → IsOneLeft config own (turns config by n one) (turns config by n other)
    calm_turns zero one other same none awarded = same
    calm_turns (suc n) one other same none awarded =
        let none_too = none_waits (pending by one) (pending by other)
        (same.queues_are by isnt) none in
        let first = next_calm one none in
        let first_too = next_calm other none_too in
        let after = first.0 ∙ awarded ∙ sym first_too.0 in
        calm_turns n (next one) (next other)
        (same_turn config own lone words one other same by isnt awarded after) first.1 after

    -- the only duty that waits is done, and behind it no hit waits
    only_next : (trail : AuditTrail) (only : Duty) → pending by trail ≡ only ∷ []
        → Every NoHit (pending by (next trail))
    only_next trail only now =
        let is = turn_is config by trail (only ∷ []) now in
        rw (is, own_turned by trail (duty_effect config trail.facts by only) only [] now)
        (duty_no_hit config trail.facts by only)

    few_turns : (n : ℕ) (one other : AuditTrail) → IsOneLeft config own one other
        → (duties : List Duty) → pending by one ≡ duties → Few duties
        → awards one ≡ awards other
        → awards (turns config by n one) ≡ awards (turns config by n other)
        → IsOneLeft config own (turns config by n one) (turns config by n other)
    few_turns zero one other same duties now few before awarded = same
    few_turns (suc n) one other same duties now (inl none) before awarded =
        calm_turns (suc n) one other same (rw now none) before
    few_turns (suc n) one other same duties now (inr only) before awarded =
        let single = now ∙ only.1 in
        let none = only_next one only.0 single in
        let after : awards (next one) ≡ awards (next other) =
        sym (turns_calm config by n (next one) none) ∙ awarded
        ∙ turns_calm config by n (next other) (none_next other
        (sym (same.queues_are by isnt) ∙ ap (map left_duty) single)) in
        calm_turns n (next one) (next other)
        (same_turn config own lone words one other same by isnt before after) none after
      where
        none_next : (trail : AuditTrail) → map left_duty (pending by trail) ≡ left_duty only.0 ∷ []
            → Every NoHit (pending by (next trail))
        none_next trail is = by_list (pending by trail) refl is
          where
            by_list : (l : List Duty) → pending by trail ≡ l
                → map left_duty l ≡ left_duty only.0 ∷ [] → Every NoHit (pending by (next trail))
            by_list [] at so = cc
            by_list (more ∷ []) at so = only_next trail more at
            by_list (more ∷ another ∷ later) at so = cc

  -- A hit that waits in one of the days alone.

  module _ (by : Actor) where
    -- the day after a turn
    abbrev once : AuditTrail → AuditTrail
    once trail = after_step config trail (step.Turn by)

    -- the only duty is done
    only_done : (trail : AuditTrail) (only : Duty) → pending by trail ≡ only ∷ []
        → once trail ≡ turned by trail (duty_effect config trail.facts by only)
    only_done trail only now = turn_is config by trail (only ∷ []) now

    -- of a refusal that is told nothing is left
    refused_turns : (n : ℕ) (trail : AuditTrail) (room : RoomRef) (response : ResponseRef)
        (why : HitRefusal) (moment : ℕ)
        → pending by trail ≡ duty.Answer room response (reply.Refused why) moment ∷ []
        → left own (turns config by n trail).facts ≡ left own trail.facts
    refused_turns zero trail room response why moment now = refl
    refused_turns (suc n) trail room response why moment now =
        let only = duty.Answer room response (reply.Refused why) moment in
        let effect = duty_effect config trail.facts by only in
        let told = refused_answer config own trail.facts by room response why moment in
        let is = only_done trail only now in
        let idle : pending by (once trail) ≡ [] =
        rw is (own_turned by trail effect only [] now ∙ told.no_duties) in
        ap (λ (t : AuditTrail). left own t.facts) (turns_idle config by n (once trail) idle ∙ is)
        ∙ left_append own trail.facts effect.facts
        ∙ ap (λ (l : List Fact). left own trail.facts ++ l) told.no_facts
        ∙ append-nil (left own trail.facts)

    -- a hit that awards nothing is refused, and nothing is left of it
    hit_turns : (n : ℕ) (trail : AuditTrail) (room : RoomRef) (response : ResponseRef)
        (word moment : ℕ) (settlement : Option Settled) (outcome : Result End HitRefusal)
        → hit_outcome (of_room room trail.facts) word moment settlement ≡ outcome
        → duty_effect config trail.facts by (duty.Hit room response word moment)
        ≡ with_outcome config room response word moment (of_room room trail.facts) outcome
        → pending by trail ≡ duty.Hit room response word moment ∷ []
        → awards (turns config by n (once trail)) ≡ awards trail
        → left own (turns config by n (once trail)).facts ≡ left own trail.facts
    hit_turns n trail room response word moment settlement (Err why) is does now awarded =
        let hit = duty.Hit room response word moment in
        let effect = with_outcome config room response word moment (of_room room trail.facts)
        (Err why) in
        let next : once trail ≡ turned by trail effect =
        only_done trail hit now ∙ ap (turned by trail) does in
        let waits : pending by (once trail)
        ≡ duty.Answer room response (reply.Refused why) moment ∷ [] =
        rw next (own_turned by trail effect hit [] now) in
        refused_turns n (once trail) room response why moment waits
        ∙ ap (λ (t : AuditTrail). left own t.facts) next
        ∙ ap (λ (l : List Fact). left own (trail.facts ++ l))
        (ap (λ (l : List Fact). l ++ []) (lifted_none (quote_with_word config word) why))
        ∙ ap (left own) (append-nil trail.facts)
    hit_turns n trail room response word moment settlement (Ok award) is does now awarded =
        let hit = duty.Hit room response word moment in
        let known = of_room room trail.facts in
        let so = awarded_is known word moment settlement award is in
        let quote = meant known word moment so.0 in
        let effect = with_outcome config room response word moment known (Ok award) in
        let next : once trail ≡ turned by trail effect =
        only_done trail hit now ∙ ap (turned by trail) does in
        let none : Every NoHit (pending by (once trail)) =
        rw (
          only_done trail hit now,
          own_turned by trail
              (duty_effect config trail.facts by hit) hit [] now,
        )
        (duty_no_hit config trail.facts by hit) in
        let more = ap (λ (e : End). filter_map award_in
        (with_outcome config room response word moment known (Ok e)).facts) (sym so.1)
        ∙ award_awards config room response word moment known quote.0 quote.1 in
        let grown : awards trail ++ record { room = room; winner = Some quote.0.dealer } ∷ []
        ≡ awards trail ++ [] =
        ap (λ (l : List Award). awards trail ++ l) (sym more)
        ∙ sym (filter_map-append award_in trail.facts effect.facts)
        ∙ ap awards (sym next) ∙ sym (turns_calm config by n (once trail) none) ∙ awarded
        ∙ sym (append-nil (awards trail)) in
        absurd (not_one _ (cancel (awards trail) _ [] grown))

    lone_turns : (n : ℕ) (trail : AuditTrail) → VenueOk config trail → (hit : Duty)
        → is_hit hit ≡ true → pending by trail ≡ hit ∷ []
        → awards (turns config by n trail) ≡ awards trail
        → left own (turns config by n trail).facts ≡ left own trail.facts
    unfolding is_met
    lone_turns zero trail stood hit is now awarded = refl
    lone_turns (suc n) trail stood (duty.Hit room response word moment) is now awarded =
        let fits = due_ok stood by (duty.Hit room response word moment) [] now in
        let may = met stood by words (duty.Hit room response word moment)
        (fits.0 trail (later_same trail)) fits.1 in
        hit_turns n trail room response word moment
        (settled_for config room word moment trail.facts) _ refl
        (hit_is config room response word moment trail.facts by may) now awarded
    lone_turns (suc n) trail stood hit is now awarded = cc

  -- What stands, and what waits, after turns.

  stands_turns : (by : Actor) (n : ℕ) (trail : AuditTrail) → VenueOk config trail
      → VenueOk config (turns config by n trail)
  stands_turns by zero trail stood = stood
  stands_turns by (suc n) trail stood =
      stands_turns by n (after_step config trail (step.Turn by))
      (stands config own lone words trail (step.Turn by) stood)

  fits_turns : (by : Actor) → acts_as_another config own by ≡ false → (n : ℕ) (trail : AuditTrail)
      → DayFits config own trail → DayFits config own (turns config by n trail)
  fits_turns by isnt zero trail fits = fits
  fits_turns by isnt (suc n) trail fits =
      fits_turns by isnt n (after_step config trail (step.Turn by))
      (rw (turn_is config by trail (pending by trail) refl) (by_duties (pending by trail)))
    where
      by_duties : (duties : List Duty) → DayFits config own (after_turn config by trail duties)
      by_duties [] = fits
      by_duties (more ∷ later) =
          fits_own config own by isnt (record trail { done = trail.done ++ by ∷ [] })
          (duty_effect config trail.facts by more) fits

  -- Two days of which the same is left, and in which nothing waits.
  pub record IsOneAtRest (one other : AuditTrail) : Type 0 where
    pub same : IsOneLeft config own one other
    pub idle : (by : Actor) → pending by one ≡ []
    pub idle_too : (by : Actor) → pending by other ≡ []

  -- at rest the same is left where the same is left of the facts
  pub rests : (one other : AuditTrail) → left own one.facts ≡ left own other.facts
      → VenueOk config one → VenueOk config other → DayFits config own one
      → DayFits config own other → ((by : Actor) → pending by one ≡ [])
      → ((by : Actor) → pending by other ≡ []) → IsOneAtRest one other
  rests one other facts stood stood_too fits fits_too idle idle_too = record {
    same = record {
      facts_are = facts;
      queues_are = λ by isnt. ap (map left_duty) (idle by ∙ sym (idle_too by));
      stood = stood;
      stood_too = stood_too;
      fits = fits;
      fits_too = fits_too;
    };
    idle = idle;
    idle_too = idle_too;
  }

  -- A step with all turns behind it.

  abbrev pub unit : AuditTrail → Step → AuditTrail
  unit trail s = fold (after_step config) trail (with_turns s)

  pub unit_is : (trail : AuditTrail) (s : Step)
      → unit trail s ≡ turns config (actor_of s) MOST_TURNS_BEHIND (after_step config trail s)
  unfolding with_turns
  unit_is trail s = refl

  -- another dealer's
  acts_too : (s : Step) → is_of_another config own s ≡ true
      → acts_as_another config own (actor_of s) ≡ true
  acts_too (step.In firm moment message) is = is
  acts_too (step.Turn by) is = is
  acts_too (step.Expire room moment) is = cc

  pub unseen_unit : (one other : AuditTrail) → IsOneLeft config own one other → (s : Step)
      → is_of_another config own s ≡ true → IsOneLeft config own (unit one s) other
  unseen_unit one other same s is =
      rw (unit_is one s) (unseen_turns (actor_of s) (acts_too s is) MOST_TURNS_BEHIND
      (after_step config one s) other
      (unseen_step config own lone words one other same s is))

  -- behind a step of both the same is left
  few_unit : (by : Actor) → acts_as_another config own by ≡ false → (one other : AuditTrail)
      → IsOneLeft config own one other → Few (pending by one) → awards one ≡ awards other → (n : ℕ)
      → awards (turns config by n one) ≡ awards (turns config by n other)
      → IsOneLeft config own (turns config by n one) (turns config by n other)
  few_unit by isnt one other same few before n awarded =
      few_turns by isnt n one other same (pending by one) refl few before awarded

  -- what an action beside a queue awards, and what waits behind it
  behind : (by : Actor) (trail : AuditTrail) (effect : Effect) → VenueOk config trail
      → pending by trail ≡ [] → pending by (with_effect by trail effect) ≡ effect.duties
  behind by trail effect stood idle =
      own_pending by trail effect (stood.queues by).within
      ∙ ap (λ (l : List Duty). l ++ effect.duties) idle

  none_more : (trail : AuditTrail) (by : Actor) (effect : Effect) → IsCalm effect
      → awards (with_effect by trail effect) ≡ awards trail
  none_more trail by effect calm =
      filter_map-append award_in trail.facts effect.facts
      ∙ ap (λ (l : List Award). awards trail ++ l) calm.no_awards ∙ append-nil (awards trail)

  -- Two days behind a line.
  pub record IsOneBehind (one other : AuditTrail) : Type 0 where
    pub facts_are : left own one.facts ≡ left own other.facts
    pub stood : VenueOk config one
    pub stood_too : VenueOk config other
    pub fits : DayFits config own one
    pub fits_too : DayFits config own other

  pub behind_same : (one other : AuditTrail) → IsOneLeft config own one other
      → IsOneBehind one other
  behind_same one other same = record {
    facts_are = same.facts_are;
    stood = same.stood;
    stood_too = same.stood_too;
    fits = same.fits;
    fits_too = same.fits_too;
  }

  pub behind_round : (one other : AuditTrail) → IsOneBehind one other → IsOneBehind other one
  behind_round one other same = record {
    facts_are = sym same.facts_are;
    stood = same.stood_too;
    stood_too = same.stood;
    fits = same.fits_too;
    fits_too = same.fits;
  }

  -- A line of both.

  module _ (by : Actor) (isnt : acts_as_another config own by ≡ false) (one other : AuditTrail)
      (same : IsOneLeft config own one other) (idle : pending by one ≡ [])
      (idle_too : pending by other ≡ []) (effect effect_too : Effect) (calm : IsCalm effect)
      (calm_too : IsCalm effect_too) (stood : VenueOk config (with_effect by one effect))
      (stood_too : VenueOk config (with_effect by other effect_too))
      (before : awards one ≡ awards other) (n : ℕ)
      (after : awards (turns config by n (with_effect by one effect))
      ≡ awards (turns config by n (with_effect by other effect_too))) where
    -- the days behind the step
    abbrev now : AuditTrail
    now = with_effect by one effect

    abbrev now_too : AuditTrail
    now_too = with_effect by other effect_too

    awards_now : awards now ≡ awards now_too
    awards_now =
        none_more one by effect calm ∙ before ∙ sym (none_more other by effect_too calm_too)

    -- where both wait for the same
    pub same_line : IsOneLeft config own now now_too → Few effect.duties
        → IsOneBehind (turns config by n now) (turns config by n now_too)
    same_line left_now few =
        behind_same (turns config by n now) (turns config by n now_too)
        (few_turns by isnt n now now_too left_now effect.duties
        (behind by one effect same.stood idle) few awards_now after)

    -- where one alone waits for a hit
    pub lone_line : left own effect.facts ≡ left own effect_too.facts → IsLone effect effect_too
        → IsOneBehind (turns config by n now) (turns config by n now_too)
    lone_line facts alone =
        let rest = turns_idle config by n now_too
        (behind by other effect_too same.stood_too idle_too ∙ alone.none_too) in
        let awarded : awards (turns config by n now) ≡ awards now =
        after ∙ ap awards rest ∙ sym awards_now in record {
          facts_are = lone_turns by n now stood alone.hit alone.hits_it
              (behind by one effect same.stood idle ∙ alone.duties_are) awarded
              ∙ rw (left_append, left_append, same.facts_are, facts) refl
              ∙ ap (λ (t : AuditTrail). left own t.facts) (sym rest);
          stood = stands_turns by n now stood;
          stood_too = stands_turns by n now_too stood_too;
          fits = fits_turns by isnt n now (fits_own config own by isnt one effect same.fits);
          fits_too = fits_turns by isnt n now_too
              (fits_own config own by isnt other effect_too same.fits_too);
        }
