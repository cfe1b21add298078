-- What an action adds to the queue of one actor, and what that actor has done by it.
use Rattle.std.proofs.Common.{◌≡◌, List, [], ◌++◌, sym, ap, ◌∙◌, subst, inl, inr, false}
use Rattle.std.proofs.lemmas.Bool.{cases_Bool, false≢true}
use Rattle.market_terms.specs.declared.duties.Duty.{Duty}
use Rattle.venue_steps.specs.declared.actors.Actor.{Actor}
use Rattle.step_replay.specs.Actions.{Effect}
use Rattle.step_replay.specs.AuditTrail.{AuditTrail, is_same_actor}
use Rattle.step_replay.specs.EachLemmas.{every_both}
use Rattle.step_replay.specs.Lists.{Every}
use Rattle.step_replay.specs.QueueLemmas.{one_actor, same_actor}
use Rattle.laws_days.proofs.VenueParts.{did_in, duties_by}
use Rattle.laws_days.proofs.VenueSteps.{Here, day}
use Rattle.laws_days.proofs.VenueTurns.{doing_now, grown, own_did, own_left}

module _ (h : Here) (effect : Effect) where
  abbrev then_day : AuditTrail
  then_day = day h effect

  -- it is the actor's own, or another one's
  pub data Share (of : Actor) : Type 0 where
    its_own : h.by ≡ of → did_in then_day of ≡ did_in h.venue of ++ doing_now h.venue h.by h.doing
        → duties_by of then_day.caused ≡ duties_by of h.venue.caused ++ effect.duties → Share of
    anothers : is_same_actor h.by of ≡ false → did_in then_day of ≡ did_in h.venue of ++ []
        → duties_by of then_day.caused ≡ duties_by of h.venue.caused ++ [] → Share of

  pub share : (of : Actor) → Share of
  share of = elim (cases_Bool (is_same_actor h.by of)) [
    | inl same ↦
        (let one : h.by ≡ of = one_actor h.by of same in
        its_own one
        (subst (λ (a : Actor). did_in then_day a ≡ did_in h.venue a ++ doing_now h.venue h.by h.doing) one
        (own_did h.venue h.by effect (h.stood.queues h.by).within h.doing))
        (subst (λ (a : Actor). duties_by a then_day.caused ≡ duties_by a h.venue.caused ++ effect.duties) one
        (own_left h.venue h.by effect)))
    | inr differs ↦
        (let g = grown h.venue h.by effect h.doing of (λ a. (h.stood.queues a).within) in
        elim g.own [
          | inl none ↦
              anothers differs (g.did ∙ ap (λ (l : List Duty). did_in h.venue of ++ l) none.1)
              (g.left ∙ ap (λ (l : List Duty). duties_by of h.venue.caused ++ l) none.0)
          | inr own ↦ absurd (false≢true
              (sym differs ∙ ap (λ (a : Actor). is_same_actor a of) own.0 ∙ same_actor of))
        ])
  ]

  -- what stands of each duty by who has it to do
  pub every_then : (P : Actor → Duty → Type 0)
      → ((by : Actor) → Every (P by) (duties_by by h.venue.caused)) → Every (P h.by) effect.duties
      → (by : Actor) → Every (P by) (duties_by by then_day.caused)
  every_then P stood brought other =
      let g = grown h.venue h.by effect h.doing other (λ a. (h.stood.queues a).within) in
      let also : Every (P other) g.added = elim g.own [
        | inl none ↦ rw (none.0) tt
        | inr own ↦ rw (own.1) (subst (λ (a : Actor). Every (P a) effect.duties) own.0 brought)
      ] in
      rw (g.left) (every_both (P other) (duties_by other h.venue.caused) g.added (stood other) also)
