-- Where a step is done, there it sends what it sends, and there alone is what it changes in rooms.
use Rattle.step_replay.proofs.Common.{◌≡◌, ℕ, List, [], ◌∷◌, ◌++◌, Option, Some, None, refl, sym, ap}
use Rattle.step_replay.proofs.Common.{◌∙◌, subst, append-nil, append_assoc, Duty, RoomRef, Configuration, placed}
use Rattle.step_replay.proofs.Common.{swept, Actor, Placement, IsAction, message_action, Effect}
use Rattle.step_replay.proofs.Common.{nothing, Fact, AuditTrail, after_step, after_turn, pending}
use Rattle.step_replay.proofs.Common.{duty_effect, message_effect, sweep_effect, Sent, messages_in}
use Rattle.step_replay.proofs.Common.{sent_behind, Stands, Done, IsDone, RoomsStand}
use Rattle.step_replay.proofs.Common.{deadline_by, Floor, OpenRooms, Step}
use Rattle.venue_steps.specs.Placed.{desk_for, room_for}
use Rattle.venue_steps.specs.declared.arrivals.Placement.TheVariants as arrival
use Rattle.step_replay.specs.ActionKinds.{arrival_action, idle}
use Rattle.step_replay.specs.DonePlaces.{IsDoneAt, IsInRoom, IsStepDone, at_desk}
use Rattle.step_replay.specs.LiveStanding.{TakesIn}
use Rattle.step_replay.specs.WhereComing.{effect_where}
use Rattle.step_replay.specs.declared.done.Done.TheVariants as place
use Rattle.step_replay.specs.declared.steps.Step.TheVariants as step
use Rattle.step_replay.proofs.ComingLemmas.{duty_comes, sweep_comes}
use Rattle.step_replay.proofs.FirmSent.{behind_is}
use Rattle.step_replay.proofs.OpenRoomLemmas.{rooms_noted, rooms_rest}
use Rattle.step_replay.proofs.StepEffects.{AreOf, SendAt, action_at, action_there, messages_both}
use Rattle.step_replay.proofs.StepEffects.{own, quiet}

no_desk : (config : Configuration) (more : List Fact) → SendAt config None more
    → messages_in config more ≡ []
no_desk config more (quiet none) = none
no_desk config more (own firm is known sent) = cc

module _ (config : Configuration) (facts more : List Fact) (before after : Floor) where
  -- what is told of a step is so of the facts that it added
  abbrev pub Says : Done → Type 0
  Says place.Nowhere = (messages_in config more ≡ []) × AreOf None more
  Says (place.AtDesk firm count) =
      (messages_in config more ≡ sent_behind after firm count) × AreOf None more
  Says (place.InRoom room had now) = (messages_in config more ≡ [])
      × (AreOf (Some room) more
      × ((had ≡ deadline_by config facts room) × (now ≡ deadline_by config (facts ++ more) room)))

  -- what is taken in of it
  pub taken : (done : Done) (start old new : List Sent) (rooms rooms_after : OpenRooms) → Says done
      → TakesIn done after old new rooms rooms_after → RoomsStand config facts rooms
      → messages_in config facts ≡ start ++ old
      → (messages_in config (facts ++ more) ≡ start ++ new)
      × RoomsStand config (facts ++ more) rooms_after
  taken place.Nowhere start old new rooms rooms_after says takes stand told = (
    rw (messages_both config facts more, told, says.0, takes.0) (append-nil (start ++ old)),
    rw takes.1 (rooms_rest config facts more rooms stand says.1),
  )
  taken (place.AtDesk firm count) start old new rooms rooms_after says takes stand told = (
    rw (messages_both config facts more, told, says.0, takes.0)
        (append_assoc start old (sent_behind after firm count)),
    rw takes.1 (rooms_rest config facts more rooms stand says.1),
  )
  taken (place.InRoom room had now) start old new rooms rooms_after says takes stand told = (
    rw (messages_both config facts more, told, says.0, takes.0) (append-nil (start ++ old)),
    rooms_noted config facts more room had now rooms rooms_after stand says.1.0 says.1.1.0
        says.1.1.1 takes.1,
  )

module _ (config : Configuration) (facts : List Fact) (effect : Effect) (before after : Floor)
    (stood : Stands config facts before) (stands : Stands config (facts ++ effect.facts) after) where
  abbrev So : Done → Type 0
  So done = Says config facts effect.facts before after done

  pub desk_says : (firm : ℕ) → IsAction config facts (Some firm) None effect → (done : Done)
      → done ≡ at_desk before firm → So done
  desk_says firm action done is = rw is (
    behind_is config facts effect.facts before after stood stands firm
        (action_at config facts (Some firm) None effect action),
    action_there config facts (Some firm) None effect action,
  )

  room_says : (room : RoomRef) → IsAction config facts None (Some room) effect → (done : Done)
      → IsInRoom room before after done → So done
  room_says room action (place.InRoom at had now) is = rw is.0 (
    no_desk config effect.facts (action_at config facts None (Some room) effect action),
    (
      action_there config facts None (Some room) effect action,
      (is.1.0 config facts stood, is.1.1 config (facts ++ effect.facts) stands),
    ),
  )
  room_says room action other is = absurd is

  arrival_says : (coming : Placement)
      → IsAction config facts (desk_for coming) (room_for coming) effect → (done : Done)
      → IsDoneAt coming before after done → So done
  arrival_says (arrival.Dealer firm what) action done is = desk_says firm action done is
  arrival_says (arrival.Drop firm last moment) action done is = desk_says firm action done is
  arrival_says (arrival.Investor firm what) action done is = desk_says firm action done is
  arrival_says (arrival.Room room what) action done is = room_says room action done is
  arrival_says (arrival.Hit room response word moment) action done is =
      room_says room action done is

  idle_says : effect ≡ nothing → (done : Done) → done ≡ place.Nowhere → So done
  idle_says none done is = rw is (
    no_desk config effect.facts (action_at config facts None None effect (idle none)),
    action_there config facts None None effect (idle none),
  )

  place_says : (coming : Option Placement) → effect ≡ effect_where config facts coming
      → (done : Done) → IsDone before after coming done → So done
  place_says None none done is = idle_says none done is
  place_says (Some coming) does done is =
      arrival_says coming
      (subst (IsAction config facts (desk_for coming) (room_for coming)) (sym does)
      (arrival_action config facts coming))
      done is

-- what a step adds, and that what is told of it says so
pub record Adds (config : Configuration) (trail : AuditTrail) (next : Step) : Type 0 where
  pub more : List Fact
  pub grown : (after_step config trail next).facts ≡ trail.facts ++ more
  pub says : (before after : Floor) → Stands config trail.facts before
      → Stands config (trail.facts ++ more) after → (done : Done)
      → IsStepDone next config trail before after done
      → Says config trail.facts more before after done

module _ (config : Configuration) (trail : AuditTrail) where
  turn_adds : (by : Actor) (duties : List Duty) → pending by trail ≡ duties
      → Adds config trail (step.Turn by)
  unfolding after_step
  turn_adds by [] is = record {
    more = [];
    grown = ap (λ (d : List Duty). (after_turn config by trail d).facts) is
        ∙ sym (append-nil trail.facts);
    says = λ before after stood stands done told.
        idle_says config trail.facts nothing before after stood stands refl done (rw is at told);
  }
  turn_adds by (first ∷ later) is = record {
    more = (duty_effect config trail.facts by first).facts;
    grown = ap (λ (d : List Duty). (after_turn config by trail d).facts) is;
    says = λ before after stood stands done told.
        place_says config trail.facts (duty_effect config trail.facts by first) before after stood
        stands (placed config by first) (duty_comes config trail.facts by first) done (rw is at told);
  }

  pub step_adds : (next : Step) → Adds config trail next
  unfolding after_step
  step_adds (step.In firm moment message) = record {
    more = (message_effect config trail.facts firm moment message).facts;
    grown = refl;
    says = λ before after stood stands done told.
        desk_says config trail.facts (message_effect config trail.facts firm moment message) before
        after stood stands firm (message_action config trail.facts firm moment message) done told;
  }
  step_adds (step.Turn by) = turn_adds by (pending by trail) refl
  step_adds (step.Expire room moment) = record {
    more = (sweep_effect config trail.facts room moment).facts;
    grown = refl;
    says = λ before after stood stands done told.
        place_says config trail.facts (sweep_effect config trail.facts room moment) before after
        stood stands (swept config room moment) (sweep_comes config trail.facts room moment) done
        told;
  }
