-- Which duties a duty may leave. Whoever asks of a duty no more than its kind does not go through
-- all of them: what is so of each duty that this one may leave is so of all that it leaves.
use Rattle.std.proofs.Common.{ℕ, List}
use Rattle.market_terms.specs.declared.closes.Close.{Close}
use Rattle.market_terms.specs.declared.duties.Duty.{Duty}
use Rattle.market_terms.specs.declared.duties.Duty.TheVariants as duty
use Rattle.market_terms.specs.declared.rooms.RoomRef.{RoomRef}
use Rattle.venue_rows.specs.Rows.{Configuration}
use Rattle.venue_steps.specs.declared.actors.Actor.{Actor}
use Rattle.venue_steps.specs.declared.actors.Actor.TheVariants as actor
use Rattle.request_room.specs.RoomFacts.{request_of}
use Rattle.venue_steps.specs.RoomDuties.{dealers_of}
use Rattle.step_replay.specs.DealerTrail.{rooms_by}
use Rattle.step_replay.specs.DutyEffects.{duty_effect, sweep_effect}
use Rattle.step_replay.specs.Lists.{Every}
use Rattle.step_replay.specs.VenueFacts.{Fact, of_dealer, of_room}
use Rattle.laws_days.specs.KeptItems.{every_all}
use Rattle.laws_days.specs.LeftDuties.{duty_leaves, sweep_leaves}
use Rattle.laws_days.specs.MayLeave.{AreTold, InRooms, MayLeave}

-- whether the first may be left by the second
abbrev pub LeftBy : Duty → Duty → Type 0
LeftBy (duty.Show dealer at what when) (duty.Open room ask dealers moment) = Unit {0}
LeftBy (duty.Ready at when) (duty.Open room ask dealers moment) = Unit {0}
LeftBy (duty.Relay at offer when) (duty.Post room quote price valid_until moment) = Unit {0}
LeftBy (duty.Gone at word when) (duty.Unpost room quote moment) = Unit {0}
LeftBy (duty.Declined at when) (duty.Decline room moment) = Unit {0}
LeftBy (duty.Answer at to reply when) (duty.Hit room response word moment) = Unit {0}
LeftBy (duty.Tell dealer at close when) (duty.Hit room response word moment) = Unit {0}
LeftBy (duty.Answer at to reply when) (duty.Pass room response moment) = Unit {0}
LeftBy (duty.Tell dealer at close when) (duty.Pass room response moment) = Unit {0}
LeftBy (duty.Unpost at quote when) (duty.Drop last moment) = Unit {0}
LeftBy (duty.Drop number when) (duty.Drop last moment) = Unit {0}
LeftBy one other = ⊥

module _ (P : Duty → Type 0) (config : Configuration) (facts : List Fact) where
  in_rooms : (dealer : ℕ) (does : RoomRef → Duty) → ((room : RoomRef) → P (does room))
      → InRooms P config facts dealer does
  in_rooms dealer does each =
      every_all (λ (room : RoomRef). P (does room)) each (rooms_by (of_dealer dealer facts))

  are_told : (room : RoomRef) (moment : ℕ)
      → ((dealer : ℕ) (close : Close) → P (duty.Tell dealer room close moment))
      → AreTold P config facts room moment
  are_told room moment each =
      every_all (λ (dealer : ℕ). (close : Close) → P (duty.Tell dealer room close moment)) each
      (dealers_of (request_of (of_room room facts)))

  pub may_leave : (by : Actor) (d : Duty) → ((more : Duty) → LeftBy more d → P more)
      → MayLeave P config facts by d
  may_leave by (duty.Open room ask dealers moment) each = (
    every_all (λ (dealer : ℕ). P (duty.Show dealer room ask moment))
        (λ dealer. each (duty.Show dealer room ask moment) tt) dealers,
    each (duty.Ready room moment) tt,
  )
  may_leave by (duty.Post room quote price valid_until moment) each =
      λ offer. each (duty.Relay room offer moment) tt
  may_leave by (duty.Unpost room quote moment) each = λ word. each (duty.Gone room word moment) tt
  may_leave by (duty.Decline room moment) each = each (duty.Declined room moment) tt
  may_leave by (duty.Hit room response word moment) each = (
    λ reply. each (duty.Answer room response reply moment) tt,
    are_told room moment (λ dealer close. each (duty.Tell dealer room close moment) tt),
  )
  may_leave by (duty.Pass room response moment) each = (
    λ open_yet. each (duty.Answer room response _ moment) tt,
    are_told room moment (λ dealer close. each (duty.Tell dealer room close moment) tt),
  )
  may_leave (actor.Firm dealer) (duty.Drop last moment) each = (
    λ quote. in_rooms dealer (λ room. duty.Unpost room quote moment)
        (λ room. each (duty.Unpost room quote moment) tt),
    each (duty.Drop last moment) tt,
  )
  may_leave actor.Clock (duty.Drop last moment) each = tt
  may_leave by other each = tt

  -- what is so of each duty that this one may leave is so of all that it leaves
  pub duty_each : (by : Actor) (d : Duty) → ((more : Duty) → LeftBy more d → P more)
      → Every P (duty_effect config facts by d).duties
  duty_each by d each = (duty_leaves P config facts by d (may_leave by d each)).each

  -- the same of a sweep
  pub sweep_each : (room : RoomRef) (moment : ℕ) → P (duty.Close room moment)
      → ((dealer : ℕ) (close : Close) → P (duty.Tell dealer room close moment))
      → Every P (sweep_effect config facts room moment).duties
  sweep_each room moment closed told =
      (sweep_leaves P config facts room moment closed (are_told room moment told)).each
