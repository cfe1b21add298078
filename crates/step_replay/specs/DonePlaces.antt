-- Where something is done, and what the venue had there before and has now: names for private functions
-- alone.
use Rattle.std.specs.Prelude.{◌≡◌, ℕ, List, [], ◌∷◌, length, Option, Some, None}
use Rattle.market_terms.specs.declared.duties.Duty.{Duty}
use Rattle.market_terms.specs.declared.rooms.RoomRef.{RoomRef}
use Rattle.venue_rows.specs.Rows.{Configuration}
use Rattle.venue_steps.specs.Placed.{placed, swept}
use Rattle.venue_steps.specs.declared.actors.Actor.{Actor}
use Rattle.venue_steps.specs.declared.arrivals.Placement.{Placement}
use Rattle.venue_steps.specs.declared.arrivals.Placement.TheVariants as arrival
use Rattle.step_replay.specs.AuditTrail.{AuditTrail, pending}
use Rattle.step_replay.specs.FloorDays.{sent_on_floor}
use Rattle.step_replay.specs.Following.{ReplayStands}
use Rattle.step_replay.specs.OpenRooms.{deadline_by}
use Rattle.step_replay.specs.Standing.{Stands}
use Rattle.step_replay.specs.VenueFacts.{Fact}
use Rattle.step_replay.specs.declared.done.Done.{Done}
use Rattle.step_replay.specs.declared.done.Done.TheVariants as place
use Rattle.step_replay.specs.declared.floor.Floor.{Floor}
use Rattle.step_replay.specs.declared.replay.Replay.{Replay}
use Rattle.step_replay.specs.declared.steps.Step.{Step}
use Rattle.step_replay.specs.declared.steps.Step.TheVariants as step

-- at the desk of the firm with this number
abbrev pub at_desk : Floor → ℕ → Done
at_desk floor firm = place.AtDesk firm (length (sent_on_floor floor firm))

-- the deadline of a room of the venue that is opening or open, wherever the places stand
abbrev pub IsDeadline : Floor → RoomRef → Option ℕ → Type 0
IsDeadline floor room deadline = (config : Configuration) (facts : List Fact)
    → Stands config facts floor → deadline ≡ deadline_by config facts room

-- in a room
abbrev pub IsInRoom : RoomRef → Floor → Floor → Done → Type 0
IsInRoom room before after (place.InRoom at had now) =
    (at ≡ room) × (IsDeadline before room had × IsDeadline after room now)
IsInRoom room before after other = ⊥

-- at the place to which this comes
abbrev pub IsDoneAt : Placement → Floor → Floor → Done → Type 0
IsDoneAt (arrival.Dealer firm what) before after done = done ≡ at_desk before firm
IsDoneAt (arrival.Drop firm last moment) before after done = done ≡ at_desk before firm
IsDoneAt (arrival.Investor firm what) before after done = done ≡ at_desk before firm
IsDoneAt (arrival.Room room what) before after done = IsInRoom room before after done
IsDoneAt (arrival.Hit room response word moment) before after done = IsInRoom room before after done

-- the same, where something comes
abbrev pub IsDone : Floor → Floor → Option Placement → Done → Type 0
IsDone before after None done = done ≡ place.Nowhere
IsDone before after (Some coming) done = IsDoneAt coming before after done

-- a message of a firm, a sweep of a room, and a turn of an actor that has these duties to do
abbrev pub IsMessageDone : ℕ → Floor → Floor → Done → Type 0
IsMessageDone firm before after done = done ≡ at_desk before firm

abbrev pub IsSweepDone : Configuration → RoomRef → ℕ → Floor → Floor → Done → Type 0
IsSweepDone config room moment before after done =
    IsDone before after (swept config room moment) done

abbrev pub IsTurnDone : Configuration → Actor → List Duty → Floor → Floor → Done → Type 0
IsTurnDone config by [] before after done = done ≡ place.Nowhere
IsTurnDone config by (duty ∷ later) before after done =
    IsDone before after (placed config by duty) done

-- a step
abbrev pub IsStepDone : Step → Configuration → AuditTrail → Floor → Floor → Done → Type 0
IsStepDone (step.In firm moment message) config trail = IsMessageDone firm
IsStepDone (step.Turn by) config trail = IsTurnDone config by (pending by trail)
IsStepDone (step.Expire room moment) config trail = IsSweepDone config room moment

-- it is done so, wherever the day stood
abbrev pub Tells : (Configuration → Type 0)
    → (Configuration → AuditTrail → Floor → Floor → Done → Type 0) → Replay → Replay → Done → Type 0
Tells may IsSo before after done = (config : Configuration) (trail : AuditTrail) → may config
    → ReplayStands config trail before → IsSo config trail before.floor after.floor done
