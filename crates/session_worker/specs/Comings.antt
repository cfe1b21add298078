-- What may come to a place by an actor: what the market's table gives for one of its duties, or a
-- sweep.
use Rattle.std.specs.Prelude.{◌≡◌, ℕ, Some}
use Rattle.market_terms.specs.declared.duties.Duty.{Duty}
use Rattle.market_terms.specs.declared.rooms.RoomRef.{RoomRef}
use Rattle.venue_steps.specs.Placed.{placed, swept}
use Rattle.venue_steps.specs.declared.actors.Actor.{Actor}
use Rattle.venue_steps.specs.declared.arrivals.Placement.{Placement}
use Rattle.venue_rows.specs.Rows.{Configuration}

-- this may come to its place by this actor
pub data MayCome (config : Configuration) (by : Actor) (what : Placement) : Type 0 where
  ForDuty : (duty : Duty) → placed config by duty ≡ Some what → MayCome config by what
  ForSweep : (room : RoomRef) (moment : ℕ) → swept config room moment ≡ Some what
      → MayCome config by what
