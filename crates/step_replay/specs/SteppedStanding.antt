-- Where a venue stands that goes step by step. `IsAfter` is for callers, who need not know what a
-- venue that `IsAfter` is made of.
use Rattle.std.specs.Prelude.{List}
use Rattle.venue_rows.specs.Rows.{Configuration}
use Rattle.step_replay.specs.AuditTrail.{audit_trail}
use Rattle.step_replay.specs.Following.{ReplayStands}
use Rattle.step_replay.specs.declared.steps.Step.{Step}
use Rattle.step_replay.specs.declared.stepped.SteppedVenue.{SteppedVenue}

-- a venue stands where these steps have brought it
pub record IsAfter (config : Configuration) (steps : List Step) (venue : SteppedVenue) : Type 0
  where
    pub stands : ReplayStands config (audit_trail config steps) venue.replay
