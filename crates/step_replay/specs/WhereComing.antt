-- What comes by the market's table does, where something comes.
use Rattle.std.specs.Prelude.{List, Option, Some, None}
use Rattle.venue_rows.specs.Rows.{Configuration}
use Rattle.venue_steps.specs.declared.arrivals.Placement.{Placement}
use Rattle.step_replay.specs.Actions.{Effect, nothing}
use Rattle.step_replay.specs.Coming.{arrival_effect}
use Rattle.step_replay.specs.VenueFacts.{Fact}

abbrev pub effect_where : Configuration → List Fact → Option Placement → Effect
effect_where config facts None = nothing
effect_where config facts (Some coming) = arrival_effect config facts coming
