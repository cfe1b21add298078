-- Where nothing is left to be done.
use Rattle.std.specs.Prelude.{◌≡◌, []}
use Rattle.step_replay.specs.AuditTrail.{AuditTrail, pending}
use Rattle.venue_steps.specs.declared.actors.Actor.{Actor}

-- no firm, and not the clock either, has a duty left
abbrev pub NoDutyIsLeft : AuditTrail → Type 0
NoDutyIsLeft trail = (actor : Actor) → pending actor trail ≡ []
