-- A day that is done a part at a time: names for private functions alone.
use Rattle.std.specs.Prelude.{◌≡◌, List, None, fold, All}
use Rattle.venue_rows.specs.Rows.{Configuration}
use Rattle.step_replay.specs.AuditTrail.{AuditTrail, after_step, audit_trail}
use Rattle.step_replay.specs.Following.{ReplayStands}
use Rattle.step_replay.specs.StepFaults.{fault_of}
use Rattle.step_replay.specs.declared.replay.Replay.{Replay}
use Rattle.step_replay.specs.declared.steps.Step.{Step}

-- each of these steps names what the venue has
abbrev pub AreKnown : List Step → Configuration → Type 0
AreKnown steps config = All (λ step. fault_of config 0 step ≡ None) steps

-- the day after these steps more
abbrev pub after_steps : List Step → Configuration → AuditTrail → AuditTrail
after_steps steps config trail = fold (after_step config) trail steps

-- a replay stands where a day has come of which these steps are left
pub record IsLeft (config : Configuration) (day left : List Step) (replay : Replay) : Type 0 where
  pub trail : AuditTrail
  pub whole : after_steps left config trail ≡ audit_trail config day
  pub known : AreKnown left config
  pub stands : ReplayStands config trail replay
