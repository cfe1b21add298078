-- A session that is shown is read back.
use Rattle.std.proofs.Common.{◌≡◌, refl, Option, Some, None}
use Rattle.fix_sessions.specs.declared.state.Day.{Day}
use Rattle.fix_sessions.specs.declared.state.Phase.{Phase}
use Rattle.fix_sessions.specs.declared.state.Phase.TheVariants as phase
use Rattle.fix_sessions.specs.declared.state.Session.{Session}
use Rattle.fix_sessions.specs.declared.state.Waiting.{Waiting}
use Rattle.fix_sessions_c.specs.States.{read, shown}

parts_read : (day : Day) (whose : Phase) (waiting : Option Waiting)
    → read (shown (record { day = day; phase = whose; waiting = waiting }))
    ≡ record { day = day; phase = whose; waiting = waiting }
parts_read day phase.Away None = refl
parts_read day phase.Away (Some waiting) = refl
parts_read day (phase.On line) None = refl
parts_read day (phase.On line) (Some waiting) = refl
parts_read day (phase.Leaving connection since) None = refl
parts_read day (phase.Leaving connection since) (Some waiting) = refl

pub read_shown : (s : Session) → read (shown s) ≡ s
read_shown s = parts_read s.day s.phase s.waiting
