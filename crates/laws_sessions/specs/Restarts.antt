-- A session that a start makes of what was kept.
use Rattle.std.specs.Prelude.{None}
use Rattle.fix_sessions.specs.declared.state.Day.{Day}
use Rattle.fix_sessions.specs.declared.state.Phase.TheVariants as phase
use Rattle.fix_sessions.specs.declared.state.Session.{Session}

-- what is kept of a day is all that a start needs: no connection has the session, and none waits
abbrev pub restarted : Day → Session
restarted d = record { day = d; phase = phase.Away; waiting = None }
