-- As many turns as were counted are done, and what was sent with them is told.
use Rattle.step_replay.proofs.Common.{◌≡◌, ◌≤◌, ◌++◌, List, true, Configuration, AuditTrail, Sent}
use Rattle.step_replay.proofs.Common.{messages_in, VenueStands, VenueSends, after_turns, is_known}
use Rattle.step_replay.proofs.Common.{MOST_TURNS_BEHIND}
use Rattle.step_replay.proofs.live.send_duties.Given as goal

abbrev pub invariant-loop : goal.invariant-loop
invariant-loop l = record {
  within : l.counter ≤ MOST_TURNS_BEHIND;
  tells : (config : Configuration) (trail : AuditTrail) (start : List Sent)
      → is_known config l.by ≡ true → VenueStands config trail l.fn.venue
      → messages_in config trail.facts ≡ start ++ l.fn.told.items
      → VenueSends config (after_turns config l.by l.counter trail) l.venue (start ++ l.told.items);
}
