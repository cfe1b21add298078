-- What came so far and what is behind it are what was due.
use Rattle.step_replay.proofs.Common.{◌≡◌, ◌++◌, drop, dues_behind}
use Rattle.step_replay.proofs.due_lists.dues_at.Given as goal

abbrev pub invariant-loop-lifting : goal.invariant-loop-lifting
invariant-loop-lifting l =
    l.dues.items ++ dues_behind l.come l.place.desk.events (drop l.lifting-index l.place.liftings.items)
    ≡ dues_behind 0 l.place.desk.events l.place.liftings.items
