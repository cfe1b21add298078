use Rattle.std.proofs.Common.{◌≡◌, length}
use Rattle.request_room.specs.Book.{room_after}
use Rattle.day_checks.specs.RoomOutputs.{outputs_from, outputs_of}
use Rattle.day_checks.proofs.OutputLemmas.{behind}
use Rattle.day_checks.proofs.room_outputs.outputs_of.Given as goal

abbrev pub invariant-loop-event : goal.invariant-loop-event
invariant-loop-event l = record {
  same : behind l.outputs.items (outputs_from (room_after l.room) l.rest) ≡ outputs_of l.events;
}

abbrev pub decreases-loop-event : goal.decreases-loop-event
decreases-loop-event l = length l.rest
