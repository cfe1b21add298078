use Rattle.std.proofs.Common.{◌≡◌, drop, map, take}
use Rattle.std.specs.Vec.Iter.{into_iter_items}
use Rattle.day_checks.proofs.RoomNames.{day_in}
use Rattle.day_checks.proofs.joined_days.next_rooms.Given as goal

abbrev pub invariant-loop : goal.invariant-loop
invariant-loop l = record {
  own : l.own.items ≡ map day_in (take l.counter (into_iter_items l.fn.rooms));
  rest : into_iter_items l.rooms ≡ drop l.counter (into_iter_items l.fn.rooms);
}
