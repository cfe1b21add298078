use Rattle.std.proofs.Common.{◌≡◌, ◌+◌, ◌++◌, length, map}
use Rattle.std.specs.Iterator.Adapters.{zip_first, zip_second}
use Rattle.std.specs.Slice.Iter.{iter_rest}
use Rattle.std.specs.Vec.Iter.{into_iter_items}
use Rattle.day_checks.specs.KeptDays.{names_by, names_of, requests_of, rooms_of, without_rooms}
use Rattle.day_checks.proofs.joined_days.with_rooms.Given as goal

abbrev pub invariant-loop-day : goal.invariant-loop-day
invariant-loop-day l = record {
  next : (goal.iterator-loop-day).can_next l.day-iterator;
  ends : (goal.iterator-loop-day).is_finite l.day-iterator;
  paired : length (iter_rest (zip_second l.day-iterator))
      ≡ length (into_iter_items (zip_first l.day-iterator));
  days : map without_rooms l.whole.items
      ++ map without_rooms (into_iter_items (zip_first l.day-iterator))
      ≡ map without_rooms l.fn.days.items;
  put : rooms_of (length l.config.dealers) l.whole.items ++ into_iter_items l.rooms
      ≡ l.fn.rooms.items;
  names : names_of (into_iter_items l.rooms)
      ≡ names_by (length l.config.dealers + length l.whole.items)
      (requests_of (iter_rest (zip_second l.day-iterator)));
}
