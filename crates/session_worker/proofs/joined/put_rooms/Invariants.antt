use Rattle.std.proofs.Common.{◌≡◌, ◌+◌, ◌++◌, length}
use Rattle.std.specs.Vec.Iter.{into_iter_items}
use mathlib.Core.List.{IsPrefix}
use Rattle.quote_word.specs.SettleLog.{IsLegal}
use Rattle.day_checks.specs.KeptDays.{RoomsStand, names_from, names_of}
use Rattle.session_worker.proofs.joined.put_rooms.Given as goal

abbrev pub invariant-loop-room : goal.invariant-loop-room
invariant-loop-room g l = record {
  next : (goal.iterator-loop-room g).can_next l.room-iterator;
  ends : (goal.iterator-loop-room g).is_finite l.room-iterator;
  ours : l.seen.board ≡ g.J.Naming.board;
  legal : IsLegal l.seen.log;
  later : IsPrefix l.fn.seen.log l.seen.log;
  stand : RoomsStand l.seen.log l.all.items;
  counted : l.n + length (into_iter_items l.room-iterator) ≡ length l.fn.rooms.items;
  names : names_of l.all.items ≡ names_of l.fn.all.items ++ names_from l.investor 1 l.n;
}
