use Rattle.std.proofs.Common.{◌≡◌, ◌++◌, map}
use Rattle.std.specs.Vec.Iter.{into_iter_items}
use Rattle.day_checks.specs.Inbox.{ended_at}
use Rattle.day_checks.proofs.inbox.push_messages.Given as goal

abbrev pub invariant-loop-bytes : goal.invariant-loop-bytes
invariant-loop-bytes l = record {
  next : (goal.iterator-loop-bytes).can_next l.bytes-iterator;
  ends : (goal.iterator-loop-bytes).is_finite l.bytes-iterator;
  items : l.fn.inbox.items ++ ended_at l.moment l.fn.messages
      ≡ l.inbox.items ++ ended_at l.moment (map (λ bytes. bytes.items) (into_iter_items l.bytes-iterator));
}
