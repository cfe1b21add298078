use Rattle.std.proofs.Common.{◌≡◌, ◌++◌, length, map}
use Rattle.std.specs.Iterator.Adapters.{zip_first, zip_second}
use Rattle.std.specs.Vec.Iter.{into_iter_items}
use Rattle.session_worker.proofs.days.sessions_left.Given as goal

abbrev pub invariant-loop-inbox : goal.invariant-loop-inbox
invariant-loop-inbox l = record {
  next : (goal.iterator-loop-inbox).can_next l.inbox-iterator;
  ends : (goal.iterator-loop-inbox).is_finite l.inbox-iterator;
  paired : length (into_iter_items (zip_second l.inbox-iterator))
      ≡ length (into_iter_items (zip_first l.inbox-iterator));
  inboxes : map (λ session. session.inbox.items) l.sessions.items
      ++ map (λ inbox. inbox.items) (into_iter_items (zip_first l.inbox-iterator))
      ≡ map (λ inbox. inbox.items) l.fn.inboxes.items;
}
