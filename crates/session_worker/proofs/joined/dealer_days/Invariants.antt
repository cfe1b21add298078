use Rattle.std.proofs.Common.{◌≡◌, ◌+◌, ◌++◌, length, map}
use Rattle.std.specs.Iterator.Adapters.{zip_first, zip_second}
use Rattle.std.specs.Vec.Iter.{into_iter_items}
use Rattle.quote_word.specs.SettleLog.{IsLegal}
use Rattle.day_checks.specs.KeptDays.{DealersKeep, DealersStand}
use Rattle.day_checks.proofs.DayLemmas.{dealer_inboxes}
use Rattle.session_worker.proofs.joined.dealer_days.Given as goal

abbrev pub invariant-loop-place : goal.invariant-loop-place
invariant-loop-place g l = record {
  next : (goal.iterator-loop-place g).can_next l.place-iterator;
  ends : (goal.iterator-loop-place g).is_finite l.place-iterator;
  ours : l.seen.board ≡ g.J.Naming.board;
  legal : IsLegal l.seen.log;
  keep : DealersKeep g.J.Naming.config l.days.items;
  stand : DealersStand g.J.Naming.config l.seen.log l.days.items;
  paired : length (into_iter_items (zip_second l.place-iterator))
      ≡ length (into_iter_items (zip_first l.place-iterator));
  counted : length l.days.items + length (into_iter_items (zip_first l.place-iterator))
      ≡ length l.fn.places.items;
  inboxes : dealer_inboxes l.days.items
      ++ map (λ session. session.inbox.items) (into_iter_items (zip_second l.place-iterator))
      ≡ map (λ session. session.inbox.items) l.fn.sessions.items;
}
