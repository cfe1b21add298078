use Rattle.std.proofs.Common.{◌≡◌, ◌∙◌, sym, drop, ◌∷◌}
use Rattle.std.specs.Vec.Iter.{into_iter_items}
use Rattle.day_checks.proofs.MovedLists.{drop_next}
use Rattle.day_checks.proofs.RoomLemmas.{own_more}
use Rattle.day_checks.proofs.joined_days.next_rooms.Goals as goal

-- one room more is taken
pub loop-preserved : goal.loop-preserved
loop-preserved c =
    let all = into_iter_items c.args.rooms.now in
    let rest = into_iter_items c.next.new.self in
    let cut : drop c.loop.counter all ≡ c.in-Some.room ∷ rest =
    sym c.loop.invariant.rest ∙ c.in-Some.ensures.items in
    record {
      own = c.in_ok-push-in-Some.ensures.items
          ∙ own_more c.loop.own.items c.into_day.result all c.loop.counter c.in-Some.room rest
          c.loop.invariant.own c.into_day.ensures cut;
      rest = sym (drop_next all c.loop.counter c.in-Some.room rest cut);
    }
