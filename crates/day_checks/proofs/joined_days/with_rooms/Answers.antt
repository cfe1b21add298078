use Rattle.std.proofs.Common.{◌≡◌, ◌∙◌, ◌+◌, [], ◌∷◌, ◌++◌, inl, inr, refl, sym, ap, length, arith}
use Rattle.std.proofs.Common.{length-append}
use Rattle.std.specs.Iterator.Adapters.{zip_first, zip_second}
use Rattle.std.specs.Slice.Iter.{iter_rest}
use Rattle.std.specs.Vec.Iter.{into_iter_items}
use Rattle.std.proofs.lemmas.List.{nil_from_length}
use Rattle.recorded_days.specs.Records.{InvestorLists}
use Rattle.day_checks.specs.KeptDays.{names_by, names_from, names_of, requests_of, rooms_of}
use Rattle.day_checks.specs.KeptDays.{without_rooms}
use Rattle.day_checks.proofs.MovedLists.{both_shorter, ended_too, moved}
use Rattle.day_checks.proofs.RoomLemmas.{no_rooms}
use Rattle.day_checks.proofs.RoomNames.{names_left, rooms_put}
use Rattle.day_checks.proofs.joined_days.with_rooms.Goals as goal

-- one investor more has its rooms
pub loop-day-preserved : goal.loop-day-preserved
loop-day-preserved c =
    let dealers = length c.args.config.now.dealers in
    let whole = c.loop-day.whole.items in
    let before = c.loop-day.day-iterator in
    let behind = c.next.new.self in
    let rooms = into_iter_items c.loop-day.rooms in
    let own = c.in_ok-day-inside.field-0.items in
    let count = c.in-Some.row.now.requests in
    let put : InvestorLists = record {
      sent = c.day.inside.sent.items;
      lines = c.day.inside.lines.items;
      events = c.day.inside.events.items;
      order = c.day.inside.order.items;
      inbox = c.day.inside.inbox.items;
      actions = c.day.inside.actions.items;
      rooms = own;
    } in
    let pushed : c.push.new.self.items ≡ whole ++ put ∷ [] = c.in_ok-push.ensures.items in
    let same : without_rooms put ≡ without_rooms c.in-Some.day = ap without_rooms c.day.view_is in
    let later =
    names_by (dealers + length whole + 1) (requests_of (iter_rest (zip_second behind))) in
    let named : names_of rooms ≡ names_from (dealers + length whole) 1 count ++ later =
    c.loop-day.invariant.names
    ∙ ap (λ rows. names_by (dealers + length whole) (requests_of rows)) c.in-Some.ensures.steps.1 in
    let longer : length c.push.new.self.items ≡ length whole + 1 =
    ap length pushed ∙ length-append whole (put ∷ []) in
    let onward : dealers + length whole + 1 ≡ dealers + length c.push.new.self.items =
    omega (arith, longer) in
    let here : dealers + length whole ≡ dealers + length whole = refl in
    record {
      next = (tt, tt);
      ends = tt;
      paired = both_shorter (into_iter_items (zip_first before))
          (into_iter_items (zip_first behind)) (iter_rest (zip_second before)) (iter_rest (zip_second behind)) c.in-Some.day
          c.in-Some.row.now c.loop-day.invariant.paired c.in-Some.ensures.steps.0.0
          c.in-Some.ensures.steps.1;
      days = rw pushed
          (moved without_rooms without_rooms whole put c.in-Some.day
          (into_iter_items (zip_first behind)) (into_iter_items (zip_first before)) _
          c.loop-day.invariant.days c.in-Some.ensures.steps.0.0 same);
      put = rw (pushed, c.in_ok-day-inside.ensures.rest)
          (rooms_put (dealers + length whole) count rooms later dealers whole put
          c.args.rooms.items here c.loop-day.invariant.put named c.in_ok-day-inside.ensures.own);
      names = ap names_of c.in_ok-day-inside.ensures.rest
          ∙ names_left (dealers + length whole) count rooms later named
          ∙ ap (λ n. names_by n (requests_of (iter_rest (zip_second behind)))) onward;
    }

-- no room is left
pub returns-clause-rooms : goal.returns-clause-rooms
returns-clause-rooms c =
    let first = zip_first c.loop-day.day-iterator in
    let second = zip_second c.loop-day.day-iterator in
    let ended : iter_rest second ≡ [] = elim c.in-None.ensures.steps [
      | inl end ↦ ended_too (into_iter_items first) (iter_rest second)
          (sym c.loop-day.invariant.paired)
          (nil_from_length (into_iter_items first) (sym c.loop-day.day-iterator.a.rest.ok.0 ∙ end.1.0))
      | inr end ↦ nil_from_length (iter_rest second) end.1.0
    ] in
    no_rooms (length c.args.config.now.dealers) (length c.loop-day.whole.items)
    (rooms_of (length c.args.config.now.dealers) c.loop-day.whole.items)
    (into_iter_items c.loop-day.rooms) c.args.rooms.items
    (requests_of (iter_rest second)) c.loop-day.invariant.put c.loop-day.invariant.names
    (ap requests_of ended)
