use Rattle.std.proofs.Common.{◌≡◌, ◌<◌, ◌⊎◌, inl, inr, sym, ap, subst, suc, length, arith}
use Rattle.std.specs.Iterator.Adapters.{zip_first, zip_second}
use Rattle.std.specs.Vec.Iter.{into_iter_items, into_iter_len}
use mathlib.Core.List.{IsPrefix}
use Rattle.recorded_days.specs.Records.{DealerLists}
use Rattle.day_checks.specs.DayChecks.{came_from_dealer}
use Rattle.day_checks.specs.KeptDays.{DealerKeeps, DealersKeep, DealersStand, DealerStands}
use Rattle.session_worker.proofs.FaultLemmas.{dealer_among, same_fault}
use Rattle.day_checks.proofs.KeptLemmas.{dealer_later, dealers_grow, dealers_later}
use Rattle.day_checks.proofs.KeptLemmas.{dealers_stand_more}
use Rattle.day_checks.proofs.MovedLists.{all_moved, both_ended, both_shorter, counted_on, moved}
use Rattle.session_worker.proofs.joined.dealer_days.Goals as goal

-- one dealer more, at the place of its number
pub loop-place-preserved : goal.loop-place-preserved
loop-place-preserved g c =
    let config = g.J.Naming.config in
    let days = c.loop-place.days.items in
    let day = c.in_ok-day.day in
    let log = c.loop-place.seen.log in
    let later = c.both-seen.result.log in
    let own = c.into_inner-locked.result.seen.log in
    let place : c.len-in-loop-place.result ≡ length days =
    omega (arith, c.len-in-loop-place.ensures, c.loop-place.days.ok.0) in
    let ours : c.both-seen.result.board ≡ g.J.Naming.board = search in
    let more : DealerKeeps config (length days) day =
    subst (λ n. DealerKeeps config n day) place c.in_ok-day.ensures.keeps in
    let stands : DealerStands config own (length days) day =
    subst (λ n. DealerStands config own n day) place c.in_ok-day.ensures.stands in
    let goes_on : IsPrefix own later =
    subst (λ seen. IsPrefix seen.log later) c.seen-in-loop-place.ensures.seen
    c.both-seen.ensures.second in
    record {
      next = (tt, tt);
      ends = tt;
      ours = ours;
      legal = c.both-seen.ensures.legal;
      keep = subst (DealersKeep config) (sym c.in_ok-push.ensures.items)
          (dealers_grow config days day c.loop-place.invariant.keep more);
      stand = subst (DealersStand config later) (sym c.in_ok-push.ensures.items)
          (dealers_stand_more config later days day
          (dealers_later log later c.both-seen.ensures.first config days
          c.loop-place.invariant.stand)
          (dealer_later own later goes_on config (length days) day stands));
      paired = both_shorter (into_iter_items (zip_first c.loop-place.place-iterator))
          (into_iter_items (zip_first c.next.new.self))
          (into_iter_items (zip_second c.loop-place.place-iterator))
          (into_iter_items (zip_second c.next.new.self)) c.in-Some.place c.in-Some.session
          c.loop-place.invariant.paired c.in-Some.ensures.steps.0.0 c.in-Some.ensures.steps.1.0;
      counted = rw c.in_ok-push.ensures.items
          (counted_on (length c.args.places.items) days day
          (into_iter_items (zip_first c.loop-place.place-iterator))
          (into_iter_items (zip_first c.next.new.self)) c.in-Some.place
          c.loop-place.invariant.counted c.in-Some.ensures.steps.0.0);
      inboxes = rw c.in_ok-push.ensures.items
          (moved (λ (one : DealerLists). one.inbox) (λ session. session.inbox.items) days day
          c.in-Some.session (into_iter_items (zip_second c.next.new.self))
          (into_iter_items (zip_second c.loop-place.place-iterator)) _
          c.loop-place.invariant.inboxes c.in-Some.ensures.steps.1.0 c.in_ok-day.ensures.inbox);
    }

-- the fault is of the dealer at this place
pub returns-in_err-day-clause-among : goal.returns-in_err-day-clause-among
returns-in_err-day-clause-among g c =
    let why = c.in_err-day.field-0.0 in
    let under = c.into_inner-locked.result in
    let count = length c.args.places.items in
    let place : c.len-in-loop-place.result ≡ length c.loop-place.days.items =
    omega (arith, c.len-in-loop-place.ensures, c.loop-place.days.ok.0) in
    let left : length (into_iter_items (zip_first c.loop-place.place-iterator))
    ≡ suc (length (into_iter_items (zip_first c.next.new.self))) =
    ap length c.in-Some.ensures.steps.0.0 in
    let within : c.len-in-loop-place.result < count =
    omega (arith, place, left, c.loop-place.invariant.counted) in
    same_fault _ c.from_residual-in_err-day.result why c.from_residual-in_err-day.ensures.1
    (dealer_among DealerLists why under.firm c.len-in-loop-place.result count
    (came_from_dealer under.desk.events) c.in-Some.session.inbox.items within
    c.in_err-day.ensures.other_desk c.in_err-day.ensures.other_inbox c.in_err-day.ensures.given)

-- all sessions are behind
pub returns-clause-inboxes : goal.returns-clause-inboxes
returns-clause-inboxes g c =
    let first = zip_first c.loop-place.place-iterator in
    let second = zip_second c.loop-place.place-iterator in
    let one : (into_iter_len first ≡ 0) ⊎ (into_iter_len second ≡ 0) =
    elim c.in-None.ensures.steps [ inl end ↦ inl end.1.0 | inr end ↦ inr end.1.0 ] in
    let ended = both_ended (into_iter_items first) (into_iter_items second) (into_iter_len first)
    (into_iter_len second) c.loop-place.place-iterator.a.rest.ok.0
    c.loop-place.place-iterator.b.rest.ok.0 c.loop-place.invariant.paired one in
    all_moved (λ (one : DealerLists). one.inbox) (λ session. session.inbox.items)
    c.loop-place.days.items (into_iter_items second) _ c.loop-place.invariant.inboxes ended.1
