use Rattle.std.proofs.Common.{◌≡◌, ◌<◌, ◌≤◌, ◌∙◌, ◌⊎◌, ◌+◌, inl, inr, sym, ap, subst, suc, length}
use Rattle.std.proofs.Common.{map, arith, [], ◌∷◌, length-append}
use Rattle.std.specs.Iterator.Adapters.{zip_first, zip_second}
use Rattle.std.specs.Vec.Iter.{into_iter_items, into_iter_len}
use Rattle.quote_word.specs.SettleLogLaws.{begins_all}
use Rattle.recorded_days.specs.Records.{InvestorLists}
use Rattle.day_checks.specs.DayChecks.{came_from_investor}
use Rattle.day_checks.specs.KeptDays.{InvestorKeeps, InvestorsKeep, names_of}
use Rattle.day_checks.specs.LeftResponses.{responses_answered, responses_left}
use Rattle.session_worker.proofs.FaultLemmas.{investor_among, one_among, same_fault}
use Rattle.day_checks.proofs.KeptLemmas.{investors_grow}
use Rattle.day_checks.proofs.MovedLists.{all_moved, both_ended, both_shorter, counted_on, moved}
use Rattle.day_checks.proofs.RoomLemmas.{names_ended, names_moved}
use Rattle.session_worker.proofs.joined.investor_days.Goals as goal

-- one investor more, whose number stands behind those of the dealers
pub loop-place-preserved : goal.loop-place-preserved
loop-place-preserved g c =
    let config = g.J.Naming.config in
    let days = c.loop-place.days.items in
    let day = c.in_ok-day.day in
    let before = c.loop-place.place-iterator in
    let behind = c.next.new.self in
    let count = length c.in-Some.place.rooms.items in
    let counted : c.len-in-loop-place.result ≡ length days =
    omega (arith, c.len-in-loop-place.ensures, c.loop-place.days.ok.0) in
    let here : c.args.first + c.len-in-loop-place.result ≡ length config.dealers + length days =
    omega (arith, counted, c.requires.first) in
    let more : InvestorKeeps config (length config.dealers + length days) day =
    subst (λ n. InvestorKeeps config n day) here c.in_ok-day.ensures.keeps in
    let firm : c.args.first + c.len-in-loop-place.result ≡ c.args.first + length days =
    omega (arith, counted) in
    let longer : length c.push.new.self.items ≡ length days + 1 =
    ap length c.in_ok-push.ensures.items ∙ length-append days (day ∷ []) in
    record {
      next = (tt, tt);
      ends = tt;
      ours = c.in_ok-seen.ensures.seen;
      legal = c.in_ok-seen.ensures.legal;
      later = begins_all c.args.seen.log c.loop-place.seen.log c.in_ok-seen.seen.log
          c.loop-place.invariant.later c.in_ok-seen.ensures.later;
      keep = subst (InvestorsKeep config) (sym c.in_ok-push.ensures.items)
          (investors_grow config days day c.loop-place.invariant.keep more);
      stand = c.in_ok-seen.ensures.stand;
      paired = both_shorter (into_iter_items (zip_first before))
          (into_iter_items (zip_first behind)) (into_iter_items (zip_second before)) (into_iter_items (zip_second behind))
          c.in-Some.place c.in-Some.session c.loop-place.invariant.paired
          c.in-Some.ensures.steps.0.0 c.in-Some.ensures.steps.1.0;
      counted = rw c.in_ok-push.ensures.items
          (counted_on (length c.args.places.items) days day (into_iter_items (zip_first before))
          (into_iter_items (zip_first behind)) c.in-Some.place c.loop-place.invariant.counted
          c.in-Some.ensures.steps.0.0);
      names = names_moved c.args.first (c.args.first + c.len-in-loop-place.result) count
          (length days) (length c.push.new.self.items) (names_of c.loop-place.all.items)
          (names_of c.put_rooms.new.all.items) _
          (map (λ place. length place.rooms.items) (into_iter_items (zip_first before)))
          (map (λ place. length place.rooms.items) (into_iter_items (zip_first behind)))
          c.loop-place.invariant.names
          (ap (map (λ place. length place.rooms.items)) c.in-Some.ensures.steps.0.0)
          c.in_ok-seen.ensures.rooms firm longer;
      inboxes = rw c.in_ok-push.ensures.items
          (moved (λ (one : InvestorLists). one.inbox) (λ session. session.inbox.items) days day
          c.in-Some.session (into_iter_items (zip_second behind))
          (into_iter_items (zip_second before)) _
          c.loop-place.invariant.inboxes c.in-Some.ensures.steps.1.0 c.in_ok-day.ensures.inbox);
    }

-- the fault is of the investor at this place
pub returns-in_err-day-clause-among : goal.returns-in_err-day-clause-among
returns-in_err-day-clause-among g c =
    let why = c.in_err-day.field-0.0 in
    let under = c.into_inner.result in
    let count = length c.args.places.items in
    let firm = c.args.first + c.len-in-loop-place.result in
    let place : c.len-in-loop-place.result ≡ length c.loop-place.days.items =
    omega (arith, c.len-in-loop-place.ensures, c.loop-place.days.ok.0) in
    let left : length (into_iter_items (zip_first c.loop-place.place-iterator))
    ≡ suc (length (into_iter_items (zip_first c.next.new.self))) =
    ap length c.in-Some.ensures.steps.0.0 in
    let low : c.args.first ≤ firm = omega arith in
    let high : firm < c.args.first + count =
    omega (arith, place, left, c.loop-place.invariant.counted) in
    same_fault _ c.from_residual-in_err-day.result why c.from_residual-in_err-day.ensures.1
    (investor_among InvestorLists why under.desk.market.firm firm c.args.first count
    (came_from_investor under.desk.events) c.in-Some.session.inbox.items
    (responses_answered under.desk.events) (responses_left under.desk) low high
    c.in_err-day.ensures.other_desk c.in_err-day.ensures.other_inbox
    c.in_err-day.ensures.other_answers c.in_err-day.ensures.given)

-- or of one of its rooms
pub returns-in_err-seen-clause-among : goal.returns-in_err-seen-clause-among
returns-in_err-seen-clause-among g c =
    let why = c.in_err-seen.field-0.0 in
    let count = length c.args.places.items in
    let firm = c.args.first + c.len-in-loop-place.result in
    let place : c.len-in-loop-place.result ≡ length c.loop-place.days.items =
    omega (arith, c.len-in-loop-place.ensures, c.loop-place.days.ok.0) in
    let left : length (into_iter_items (zip_first c.loop-place.place-iterator))
    ≡ suc (length (into_iter_items (zip_first c.next.new.self))) =
    ap length c.in-Some.ensures.steps.0.0 in
    let low : c.args.first ≤ firm = omega arith in
    let high : firm < c.args.first + count =
    omega (arith, place, left, c.loop-place.invariant.counted) in
    same_fault _ c.from_residual-in_err-seen.result why c.from_residual-in_err-seen.ensures.1
    (one_among c.args.first count firm low high why c.in_err-seen.ensures.among)

-- all places are behind
pub returns-clause-rooms : goal.returns-clause-rooms
returns-clause-rooms g c =
    let first = zip_first c.loop-place.place-iterator in
    let second = zip_second c.loop-place.place-iterator in
    let one : (into_iter_len first ≡ 0) ⊎ (into_iter_len second ≡ 0) =
    elim c.in-None.ensures.steps [ inl end ↦ inl end.1.0 | inr end ↦ inr end.1.0 ] in
    let ended = both_ended (into_iter_items first) (into_iter_items second) (into_iter_len first)
    (into_iter_len second) c.loop-place.place-iterator.a.rest.ok.0
    c.loop-place.place-iterator.b.rest.ok.0 c.loop-place.invariant.paired one in
    names_ended (c.args.first + length c.loop-place.days.items) (names_of c.loop-place.all.items) _
    (map (λ place. length place.rooms.items) (into_iter_items first)) c.loop-place.invariant.names
    (ap (map (λ place. length place.rooms.items)) ended.0)

pub returns-clause-inboxes : goal.returns-clause-inboxes
returns-clause-inboxes g c =
    let first = zip_first c.loop-place.place-iterator in
    let second = zip_second c.loop-place.place-iterator in
    let one : (into_iter_len first ≡ 0) ⊎ (into_iter_len second ≡ 0) =
    elim c.in-None.ensures.steps [ inl end ↦ inl end.1.0 | inr end ↦ inr end.1.0 ] in
    let ended = both_ended (into_iter_items first) (into_iter_items second) (into_iter_len first)
    (into_iter_len second) c.loop-place.place-iterator.a.rest.ok.0
    c.loop-place.place-iterator.b.rest.ok.0 c.loop-place.invariant.paired one in
    all_moved (λ (one : InvestorLists). one.inbox) (λ session. session.inbox.items)
    c.loop-place.days.items (into_iter_items second) _ c.loop-place.invariant.inboxes ended.1
