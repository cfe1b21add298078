-- Where every queue is empty and a room has ended, each dealer that it names was told so once.
use Rattle.laws_days.proofs.Common.{Some, ℕ, [], ap, eq-eqb, filter, refl, sym, true, ◌++◌, ◌∙◌}
use Rattle.laws_days.proofs.Common.{◌≡◌, append-nil, take-append-drop, same_Some, RoomRef}
use Rattle.laws_days.proofs.Common.{Configuration, Told, tells, end_of, is_named, End, close_for}
use Rattle.laws_days.proofs.Common.{Actor, AuditTrail, pending, facts_of, all_in, of_dealer}
use Rattle.laws_days.proofs.Common.{of_room}
use Rattle.laws_days.proofs.ListLemmas.{in_filter, only_one}
use Rattle.laws_days.proofs.ShownRequests.{told_in}
use Rattle.laws_days.proofs.VenueInvariant.{VenueOk}
use Rattle.laws_days.proofs.VenueKnown.{ended_in, named_dealer, told_did}
use Rattle.laws_days.proofs.VenueParts.{MarkOk, Still, Telling, WasTold, closer, did_in, duties_by}
use Rattle.laws_days.proofs.VenueParts.{later_same, marks}
use Rattle.laws_days.proofs.VenueTurns.{turns_of}
use Rattle.laws_days.specs.Notices.{IsToldOnce}

module _ (config : Configuration) (venue : AuditTrail) (stood : VenueOk config venue)
    (idle : (by : Actor) → pending by venue ≡ []) (room : RoomRef) (end : End) (dealer : ℕ)
    (end_is : end_of (of_room room venue.facts) ≡ Some end)
    (named : is_named (of_room room venue.facts) dealer ≡ true) where
  -- what an idle actor left is done
  all_done : (by : Actor) → did_in venue by ≡ duties_by by venue.caused
  all_done by =
      sym (append-nil (did_in venue by)) ∙ ap (λ l. did_in venue by ++ l) (sym (idle by))
      ∙ take-append-drop (turns_of by venue.done) (duties_by by venue.caused)

  was_told : WasTold venue.facts dealer room
  was_told =
      let by = closer end.kind room in
      all_in (λ mark. Still (MarkOk mark) venue) (Telling dealer room) (marks (did_in venue by))
      (stood.queues by).done
      (rw (all_done by) ((ended_in stood room end end_is).told dealer named)) venue
      (later_same venue)

  pub is_told_once : IsToldOnce (of_dealer dealer venue.facts) room (close_for end dealer)
  is_told_once =
      let there = named_dealer stood room dealer named in
      let facts = facts_of (of_dealer dealer venue.facts) in
      let told = told_in was_told.request facts was_told.told in
      let notice = Told was_told.request told.0 told.1 in
      let only = only_one notice (filter (tells was_told.request) facts)
      (in_filter (tells was_told.request) notice facts told.2
      (eq-eqb was_told.request was_told.request refl))
      ((stood.desks dealer there.0 there.1).noticed.once was_told.request) in
      let did = (told_did stood room dealer was_told.request told.0 told.1 was_told.request_is
      told.2).1 in
      let close_is : told.0 ≡ close_for end dealer =
      did.ok.close_is ∙ ap (λ (e : End). close_for e dealer)
      (same_Some did.ok.end end (sym did.ok.end_is ∙ end_is)) in
      record {
        request = was_told.request;
        moment = told.1;
        shown = was_told.request_is;
        told = rw (← close_is) only;
      }
