-- A room that has ended changes no more, so it ends once at most.
use Rattle.std.proofs.Common.{◌≡◌, ℕ, ◌≤◌, Bool, true, false, cond, List, [], ◌∷◌, ◌++◌, length}
use Rattle.std.proofs.Common.{Option, Some, None, is_some, Result, Ok, Err, filter, fold, refl, ap}
use Rattle.std.proofs.Common.{◌∙◌, arith}
use Rattle.std.proofs.lemmas.List.{append-nil}
use Rattle.std.proofs.lemmas.List.Elements.{filter-append}
use Rattle.std.proofs.lemmas.List.Folds.{fold_stays}
use Rattle.std.proofs.lemmas.List.Sums.{fold-append}
use Rattle.std.proofs.Math.Bool.{and-false}
use Rattle.market_terms.specs.declared.closes.HitRefusal.{HitRefusal}
use Rattle.request_room.specs.declared.ends.End.{End}
use Rattle.request_room.specs.declared.events.RoomEvent.{RoomEvent}
use Rattle.request_room.specs.declared.events.RoomEvent.TheVariants as event
use Rattle.request_room.specs.RoomFacts.{RoomFact, Ended, end_of, is_ended, is_ending, is_award}
use Rattle.request_room.specs.RoomFacts.{is_awarded_kind}
use Rattle.request_room.specs.Book.{fact_if, end_by, event_facts, after_event, hit_refusal}
use Rattle.request_room.specs.Book.{room_after}

-- nothing that is tried adds a fact to a room that has ended
no_fact_more : (facts : List RoomFact) (event : RoomEvent) → is_ended facts ≡ true
    → event_facts facts event ≡ []
unfolding event_facts hit_refusal
no_fact_more facts (event.Hit w moment settlement) h = simp (h, and-false)
no_fact_more facts other h = simp (h, and-false)

-- so an event that adds one finds a room that has not ended
pub no_end_before : (facts : List RoomFact) (event : RoomEvent) (fact : RoomFact)
    → event_facts facts event ≡ fact ∷ [] → end_of facts ≡ None
no_end_before facts event fact adds = by_end (end_of facts) refl
  where
    by_end : (end : Option End) → end_of facts ≡ end → end ≡ None
    by_end None is = refl
    by_end (Some end) is =
        let none : event_facts facts event ≡ [] = no_fact_more facts event (ap is_some is) in cc

stays_as_it_is : (facts : List RoomFact) (event : RoomEvent) → is_ended facts ≡ true
    → after_event facts event ≡ facts
stays_as_it_is facts event h =
    ap (λ more. facts ++ more) (no_fact_more facts event h) ∙ append-nil facts

-- a room that has ended changes no more
pub ended_stays : (events more : List RoomEvent) → is_ended (room_after events) ≡ true
    → room_after (events ++ more) ≡ room_after events
unfolding room_after
ended_stays events more h =
    fold-append after_event [] events more
    ∙ fold_stays after_event (room_after events)
    (λ event. stays_as_it_is (room_after events) event h) more

-- Once at most.

-- a room that has not ended has no fact that ends it
no_end_yet : (facts : List RoomFact) → is_ended facts ≡ false → filter is_ending facts ≡ []
no_end_yet [] h = refl
no_end_yet (Ended end moment ∷ later) h = absurd (cc)
no_end_yet (fact ∷ later) h = no_end_yet later h

one_where : (so : Bool) (fact : RoomFact) → length (fact_if so fact) ≤ 1
one_where true fact = omega arith
one_where false fact = omega arith

one_by : (outcome : Result End HitRefusal) (moment : ℕ) → length (end_by outcome moment) ≤ 1
one_by (Ok award) moment = omega arith
one_by (Err refused) moment = omega arith

-- an event adds one fact at most
one_fact : (facts : List RoomFact) (event : RoomEvent) → length (event_facts facts event) ≤ 1
unfolding event_facts
one_fact facts (event.Hit w moment settlement) = one_by _ _
one_fact facts other = one_where _ _

one_kept : (b : Bool) (fact : RoomFact) (kept facts : List RoomFact) → length kept ≤ length facts
    → length (cond b (fact ∷ kept) kept) ≤ length (fact ∷ facts)
one_kept true fact kept facts h = omega arith
one_kept false fact kept facts h = omega arith

fewer : (p : RoomFact → Bool) (facts : List RoomFact) → length (filter p facts) ≤ length facts
fewer p [] = omega arith
fewer p (fact ∷ facts) = one_kept (p fact) fact (filter p facts) facts (fewer p facts)

once_more : (facts : List RoomFact) (event : RoomEvent) (ended : Bool) → is_ended facts ≡ ended
    → length (filter is_ending facts) ≤ 1 → length (filter is_ending (after_event facts event)) ≤ 1
once_more facts event true h once = rw (stays_as_it_is facts event h) once
once_more facts event false h once =
    rw (filter-append is_ending facts (event_facts facts event), no_end_yet facts h)
    (omega (arith, fewer is_ending (event_facts facts event), one_fact facts event))

once_after : (facts : List RoomFact) (events : List RoomEvent) → length (filter is_ending facts) ≤ 1
    → length (filter is_ending (fold after_event facts events)) ≤ 1
once_after facts [] once = once
once_after facts (event ∷ more) once =
    once_after (after_event facts event) more (once_more facts event (is_ended facts) refl once)

-- a room ends once at most
pub ends_once : (events : List RoomEvent) → length (filter is_ending (room_after events)) ≤ 1
unfolding room_after
ends_once events = once_after [] events (omega arith)

awards_are_ends : (facts : List RoomFact)
    → length (filter is_award facts) ≤ length (filter is_ending facts)
awards_are_ends [] = omega arith
awards_are_ends (Ended end moment ∷ later) =
    one_kept (is_awarded_kind end.kind) (Ended end moment) (filter is_award later)
    (filter is_ending later) (awards_are_ends later)
awards_are_ends (fact ∷ later) = awards_are_ends later

-- and is awarded once at most
pub awarded_once : (events : List RoomEvent) → length (filter is_award (room_after events)) ≤ 1
awarded_once events = omega (arith, awards_are_ends (room_after events), ends_once events)
