-- What stands of a room in a venue, by its facts: its request, that it is ready, its end.
use Rattle.laws_days.proofs.Common.{List, None, Option, Some, ℕ, [], ap, arith, eq-eqb, inl, inr}
use Rattle.laws_days.proofs.Common.{refl, subst, sym, true, ◌++◌, ◌+◌, ◌==◌, ◌∙◌, ◌∷◌, ◌≡◌}
use Rattle.laws_days.proofs.Common.{and_from, cases_Bool, eqb-true, take-append-drop, same_Some}
use Rattle.laws_days.proofs.Common.{list_any, slice_get, Close, Duty, RoomRef, Configuration}
use Rattle.laws_days.proofs.Common.{dealer_numbered, has_room, DealerRow, Shown, Told}
use Rattle.laws_days.proofs.Common.{requests_from, is_same_room, number_in, StandingRequest}
use Rattle.laws_days.proofs.Common.{quote_meant, Ended, Opened, Posted, Readied, RoomFact, end_of}
use Rattle.laws_days.proofs.Common.{ended_as, first_said, is_ended, is_named, is_readied, is_ready}
use Rattle.laws_days.proofs.Common.{names, opened_for, request_of, End, RoomRequest, Actor}
use Rattle.laws_days.proofs.Common.{AuditTrail, pending, AtDesk, DealerEntry, book_by, facts_of}
use Rattle.laws_days.proofs.Common.{rooms_by, Each, Every, each_of, every_weaker, In, all_in}
use Rattle.laws_days.proofs.Common.{AtDealer, Fact, InRoom, of_dealer, of_room}
use Rattle.market_terms.specs.declared.duties.Duty.TheVariants as duty
use Rattle.request_room.specs.Book.{book_of, takes_out}
use Rattle.request_room.specs.declared.quotes.PostedQuote.{PostedQuote as BookQuote}
use Rattle.step_replay.specs.GrowthLemmas.{names_some}
use Rattle.laws_days.proofs.KnownDesks.{known_asked}
use Rattle.laws_days.proofs.ListLemmas.{in_named, some_of}
use Rattle.laws_days.proofs.PlainFacts.{at_dealer_all, in_room_all, rooms_all}
use Rattle.laws_days.proofs.ShownRequests.{in_facts, number_place}
use Rattle.laws_days.proofs.VenueInvariant.{ClosedIn, Did, DutyOk, EndedIn, FactOk, IsDealer}
use Rattle.laws_days.proofs.VenueInvariant.{LeftOk, OpenedIn, PostedIn, ReadyIn, ShownTo, VenueOk}
use Rattle.laws_days.proofs.VenueParts.{BearsLimits, IsOpened, KnownIn, Needs, Still, did_in}
use Rattle.laws_days.proofs.VenueParts.{duties_by, investor_facts, later_same, mark_of, number_for}
use Rattle.laws_days.proofs.VenueTurns.{turns_of}

-- Facts of a room.

ended_fact : (P : RoomFact → Type 0) (end : End) (facts : List RoomFact)
    → first_said ended_as facts ≡ Some end → Every P facts → (moment : ℕ) × P (Ended end moment)
ended_fact P end [] is every = cc
ended_fact P end (Ended other moment ∷ facts) is every =
    (moment, subst (λ (e : End). P (Ended e moment)) (same_Some other end is) every.0)
ended_fact P end (fact ∷ facts) is every = ended_fact P end facts is every.1

opened_fact : (P : RoomFact → Type 0) (request : RoomRequest) (facts : List RoomFact)
    → first_said opened_for facts ≡ Some request → Every P facts → P (Opened request)
opened_fact P request [] is every = cc
opened_fact P request (Opened other ∷ facts) is every =
    subst (λ (r : RoomRequest). P (Opened r)) (same_Some other request is) every.0
opened_fact P request (fact ∷ facts) is every = opened_fact P request facts is every.1

ready_fact : (P : RoomFact → Type 0) (facts : List RoomFact) → list_any is_readied facts ≡ true
    → Every P facts → P Readied
ready_fact P [] is every = cc
ready_fact P (Readied ∷ facts) is every = every.0
ready_fact P (fact ∷ facts) is every = ready_fact P facts is every.1

-- a quote of the book was posted
posted_fact : (P : RoomFact → Type 0) (word : ℕ) (facts : List RoomFact) (quote : BookQuote)
    → quote_meant (book_of facts) word ≡ Some quote → Every P facts
    → (quote.word ≡ word) × P (Posted quote)
posted_fact P word [] quote is every = cc
posted_fact P word (Posted other ∷ facts) quote is every =
    elim (cases_Bool (list_any (takes_out other) facts)) [
      | inl out ↦ posted_fact P word facts quote (rw out at is) every.1
      | inr stays ↦ elim (cases_Bool (other.word == word)) [
        | inr differs ↦ posted_fact P word facts quote (rw (stays, differs) at is) every.1
        | inl test ↦
            let same : other ≡ quote = same_Some other quote (rw (stays, test) at is) in
            let words = eqb-true other.word word test in
            (rw same at words, subst (λ (q : BookQuote). P (Posted q)) same every.0)
      ]
    ]
posted_fact P word (fact ∷ facts) quote is every = posted_fact P word facts quote is every.1

-- Rooms at a desk.

pub room_self : (room : RoomRef) → is_same_room room room ≡ true
room_self room =
    and_from _ _ (eq-eqb room.investor room.investor refl) (eq-eqb room.n room.n refl)

-- two rooms that one number names are one
one_number : (rooms : List RoomRef) (one other : RoomRef) (number : ℕ)
    → number_in rooms one ≡ Some number → number_in rooms other ≡ Some number → one ≡ other
one_number rooms one other number is also =
    let first = number_place 1 rooms one number is in
    let second = number_place 1 rooms other number also in
    let first_is : number ≡ 1 + first.0 = first.1 in
    let second_is : number ≡ 1 + second.0 = second.1 in
    let same : first.0 ≡ second.0 = omega arith in
    same_Some one other (sym first.2 ∙ ap (slice_get rooms) same ∙ second.2)

-- Rooms that stand, and what duties need.

-- a room that names a dealer was opened
pub opened_by : (room : RoomRef) (facts : List Fact) (dealer : ℕ)
    → is_named (of_room room facts) dealer ≡ true → IsOpened room facts
opened_by room facts dealer named =
    let request = names_some (request_of (of_room room facts)) dealer named in
    rw (request.1) refl

pub needs : (config : Configuration) (by : Actor) (venue : AuditTrail) (left : Duty)
    → DutyOk config by left venue → Needs venue.facts (mark_of left)
needs config by venue (duty.Open room ask dealers moment) ok = ok.known
needs config by venue (duty.Show dealer room ask moment) ok =
    opened_by room venue.facts dealer ok.named
needs config by venue (duty.Ready room moment) ok = ok.1
needs config by venue (duty.Tell dealer room close moment) ok = rw (ok.end_is) refl
needs config by venue other ok = tt

-- what stands at each place of a list stands at that of an item
pub each_holds : {A : Type 0} (P : List A → A → List A → Type 0) (x : A) (before xs : List A)
    → Each P before xs → In x xs → (front : List A) × (rest : List A) × P front x rest
each_holds P x before [] each is = absurd is
each_holds P x before (y ∷ xs) each (inl is) =
    (before, xs, subst (λ z. P before z xs) is each.0)
each_holds P x before (y ∷ xs) each (inr is) = each_holds P x (before ++ y ∷ []) xs each.1 is

module _ {config : Configuration} {venue : AuditTrail} (stood : VenueOk config venue) where
  abbrev known : RoomRef → List RoomFact
  known room = of_room room venue.facts

  -- what stands at a fact from this venue on
  abbrev Stands : Fact → Type 0
  Stands fact = Still (FactOk config fact) venue

  -- what stands at each fact of a room
  abbrev InIt : RoomRef → RoomFact → Type 0
  InIt room fact = FactOk config (InRoom room fact) venue

  all_known : (room : RoomRef) → Every (InIt room) (known room)
  all_known room =
      in_room_all (λ fact. FactOk config fact venue) room venue.facts
      (every_weaker Stands (λ fact. FactOk config fact venue)
      (λ fact stands. stands venue (later_same venue)) venue.facts stood.facts)

  all_there : (dealer : ℕ)
      → Every (λ entry. Stands (AtDealer dealer entry)) (of_dealer dealer venue.facts)
  all_there dealer = at_dealer_all Stands dealer venue.facts stood.facts

  pub opened_in : (room : RoomRef) (request : RoomRequest)
      → request_of (known room) ≡ Some request → OpenedIn config room request venue
  opened_in room request is =
      opened_fact (InIt room) request (known room) is (all_known room)

  pub ready_in : (room : RoomRef) → is_ready (known room) ≡ true → ReadyIn config room venue
  ready_in room is = ready_fact (InIt room) (known room) is (all_known room)

  pub ended_in : (room : RoomRef) (end : End) → end_of (known room) ≡ Some end
      → EndedIn config room end venue
  ended_in room end is = (ended_fact (InIt room) end (known room) is (all_known room)).1

  -- what was made ready was opened, and what ended was made ready
  pub ready_opened : (room : RoomRef) → is_ready (known room) ≡ true → IsOpened room venue.facts
  ready_opened room is = (ready_in room is).did.ok.1

  pub ended_ready : (room : RoomRef) → is_ended (known room) ≡ true
      → is_ready (known room) ≡ true
  ended_ready room is =
      let end = some_of (end_of (known room)) is in (ended_in room end.0 end.1).ready

  -- what stands of a quote of the book
  pub posted_in : (room : RoomRef) (word : ℕ) (quote : BookQuote)
      → quote_meant (book_of (known room)) word ≡ Some quote
      → (quote.word ≡ word) × PostedIn config room quote venue
  posted_in room word quote found =
      posted_fact (InIt room) word (known room) quote found (all_known room)

  -- a room that was shown to a dealer
  pub rooms_shown : (dealer : ℕ) → Every (λ room. ShownTo config dealer room venue)
      (rooms_by (of_dealer dealer venue.facts))
  rooms_shown dealer =
      rooms_all (λ entry. Stands (AtDealer dealer entry)) (λ room. ShownTo config dealer room venue)
      (λ room stands. stands venue (later_same venue)) (of_dealer dealer venue.facts)
      (all_there dealer)

  -- a notice of a room's end was told as the duty says that was done
  pub told_did : (room : RoomRef) (dealer request : ℕ) (close : Close) (moment : ℕ)
      → number_for venue.facts dealer room ≡ Some request
      → In (Told request close moment) (facts_of (of_dealer dealer venue.facts))
      → (when : ℕ) × Did config (duty.Tell dealer room close when) venue
  told_did room dealer request close moment found is =
      let trail = of_dealer dealer venue.facts in
      let closed : ClosedIn config dealer request close venue =
      all_in (λ entry. Stands (AtDealer dealer entry)) (AtDesk (Told request close moment)) trail
      (all_there dealer) (in_facts (Told request close moment) trail is) venue (later_same venue) in
      let same : closed.room ≡ room =
      one_number (rooms_by trail) closed.room room request closed.request_is found in
      (closed.moment, rw same at closed.did)

  -- Rooms that an investor knows.

  pub known_opened : (room : RoomRef) → IsOpened room venue.facts → KnownIn room None venue.facts
  known_opened room is =
      let request = some_of (request_of (known room)) is in
      (opened_in room request.0 request.1).1.ok.known

  pub known_room : (room : RoomRef) (quote : Option ℕ) → KnownIn room quote venue.facts
      → has_room config room.investor room.n ≡ true
  known_room room quote is =
      ((stood.markets room.investor).asked_ok room.n
      (known_asked (investor_facts venue.facts room.investor) room.n quote is)).1

  -- of a dealer that the request of a room names

  pub known_named : (room : RoomRef) (dealer : ℕ) → is_named (known room) dealer ≡ true
      → KnownIn room None venue.facts
  known_named room dealer named = known_opened room (opened_by room venue.facts dealer named)

  pub named_dealer : (room : RoomRef) (dealer : ℕ) → is_named (known room) dealer ≡ true
      → (row : DealerRow) × (dealer_numbered config dealer ≡ Some row)
  named_dealer room dealer named =
      let request = names_some (request_of (known room)) dealer named in
      some_of (dealer_numbered config dealer)
      (all_in (IsDealer config) dealer request.0.dealers
      (opened_in room request.0 request.1).1.ok.are_dealers
      (in_named dealer request.0.dealers
      (ap (λ (r : Option RoomRequest). names r dealer) (sym request.1) ∙ named)))

  -- and it was shown, where the room has ended
  pub shown_ended : (room : RoomRef) (end : End) (dealer : ℕ) → end_of (known room) ≡ Some end
      → is_named (known room) dealer ≡ true
      → (number : ℕ) × (number_for venue.facts dealer room ≡ Some number)
  shown_ended room end dealer is named =
      some_of (number_for venue.facts dealer room)
      ((ready_in room (ended_in room end is).ready).shown dealer named)

  -- The first duty that an actor has to do.

  module _ (by : Actor) (left : Duty) (rest : List Duty) (is : pending by venue ≡ left ∷ rest)
    where
      pub pending_ok : LeftOk config venue by (did_in venue by) left rest
      pending_ok =
          each_of (LeftOk config venue by) (duties_by by venue.caused) (did_in venue by) left rest
          (stood.queues by).left
          (sym (take-append-drop (turns_of by venue.done) (duties_by by venue.caused))
          ∙ ap (λ l. did_in venue by ++ l) is)

-- the requests of a dealer's book bear the grids and the bands of their bonds
pub book_bears : (config : Configuration) (venue : AuditTrail) (stood : VenueOk config venue)
    (dealer : ℕ) → Every (λ (own : StandingRequest). BearsLimits config own.ask)
    (book_by (of_dealer dealer venue.facts)).requests
book_bears config venue stood dealer =
    bear 1 (of_dealer dealer venue.facts) (all_there stood dealer)
  where
    bear : (number : ℕ) (trail : List DealerEntry)
        → Every (λ entry. Still (FactOk config (AtDealer dealer entry)) venue) trail
        → Every (λ (own : StandingRequest). BearsLimits config own.ask)
        (requests_from number (facts_of trail))
    bear number [] all = tt
    bear number (AtDesk (Shown ask moment) ∷ trail) all =
        (all.0 venue (later_same venue), bear (number + 1) trail all.1)
    bear number (AtDesk fact ∷ trail) all = bear number trail all.1
    bear number (entry ∷ trail) all = bear number trail all.1
