-- A request is shown to no dealer that it does not name: its room was opened once, by the duty that its
-- acceptance left.
use Rattle.std.proofs.Common.{◌≡◌, ◌==◌, ℕ, true, List, [], ◌∷◌, ◌++◌, drop}
use Rattle.std.proofs.Common.{Option, Some, None, refl, sym, ap, ◌∙◌, subst, inl, inr}
use Rattle.std.specs.List.{list_any}
use Rattle.std.proofs.lemmas.Bool.{cases_Bool, eqb-true}
use Rattle.std.proofs.lemmas.List.{take-append-drop}
use Rattle.market_terms.specs.declared.duties.Duty.{Duty}
use Rattle.market_terms.specs.declared.duties.Duty.TheVariants as duty
use Rattle.market_terms.specs.declared.rooms.RoomRef.{RoomRef}
use Rattle.venue_rows.specs.Rows.{Configuration}
use Rattle.venue_steps.specs.declared.actors.Actor.{Actor}
use Rattle.venue_steps.specs.declared.actors.Actor.TheVariants as actor
use Rattle.investor_desk.specs.InvestorFacts.{Asked, InvestorFact}
use Rattle.investor_desk.specs.declared.standing.AcceptedRequest.{AcceptedRequest}
use Rattle.request_room.specs.declared.requests.RoomRequest.{RoomRequest}
use Rattle.request_room.specs.RoomFacts.{names, request_of}
use Rattle.step_replay.specs.AuditTrail.{AuditTrail, audit_trail}
use Rattle.step_replay.specs.DealerTrail.{rooms_by}
use Rattle.step_replay.specs.EachLemmas.{Each}
use Rattle.step_replay.specs.GrowthLemmas.{all_in, in_left, in_right, names_some}
use Rattle.step_replay.specs.InvestorTrail as investor_trail
use Rattle.step_replay.specs.InvestorTrail.{InvestorEntry}
use Rattle.step_replay.specs.Lists.{In}
use Rattle.step_replay.specs.VenueFacts.{AtDealer, AtInvestor, Fact, InRoom, of_dealer, of_investor}
use Rattle.step_replay.specs.VenueFacts.{of_room}
use Rattle.step_replay.specs.declared.steps.Step.{Step}
use Rattle.laws_shown.specs.ShownRequests.{at_investor as market_facts, room_of}
use Rattle.laws_days.proofs.KnownDesks.{asked, known_asked}
use Rattle.laws_days.proofs.LiveQuotes.{LoneQuotes}
use Rattle.laws_days.proofs.PlainFacts.{at_dealer_all, in_room_all, rooms_all}
use Rattle.laws_days.proofs.VenueDay.{venue_ok}
use Rattle.laws_days.proofs.VenueDesk.{WordsOfDay}
use Rattle.laws_days.proofs.VenueInvariant.{FactOk, LeftOk, OpenedIn, ShownTo, VenueOk}
use Rattle.laws_days.proofs.VenueParts.{Mark, Opening, OrderOk, Still, did_in, duties_by, later_same, mark_of, marks}
use Rattle.laws_days.proofs.VenueParts.{marks_both}
use Rattle.laws_days.proofs.VenueTurns.{turns_of}
use Rattle.laws_rooms.specs.Shown.{HasAsked, IsShown}
use Rattle.laws_rooms.proofs.AskLemmas.{all_left, at_investor_all, in_investor}
use Rattle.laws_rooms.proofs.LeftLemmas.{FactIs}
use Rattle.laws_rooms.proofs.RoomLemmas.{opened_fact}

-- who is among the named is named
in_named : (dealer : ℕ) (dealers : List ℕ)
    → list_any (λ (named : ℕ). named == dealer) dealers ≡ true → In dealer dealers
in_named dealer [] is = cc
in_named dealer (other ∷ dealers) is = elim (cases_Bool (other == dealer)) [
  | inl same ↦ inl (eqb-true other dealer same)
  | inr differs ↦ inr (in_named dealer dealers (rw differs at is))
]

-- a request that is known was accepted
abbrev AskedAs : List InvestorFact → ℕ → Type 0
AskedAs facts number =
    (request : AcceptedRequest) × In (Asked request) facts × (request.number ≡ number)

asked_there : (number : ℕ) (facts : List InvestorFact) → asked facts number ≡ true → AskedAs facts number
asked_there number [] is = cc
asked_there number (Asked request ∷ facts) is = elim (cases_Bool (request.number == number)) [
  | inl same ↦ (request, inl refl, eqb-true request.number number same)
  | inr differs ↦
      (let later = asked_there number facts (rw differs at is) in
      (later.0, inr later.1, later.2))
]
asked_there number (fact ∷ facts) is =
    let later = asked_there number facts is in
    (later.0, inr later.1, later.2)

-- the dealers that an opening names
abbrev dealers_in : Duty → List ℕ
dealers_in (duty.Open room ask dealers moment) = dealers
dealers_in other = []

-- the mark of a duty of a list is among the marks
mark_there : (mark : Mark) (d : Duty) (duties : List Duty) → mark_of d ≡ Some mark → In d duties
    → In mark (marks duties)
mark_there mark d [] is there = absurd there
mark_there mark d (other ∷ duties) is (inl same) = rw (ap mark_of same ∙ is) (inl refl)
mark_there mark d (other ∷ duties) is (inr there) =
    subst (λ (l : List Mark). In mark l) (sym (marks_both (other ∷ []) duties))
    (in_right mark (marks (other ∷ [])) (marks duties) (mark_there mark d duties is there))

module _ (lone : LoneQuotes) (words : WordsOfDay) (config : Configuration) (steps : List Step) where
  abbrev venue : AuditTrail
  venue = audit_trail config steps

  stands : VenueOk config venue
  stands = venue_ok lone words config steps

  -- In a queue no two duties have one mark.

  module _ (by : Actor) (mark : Mark) (other : Duty) (is : mark_of other ≡ Some mark) where
    no_more : (before duties : List Duty) → Each (LeftOk config venue by) before duties
        → In mark (marks before) → In other duties → ⊥
    no_more before [] each marked there = absurd there
    no_more before (d ∷ duties) each marked (inl same) =
        let order = subst (λ (m : Option Mark). OrderOk venue (marks before) m) (ap mark_of same ∙ is) each.0.1 in
        order.0 marked
    no_more before (d ∷ duties) each marked (inr there) =
        no_more (before ++ d ∷ []) duties each.1
        (subst (λ (l : List Mark). In mark l) (sym (marks_both before (d ∷ [])))
        (in_left mark (marks before) (marks (d ∷ [])) marked)) there

  behind : (by : Actor) (mark : Mark) (d other : Duty) (before duties : List Duty)
      → mark_of d ≡ Some mark → mark_of other ≡ Some mark
      → Each (LeftOk config venue by) (before ++ d ∷ []) duties → In other duties → ⊥
  behind by mark d other before duties is also each there =
      no_more by mark other also (before ++ d ∷ []) duties each
      (mark_there mark d (before ++ d ∷ []) is (in_right d before (d ∷ []) (inl refl))) there

  one_duty : (by : Actor) (mark : Mark) (one other : Duty) (before duties : List Duty)
      → mark_of one ≡ Some mark → mark_of other ≡ Some mark
      → Each (LeftOk config venue by) before duties → In one duties → In other duties → one ≡ other
  one_duty by mark one other before [] is also each first second = absurd first
  one_duty by mark one other before (d ∷ duties) is also each (inl first) (inl second) = sym first ∙ second
  one_duty by mark one other before (d ∷ duties) is also each (inl first) (inr second) =
      absurd (behind by mark d other before duties (ap mark_of first ∙ is) also each.1 second)
  one_duty by mark one other before (d ∷ duties) is also each (inr first) (inl second) =
      absurd (behind by mark d one before duties (ap mark_of second ∙ also) is each.1 first)
  one_duty by mark one other before (d ∷ duties) is also each (inr first) (inr second) =
      one_duty by mark one other (before ++ d ∷ []) duties is also each.1 first second

  -- What is shown.

  shown_by : (room : RoomRef) (dealer : ℕ) → IsShown (of_dealer dealer venue.facts) room
      → ShownTo config dealer room venue
  shown_by room dealer is =
      all_in (λ (r : RoomRef). ShownTo config dealer r venue) room (rooms_by (of_dealer dealer venue.facts))
      (rooms_all (λ entry. Still (FactOk config (AtDealer dealer entry)) venue)
      (λ (r : RoomRef). ShownTo config dealer r venue) (λ r still. still venue (later_same venue))
      (of_dealer dealer venue.facts)
      (at_dealer_all (λ (fact : Fact). Still (FactOk config fact) venue) dealer venue.facts stands.facts)) is

  -- the request of its room, as it was opened, names the dealer
  record OpenedFor (room : RoomRef) (dealer : ℕ) : Type 0 where
    pub request : RoomRequest
    pub opened : OpenedIn config room request venue
    pub named : In dealer request.dealers

  opened_for_it : (room : RoomRef) (dealer : ℕ) → IsShown (of_dealer dealer venue.facts) room
      → OpenedFor room dealer
  opened_for_it room dealer is =
      let known = of_room room venue.facts in
      let shows = (shown_by room dealer is).2.ok in
      let request = names_some (request_of known) dealer shows.named in
      record {
        request = request.0;
        opened = opened_fact (λ fact. Still (FactOk config (InRoom room fact)) venue) request.0 known request.1
            (in_room_all (λ (fact : Fact). Still (FactOk config fact) venue) room venue.facts stands.facts) venue
            (later_same venue);
        named = in_named dealer request.0.dealers
            (sym (ap (λ (r : Option RoomRequest). names r dealer) request.1) ∙ shows.named);
      }

  -- the opening of the room of an accepted request
  left_to_open : (investor : ℕ) (request : AcceptedRequest)
      → In (Asked request) (market_facts investor venue.facts)
      → (moment : ℕ) × In (duty.Open (room_of investor request.number) request.ask request.dealers moment)
      (duties_by (actor.Firm investor) venue.caused)
  left_to_open investor request accepted =
      all_in (λ (entry : InvestorEntry). Still (FactIs config (AtInvestor investor entry)) venue)
      (investor_trail.AtDesk (Asked request)) (of_investor investor venue.facts)
      (at_investor_all (λ (fact : Fact). Still (FactIs config fact) venue) investor venue.facts
      (all_left lone words config steps))
      (in_investor (Asked request) (of_investor investor venue.facts) accepted) venue (later_same venue)

  left_of_done : (by : Actor) (d : Duty) → In d (did_in venue by) → In d (duties_by by venue.caused)
  left_of_done by d done =
      subst (λ (l : List Duty). In d l) (take-append-drop (turns_of by venue.done) (duties_by by venue.caused))
      (in_left d (did_in venue by) (drop (turns_of by venue.done) (duties_by by venue.caused)) done)

  pub only_named : (investor : ℕ) (request : AcceptedRequest) (dealer : ℕ)
      → In (Asked request) (market_facts investor venue.facts)
      → IsShown (of_dealer dealer venue.facts) (room_of investor request.number)
      → In dealer request.dealers
  only_named investor request dealer accepted is =
      let room = room_of investor request.number in
      let me = actor.Firm investor in
      let opened = opened_for_it room dealer is in
      let did = opened.opened.1 in
      let asks = left_to_open investor request accepted in
      let done = duty.Open room opened.request.ask opened.request.dealers opened.opened.0 in
      let left = duty.Open room request.ask request.dealers asks.0 in
      let same : done ≡ left = one_duty me (Opening room) done left [] (duties_by me venue.caused) refl refl
      (stands.queues me).left
      (left_of_done me done (subst (λ (a : Actor). In done (did_in venue a)) did.ok.by_is did.done)) asks.1 in
      subst (λ (l : List ℕ). In dealer l) (ap dealers_in same) opened.named

  pub has_asked : (room : RoomRef) (dealer : ℕ) → IsShown (of_dealer dealer venue.facts) room
      → HasAsked (market_facts room.investor venue.facts) room.n dealer
  has_asked room dealer is =
      let facts = market_facts room.investor venue.facts in
      let opened = opened_for_it room dealer is in
      let found = asked_there room.n facts (known_asked facts room.n None opened.opened.1.ok.known) in
      record {
        request = found.0;
        accepted = found.1;
        number_is = found.2;
        named = only_named room.investor found.0 dealer found.1
            (subst (λ (n : ℕ). IsShown (of_dealer dealer venue.facts) (room_of room.investor n)) (sym found.2) is);
      }
