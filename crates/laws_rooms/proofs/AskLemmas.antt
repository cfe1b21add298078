-- A request that is accepted opens its room, and so is shown; a quote in a room comes to its investor.
use Rattle.std.proofs.Common.{◌≡◌, ◌==◌, ◌+◌, ◌||◌, ℕ, Bool, true, false, List, [], ◌∷◌, ◌++◌}
use Rattle.std.proofs.Common.{Option, Some, refl, sym, ap, ◌∙◌, subst, inl, inr}
use Rattle.std.proofs.Common.{arith}
use Rattle.std.specs.List.{list_any}
use Rattle.std.proofs.lemmas.Bool.{cases_Bool, eq-eqb, eqb-true}
use Rattle.std.proofs.lemmas.List.{append-nil, append_assoc}
use Rattle.std.proofs.lemmas.Option.{same_Some}
use Rattle.market_terms.specs.declared.duties.Duty.{Duty}
use Rattle.market_terms.specs.declared.duties.Duty.TheVariants as duty
use Rattle.market_terms.specs.declared.rooms.RoomRef.{RoomRef}
use Rattle.venue_rows.specs.Rows.{Configuration, dealer_numbered}
use Rattle.venue_steps.specs.declared.actors.Actor.{Actor}
use Rattle.venue_steps.specs.declared.actors.Actor.TheVariants as actor
use Rattle.dealer_desk.specs.DealerOutput.{number_in}
use Rattle.investor_desk.specs.InvestorFacts.{Asked, InvestorFact}
use Rattle.investor_desk.specs.declared.standing.AcceptedRequest.{AcceptedRequest}
use Rattle.request_room.specs.RoomFacts.{Noted, Posted, RoomFact}
use Rattle.request_room.specs.RoomFacts.{is_named, names, request_of}
use Rattle.request_room.specs.declared.quotes.PostedQuote.{PostedQuote}
use Rattle.request_room.specs.declared.requests.RoomRequest.{RoomRequest}
use Rattle.step_replay.specs.Actions.{Effect}
use Rattle.step_replay.specs.AuditTrail.{AuditTrail, after_step, after_turn, audit_trail}
use Rattle.step_replay.specs.AuditTrail.{pending}
use Rattle.step_replay.specs.DealerTrail.{rooms_by}
use Rattle.step_replay.specs.DutyEffects.{duty_effect, message_effect, sweep_effect}
use Rattle.step_replay.specs.EachLemmas.{every_both, every_weaker}
use Rattle.step_replay.specs.GrowthLemmas.{all_in, in_right}
use Rattle.step_replay.specs.InvestorTrail as investor_trail
use Rattle.step_replay.specs.InvestorTrail.{InvestorEntry}
use Rattle.step_replay.specs.Lists.{Every, In}
use Rattle.step_replay.specs.VenueFacts.{AtInvestor, Fact, InRoom, of_dealer, of_investor}
use Rattle.step_replay.specs.VenueFacts.{of_room}
use Rattle.step_replay.specs.declared.steps.Step.{Step}
use Rattle.step_replay.specs.declared.steps.Step.TheVariants as step
use Rattle.laws_days.specs.DayParts.{left_by as left_then}
use Rattle.laws_days.specs.LiveDuties.{NoDutyIsLeft}
use Rattle.laws_shown.specs.ShownRequests.{at_investor as market_facts, room_of}
use Rattle.laws_days.proofs.LiveQuotes.{LoneQuotes}
use Rattle.laws_days.proofs.PlainFacts.{in_room_all}
use Rattle.laws_days.proofs.ShownRequests.{number_place}
use Rattle.laws_days.proofs.VenueDay.{venue_ok}
use Rattle.laws_days.proofs.VenueDesk.{WordsOfDay}
use Rattle.laws_days.proofs.VenueInvariant.{FactOk, IsDealer, VenueOk}
use Rattle.laws_days.proofs.VenueParts.{Still, duties_by, later_same, still_later}
use Rattle.laws_days.proofs.VenueSteps.{Here, day, since}
use Rattle.laws_days.proofs.VenueTurns.{beside, own_left, turn}
use Rattle.laws_rooms.specs.Declines.{IsToldSo}
use Rattle.laws_rooms.specs.Shown.{IsShownOnce}
use Rattle.laws_rooms.specs.Told.{CameToIt}
use Rattle.laws_rooms.proofs.LeftLemmas.{FactIs, Leaves, LeavesOf, duty_leaves, message_leaves, quiet_leaves}
use Rattle.laws_rooms.proofs.LeftLemmas.{sweep_quiet}
use Rattle.laws_rooms.proofs.RoomLemmas.{did_all, done_now, facts_ok, is_shown, one_more}
use Rattle.laws_rooms.proofs.RoomLemmas.{opened_fact, some_of, stands}

-- After every list of steps.

module _ (lone : LoneQuotes) (words : WordsOfDay) (config : Configuration) where
  abbrev pub AllLeft : AuditTrail → Type 0
  AllLeft venue = Every (λ fact. Still (FactIs config fact) venue) venue.facts

  left_open : (h : Here) (effect : Effect) (fact : Fact) → LeavesOf config h.by effect.duties fact
      → Still (FactIs config fact) (day h effect)
  left_open h effect (AtInvestor investor (investor_trail.AtDesk (Asked request))) leaves = λ now later.
      let opening = duty.Open (room_of investor request.number) request.ask request.dealers leaves.1 in
      let there : In opening (duties_by h.by (h.venue.caused ++ left_then h.by effect.duties)) =
      rw (own_left h.venue h.by effect)
      (in_right opening (duties_by h.by h.venue.caused) effect.duties leaves.2) in (
        leaves.1,
        later.left (actor.Firm investor) opening
            (subst (λ (a : Actor). In opening (duties_by a (h.venue.caused ++ left_then h.by effect.duties))) leaves.0
            there),
      )
  left_open h effect (InRoom room (Posted quote)) leaves = λ now later.
      let relay = duty.Relay room leaves.offer leaves.moment in (
        h.by,
        record {
          offer = leaves.offer;
          moment = leaves.moment;
          is_its = leaves.is_its;
          left = later.left h.by relay (rw (own_left h.venue h.by effect)
              (in_right relay (duties_by h.by h.venue.caused) effect.duties leaves.left));
        },
      )
  left_open h effect (InRoom room (Noted dealer)) leaves = λ now later.
      let telling = duty.Declined room leaves.1 in
      let there : In telling (duties_by h.by (h.venue.caused ++ left_then h.by effect.duties)) =
      rw (own_left h.venue h.by effect)
      (in_right telling (duties_by h.by h.venue.caused) effect.duties leaves.2) in (
        leaves.1,
        later.left (actor.Firm dealer) telling
            (subst (λ (a : Actor). In telling (duties_by a (h.venue.caused ++ left_then h.by effect.duties))) leaves.0
            there),
      )
  left_open h effect other leaves = λ now later. tt

  grown_left : (h : Here) (effect : Effect) → Leaves config h.by effect → AllLeft h.venue → AllLeft (day h effect)
  grown_left h effect leaves asked =
      every_both (λ fact. Still (FactIs config fact) (day h effect)) h.venue.facts effect.facts
      (every_weaker (λ fact. Still (FactIs config fact) h.venue) (λ fact. Still (FactIs config fact) (day h effect))
      (λ fact stood. still_later (FactIs config fact) (since h effect) stood) h.venue.facts asked)
      (every_weaker (LeavesOf config h.by effect.duties) (λ fact. Still (FactIs config fact) (day h effect))
      (left_open h effect) effect.facts leaves.facts)

  abbrev here_beside : (venue : AuditTrail) → VenueOk config venue → Actor → Here
  here_beside venue stood by =
      record { config = config; venue = venue; stood = stood; by = by; doing = beside }

  turn_left : (venue : AuditTrail) (stood : VenueOk config venue) (by : Actor) (duties : List Duty)
      → pending by venue ≡ duties → AllLeft venue → AllLeft (after_turn config by venue duties)
  turn_left venue stood by [] is asked = asked
  turn_left venue stood by (left ∷ rest) is asked =
      grown_left (record { config = config; venue = venue; stood = stood; by = by; doing = turn left rest is })
      (duty_effect config venue.facts by left)
      (duty_leaves config venue.facts by left) asked

  step_left : (venue : AuditTrail) (stood : VenueOk config venue) (more : Step) → AllLeft venue
      → AllLeft (after_step config venue more)
  unfolding after_step
  step_left venue stood (step.In firm moment bytes) asked =
      grown_left (here_beside venue stood (actor.Firm firm)) (message_effect config venue.facts firm moment bytes)
      (message_leaves config venue.facts firm moment bytes) asked
  step_left venue stood (step.Turn by) asked =
      turn_left venue stood by (pending by venue) refl asked
  step_left venue stood (step.Expire room moment) asked =
      grown_left (here_beside venue stood actor.Clock) (sweep_effect config venue.facts room moment)
      (quiet_leaves config actor.Clock (sweep_effect config venue.facts room moment)
      (sweep_quiet config venue.facts room moment)) asked

  steps_left : (before steps : List Step) → AllLeft (audit_trail config before)
      → AllLeft (audit_trail config (before ++ steps))
  steps_left before [] asked = rw append-nil asked
  steps_left before (more ∷ steps) asked =
      subst (λ l. AllLeft (audit_trail config l)) (append_assoc before (more ∷ []) steps)
      (steps_left (before ++ more ∷ []) steps (subst AllLeft (sym (one_more lone words config before more))
      (step_left (audit_trail config before) (venue_ok lone words config before) more asked)))

  start_left : AllLeft (audit_trail config [])
  unfolding audit_trail
  start_left = tt

  pub all_left : (steps : List Step) → AllLeft (audit_trail config steps)
  all_left steps = steps_left [] steps start_left

-- An investor's trail.

pub at_investor_all : (P : Fact → Type 0) (investor : ℕ) (some : List Fact) → Every P some
    → Every (λ (entry : InvestorEntry). P (AtInvestor investor entry)) (of_investor investor some)
unfolding of_investor
at_investor_all P investor [] every = tt
at_investor_all P investor (AtInvestor other entry ∷ some) every =
    elim (cases_Bool (other == investor)) [
      | inl test ↦ rw test (
        rw (eqb-true other investor test) at every.0,
        at_investor_all P investor some every.1,
      )
      | inr differs ↦ rw differs (at_investor_all P investor some every.1)
    ]
at_investor_all P investor (fact ∷ some) every = at_investor_all P investor some every.1

pub in_investor : (fact : InvestorFact) (entries : List InvestorEntry) → In fact (investor_trail.facts_of entries)
    → In (investor_trail.AtDesk fact) entries
in_investor fact [] is = absurd is
in_investor fact (investor_trail.AtDesk other ∷ entries) (inl is) =
    inl (ap (λ (f : InvestorFact). investor_trail.AtDesk f) is)
in_investor fact (investor_trail.AtDesk other ∷ entries) (inr is) = inr (in_investor fact entries is)
in_investor fact (investor_trail.Happened event ∷ entries) is = inr (in_investor fact entries is)
in_investor fact (investor_trail.Sent bytes ∷ entries) is = inr (in_investor fact entries is)

or_true : (b : Bool) → (b || true) ≡ true
or_true true = refl
or_true false = refl

named_in : (dealer : ℕ) (dealers : List ℕ) → In dealer dealers
    → list_any (λ (named : ℕ). named == dealer) dealers ≡ true
named_in dealer [] is = absurd is
named_in dealer (other ∷ dealers) (inl is) = rw (eq-eqb other dealer is) refl
named_in dealer (other ∷ dealers) (inr is) = rw (named_in dealer dealers is) (or_true (other == dealer))

-- a place under a number is the one
one_place : (place other : ℕ) (found : Option ℕ) → found ≡ Some (place + 1) → found ≡ Some (other + 1)
    → other ≡ place
one_place place other found is also =
    let same : other + 1 ≡ place + 1 = same_Some (other + 1) (place + 1) (sym also ∙ is) in
    omega arith

-- A request that was accepted.

module _ (lone : LoneQuotes) (words : WordsOfDay) (config : Configuration) (steps : List Step)
    (idle : NoDutyIsLeft (audit_trail config steps)) (investor : ℕ) (request : AcceptedRequest)
    (accepted : In (Asked request) (market_facts investor (audit_trail config steps).facts)) where
  abbrev venue : AuditTrail
  venue = audit_trail config steps

  abbrev room : RoomRef
  room = room_of investor request.number

  left_to_open : (moment : ℕ) × In (duty.Open room request.ask request.dealers moment)
      (duties_by (actor.Firm investor) venue.caused)
  left_to_open =
      all_in (λ (entry : InvestorEntry). Still (FactIs config (AtInvestor investor entry)) venue)
      (investor_trail.AtDesk (Asked request)) (of_investor investor venue.facts)
      (at_investor_all (λ (fact : Fact). Still (FactIs config fact) venue) investor venue.facts
      (all_left lone words config steps))
      (in_investor (Asked request) (of_investor investor venue.facts) accepted) venue (later_same venue)

  asks_so : request_of (of_room room venue.facts) ≡ Some (record { ask = request.ask; dealers = request.dealers })
  asks_so =
      let opening = duty.Open room request.ask request.dealers left_to_open.0 in
      (done_now lone words config steps idle room (actor.Firm investor) opening
      (subst (λ l. In opening l) (sym (did_all lone words config steps idle room (actor.Firm investor)))
      left_to_open.1)).1

  pub shown_once : (dealer : ℕ) → In dealer request.dealers
      → IsShownOnce (of_dealer dealer venue.facts) room
  shown_once dealer named =
      let rooms = rooms_by (of_dealer dealer venue.facts) in
      let request_is : RoomRequest = record { ask = request.ask; dealers = request.dealers } in
      let is_there : is_named (of_room room venue.facts) dealer ≡ true =
      ap (λ r. names r dealer) asks_so ∙ named_in dealer request.dealers named in
      let number = some_of (number_in rooms room)
      (is_shown lone words config steps idle room dealer is_there) in
      let placed = number_place 1 rooms room number.0 number.1 in
      let opened = opened_fact (λ fact. Still (FactOk config (InRoom room fact)) venue) request_is
      (of_room room venue.facts) asks_so (facts_ok lone words config steps idle room) venue (later_same venue) in
      let row = some_of (dealer_numbered config dealer)
      (all_in (IsDealer config) dealer request.dealers opened.1.ok.are_dealers named) in
      let numbered = ((stands lone words config steps idle room).desks dealer row.0 row.1).numbered in
      record {
        place = placed.0;
        there = placed.2;
        once = λ other at.
            one_place placed.0 other (number_in rooms room) (numbered placed.0 room placed.2) (numbered other room at);
      }

-- A quote in a room.

pub came_to_it : (lone : LoneQuotes) (words : WordsOfDay) (config : Configuration) (steps : List Step)
    (idle : NoDutyIsLeft (audit_trail config steps)) (room : RoomRef) (quote : PostedQuote)
    → In (Posted quote) (of_room room (audit_trail config steps).facts)
    → CameToIt config (market_facts room.investor (audit_trail config steps).facts) room.n quote
came_to_it lone words config steps idle room quote there =
    let venue = audit_trail config steps in
    let relays = all_in (λ (fact : RoomFact). Still (FactIs config (InRoom room fact)) venue) (Posted quote)
    (of_room room venue.facts)
    (in_room_all (λ (fact : Fact). Still (FactIs config fact) venue) room venue.facts
    (all_left lone words config steps)) there venue (later_same venue) in
    let relay = duty.Relay room relays.1.offer relays.1.moment in
    record {
      offer = relays.1.offer;
      is_its = relays.1.is_its;
      told = done_now lone words config steps idle room relays.0 relay
          (subst (λ l. In relay l) (sym (did_all lone words config steps idle room relays.0)) relays.1.left);
    }

-- A decline in a room.

pub declined_to_it : (lone : LoneQuotes) (words : WordsOfDay) (config : Configuration) (steps : List Step)
    (idle : NoDutyIsLeft (audit_trail config steps)) (room : RoomRef) (dealer : ℕ)
    → In (Noted dealer) (of_room room (audit_trail config steps).facts)
    → IsToldSo config (audit_trail config steps).facts room dealer
declined_to_it lone words config steps idle room dealer there =
    let venue = audit_trail config steps in
    let left = all_in (λ (fact : RoomFact). Still (FactIs config (InRoom room fact)) venue) (Noted dealer)
    (of_room room venue.facts)
    (in_room_all (λ (fact : Fact). Still (FactIs config fact) venue) room venue.facts
    (all_left lone words config steps)) there venue (later_same venue) in
    let telling = duty.Declined room left.0 in
    done_now lone words config steps idle room (actor.Firm dealer) telling
    (subst (λ l. In telling l) (sym (did_all lone words config steps idle room (actor.Firm dealer))) left.1)
    dealer refl
