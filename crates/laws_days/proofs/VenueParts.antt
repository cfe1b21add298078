-- What the invariant of a venue speaks of: desks and rooms by the facts that stand, what is done
-- once, and what goes on to stand.
use Rattle.laws_days.proofs.Common.{List, None, Option, Some, ℕ, [], ap, count_by, filter_map}
use Rattle.laws_days.proofs.Common.{is_some, option_map, sym, take, true, ◌++◌, ◌∙◌, ◌≡◌}
use Rattle.laws_days.proofs.Common.{append-nil, append_assoc, filter_map-append, list_any, Ask}
use Rattle.laws_days.proofs.Common.{Duty, RoomRef, Configuration, bond_with_id, BondRow, DealerRow}
use Rattle.laws_days.proofs.Common.{Quoted, Told, tells, number_in, AcceptedQuote, InvestorFact}
use Rattle.laws_days.proofs.Common.{book_of, knows, RoomFact, first_said, is_ended, is_named}
use Rattle.laws_days.proofs.Common.{request_of, RoomRequest, Actor, AuditTrail, Caused, duty_of}
use Rattle.laws_days.proofs.Common.{is_same_actor, AtDesk, DealerEntry, facts_of, lifts, rooms_by}
use Rattle.laws_days.proofs.Common.{was_lifted, In, any_left, in_left, dealer_grown}
use Rattle.laws_days.proofs.Common.{investor_grown, room_grown, Fact, of_dealer, of_investor}
use Rattle.laws_days.proofs.Common.{of_room, NamesLiftedQuote}
use Rattle.bond_prices.specs.declared.band.Band.{Band}
use Rattle.market_terms.specs.declared.closes.Close.TheVariants as closes
use Rattle.market_terms.specs.declared.duties.Duty.TheVariants as duty
use Rattle.request_room.specs.declared.ends.EndKind.{EndKind}
use Rattle.request_room.specs.declared.ends.EndKind.TheVariants as ends
use Rattle.venue_steps.specs.declared.actors.Actor.TheVariants as actor
use Rattle.step_replay.specs.GrowthLemmas.{named_before, named_grown, number_grown, said_grown}
use Rattle.step_replay.specs.InvestorTrail as investor_trail
use Rattle.laws_days.proofs.KnownDesks.{knows_grown}

-- the number under which a dealer was shown the request of a room
abbrev pub number_for : List Fact → ℕ → RoomRef → Option ℕ
number_for facts dealer room = number_in (rooms_by (of_dealer dealer facts)) room

-- the facts of an investor's desk
abbrev pub investor_facts : List Fact → ℕ → List InvestorFact
investor_facts facts investor = investor_trail.facts_of (of_investor investor facts)

-- whether a room was opened
abbrev pub IsOpened : RoomRef → List Fact → Type 0
IsOpened room facts = is_some (request_of (of_room room facts)) ≡ true

-- whether the investor of a room knows its request, and the quote on it that is meant, if one is
abbrev pub KnownIn : RoomRef → Option ℕ → List Fact → Type 0
KnownIn room quote facts =
    knows (book_of (investor_facts facts room.investor)) room.n quote ≡ true

-- the grid and the band of a bond
abbrev pub limits_of : BondRow → ℕ × Band
limits_of bond = (bond.grid, bond.band)

-- an ask bears those of its bond
abbrev pub BearsLimits : Configuration → Ask → Type 0
BearsLimits config ask =
    option_map limits_of (bond_with_id config ask.bond) ≡ Some (ask.grid, ask.band)

-- a quote of a dealer on the request of a room
pub record QuotedIn (facts : List Fact) (dealer : ℕ) (room : RoomRef) (quote : ℕ) : Type 0 where
  pub own : AcceptedQuote
  pub quoted : In (Quoted own) (facts_of (of_dealer dealer facts))
  pub number_is : own.number ≡ quote
  pub request_is : number_for facts dealer room ≡ Some own.request

-- the same of a quote that was lifted
pub record LiftedIn (facts : List Fact) (dealer : ℕ) (room : RoomRef) : Type 0 where
  pub quote : ℕ
  pub quoted : QuotedIn facts dealer room quote
  pub lifted : was_lifted (of_dealer dealer facts) quote ≡ true

-- a notice that was told
pub record WasTold (facts : List Fact) (dealer : ℕ) (room : RoomRef) : Type 0 where
  pub request : ℕ
  pub request_is : number_for facts dealer room ≡ Some request
  pub told : list_any (tells request) (facts_of (of_dealer dealer facts)) ≡ true

-- whose step ends a room so: its investor's, or a sweep
abbrev pub closer : EndKind → RoomRef → Actor
closer ends.Awarded room = actor.Firm room.investor
closer ends.Passed room = actor.Firm room.investor
closer ends.Expired room = actor.Clock

-- a notice of a hit names a quote that was lifted
abbrev pub NamesLifted : List ℕ → DealerRow → List DealerEntry → DealerEntry → List DealerEntry
    → Type 0
NamesLifted date row before (AtDesk (Told request closes.Hit moment)) after =
    NamesLiftedQuote date row before request moment after
NamesLifted date row before entry after = Unit {0}

-- What is done once.

-- a room is opened, its request is shown to a dealer, it is made ready, a dealer is told its end
pub data Mark : Type 0 where
  Opening : RoomRef → Mark
  Showing : ℕ → RoomRef → Mark
  Readying : RoomRef → Mark
  Telling : ℕ → RoomRef → Mark

-- what a duty does once, if it does
abbrev pub mark_of : Duty → Option Mark
mark_of (duty.Open room ask dealers moment) = Some (Opening room)
mark_of (duty.Show dealer room ask moment) = Some (Showing dealer room)
mark_of (duty.Ready room moment) = Some (Readying room)
mark_of (duty.Tell dealer room close moment) = Some (Telling dealer room)
mark_of other = None

-- what some duties do once
abbrev pub marks : List Duty → List Mark
marks duties = filter_map mark_of duties

-- the duties that an actor's steps left
abbrev pub duties_by : Actor → List Caused → List Duty
duties_by by caused = filter_map (duty_of by) caused

-- those of them that an actor did
abbrev pub did_in : AuditTrail → Actor → List Duty
did_in venue by = take (count_by (is_same_actor by) venue.done) (duties_by by venue.caused)

-- a duty with this mark was left to an actor, and was done
abbrev pub WasLeft : AuditTrail → Actor → Mark → Type 0
WasLeft venue by mark = In mark (marks (duties_by by venue.caused))

abbrev pub WasDone : AuditTrail → Actor → Mark → Type 0
WasDone venue by mark = In mark (marks (did_in venue by))

-- What goes on to stand.

-- a venue later: more facts stand, and what was left and done stays so
pub record Later (was now : AuditTrail) : Type 0 where
  pub more : List Fact
  pub facts_are : now.facts ≡ was.facts ++ more
  pub left : (by : Actor) (one : Duty) → In one (duties_by by was.caused)
      → In one (duties_by by now.caused)
  pub did : (by : Actor) (one : Duty) → In one (did_in was by) → In one (did_in now by)

-- it stands from this venue on
abbrev pub Still : (AuditTrail → Type 0) → AuditTrail → Type 0
Still P was = (now : AuditTrail) → Later was now → P now

-- what stands where something was done
abbrev pub MarkOk : Mark → AuditTrail → Type 0
MarkOk (Showing dealer room) venue = is_some (number_for venue.facts dealer room) ≡ true
MarkOk (Telling dealer room) venue = WasTold venue.facts dealer room
MarkOk other venue = Unit {0}

-- behind each showing of its request a room is made ready
abbrev pub InOrder : List Mark → Mark → AuditTrail → Type 0
InOrder before (Readying room) venue =
    (dealer : ℕ) → is_named (of_room room venue.facts) dealer ≡ true
    → In (Showing dealer room) before
InOrder before other venue = Unit {0}

-- what stands at the place in a queue of a duty that does something once
abbrev pub OrderOk : AuditTrail → List Mark → Option Mark → Type 0
OrderOk venue before None = Unit {0}
OrderOk venue before (Some mark) = (In mark before → ⊥) × Still (InOrder before mark) venue

-- what stands where such a duty was left
abbrev pub Needs : List Fact → Option Mark → Type 0
Needs facts None = Unit {0}
Needs facts (Some (Opening room)) = KnownIn room None facts
Needs facts (Some (Showing dealer room)) = IsOpened room facts
Needs facts (Some (Readying room)) = IsOpened room facts
Needs facts (Some (Telling dealer room)) = is_ended (of_room room facts) ≡ true

-- What stands in a venue stands in a later one.

pub investor_facts_grown : (facts more : List Fact) (investor : ℕ)
    → investor_facts (facts ++ more) investor
    ≡ investor_facts facts investor ++ investor_facts more investor
investor_facts_grown facts more investor =
    rw (investor_grown investor facts more, filter_map-append)

-- what some duties do once, where more follow
pub marks_both : (duties more : List Duty) → marks (duties ++ more) ≡ marks duties ++ marks more
marks_both duties more = filter_map-append mark_of duties more

-- Later venues.

pub later_same : (venue : AuditTrail) → Later venue venue
later_same venue = record {
  more = [];
  facts_are = sym (append-nil venue.facts);
  left = λ by one is. is;
  did = λ by one is. is;
}

pub later_both : {one two three : AuditTrail} → Later one two → Later two three → Later one three
later_both {one} first second = record {
  more = first.more ++ second.more;
  facts_are = second.facts_are ∙ ap (λ (l : List Fact). l ++ second.more) first.facts_are
      ∙ append_assoc one.facts first.more second.more;
  left = λ by one is. second.left by one (first.left by one is);
  did = λ by one is. second.did by one (first.did by one is);
}

-- what stands from a venue on stands from each later one on
pub still_later : (P : AuditTrail → Type 0) {was now : AuditTrail} → Later was now → Still P was
    → Still P now
still_later P later stands day after = stands day (later_both later after)

-- What the facts say.

module _ {was now : AuditTrail} (later : Later was now) where
  pub number_later : (dealer : ℕ) (room : RoomRef) (number : ℕ)
      → number_for was.facts dealer room ≡ Some number
      → number_for now.facts dealer room ≡ Some number
  number_later dealer room number is =
      rw (later.facts_are, dealer_grown dealer was.facts later.more, filter_map-append)
      (number_grown 1 _ _ room number is)

  pub said_later : {A : Type 0} (says : RoomFact → Option A) (room : RoomRef) (x : A)
      → first_said says (of_room room was.facts) ≡ Some x
      → first_said says (of_room room now.facts) ≡ Some x
  said_later says room x is =
      rw (later.facts_are, room_grown room was.facts later.more)
      (said_grown says (of_room room was.facts) (of_room room later.more) x is)

  pub named_later : (room : RoomRef) (dealer : ℕ)
      → is_named (of_room room was.facts) dealer ≡ true
      → is_named (of_room room now.facts) dealer ≡ true
  named_later room dealer is =
      rw (later.facts_are, room_grown room was.facts later.more)
      (named_grown (of_room room was.facts) (of_room room later.more) dealer is)

  -- whom a room names once its request stands is named before
  pub named_already : (room : RoomRef) (request : RoomRequest) (dealer : ℕ)
      → request_of (of_room room was.facts) ≡ Some request
      → is_named (of_room room now.facts) dealer ≡ true
      → is_named (of_room room was.facts) dealer ≡ true
  named_already room request dealer is named =
      named_before (of_room room was.facts) (of_room room later.more) request dealer is
      (rw (later.facts_are, room_grown room was.facts later.more) at named)

  pub quoted_later : (dealer : ℕ) (room : RoomRef) (quote : ℕ)
      → QuotedIn was.facts dealer room quote → QuotedIn now.facts dealer room quote
  quoted_later dealer room quote before = record {
    own = before.own;
    quoted = rw (later.facts_are, dealer_grown dealer was.facts later.more, filter_map-append)
        (in_left (Quoted before.own) _ _ before.quoted);
    number_is = before.number_is;
    request_is = number_later dealer room before.own.request before.request_is;
  }

  pub lifted_later : (dealer : ℕ) (room : RoomRef) → LiftedIn was.facts dealer room
      → LiftedIn now.facts dealer room
  lifted_later dealer room before = record {
    quote = before.quote;
    quoted = quoted_later dealer room before.quote before.quoted;
    lifted = rw (later.facts_are, dealer_grown dealer was.facts later.more)
        (any_left (lifts before.quote) (of_dealer dealer was.facts) _ before.lifted);
  }

  pub told_later : (dealer : ℕ) (room : RoomRef) → WasTold was.facts dealer room
      → WasTold now.facts dealer room
  told_later dealer room before = record {
    request = before.request;
    request_is = number_later dealer room before.request before.request_is;
    told = rw (later.facts_are, dealer_grown dealer was.facts later.more, filter_map-append)
        (any_left (tells before.request) (facts_of (of_dealer dealer was.facts)) _ before.told);
  }

  pub known_later : (room : RoomRef) (quote : Option ℕ) → KnownIn room quote was.facts
      → KnownIn room quote now.facts
  known_later room quote is =
      rw (later.facts_are, investor_facts_grown was.facts later.more room.investor)
      (knows_grown (investor_facts was.facts room.investor)
      (investor_facts later.more room.investor) room.n quote is)
