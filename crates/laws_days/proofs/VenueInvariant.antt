-- What stands in every venue of rooms, desks and the duties that were left: at each fact, at each
-- duty, and at each desk.
use Rattle.laws_days.proofs.Common.{Bool, List, None, Some, ℕ, [], count_by, false, is_some}
use Rattle.laws_days.proofs.Common.{length, nat_le, true, ◌&&◌, ◌≡◌, ◌≤◌, are_distinct, Ask, Close}
use Rattle.laws_days.proofs.Common.{Duty, ResponseRef, RoomRef, Configuration, dealer_numbered}
use Rattle.laws_days.proofs.Common.{has_room, DealerRow, Shown, Told, Ended, Opened, Posted}
use Rattle.laws_days.proofs.Common.{Readied, RoomFact, end_of, is_named, is_ready, End}
use Rattle.laws_days.proofs.Common.{RoomRequest, replies_to, close_for, Actor, dealer_of, word_for}
use Rattle.laws_days.proofs.Common.{AuditTrail, is_same_actor, AtDesk, DealerEntry, ShownIn}
use Rattle.laws_days.proofs.Common.{rooms_by, Each, Every, AreNumbered, In, Seen, AtDealer}
use Rattle.laws_days.proofs.Common.{AtInvestor, Fact, InRoom, of_dealer, of_room, IsOneOf}
use Rattle.market_terms.specs.declared.closes.Close.TheVariants as closes
use Rattle.market_terms.specs.declared.duties.Duty.TheVariants as duty
use Rattle.request_room.specs.declared.quotes.PostedQuote.{PostedQuote as BookQuote}
use Rattle.venue_steps.specs.declared.actors.Actor.TheVariants as actor
use Rattle.laws_days.proofs.KnownDesks.{DeskFit}
use Rattle.laws_days.proofs.NoticeLemmas.{IsNoticed}
use Rattle.laws_days.proofs.VenueParts.{BearsLimits, IsOpened, KnownIn, LiftedIn, MarkOk}
use Rattle.laws_days.proofs.VenueParts.{NamesLifted, OrderOk, QuotedIn, Still, Telling, WasLeft}
use Rattle.laws_days.proofs.VenueParts.{closer, did_in, duties_by, investor_facts, mark_of, marks}
use Rattle.laws_days.proofs.VenueParts.{number_for}

module _ (config : Configuration) where
  -- one of the venue's dealers
  abbrev pub IsDealer : ℕ → Type 0
  IsDealer dealer = is_some (dealer_numbered config dealer) ≡ true

  -- a dealer acts
  pub record ByDealer (by : Actor) : Type 0 where
    pub dealer : ℕ
    pub row : DealerRow
    pub by_is : by ≡ actor.Firm dealer
    pub row_is : dealer_numbered config dealer ≡ Some row

  -- a dealer acts that the room names
  pub record ByNamed (by : Actor) (room : RoomRef) (facts : List Fact) : Type 0 where
    pub who : ByDealer by
    pub named : is_named (of_room room facts) who.dealer ≡ true

  -- Duties, by who left them.

  module _ (by : Actor) where
    pub record OpensIn (room : RoomRef) (ask : Ask) (dealers : List ℕ) (venue : AuditTrail)
        : Type 0 where
      pub by_is : by ≡ actor.Firm room.investor
      pub known : KnownIn room None venue.facts
      pub distinct : are_distinct dealers ≡ true
      pub are_dealers : Every IsDealer dealers
      pub bears : BearsLimits config ask

    pub record ShowsIn (dealer : ℕ) (room : RoomRef) (ask : Ask) (venue : AuditTrail)
        : Type 0 where
      pub by_is : by ≡ actor.Firm room.investor
      pub named : is_named (of_room room venue.facts) dealer ≡ true
      pub bears : BearsLimits config ask

    -- a quote to be posted, or taken out, by its dealer
    pub record UnpostsIn (room : RoomRef) (quote : ℕ) (venue : AuditTrail) : Type 0 where
      pub named : ByNamed by room venue.facts
      pub within : (nat_le 1 quote && nat_le quote named.who.row.quotes) ≡ true

    -- a response that means a quote, or none, of an investor that knows it
    pub record RespondsIn (room : RoomRef) (response : ResponseRef) (some : Bool)
        (venue : AuditTrail) : Type 0 where
      pub by_is : by ≡ actor.Firm room.investor
      pub some_is : is_some response.k ≡ some
      pub known : KnownIn room response.k venue.facts

    -- a notice to be told, by whom its kind of end says
    pub record TellsIn (dealer : ℕ) (room : RoomRef) (close : Close) (venue : AuditTrail)
        : Type 0 where
      pub end : End
      pub end_is : end_of (of_room room venue.facts) ≡ Some end
      pub by_is : by ≡ closer end.kind room
      pub close_is : close ≡ close_for end dealer
      pub named : is_named (of_room room venue.facts) dealer ≡ true
      pub hit : close ≡ closes.Hit → LiftedIn venue.facts dealer room

    -- what stands where a duty was left
    abbrev pub DutyOk : Duty → AuditTrail → Type 0
    DutyOk (duty.Open room ask dealers moment) venue = OpensIn room ask dealers venue
    DutyOk (duty.Show dealer room ask moment) venue = ShowsIn dealer room ask venue
    DutyOk (duty.Ready room moment) venue =
        (by ≡ actor.Firm room.investor) × IsOpened room venue.facts
    DutyOk (duty.Post room quote price valid_until moment) venue =
        (posts : UnpostsIn room quote venue)
        × QuotedIn venue.facts posts.named.who.dealer room quote
    DutyOk (duty.Relay room offer moment) venue = IsOpened room venue.facts
    DutyOk (duty.Unpost room quote moment) venue = UnpostsIn room quote venue
    DutyOk (duty.Gone room word moment) venue = IsOpened room venue.facts
    DutyOk (duty.Decline room moment) venue = ByNamed by room venue.facts
    DutyOk (duty.Declined room moment) venue = ByNamed by room venue.facts
    DutyOk (duty.Hit room response word moment) venue = RespondsIn room response true venue
    DutyOk (duty.Pass room response moment) venue = RespondsIn room response false venue
    DutyOk (duty.Answer room response reply moment) venue =
        (replies_to response.k reply ≡ true) × KnownIn room response.k venue.facts
    DutyOk (duty.Close room moment) venue = IsOpened room venue.facts
    DutyOk (duty.Tell dealer room close moment) venue = TellsIn dealer room close venue
    DutyOk (duty.Drop last moment) venue = ByDealer by

  -- a duty that an actor did
  pub record Did (left : Duty) (venue : AuditTrail) : Type 0 where
    pub by : Actor
    pub ok : DutyOk by left venue
    pub done : In left (did_in venue by)

  -- Facts.

  -- a room was opened, and was made ready when each named dealer was shown its request
  abbrev pub OpenedIn : RoomRef → RoomRequest → AuditTrail → Type 0
  OpenedIn room request venue =
      (moment : ℕ) × Did (duty.Open room request.ask request.dealers moment) venue

  pub record ReadyIn (room : RoomRef) (venue : AuditTrail) : Type 0 where
    pub moment : ℕ
    pub did : Did (duty.Ready room moment) venue
    pub shown : (dealer : ℕ) → is_named (of_room room venue.facts) dealer ≡ true
        → is_some (number_for venue.facts dealer room) ≡ true

  -- a quote in a room: its dealer's
  pub record PostedIn (room : RoomRef) (posted : BookQuote) (venue : AuditTrail) : Type 0 where
    pub row : DealerRow
    pub quote : ℕ
    pub row_is : dealer_numbered config posted.dealer ≡ Some row
    pub within : (nat_le 1 quote && nat_le quote row.quotes) ≡ true
    pub word_is : posted.word ≡ word_for config (dealer_of posted.dealer row) quote
    pub quoted : QuotedIn venue.facts posted.dealer room quote

  -- an end of a room: that each named dealer is told it was left
  pub record EndedIn (room : RoomRef) (end : End) (venue : AuditTrail) : Type 0 where
    pub ready : is_ready (of_room room venue.facts) ≡ true
    pub told : (dealer : ℕ) → is_named (of_room room venue.facts) dealer ≡ true
        → WasLeft venue (closer end.kind room) (Telling dealer room)

  -- a room was shown to a dealer
  abbrev pub ShownTo : ℕ → RoomRef → AuditTrail → Type 0
  ShownTo dealer room venue =
      (ask : Ask) × (moment : ℕ) × Did (duty.Show dealer room ask moment) venue

  -- a notice of a dealer
  pub record ClosedIn (dealer request : ℕ) (close : Close) (venue : AuditTrail) : Type 0 where
    pub room : RoomRef
    pub moment : ℕ
    pub request_is : number_for venue.facts dealer room ≡ Some request
    pub did : Did (duty.Tell dealer room close moment) venue

  -- what stands where an entry of a dealer does, and a fact of a room
  abbrev pub EntryOk : ℕ → DealerEntry → AuditTrail → Type 0
  EntryOk dealer (AtDesk (Told request close moment)) venue = ClosedIn dealer request close venue
  EntryOk dealer (AtDesk (Shown ask moment)) venue = BearsLimits config ask
  EntryOk dealer (ShownIn room) venue = ShownTo dealer room venue
  EntryOk dealer entry venue = Unit {0}

  abbrev pub RoomOk : RoomRef → RoomFact → AuditTrail → Type 0
  RoomOk room (Opened request) venue = OpenedIn room request venue
  RoomOk room Readied venue = ReadyIn room venue
  RoomOk room (Posted posted) venue = PostedIn room posted venue
  RoomOk room (Ended end moment) venue = EndedIn room end venue
  RoomOk room fact venue = Unit {0}

  abbrev pub FactOk : Fact → AuditTrail → Type 0
  FactOk (AtDealer dealer entry) venue = EntryOk dealer entry venue
  FactOk (InRoom room fact) venue = RoomOk room fact venue
  FactOk (AtInvestor investor entry) venue = Unit {0}

  -- Places.

  -- what stands of a duty at its place in the queue of an actor
  abbrev pub LeftOk : AuditTrail → Actor → List Duty → Duty → List Duty → Type 0
  LeftOk venue by before left after =
      Still (DutyOk by left) venue × OrderOk venue (marks before) (mark_of left)

  pub record QueueOk (venue : AuditTrail) (by : Actor) : Type 0 where
    pub left : Each (LeftOk venue by) [] (duties_by by venue.caused)
    pub done : Every (λ mark. Still (MarkOk mark) venue) (marks (did_in venue by))
    pub within : count_by (is_same_actor by) venue.done ≤ length (duties_by by venue.caused)

  pub record DeskOk (facts : List Fact) (dealer : ℕ) (row : DealerRow) : Type 0 where
    pub seen : Seen config.date row (of_dealer dealer facts)
    pub one_of : IsOneOf (of_dealer dealer facts)
    pub noticed : IsNoticed (of_dealer dealer facts)
    pub numbered : AreNumbered (rooms_by (of_dealer dealer facts))
    pub names : Each (NamesLifted config.date row) [] (of_dealer dealer facts)

  abbrev pub MarketOk : List Fact → ℕ → Type 0
  MarketOk facts investor = DeskFit (has_room config investor) (investor_facts facts investor)

  -- what stands in a venue
  pub record VenueOk (venue : AuditTrail) : Type 0 where
    pub facts : Every (λ fact. Still (FactOk fact) venue) venue.facts
    pub queues : (by : Actor) → QueueOk venue by
    pub desks : (dealer : ℕ) (row : DealerRow) → dealer_numbered config dealer ≡ Some row
        → DeskOk venue.facts dealer row
    pub markets : (investor : ℕ) → MarketOk venue.facts investor
