-- What an event at one place adds is what it adds in the quiet day, but for what is left out of it.
use Rattle.std.proofs.Common.{◌≡◌, ℕ, ◌==◌, Bool, true, false, ◌&&◌, List, [], map, filter, Option}
use Rattle.std.proofs.Common.{Some, None, cond, refl, sym, ap, ◌∙◌, arith}
use Rattle.std.proofs.lemmas.Bool.Decides.{nat_tests}
use Rattle.market_terms.specs.declared.duties.Duty.{Duty}
use Rattle.market_terms.specs.declared.rooms.RoomRef.{RoomRef}
use Rattle.venue_rows.specs.Rows.{Configuration, has_room}
use Rattle.dealer_desk.specs.DealerOutput.{is_same_room}
use Rattle.dealer_desk.specs.declared.events.DealerEvent.{DealerEvent}
use Rattle.investor_desk.specs.InvestorFacts.{InvestorBook, knows}
use Rattle.investor_desk.specs.InvestorRules.{InvestorMarket}
use Rattle.investor_desk.specs.InvestorOutput as investor_output
use Rattle.investor_desk.specs.declared.events.InvestorEvent.{InvestorEvent}
use Rattle.request_room.specs.RoomFacts.{RoomFact}
use Rattle.request_room.specs.Book.{event_facts}
use Rattle.request_room.specs.declared.events.RoomEvent.{RoomEvent}
use Rattle.step_replay.specs.DealerTrail.{entries_of}
use Rattle.step_replay.specs.InvestorTrail as investor_trail
use Rattle.step_replay.specs.InvestorTrail.{InvestorEntry}
use Rattle.step_replay.specs.VenueFacts.{Fact, AtDealer, InRoom, AtInvestor, entry_at_dealer}
use Rattle.step_replay.specs.VenueFacts.{fact_in_room, entry_at_investor, of_dealer, of_room}
use Rattle.step_replay.specs.VenueFacts.{of_investor}
use Rattle.step_replay.specs.Actions.{Dealer, at_dealer, in_room, at_market, where_known}
use Rattle.laws_days.specs.ActionCases.{if_both, if_does}
use Rattle.laws_days.specs.DutyWalk.{NoHitThere}
use Rattle.laws_days.specs.KeptItems.{every_map, found_kept, none_kept, found_of_kept, kept_in}
use Rattle.laws_days.specs.KeptItems.{either_same, where_kept}
use Rattle.laws_isolation.proofs.Quiet.{stays, stays_in_room, stays_there, stays_at_desk, AreAlike}
use Rattle.laws_isolation.proofs.Quiet.{IsHushed, IsUnseen, nothing_alike, nothing_hushed}
use Rattle.laws_isolation.proofs.Quiet.{nothing_unseen}
use Rattle.laws_isolation.proofs.QuietRoom.{IsOfOther, happens_same, other_adds, quiet_room}
use Rattle.laws_isolation.proofs.QuietVerdicts.{quiet_book, book_by_kept, knows_same}
use Rattle.laws_isolation.proofs.QuietInvestor.{Hushes, event_kept, event_hushed}

module _ (own : ℕ) (facts : List Fact) where
  -- the facts of the quiet day
  abbrev pub known : List Fact
  known = filter (stays own) facts

  -- Places.

  pub own_same : of_dealer own known ≡ of_dealer own facts
  unfolding of_dealer
  own_same = found_kept (stays own) (entry_at_dealer own) none facts
    where
      none : (fact : Fact) → stays own fact ≡ false → entry_at_dealer own fact ≡ None
      none (AtDealer dealer entry) is = rw is refl
      none fact is = refl

  -- the same by a number that is its
  pub dealer_same : (number : ℕ) → (number == own) ≡ true
      → of_dealer number known ≡ of_dealer number facts
  dealer_same number mine =
      let same : number ≡ own = grind (arith, nat_tests) in
      rw same own_same

  if_kept : {Y : Type 0} (q : Y → Bool) (b : Bool) (y : Y)
      → where_kept q (cond b (Some y) None) ≡ cond (q y) (cond b (Some y) None) None
  if_kept q true y = refl
  if_kept q false y = either_same (q y) None

  pub room_same : (place : RoomRef) → of_room place known ≡ quiet_room own (of_room place facts)
  unfolding of_room
  room_same place =
      found_of_kept (stays own) (stays_in_room own) (fact_in_room place) each facts
    where
      each : (fact : Fact)
          → where_kept (stays_in_room own) (fact_in_room place fact)
          ≡ cond (stays own fact) (fact_in_room place fact) None
      each (InRoom room fact) = if_kept (stays_in_room own) (is_same_room room place) fact
      each fact = either_same (stays own fact) None

  pub investor_same : (number : ℕ)
      → of_investor number known ≡ filter stays_there (of_investor number facts)
  unfolding of_investor
  investor_same number =
      found_of_kept (stays own) stays_there (entry_at_investor number) each facts
    where
      each : (fact : Fact)
          → where_kept stays_there (entry_at_investor number fact)
          ≡ cond (stays own fact) (entry_at_investor number fact) None
      each (AtInvestor investor entry) = if_kept stays_there (investor == number) entry
      each fact = either_same (stays own fact) None

  -- Of an action of another dealer, or one in its room, nothing stays.

  pub desk_unseen : (config : Configuration) (dealer : Dealer) (more : DealerEvent)
      (left : List Duty) → (dealer.number == own) ≡ false
      → IsUnseen own (at_dealer config facts dealer more left)
  desk_unseen config dealer more left another = record {
    no_facts =
        let entries = entries_of config.date dealer.row (of_dealer dealer.number facts) more in
        none_kept (stays own) (map (AtDealer dealer.number) entries)
        (every_map (λ (fact : Fact). stays own fact ≡ false) (AtDealer dealer.number)
        (λ entry. another) entries);
  }

  pub desk_hushed : (config : Configuration) (dealer : Dealer) (more : DealerEvent)
      → (dealer.number == own) ≡ false → IsHushed own (at_dealer config facts dealer more [])
  desk_hushed config dealer more another = record {
    no_facts = (desk_unseen config dealer more [] another).no_facts;
    no_duties = refl;
  }

  in_place : (room : RoomRef) (added : List RoomFact)
      → filter (stays own) (map (InRoom room) added) ≡ map (InRoom room) (quiet_room own added)
  in_place room added =
      kept_in (stays own) (InRoom room) (stays_in_room own) (λ fact. refl) added

  pub room_unseen : (config : Configuration) (room : RoomRef) (may : Bool) (more : RoomEvent)
      (left : List Duty) → IsOfOther own more
      → IsUnseen own (in_room config facts room may more left)
  room_unseen config room may more left is =
      if_does (IsUnseen own) (nothing_unseen own) (has_room config room.investor room.n && may) _
      (record {
        no_facts = in_place room (event_facts (of_room room facts) more)
            ∙ ap (map (InRoom room)) (other_adds own (of_room room facts) more is);
      })

  -- In a room: an event that is no hit, where both rooms test and leave the same.
  pub room_alike : (config : Configuration) (room : RoomRef) (may may_too : Bool)
      (more : RoomEvent) (left left_too : List Duty) → NoHitThere more → may ≡ may_too
      → left ≡ left_too
      → AreAlike own (in_room config facts room may more left)
      (in_room config known room may_too more left_too)
  room_alike config room may may_too more left left_too isnt tests same =
      let here = of_room room facts in
      let has = has_room config room.investor room.n in
      if_both (AreAlike own) (nothing_alike own) (has && may) (has && may_too) _ _
      (ap (λ (b : Bool). has && b) tests)
      (record {
        facts_are = rw (room_same room) (in_place room (event_facts here more)
            ∙ ap (map (InRoom room)) (happens_same own here more isnt)
            ∙ sym (in_place room (event_facts (quiet_room own here) more)));
        duties_are = same;
      })

  -- At an investor's desk.

  module _ (market : InvestorMarket) where
    -- what stands at the desk
    abbrev pub trail : List InvestorEntry
    trail = of_investor market.firm facts

    -- its book
    abbrev pub book : InvestorBook
    book = investor_trail.book_by trail

    pub book_same : investor_trail.book_by (of_investor market.firm known) ≡ quiet_book book
    book_same = rw (investor_same market.firm) (book_by_kept trail)

    at_desk_kept : (added : List InvestorEntry)
        → filter (stays own) (map (AtInvestor market.firm) added)
        ≡ map (AtInvestor market.firm) (filter stays_there added)
    at_desk_kept added =
        kept_in (stays own) (AtInvestor market.firm) stays_there (λ entry. refl) added

    -- an event that adds the same to both
    pub investor_alike : (more : InvestorEvent) (left left_too : List Duty)
        → filter stays_at_desk (investor_output.event_facts market book more)
        ≡ filter stays_at_desk (investor_output.event_facts market (quiet_book book) more)
        → left ≡ left_too
        → AreAlike own (at_market facts market more left) (at_market known market more left_too)
    investor_alike more left left_too same duties = record {
      facts_are = rw (
        investor_same market.firm,
        at_desk_kept (investor_trail.entries_of market trail more),
        at_desk_kept (investor_trail.entries_of market (filter stays_there trail) more),
        event_kept market trail more same,
      ) refl;
      duties_are = duties;
    }

    -- the same, where the request is known
    pub known_alike : (request : ℕ) (more : InvestorEvent)
        → filter stays_at_desk (investor_output.event_facts market book more)
        ≡ filter stays_at_desk (investor_output.event_facts market (quiet_book book) more)
        → AreAlike own (where_known facts request None more market)
        (where_known known request None more market)
    known_alike request more same =
        if_both (AreAlike own) (nothing_alike own) _ _ (at_market facts market more [])
        (at_market known market more [])
        (sym (ap (λ (b : InvestorBook). knows b request None) book_same
        ∙ knows_same book request))
        (investor_alike more [] [] same refl)

    -- an event of which nothing stays, where the request and the quote are known
    pub known_hushed : (request : ℕ) (quote : Option ℕ) (more : InvestorEvent) → Hushes more
        → IsHushed own (where_known facts request quote more market)
    known_hushed request quote more is =
        if_does (IsHushed own) (nothing_hushed own) (knows book request quote)
        (at_market facts market more [])
        (record {
          no_facts = at_desk_kept (investor_trail.entries_of market trail more)
              ∙ ap (map (AtInvestor market.firm)) (event_hushed market trail more is);
          no_duties = refl;
        })
