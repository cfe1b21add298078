-- What an event at one place adds is what it adds in what is left of the day, but for what is left
-- out.
use Rattle.std.proofs.Common.{◌≡◌, ℕ, ◌==◌, ◌&&◌, Bool, true, false, List, [], map, Option, None}
use Rattle.std.proofs.Common.{refl, sym, ap, ◌∙◌}
use Rattle.market_terms.specs.declared.duties.Duty.{Duty}
use Rattle.market_terms.specs.declared.rooms.RoomRef.{RoomRef}
use Rattle.venue_rows.specs.Rows.{Configuration, has_room}
use Rattle.dealer_desk.specs.Unpriced as dealers
use Rattle.dealer_desk.specs.declared.events.DealerEvent.{DealerEvent}
use Rattle.investor_desk.specs.InvestorFacts.{InvestorBook, knows}
use Rattle.investor_desk.specs.InvestorOutput as investor_output
use Rattle.investor_desk.specs.InvestorRules.{InvestorMarket}
use Rattle.investor_desk.specs.declared.events.InvestorEvent.{InvestorEvent}
use Rattle.request_room.specs.Book.{event_facts}
use Rattle.request_room.specs.declared.events.RoomEvent.{RoomEvent}
use Rattle.step_replay.specs.DealerTrail.{entries_of}
use Rattle.step_replay.specs.InvestorTrail as investor_trail
use Rattle.step_replay.specs.InvestorTrail.{InvestorEntry}
use Rattle.step_replay.specs.VenueFacts.{Fact, InRoom, of_dealer, of_investor, of_room}
use Rattle.step_replay.specs.Actions.{Dealer, at_dealer, in_room, at_market, where_known}
use Rattle.laws_days.specs.ActionCases.{if_both, if_does}
use Rattle.laws_days.specs.DutyWalk.{NoHitThere}
use Rattle.laws_isolation.proofs.Left.{left, left_duty, AreAlike, IsHushed, IsUnseen, nothing_alike}
use Rattle.laws_isolation.proofs.Left.{nothing_hushed, nothing_unseen}
use Rattle.laws_isolation.proofs.LeftPlaces.{desk_left, investor_added, left_desk, left_room}
use Rattle.laws_isolation.proofs.LeftPlaces.{other_added, room_added, room_left}
use Rattle.laws_isolation.proofs.LeftDealer.{event_left}
use Rattle.laws_isolation.proofs.LeftRoom.{happens_same, other_adds}
use Rattle.laws_isolation.proofs.LeftInvestor.{book_left, facts_hushed, knows_same, left_book}
use Rattle.laws_isolation.proofs.QuietInvestor.{Hushes}
use Rattle.laws_isolation.proofs.QuietRoom.{IsOfOther}

module _ (own : ℕ) (facts : List Fact) where
  -- what is left of the day
  abbrev pub known : List Fact
  known = left own facts

  -- At a dealer.

  -- of an action of another one nothing is left
  pub desk_unseen : (config : Configuration) (dealer : Dealer) (more : DealerEvent)
      (duties : List Duty) → (dealer.number == own) ≡ false
      → IsUnseen own (at_dealer config facts dealer more duties)
  desk_unseen config dealer more duties another = record {
    no_facts = other_added own dealer.number another
        (entries_of config.date dealer.row (of_dealer dealer.number facts) more);
  }

  pub desk_hushed : (config : Configuration) (dealer : Dealer) (more : DealerEvent)
      → (dealer.number == own) ≡ false → IsHushed own (at_dealer config facts dealer more [])
  desk_hushed config dealer more another = record {
    no_facts = (desk_unseen config dealer more [] another).no_facts;
    no_duties = refl;
  }

  -- at its own desk
  pub desk_alike : (config : Configuration) (dealer : Dealer) (more : DealerEvent)
      (duties duties_too : List Duty) → (dealer.number == own) ≡ true
      → map left_duty duties ≡ map left_duty duties_too
      → AreAlike own (at_dealer config facts dealer more duties)
      (at_dealer config known dealer (dealers.unpriced_event more) duties_too)
  desk_alike config dealer more duties duties_too mine same = record {
    facts_are = event_left own facts dealer.number mine config.date dealer.row more;
    duties_are = same;
  }

  -- In a room.

  pub room_unseen : (config : Configuration) (room : RoomRef) (may : Bool) (more : RoomEvent)
      (duties : List Duty) → IsOfOther own more
      → IsUnseen own (in_room config facts room may more duties)
  room_unseen config room may more duties is =
      if_does (IsUnseen own) (nothing_unseen own) (has_room config room.investor room.n && may) _
      (record {
        no_facts = room_added own room (event_facts (of_room room facts) more)
            ∙ ap (map (InRoom room)) (other_adds own (of_room room facts) more is);
      })

  -- an event that is no hit, where both rooms test and leave the same
  pub room_alike : (config : Configuration) (room : RoomRef) (may may_too : Bool)
      (more : RoomEvent) (duties duties_too : List Duty) → NoHitThere more → may ≡ may_too
      → map left_duty duties ≡ map left_duty duties_too
      → AreAlike own (in_room config facts room may more duties)
      (in_room config known room may_too more duties_too)
  room_alike config room may may_too more duties duties_too isnt tests same =
      let here = of_room room facts in
      let has = has_room config room.investor room.n in
      if_both (AreAlike own) (nothing_alike own) (has && may) (has && may_too) _ _
      (ap (λ (b : Bool). has && b) tests)
      (record {
        facts_are = rw (room_left own room facts) (room_added own room (event_facts here more)
            ∙ ap (map (InRoom room)) (happens_same own here more isnt)
            ∙ sym (room_added own room (event_facts (left_room own here) more)));
        duties_are = same;
      })

  -- At an investor's desk.

  module _ (market : InvestorMarket) where
    -- what stands at the desk
    abbrev pub trail : List InvestorEntry
    trail = of_investor market.firm facts

    -- its book
    abbrev pub book : InvestorBook
    book = investor_trail.book_by trail

    pub book_known : investor_trail.book_by (of_investor market.firm known) ≡ left_book book
    book_known = rw (desk_left own market.firm facts) (book_left (investor_trail.facts_of trail))

    -- an event that adds the same to what is left
    pub investor_alike : (more more_too : InvestorEvent) (duties duties_too : List Duty)
        → left_desk (investor_output.event_facts market book more)
        ≡ left_desk (investor_output.event_facts market (left_book book) more_too)
        → map left_duty duties ≡ map left_duty duties_too
        → AreAlike own (at_market facts market more duties)
        (at_market known market more_too duties_too)
    investor_alike more more_too duties duties_too same left_same = record {
      facts_are = rw (
        investor_added own market.firm market trail more,
        investor_added own market.firm market (of_investor market.firm known) more_too,
        book_known,
        same,
      ) refl;
      duties_are = left_same;
    }

    -- an event of which nothing is left, where the request and the quote are known
    pub known_hushed : (request : ℕ) (quote : Option ℕ) (more : InvestorEvent) → Hushes more
        → IsHushed own (where_known facts request quote more market)
    known_hushed request quote more is =
        if_does (IsHushed own) (nothing_hushed own) (knows book request quote)
        (at_market facts market more [])
        (record {
          no_facts = rw (
            investor_added own market.firm market trail more,
            facts_hushed market book more is,
          ) refl;
          no_duties = refl;
        })

    -- the same event where the request is known
    pub known_alike : (request : ℕ) (more more_too : InvestorEvent)
        → left_desk (investor_output.event_facts market book more)
        ≡ left_desk (investor_output.event_facts market (left_book book) more_too)
        → AreAlike own (where_known facts request None more market)
        (where_known known request None more_too market)
    known_alike request more more_too same =
        if_both (AreAlike own) (nothing_alike own) _ _ (at_market facts market more [])
        (at_market known market more_too [])
        (sym (ap (λ (b : InvestorBook). knows b request None) book_known
        ∙ knows_same book request))
        (investor_alike more more_too [] [] same refl)
