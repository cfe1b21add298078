-- Every duty of an actor that is no other dealer, every message of such a firm and every sweep does
-- in the quiet day what it does in the day.
use Rattle.std.proofs.Common.{◌≡◌, ℕ, ◌==◌, Bool, true, false, ◌&&◌, List, filter, Option, Some}
use Rattle.std.proofs.Common.{None, refl, ap, is_some}
use Rattle.std.specs.List.{list_any}
use Rattle.market_terms.specs.declared.asks.Ask.{Ask}
use Rattle.market_terms.specs.declared.closes.Close.{Close}
use Rattle.market_terms.specs.declared.closes.HitRefusal.{HitRefusal}
use Rattle.market_terms.specs.declared.closes.Reply.TheVariants as reply
use Rattle.market_terms.specs.declared.rooms.ResponseRef.{ResponseRef}
use Rattle.market_terms.specs.declared.rooms.RoomRef.{RoomRef}
use Rattle.market_terms.specs.declared.duties.Duty.{Duty}
use Rattle.market_terms.specs.declared.duties.Duty.TheVariants as duty
use Rattle.venue_rows.specs.Rows.{Configuration, dealer_numbered}
use Rattle.dealer_desk.specs.DealerOutput.{number_in}
use Rattle.dealer_desk.specs.declared.events.DealerEvent.TheVariants as at_desk
use Rattle.investor_desk.specs.InvestorDesk.{market_of}
use Rattle.investor_desk.specs.InvestorRules.{InvestorMarket, investor_verdict, response_to}
use Rattle.investor_desk.specs.declared.events.InvestorEvent.TheVariants as at_investor
use Rattle.request_room.specs.RoomFacts.{hears}
use Rattle.venue_steps.specs.Table.{Line, acting_in, brings, drops, line_of, telling}
use Rattle.venue_steps.specs.declared.actors.Actor.{Actor}
use Rattle.venue_steps.specs.declared.arrivals.ForDealer.{ForDealer}
use Rattle.venue_steps.specs.declared.arrivals.ForDealer.TheVariants as to_dealer
use Rattle.venue_steps.specs.declared.arrivals.ForInvestor.{ForInvestor}
use Rattle.venue_steps.specs.declared.arrivals.ForInvestor.TheVariants as to_investor
use Rattle.venue_steps.specs.declared.arrivals.ForRoom.{ForRoom}
use Rattle.venue_steps.specs.declared.arrivals.ForRoom.TheVariants as to_room
use Rattle.venue_steps.specs.declared.arrivals.Placement.{Placement}
use Rattle.venue_steps.specs.declared.arrivals.Placement.TheVariants as arrival
use Rattle.step_replay.specs.Actions.{Dealer, Effect}
use Rattle.step_replay.specs.Actions.{received_by_investor, left_by_investor, shown_to}
use Rattle.step_replay.specs.Actions.{told_to, acting_dealer, dealer_at, dropped_by}
use Rattle.step_replay.specs.Actions.{received_by_dealer}
use Rattle.step_replay.specs.Coming.{arrival_effect, dealer_gets, investor_gets, room_gets}
use Rattle.step_replay.specs.Coming.{room_gets_where}
use Rattle.step_replay.specs.DealerTrail.{rooms_by}
use Rattle.step_replay.specs.VenueFacts.{Fact, of_dealer, of_room}
use Rattle.step_replay.specs.DutyEffects.{duty_effect, line_effect, message_effect, sweep_effect}
use Rattle.laws_days.specs.ActionCases.{if_does, invested_both, told_does, told_to_same}
use Rattle.laws_days.specs.ActionCases.{unless_does, by_both, message_of}
use Rattle.laws_isolation.specs.Silence.{is_another, acts_as_another, is_hit}
use Rattle.laws_isolation.proofs.Quiet.{is_no_award, stays_at_desk, IsPlain, AreAlike, IsHushed}
use Rattle.laws_isolation.proofs.Quiet.{hushed_alike, nothing_alike, nothing_hushed, same_alike}
use Rattle.laws_isolation.proofs.Quiet.{acting_own, numbered_own}
use Rattle.laws_isolation.proofs.QuietRoom.{ended_same, request_same, stands_same, ready_same}
use Rattle.laws_isolation.proofs.QuietInvestor as investor
use Rattle.laws_isolation.proofs.QuietVerdicts.{hits, verdict_heard}
use Rattle.laws_isolation.proofs.QuietActions.{book, book_same, dealer_same, desk_hushed, known}
use Rattle.laws_isolation.proofs.QuietActions.{investor_alike, known_alike, known_hushed, room_alike}
use Rattle.laws_isolation.proofs.QuietActions.{room_same}
use Rattle.laws_isolation.proofs.QuotingDuties.{none_hits}

-- what comes to a room is no unpost of another dealer
abbrev pub IsOwnUnpost : ℕ → ForRoom → Type 0
IsOwnUnpost own (to_room.Unpost dealer word moment) = (dealer == own) ≡ true
IsOwnUnpost own other = Unit {0}

module _ (config : Configuration) (own : ℕ) (facts : List Fact) where
  -- the facts of the quiet day
  abbrev after : List Fact
  after = known own facts

  -- At a dealer's desk: its own, or another one, of which nothing stays.

  desk_alike : (dealer : Dealer) (does : List Fact → Effect)
      → ((dealer.number == own) ≡ true → does facts ≡ does after)
      → ((dealer.number == own) ≡ false → (others : List Fact) → IsHushed own (does others))
      → AreAlike own (does facts) (does after)
  desk_alike dealer does same hushed = by_test (dealer.number == own) refl
    where
      by_test : (b : Bool) → (dealer.number == own) ≡ b → AreAlike own (does facts) (does after)
      by_test true mine = same_alike own (does facts) (does after) (same mine)
      by_test false another =
          hushed_alike own (does facts) (does after) (hushed another facts) (hushed another after)

  shown_alike : (room : RoomRef) (ask : Ask) (moment : ℕ) (dealer : Dealer)
      → AreAlike own (shown_to config facts room ask moment dealer)
      (shown_to config after room ask moment dealer)
  shown_alike room ask moment dealer =
      desk_alike dealer (λ others. shown_to config others room ask moment dealer)
      (λ mine. rw (dealer_same own facts dealer.number mine) refl)
      (λ another others. unless_does (IsHushed own) (nothing_hushed own) _ _
      (desk_hushed own others config dealer (at_desk.Shown room ask moment) another))

  told_alike : (room : RoomRef) (close : Close) (moment : ℕ) (dealer : Dealer)
      → AreAlike own (told_to config facts room close moment dealer)
      (told_to config after room close moment dealer)
  told_alike room close moment dealer =
      desk_alike dealer (λ others. told_to config others room close moment dealer)
      (λ mine. told_to_same config facts after dealer (dealer_same own facts dealer.number mine)
      room close moment)
      (λ another others. told_does (IsHushed own) (nothing_hushed own) config others dealer close
      moment (number_in (rooms_by (of_dealer dealer.number others)) room)
      (λ number. desk_hushed own others config dealer (at_desk.Told number close moment) another))

  -- In a room.

  ruleset same_there = (room_same, request_same, ended_same, ready_same)

  heard_same : (may : Bool) (room : RoomRef) (dealer : ℕ)
      → (may && hears (of_room room facts) dealer) ≡ (may && hears (of_room room after) dealer)
  heard_same may room dealer = simp same_there

  room_gets_alike : (may : Bool) (room : RoomRef) (what : ForRoom) → IsOwnUnpost own what
      → AreAlike own (room_gets_where config facts may room what)
      (room_gets_where config after may room what)
  unfolding room_gets_where
  room_gets_alike may room (to_room.Ready moment) mine =
      room_alike own facts config room _ _ _ _ _ tt refl refl
  room_gets_alike may room (to_room.Unpost dealer word moment) mine =
      let stand = stands_same own (of_room room facts) dealer word mine in
      room_alike own facts config room _ _ _ _ _ tt (heard_same may room dealer)
      (simp (same_there, stand))
  room_gets_alike may room other mine =
      room_alike own facts config room _ _ _ _ _ tt (search heard_same) (simp same_there)

  -- At an investor.

  passed_alike : (request : ℕ) (id : List ℕ) (k : Option ℕ) (moment : ℕ) (market : InvestorMarket)
      → AreAlike own
      (investor_gets facts (to_investor.Answer request (response_to id k) reply.Passed moment) market)
      (investor_gets after (to_investor.Answer request (response_to id k) reply.Passed moment) market)
  unfolding investor_gets
  passed_alike request id (Some quote) moment market = nothing_alike own
  passed_alike request id None moment market =
      known_alike own facts market request
      (at_investor.Answered request (response_to id None) reply.Passed moment)
      (ap (filter stays_at_desk) (investor.passed_kept market (book own facts market) request id
      moment))

  refused_hushed : (others : List Fact) (request : ℕ) (response : ResponseRef)
      (refused : HitRefusal) (moment : ℕ) (market : InvestorMarket)
      → IsHushed own (investor_gets others
      (to_investor.Answer request response (reply.Refused refused) moment) market)
  unfolding investor_gets
  refused_hushed others request response refused moment market =
      if_does (IsHushed own) (nothing_hushed own) _ _
      (known_hushed own others market request response.k
      (at_investor.Answered request response (reply.Refused refused) moment) tt)

  -- what comes there is no award
  abbrev IsNoAward : ForInvestor → Type 0
  IsNoAward (to_investor.Answer request response said moment) = is_no_award said ≡ true
  IsNoAward other = Unit {0}

  investor_gets_alike : (what : ForInvestor) → IsNoAward what → (market : InvestorMarket)
      → AreAlike own (investor_gets facts what market) (investor_gets after what market)
  unfolding investor_gets
  investor_gets_alike (to_investor.Answer request response reply.Awarded moment) plain market = cc
  investor_gets_alike (to_investor.Answer request response reply.Passed moment) plain market =
      passed_alike request response.id response.k moment market
  investor_gets_alike (to_investor.Answer request response (reply.Refused refused) moment) plain
      market =
      hushed_alike own _ _ (refused_hushed facts request response refused moment market)
      (refused_hushed after request response refused moment market)
  investor_gets_alike (to_investor.Close request moment) plain market =
      known_alike own facts market request (at_investor.Closed request moment)
      (ap (filter stays_at_desk) (investor.expired_kept market (book own facts market) request
      moment))
  investor_gets_alike other plain market =
      hushed_alike own _ _ (known_hushed own facts market _ None _ tt)
      (known_hushed own after market _ None _ tt)

  -- a message of its own that is no hit
  said_to_investor : (moment : ℕ) (bytes : List ℕ) (market : InvestorMarket)
      → hits (investor_verdict market (book own facts market) moment bytes) ≡ false
      → AreAlike own (received_by_investor facts moment bytes market)
      (received_by_investor after moment bytes market)
  said_to_investor moment bytes market isnt =
      investor_alike own facts market (at_investor.Received moment bytes)
      (left_by_investor facts moment bytes market) (left_by_investor after moment bytes market)
      (ap (filter stays_at_desk) (investor.own_kept market (book own facts market) moment bytes))
      (rw (
        book_same own facts market,
        (verdict_heard (book own facts market) market moment bytes).duty_is isnt,
      ) refl)

  -- What comes to a place: no hit, no award and no unpost of another dealer.

  abbrev IsPlainThere : Placement → Type 0
  IsPlainThere (arrival.Dealer firm what) = Unit {0}
  IsPlainThere (arrival.Investor firm what) = IsNoAward what
  IsPlainThere (arrival.Room room what) = IsOwnUnpost own what
  IsPlainThere other = ⊥

  dealer_gets_alike : (what : ForDealer) (dealer : Dealer)
      → AreAlike own (dealer_gets config facts what dealer) (dealer_gets config after what dealer)
  unfolding dealer_gets
  dealer_gets_alike (to_dealer.Show room ask moment) dealer = shown_alike room ask moment dealer
  dealer_gets_alike (to_dealer.Tell room close moment) dealer = told_alike room close moment dealer

  arrival_alike : (coming : Placement) → IsPlainThere coming
      → AreAlike own (arrival_effect config facts coming) (arrival_effect config after coming)
  unfolding arrival_effect room_gets
  arrival_alike (arrival.Dealer firm what) plain =
      by_both (AreAlike own) (nothing_alike own) (dealer_at config firm) _ _
      (dealer_gets_alike what)
  arrival_alike (arrival.Investor firm what) plain =
      invested_both (AreAlike own) (nothing_alike own) config firm (investor_gets facts what)
      (investor_gets after what)
      (λ row. investor_gets_alike what plain (market_of config firm row))
  arrival_alike (arrival.Room room what) plain = room_gets_alike true room what plain
  arrival_alike other plain = absurd plain

  -- All duties, by the lines of the table.

  abbrev IsPlainLine : Line → Type 0
  IsPlainLine (brings coming) = IsPlainThere coming
  IsPlainLine (acting_in room may bring) =
      (dealer : Dealer) → (dealer.number == own) ≡ true → IsOwnUnpost own (bring dealer)
  IsPlainLine (telling firm bring) = (dealer : Dealer) → IsNoAward (bring dealer)
  IsPlainLine (drops last moment) = Unit {0}

  line_alike : (by : Actor) → acts_as_another config own by ≡ false → (line : Line)
      → IsPlainLine line
      → AreAlike own (line_effect config facts by line) (line_effect config after by line)
  line_alike by isnt (brings coming) plain = arrival_alike coming plain
  line_alike by isnt (acting_in room may bring) plain =
      acting_own config own by isnt _ _
      (λ dealer mine. room_gets_alike (may dealer) room (bring dealer) (plain dealer mine))
  line_alike by isnt (telling firm bring) plain =
      by_both (AreAlike own) (nothing_alike own) (acting_dealer config by) _ _
      (λ dealer. arrival_alike (arrival.Investor firm (bring dealer)) (plain dealer))
  line_alike by isnt (drops last moment) plain =
      acting_own config own by isnt _ _
      (λ dealer mine. same_alike own (dropped_by config facts last moment dealer)
      (dropped_by config after last moment dealer)
      (rw (dealer_same own facts dealer.number mine) refl))

  plain_line : (more : Duty) → IsPlain more → IsPlainLine (line_of config more)
  unfolding line_of
  plain_line (duty.Post room quote price valid_until moment) plain = λ dealer mine. tt
  plain_line (duty.Unpost room quote moment) plain = λ dealer mine. mine
  plain_line (duty.Decline room moment) plain = λ dealer mine. tt
  plain_line (duty.Declined room moment) plain = λ dealer. tt
  plain_line (duty.Hit room response word moment) plain = cc
  plain_line (duty.Answer room response said moment) plain = plain
  plain_line other plain = tt

  pub duty_alike : (by : Actor) (more : Duty) → acts_as_another config own by ≡ false
      → IsPlain more
      → AreAlike own (duty_effect config facts by more) (duty_effect config after by more)
  unfolding duty_effect
  duty_alike by more isnt plain =
      line_alike by isnt (line_of config more) (plain_line more plain)

  pub sweep_alike : (room : RoomRef) (moment : ℕ)
      → AreAlike own (sweep_effect config facts room moment) (sweep_effect config after room moment)
  unfolding sweep_effect room_gets
  sweep_alike room moment = room_gets_alike true room (to_room.Expire moment) tt

  -- alike, unless the first one leaves a hit
  abbrev UnlessHit : Effect → Effect → Type 0
  UnlessHit one other = list_any is_hit one.duties ≡ false → AreAlike own one other

  pub message_alike : (firm moment : ℕ) (bytes : List ℕ) → is_another config own firm ≡ false
      → UnlessHit (message_effect config facts firm moment bytes)
      (message_effect config after firm moment bytes)
  unfolding message_effect
  message_alike firm moment bytes another = either (is_some (dealer_numbered config firm))
    where
      either : (b : Bool) → UnlessHit (message_of config facts firm moment bytes b)
          (message_of config after firm moment bytes b)
      either true =
          λ none. numbered_own config own firm another _ _
          (λ dealer mine. same_alike own (received_by_dealer config facts moment bytes dealer)
          (received_by_dealer config after moment bytes dealer)
          (rw (dealer_same own facts dealer.number mine) refl))
      either false =
          invested_both UnlessHit (λ none. nothing_alike own) config firm
          (received_by_investor facts moment bytes) (received_by_investor after moment bytes)
          (λ row none.
          let market = market_of config firm row in
          said_to_investor moment bytes market (none_hits market moment
          (investor_verdict market (book own facts market) moment bytes) none))
