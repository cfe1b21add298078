-- Every duty of an actor that is no other dealer, but for a hit, every message of such a firm and
-- every sweep does in what is left of the day what it does in the day.
use Rattle.std.proofs.Common.{◌≡◌, ℕ, ◌==◌, ◌&&◌, Bool, true, false, List, [], Option, Some, None}
use Rattle.std.proofs.Common.{refl, sym, ap, ◌∙◌, is_some}
use Rattle.std.proofs.lemmas.Bool.{and_parts}
use Rattle.market_terms.specs.declared.closes.Close.{Close}
use Rattle.market_terms.specs.declared.closes.HitRefusal.{HitRefusal}
use Rattle.market_terms.specs.declared.closes.HitRefusal.TheVariants.{NotOpen}
use Rattle.market_terms.specs.declared.closes.Reply.{Reply}
use Rattle.market_terms.specs.declared.closes.Reply.TheVariants as reply
use Rattle.market_terms.specs.declared.rooms.ResponseRef.{ResponseRef}
use Rattle.market_terms.specs.declared.rooms.RoomRef.{RoomRef}
use Rattle.market_terms.specs.declared.duties.Duty.{Duty}
use Rattle.market_terms.specs.declared.duties.Duty.TheVariants as duty
use Rattle.venue_rows.specs.Rows.{Configuration}
use Rattle.investor_desk.specs.InvestorDesk.{market_for, market_of}
use Rattle.investor_desk.specs.InvestorFacts.{InvestorBook, knows, knows_quote, request_numbered}
use Rattle.investor_desk.specs.InvestorRules.{InvestorMarket, response_to}
use Rattle.investor_desk.specs.declared.events.InvestorEvent.TheVariants as at_investor
use Rattle.venue_steps.specs.InvestorSteps.{replies_to}
use Rattle.request_room.specs.RoomFacts.{hears}
use Rattle.venue_steps.specs.Table.{Line, acting_in, brings, drops, line_of, telling}
use Rattle.laws_days.specs.Conditions.{holds_for, is_known, is_known_to, is_met, may_reply}
use Rattle.venue_steps.specs.declared.actors.Actor.{Actor}
use Rattle.venue_steps.specs.declared.arrivals.ForDealer.TheVariants as to_dealer
use Rattle.venue_steps.specs.declared.arrivals.ForInvestor.{ForInvestor}
use Rattle.venue_steps.specs.declared.arrivals.ForInvestor.TheVariants as to_investor
use Rattle.venue_steps.specs.declared.arrivals.ForRoom.{ForRoom}
use Rattle.venue_steps.specs.declared.arrivals.ForRoom.TheVariants as to_room
use Rattle.venue_steps.specs.declared.arrivals.Placement.{Placement}
use Rattle.venue_steps.specs.declared.arrivals.Placement.TheVariants as arrival
use Rattle.step_replay.specs.Actions.{Dealer, acting_dealer, dealer_at, done_for}
use Rattle.step_replay.specs.LineActions.{answered_by, at_investor_of}
use Rattle.step_replay.specs.Coming.{arrival_effect, dealer_gets, investor_gets, room_gets}
use Rattle.step_replay.specs.Coming.{room_gets_where}
use Rattle.step_replay.specs.VenueFacts.{Fact, of_room}
use Rattle.step_replay.specs.DutyEffects.{duty_effect, line_effect, sweep_effect}
use Rattle.laws_days.specs.ActionCases.{if_both, if_does, invested_both, by_both, invested_does}
use Rattle.laws_isolation.specs.Silence.{acts_as_another, is_hit}
use Rattle.laws_isolation.proofs.Left.{AreAlike, IsHushed, acting_own, hushed_alike}
use Rattle.laws_isolation.proofs.Left.{left_answer, left_duty, no_response, no_room, nothing_alike}
use Rattle.laws_isolation.proofs.Left.{nothing_hushed}
use Rattle.laws_isolation.proofs.LeftActions as actions
use Rattle.laws_isolation.proofs.LeftActions.{known, known_alike, known_hushed, room_alike}
use Rattle.laws_isolation.proofs.LeftInvestor as investor
use Rattle.laws_isolation.proofs.LeftPlaces.{left_desk, room_left}
use Rattle.laws_isolation.proofs.LeftRoom.{ended_same, ready_same, request_same, stands_same}
use Rattle.laws_isolation.proofs.LeftOwn.{dropped_alike, shown_alike, told_alike}
use Rattle.laws_isolation.proofs.QuietSteps.{IsOwnUnpost}

-- whether a reply closes its request
abbrev reply_kind : Reply → Bool
reply_kind reply.Awarded = true
reply_kind reply.Passed = true
reply_kind (reply.Refused why) = false

module _ (config : Configuration) (own : ℕ) (facts : List Fact) where
  -- what is left of the day
  abbrev after : List Fact
  after = known own facts

  -- In a room.

  ruleset same_there = (room_left, request_same, ended_same, ready_same)

  heard_same : (may : Bool) (room : RoomRef) (dealer : ℕ)
      → (may && hears (of_room room facts) dealer) ≡ (may && hears (of_room room after) dealer)
  heard_same may room dealer = simp same_there

  room_gets_alike : (may : Bool) (room : RoomRef) (what : ForRoom) → IsOwnUnpost own what
      → AreAlike own (room_gets_where config facts may room what)
      (room_gets_where config after may room what)
  unfolding room_gets_where
  room_gets_alike may room (to_room.Ready moment) mine =
      room_alike own facts config room _ _ _ _ _ tt refl refl
  room_gets_alike may room (to_room.Unpost dealer word moment) mine =
      let stand = stands_same own (of_room room facts) dealer word mine in
      room_alike own facts config room _ _ _ _ _ tt (heard_same may room dealer)
      (simp (same_there, stand))
  room_gets_alike may room other mine =
      room_alike own facts config room _ _ _ _ _ tt (search heard_same) (simp same_there)

  -- At an investor: what is no reply.

  abbrev IsNoReply : ForInvestor → Type 0
  IsNoReply (to_investor.Answer request response said moment) = ⊥
  IsNoReply other = Unit {0}

  investor_gets_alike : (what : ForInvestor) → IsNoReply what → (market : InvestorMarket)
      → AreAlike own (investor_gets facts what market) (investor_gets after what market)
  unfolding investor_gets
  investor_gets_alike (to_investor.Answer request response said moment) none market = absurd none
  investor_gets_alike (to_investor.Close request moment) none market =
      known_alike own facts market request (at_investor.Closed request moment)
      (at_investor.Closed request moment)
      (ap left_desk (investor.expired_left market (actions.book own facts market) request moment))
  investor_gets_alike other none market =
      hushed_alike own _ _ (known_hushed own facts market _ None _ tt)
      (known_hushed own after market _ None _ tt)

  -- An answer: that of an award is of a quote that is known.

  -- the market of a room's investor
  module _ (room : RoomRef) (moment : ℕ) (market : InvestorMarket) where
    -- that its request is known, and the quote that is meant
    abbrev Known : Option ℕ → Type 0
    Known quote = knows (actions.book own facts market) room.n quote ≡ true

    answered_both : (id : List ℕ) (k : Option ℕ) (said : Reply) → replies_to k said ≡ true → Known k
        → reply_kind said ≡ true
        → AreAlike own (answered_by facts room (response_to id k) said moment market)
        (answered_by after room no_response reply.Passed moment market)
    answered_both id None reply.Awarded fits is kind = cc
    answered_both id None reply.Passed fits is kind =
        known_alike own facts market room.n
        (at_investor.Answered room.n (response_to id None) reply.Passed moment)
        (at_investor.Answered room.n no_response reply.Passed moment)
        (investor.passed_left market (actions.book own facts market) room.n id moment)
    answered_both id (Some quote) reply.Passed fits is kind = cc
    answered_both id (Some quote) reply.Awarded fits is kind =
        let book = actions.book own facts market in
        let parts = and_parts (is_some (request_numbered book room.n))
        (knows_quote book room.n (Some quote)) is in
        let known_now : knows book room.n None ≡ true = rw (parts.0) refl in
        if_both (AreAlike own) (nothing_alike own) _ _ _ _
        (is ∙ sym (ap (λ (b : InvestorBook). knows b room.n None)
        (actions.book_known own facts market)
        ∙ investor.knows_same book room.n ∙ known_now))
        (actions.investor_alike own facts market
        (at_investor.Answered room.n (response_to id (Some quote)) reply.Awarded moment)
        (at_investor.Answered room.n no_response reply.Passed moment) [] []
        (investor.awarded_left market book room.n id quote moment parts.1) refl)
    answered_both id k (reply.Refused why) fits is kind = cc

  -- a refusal closes nothing
  refused_hushed : (now : List Fact) (room : RoomRef) (response : ResponseRef) (why : HitRefusal)
      (moment : ℕ)
      → IsHushed own
      (at_investor_of config room (answered_by now room response (reply.Refused why) moment))
  refused_hushed now room response why moment =
      invested_does (IsHushed own) (nothing_hushed own) config room.investor _
      (λ row. if_does (IsHushed own) (nothing_hushed own) _ _
      (known_hushed own now (market_of config room.investor row) room.n response.k
      (at_investor.Answered room.n response (reply.Refused why) moment) tt))

  closing_alike : (room : RoomRef) (response : ResponseRef) (said : Reply) (moment : ℕ)
      → may_reply config facts room response said ≡ true → reply_kind said ≡ true
      → AreAlike own (at_investor_of config room (answered_by facts room response said moment))
      (at_investor_of config room (answered_by after room no_response reply.Passed moment))
  closing_alike room response said moment may kind =
      let parts = and_parts (replies_to response.k said)
      (is_known config facts room response.k) may in
      by_market (market_for config room.investor) parts.0 parts.1
    where
      by_market : (found : Option InvestorMarket) → replies_to response.k said ≡ true
          → holds_for found (is_known_to facts room.n response.k) ≡ true
          → AreAlike own (done_for found (answered_by facts room response said moment))
          (done_for found (answered_by after room no_response reply.Passed moment))
      by_market None fits is = cc
      by_market (Some market) fits is =
          answered_both room moment market response.id response.k said fits is kind

  answered_alike : (by : Actor) (room : RoomRef) (response : ResponseRef) (said : Reply)
      (moment : ℕ)
      → may_reply config facts room response said ≡ true
      → AreAlike own (duty_effect config facts by (duty.Answer room response said moment))
      (duty_effect config after by (left_answer room said moment))
  unfolding duty_effect
  answered_alike by room response reply.Awarded moment may =
      closing_alike room response reply.Awarded moment may refl
  answered_alike by room response reply.Passed moment may =
      closing_alike room response reply.Passed moment may refl
  answered_alike by room response (reply.Refused why) moment may =
      hushed_alike own _ _ (refused_hushed facts room response why moment)
      (refused_hushed after no_room no_response NotOpen 0)

  -- a refusal that is told
  pub refused_answer : (by : Actor) (room : RoomRef) (response : ResponseRef) (why : HitRefusal)
      (moment : ℕ)
      → IsHushed own
      (duty_effect config facts by (duty.Answer room response (reply.Refused why) moment))
  unfolding duty_effect
  refused_answer by room response why moment = refused_hushed facts room response why moment

  -- What comes to a place, and is the same in what is left: no hit, no reply, no notice, and no
  -- unpost of another dealer.

  abbrev IsSameThere : Placement → Type 0
  IsSameThere (arrival.Dealer firm (to_dealer.Show room ask moment)) = Unit {0}
  IsSameThere (arrival.Investor firm what) = IsNoReply what
  IsSameThere (arrival.Room room what) = IsOwnUnpost own what
  IsSameThere other = ⊥

  arrival_alike : (coming : Placement) → IsSameThere coming
      → AreAlike own (arrival_effect config facts coming) (arrival_effect config after coming)
  unfolding arrival_effect dealer_gets room_gets
  arrival_alike (arrival.Dealer firm (to_dealer.Show room ask moment)) same =
      by_both (AreAlike own) (nothing_alike own) (dealer_at config firm) _ _
      (shown_alike config own facts room ask moment)
  arrival_alike (arrival.Investor firm what) same =
      invested_both (AreAlike own) (nothing_alike own) config firm (investor_gets facts what)
      (investor_gets after what) (λ row. investor_gets_alike what same (market_of config firm row))
  arrival_alike (arrival.Room room what) same = room_gets_alike true room what same
  arrival_alike other same = absurd same

  -- All duties but a hit, by the lines of the table.

  abbrev IsSameLine : Line → Type 0
  IsSameLine (brings coming) = IsSameThere coming
  IsSameLine (acting_in room may bring) =
      (dealer : Dealer) → (dealer.number == own) ≡ true → IsOwnUnpost own (bring dealer)
  IsSameLine (telling firm bring) = (dealer : Dealer) → IsNoReply (bring dealer)
  IsSameLine (drops last moment) = Unit {0}

  line_alike : (by : Actor) → acts_as_another config own by ≡ false → (line : Line)
      → IsSameLine line
      → AreAlike own (line_effect config facts by line) (line_effect config after by line)
  line_alike by isnt (brings coming) same = arrival_alike coming same
  line_alike by isnt (acting_in room may bring) same =
      acting_own config own by isnt _ _
      (λ dealer mine. room_gets_alike (may dealer) room (bring dealer) (same dealer mine))
  line_alike by isnt (telling firm bring) same =
      by_both (AreAlike own) (nothing_alike own) (acting_dealer config by) _ _
      (λ dealer. arrival_alike (arrival.Investor firm (bring dealer)) (same dealer))
  line_alike by isnt (drops last moment) same =
      acting_own config own by isnt _ _
      (λ dealer mine. dropped_alike config own facts dealer mine last moment)

  same_alike : (by : Actor) (more : Duty) → acts_as_another config own by ≡ false
      → IsSameLine (line_of config more)
      → AreAlike own (duty_effect config facts by more) (duty_effect config after by more)
  unfolding duty_effect
  same_alike by more isnt same = line_alike by isnt (line_of config more) same

  noticed_alike : (by : Actor) (number : ℕ) (room : RoomRef) (close : Close) (moment : ℕ)
      → AreAlike own (duty_effect config facts by (duty.Tell number room close moment))
      (duty_effect config after by (left_duty (duty.Tell number room close moment)))
  unfolding duty_effect
  noticed_alike by number room close moment =
      by_both (AreAlike own) (nothing_alike own) (dealer_at config number) _ _
      (told_alike config own facts room close moment)

  pub duty_alike : (by : Actor) (more : Duty) → acts_as_another config own by ≡ false
      → is_hit more ≡ false → is_met config facts by more ≡ true
      → AreAlike own (duty_effect config facts by more)
      (duty_effect config after by (left_duty more))
  unfolding is_met line_of
  duty_alike by (duty.Post room quote price valid_until moment) isnt no_hit met =
      same_alike by _ isnt (λ dealer mine. tt)
  duty_alike by (duty.Unpost room quote moment) isnt no_hit met =
      same_alike by _ isnt (λ dealer mine. mine)
  duty_alike by (duty.Decline room moment) isnt no_hit met =
      same_alike by _ isnt (λ dealer mine. tt)
  duty_alike by (duty.Declined room moment) isnt no_hit met = same_alike by _ isnt (λ dealer. tt)
  duty_alike by (duty.Hit room response word moment) isnt no_hit met = cc
  duty_alike by (duty.Answer room response said moment) isnt no_hit met =
      answered_alike by room response said moment met
  duty_alike by (duty.Tell number room close moment) isnt no_hit met =
      noticed_alike by number room close moment
  duty_alike by other isnt no_hit met = same_alike by _ isnt tt

  pub sweep_alike : (room : RoomRef) (moment : ℕ)
      → AreAlike own (sweep_effect config facts room moment) (sweep_effect config after room moment)
  unfolding sweep_effect room_gets
  sweep_alike room moment = room_gets_alike true room (to_room.Expire moment) tt
