-- What each duty, message and sweep brings of the moments of trades.
use Rattle.std.proofs.Common.{◌≡◌, ℕ, Bool, true, false, List, [], ◌∷◌, ◌++◌, map, Some, is_some}
use Rattle.std.proofs.Common.{refl, sym, ap, ◌∙◌, subst, inl, inr, if◌then◌else◌}
use Rattle.std.specs.Option.{option_to_list}
use Rattle.std.proofs.lemmas.Bool.{false≢true}
use Rattle.std.proofs.lemmas.List.{append-nil}
use Rattle.market_terms.specs.declared.closes.Reply.{Reply}
use Rattle.market_terms.specs.declared.closes.Reply.TheVariants as reply
use Rattle.market_terms.specs.declared.duties.Duty.{Duty}
use Rattle.market_terms.specs.declared.duties.Duty.TheVariants as duty
use Rattle.market_terms.specs.declared.rooms.ResponseRef.{ResponseRef}
use Rattle.market_terms.specs.declared.rooms.RoomRef.{RoomRef}
use Rattle.venue_rows.specs.Rows.{Configuration, dealer_numbered, investor_numbered}
use Rattle.venue_rows.specs.declared.dealer_rows.DealerRow.{DealerRow}
use Rattle.venue_rows.specs.declared.investor_rows.InvestorRow.{InvestorRow}
use Rattle.venue_steps.specs.Dealers.{dealer_at, dealer_of}
use Rattle.venue_steps.specs.declared.actors.Actor.{Actor}
use Rattle.venue_steps.specs.declared.actors.Actor.TheVariants as actor
use Rattle.venue_steps.specs.InvestorSteps.{replies_to}
use Rattle.venue_steps.specs.RoomSteps.{dealers_of, duties_of_expire}
use Rattle.venue_steps.specs.RoomSteps.{duties_of_pass}
use Rattle.dealer_desk.specs.declared.events.DealerEvent.{DealerEvent}
use Rattle.investor_desk.specs.InvestorDesk.{market_for, market_of}
use Rattle.investor_desk.specs.InvestorFacts as investor_facts
use Rattle.investor_desk.specs.InvestorOutput as investor_output
use Rattle.investor_desk.specs.InvestorRules.{InvestorMarket, investor_verdict}
use Rattle.investor_desk.specs.declared.events.InvestorEvent.{InvestorEvent}
use Rattle.investor_desk.specs.declared.events.InvestorEvent.TheVariants as at_investor
use Rattle.investor_desk.specs.declared.verdicts.InvestorVerdict.{InvestorVerdict}
use Rattle.investor_desk.specs.declared.verdicts.InvestorVerdict.TheVariants as asks
use Rattle.request_room.specs.Book.{expired, may_expire, passed}
use Rattle.request_room.specs.Book as book
use Rattle.request_room.specs.RoomFacts.{Ended}
use Rattle.request_room.specs.RoomFacts.{is_open, request_of}
use Rattle.request_room.specs.declared.events.RoomEvent.{RoomEvent}
use Rattle.request_room.specs.declared.events.RoomEvent.TheVariants as at_room
use Rattle.step_replay.specs.Actions.{Effect, at_dealer, at_market, done_by, done_for, left_by_investor}
use Rattle.step_replay.specs.Actions.{received_by_dealer}
use Rattle.step_replay.specs.Actions.{received_by_investor}
use Rattle.step_replay.specs.DutyEffects.{duty_effect, message_effect, sweep_effect}
use Rattle.step_replay.specs.GrowthLemmas.{in_right}
use Rattle.step_replay.specs.InvestorTrail as investor_trail
use Rattle.step_replay.specs.InvestorTrail.{InvestorEntry}
use Rattle.step_replay.specs.Lists.{Every, In}
use Rattle.step_replay.specs.VenueFacts.{Fact, InRoom, of_investor, of_room}
use Rattle.laws_days.specs.ActionCases.{if_does, numbered_does}
use Rattle.laws_days.specs.DutyWalk.{AnyRoom, DealerMay, InvestorMay, NoHitThere, RoomMay, Walks}
use Rattle.laws_days.specs.DutyWalk.{any_room, duty_walks, settlement_found}
use Rattle.laws_days.specs.LeftBehind.{LeftBy, duty_each}
use Rattle.laws_days.proofs.NewsWalk.{IsNews, any_news}
use Rattle.laws_trades.specs.TradeTimes.{IsAwarded, room_at}
use Rattle.laws_trades.proofs.TimeParts.{Brings, DutyTimed, FactTimed, none}
use Rattle.laws_trades.proofs.TimeDesks.{MayReply, dropped_brings, grown, invested_brings}
use Rattle.laws_trades.proofs.TimeDesks.{market_brings, said_brings, shown_brings, so_facts}
use Rattle.laws_trades.proofs.TimeDesks.{told_brings}
use Rattle.laws_trades.proofs.TimeRooms.{expired_left, hit_brings, passed_left, plain_room, so_timed}

module _ (config : Configuration) (facts : List Fact) where
  -- A reply.

  replied : (room : RoomRef) (response : ResponseRef) (answer : Reply) (moment : ℕ)
      → DutyTimed config facts (duty.Answer room response answer moment)
      → replies_to response.k answer ≡ true → (row : InvestorRow)
      → (is : investor_numbered config room.investor ≡ Some row)
      → MayReply config facts room.investor row is (at_investor.Answered room.n response answer moment) []
  replied room response answer moment timed test row is = record {
    replies = λ request other_response other_answer other at. cc;
    award = λ request other_response other at.
        let same : answer ≡ reply.Awarded = cc in
        let when : moment ≡ other = cc in
        let number : room.n ≡ request = cc in
        subst (λ (n : ℕ). IsAwarded facts (room_at room.investor n) other) number
        (subst (λ (m : ℕ). IsAwarded facts room m) when
        (subst (λ (a : Reply). DutyTimed config facts (duty.Answer room response a moment)) same timed));
  }

  -- Duties.

  abbrev DealerTimed : ℕ → DealerRow → DealerEvent → List Duty → Type 0
  DealerTimed number row event left =
      Brings config facts (at_dealer config facts (dealer_of number row) event left)

  abbrev InvestorTimed : ℕ → InvestorRow → InvestorEvent → Type 0
  InvestorTimed number row event = Brings config facts (at_market facts (market_of config number row) event [])

  abbrev RoomTimed : RoomRef → RoomEvent → List Duty → Type 0
  RoomTimed room event left = NoHitThere event

  -- what an event adds that is no hit: no award
  unawarded : (now : List Fact) (room : RoomRef) (event : RoomEvent) → NoHitThere event
      → Every (FactTimed config now) (map (InRoom room) (book.event_facts (of_room room facts) event))
  unfolding book.event_facts
  unawarded now room (at_room.Hit word moment settlement) no_hit = absurd no_hit
  unawarded now room (at_room.Pass moment) no_hit =
      so_timed config facts now room _ _ (λ kind. absurd (false≢true kind))
  unawarded now room (at_room.Expire moment) no_hit =
      so_timed config facts now room _ _ (λ kind. absurd (false≢true kind))
  unawarded now room event no_hit = so_timed config facts now room _ _ tt

  -- what an action brings, where what it leaves is so
  abbrev BringsLeft : Effect → Type 0
  BringsLeft effect =
      Every (DutyTimed config (facts ++ effect.facts)) effect.duties → Brings config facts effect

  walks : Walks DealerTimed InvestorTimed RoomTimed config facts BringsLeft
  walks = record {
    idle = λ left. none config facts;
    at_a_dealer = λ number row found event duties is left. is;
    at_an_investor = λ number row found event is left. is;
    in_a_room = λ room there event no_hit duties is left. record {
      facts_are = unawarded (facts ++ map (InRoom room) (book.event_facts (of_room room facts) event))
          room event no_hit;
      duties_are = left;
    };
    by_a_hit = λ room there response word moment is. absurd is;
  }

  at_dealers : (by : Actor) (d : Duty) → DutyTimed config facts d → DealerMay DealerTimed config facts by d
  at_dealers by (duty.Show dealer room ask moment) is =
      λ row found none. shown_brings config facts (dealer_of dealer row) room ask moment
  at_dealers by (duty.Tell dealer room close moment) is = λ row found request there may.
      told_brings config facts (dealer_of dealer row) room close moment is request there
  at_dealers (actor.Firm number) (duty.Drop last moment) is =
      λ row found. dropped_brings config facts number row last moment
  at_dealers by other is = tt

  -- what comes to an investor's desk, and is no reply
  unreplied : (number : ℕ) (row : InvestorRow) → investor_numbered config number ≡ Some row
      → (event : InvestorEvent) → ((request : ℕ) (response : ResponseRef) (answer : Reply) (moment : ℕ)
      → event ≡ at_investor.Answered request response answer moment → ⊥)
      → InvestorTimed number row event
  unreplied number row found event isnt = market_brings config facts number row found event [] (record {
    replies = λ request response answer moment at. absurd (isnt request response answer moment at);
    award = λ request response moment at. absurd (isnt request response reply.Awarded moment at);
  }) tt

  at_investors : (d : Duty) → DutyTimed config facts d → InvestorMay InvestorTimed config d
  at_investors (duty.Relay room offer moment) is = λ row found.
      unreplied room.investor row found (at_investor.QuoteCame room.n offer moment)
      (λ request response answer other at. cc)
  at_investors (duty.Answer room response answer moment) is = λ fits row found.
      market_brings config facts room.investor row found (at_investor.Answered room.n response answer moment) []
      (replied room response answer moment is fits row found) tt
  at_investors other is = any_news InvestorTimed config other tt (λ number row found event news.
      unreplied number row found event (λ request response answer moment at. subst IsNews at news))

  -- a duty that is no response
  abbrev IsPlain : Duty → Type 0
  IsPlain (duty.Hit room response word moment) = ⊥
  IsPlain (duty.Pass room response moment) = ⊥
  IsPlain other = Unit {0}

  plain_left : (now : List Fact) (more d : Duty) → IsPlain d → LeftBy more d
      → DutyTimed config now more
  plain_left now (duty.Hit room response word moment) d plain left = absurd left
  plain_left now (duty.Answer at to answer when) (duty.Hit room response word moment) plain left = absurd plain
  plain_left now (duty.Answer at to answer when) (duty.Pass room response moment) plain left = absurd plain
  plain_left now (duty.Answer at to answer when) other plain left = absurd left
  plain_left now (duty.Tell dealer at close when) (duty.Hit room response word moment) plain left = absurd plain
  plain_left now (duty.Tell dealer at close when) (duty.Pass room response moment) plain left = absurd plain
  plain_left now (duty.Tell dealer at close when) other plain left = absurd left
  plain_left now more d plain left = tt

  in_rooms : (by : Actor) (d : Duty) → IsPlain d → RoomMay RoomTimed config facts by d
  in_rooms by (duty.Hit room response word moment) plain = absurd plain
  in_rooms by other plain = any_room AnyRoom config facts by other (λ room event left at. tt)

  plain_brings : (by : Actor) (d : Duty) → IsPlain d → DutyTimed config facts d
      → Brings config facts (duty_effect config facts by d)
  plain_brings by d plain is =
      let now = facts ++ (duty_effect config facts by d).facts in
      duty_walks DealerTimed InvestorTimed RoomTimed config facts BringsLeft walks by d
      (at_dealers by d is) (at_investors d is) (in_rooms by d plain)
      (duty_each (DutyTimed config now) config facts by d (λ more left. plain_left now more d plain left))

  pub duty_brings : (by : Actor) (d : Duty) → DutyTimed config facts d → Brings config facts (duty_effect config facts by d)
  unfolding duty_effect book.event_facts
  duty_brings by (duty.Hit room response word moment) is =
      if_does (Brings config facts) (none config facts) _ _
      (hit_brings config facts room response word moment is (settlement_found config facts room word moment))
  duty_brings by (duty.Pass room response moment) is =
      if_does (Brings config facts) (none config facts) _ _
      (plain_room config facts room (is_open (of_room room facts)) (Ended passed moment)
      (duties_of_pass (of_room room facts) room response moment)
      (λ now kind. absurd (false≢true kind))
      (λ now. passed_left config facts now room response moment (dealers_of (request_of (of_room room facts)))
      (is_open (of_room room facts))))
  duty_brings by other is = plain_brings by other tt is

  pub sweep_brings : (room : RoomRef) (moment : ℕ) → Brings config facts (sweep_effect config facts room moment)
  unfolding sweep_effect book.event_facts
  sweep_brings room moment =
      if_does (Brings config facts) (none config facts) _ _
      (plain_room config facts room (may_expire (of_room room facts) moment) (Ended expired moment)
      (duties_of_expire (of_room room facts) room moment)
      (λ now kind. absurd (false≢true kind))
      (λ now. expired_left config facts now room moment (dealers_of (request_of (of_room room facts)))
      (may_expire (of_room room facts) moment)))

  -- A message of an investor.

  in_facts : (fact : investor_facts.InvestorFact) (trail : List InvestorEntry)
      → In (investor_trail.AtDesk fact) trail → In fact (investor_trail.facts_of trail)
  in_facts fact [] is = absurd is
  in_facts fact (entry ∷ trail) (inl is) =
      subst (λ (e : InvestorEntry). In fact (investor_trail.facts_of (e ∷ trail))) (sym is) (inl refl)
  in_facts fact (investor_trail.AtDesk other ∷ trail) (inr is) = inr (in_facts fact trail is)
  in_facts fact (investor_trail.Sent bytes ∷ trail) (inr is) = in_facts fact trail is
  in_facts fact (investor_trail.Happened event ∷ trail) (inr is) = in_facts fact trail is

  module _ (investor : ℕ) (row : InvestorRow) (is : investor_numbered config investor ≡ Some row)
      (moment : ℕ) (bytes : List ℕ) where
    abbrev own : InvestorMarket
    own = market_of config investor row

    abbrev coming : InvestorEvent
    coming = at_investor.Received moment bytes

    abbrev waiting : List Duty
    waiting = left_by_investor facts moment bytes own

    abbrev stood : List InvestorEntry
    stood = of_investor investor facts

    abbrev verdict_is : InvestorVerdict
    verdict_is = investor_verdict own (investor_trail.book_by stood) moment bytes

    abbrev come_facts : List Fact
    come_facts = so_facts config facts investor row is coming waiting

    came : investor_output.uses_number verdict_is ≡ true
        → In (investor_facts.Came moment bytes true) (investor_trail.facts_of (of_investor investor come_facts))
    unfolding investor_trail.entries_of investor_output.event_facts
    came uses =
        subst (λ (l : List InvestorEntry). In (investor_facts.Came moment bytes true) (investor_trail.facts_of l))
        (sym (grown config facts investor row is coming waiting))
        (in_facts (investor_facts.Came moment bytes true) (stood ++ investor_trail.entries_of own stood coming)
        (in_right (investor_trail.AtDesk (investor_facts.Came moment bytes true)) stood
        (investor_trail.entries_of own stood coming)
        (inr (inl (ap (λ (b : Bool). investor_trail.AtDesk (investor_facts.Came moment bytes b)) uses)))))

    by_verdict : (v : InvestorVerdict) → verdict_is ≡ v
        → Every (DutyTimed config come_facts) (option_to_list (investor_output.verdict_duty own moment v))
    by_verdict (asks.Hits request response word) at = (
      record {
        row = row;
        is_investor = is;
        stood = stood;
        bytes = bytes;
        after = [];
        trail_is = grown config facts investor row is coming waiting
            ∙ sym (append-nil (stood ++ investor_trail.entries_of own stood coming));
        came = came (ap investor_output.uses_number at);
        response = response;
        hits = at;
      },
      tt,
    )
    by_verdict (asks.RequestAccepted id request) at = (tt, tt)
    by_verdict (asks.Passes request response) at = (tt, tt)
    by_verdict other at = tt

    asked_brings : Brings config facts (received_by_investor facts moment bytes own)
    asked_brings =
        market_brings config facts investor row is coming waiting (record {
          replies = λ request response answer other at. cc;
          award = λ request response other at. cc;
        }) (by_verdict verdict_is refl)

  pub message_brings : (firm moment : ℕ) (bytes : List ℕ)
      → Brings config facts (message_effect config facts firm moment bytes)
  unfolding message_effect
  message_brings firm moment bytes = either (is_some (dealer_numbered config firm))
    where
      either : (b : Bool) → Brings config facts (if b
          then done_by (dealer_at config firm) (received_by_dealer config facts moment bytes)
          else done_for (market_for config firm) (received_by_investor facts moment bytes))
      either true =
          numbered_does (Brings config facts) (none config facts) config firm (received_by_dealer config facts moment bytes)
          (λ row found. said_brings config facts firm row moment bytes)
      either false =
          invested_brings config facts firm (received_by_investor facts moment bytes)
          (λ row is. asked_brings firm row is moment bytes)
