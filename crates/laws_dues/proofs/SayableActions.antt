-- Every duty, message and sweep brings dues that can be said.
use Rattle.std.proofs.Common.{◌≡◌, ◌≤◌, ℕ, ◌==◌, Bool, true, false, not, List, []}
use Rattle.std.proofs.Common.{◌++◌, length, Some, is_some}
use Rattle.std.proofs.Common.{if◌then◌else◌, subst, arith}
use Rattle.market_terms.specs.declared.duties.Duty.{Duty}
use Rattle.market_terms.specs.declared.duties.Duty.TheVariants as duty
use Rattle.market_terms.specs.declared.rooms.RoomRef.{RoomRef}
use Rattle.venue_rows.specs.Rows.{Configuration, KeepsLimits, dealer_numbered}
use Rattle.venue_rows.specs.Rows.{investor_numbered}
use Rattle.venue_rows.specs.declared.dealer_rows.DealerRow.{DealerRow}
use Rattle.venue_rows.specs.declared.investor_rows.InvestorRow.{InvestorRow}
use Rattle.dealer_desk.specs.DealerFacts.{book_of, quotes_accepted}
use Rattle.dealer_desk.specs.DealerOutput.{DeskState}
use Rattle.dealer_desk.specs.declared.events.DealerEvent.{DealerEvent}
use Rattle.dealer_desk.specs.declared.events.DealerEvent.TheVariants as at_desk
use Rattle.investor_desk.specs.InvestorDesk.{market_for, market_of}
use Rattle.investor_desk.specs.InvestorRules.{investor_verdict}
use Rattle.investor_desk.specs.declared.events.InvestorEvent.TheVariants as at_investor
use Rattle.request_room.specs.Book.{event_facts}
use Rattle.request_room.specs.declared.events.RoomEvent.TheVariants as at_room
use Rattle.venue_steps.specs.RoomSteps.{duties_of_open}
use Rattle.venue_steps.specs.Dealers.{dealer_at, dealer_of}
use Rattle.venue_steps.specs.declared.actors.Actor.{Actor}
use Rattle.venue_steps.specs.declared.actors.Actor.TheVariants as actor
use Rattle.step_replay.specs.Actions.{Effect, answer_to_drop, at_dealer}
use Rattle.step_replay.specs.Actions.{done_by, done_for}
use Rattle.step_replay.specs.Actions.{left_by, left_by_investor}
use Rattle.step_replay.specs.Actions.{received_by_dealer}
use Rattle.step_replay.specs.Actions.{received_by_investor, settlement_of}
use Rattle.step_replay.specs.Actions.{verdict_on}
use Rattle.step_replay.specs.DealerTrail.{DealerEntry, book_by, entries_of, rooms_by}
use Rattle.step_replay.specs.DutyEffects.{duty_effect, message_effect, sweep_effect}
use Rattle.step_replay.specs.InvestorTrail as investor_trail
use Rattle.step_replay.specs.SeenLemmas.{Seen}
use Rattle.step_replay.specs.VenueFacts.{Fact, of_dealer, of_investor, of_room}
use Rattle.laws_days.specs.DutyWalk.{AnyInvestor, AnyRoom, DealerMay, Walks, any_investor}
use Rattle.laws_days.specs.DutyWalk.{any_room, duty_walks, settlement_found, sweep_walks}
use Rattle.laws_days.specs.KeptItems.{every_all}
use Rattle.laws_days.specs.LeftBehind.{LeftBy, duty_each, sweep_each}
use Rattle.laws_days.specs.LeftDuties.{duty_leaves}
use Rattle.laws_days.specs.MayLeave.{MayLeave}
use Rattle.venue_text.specs.ReadBack.{is_short}
use Rattle.laws_dues.proofs.SayableDuties.{AllFit, DutyFits, asked_fit, investor_named, open_fit}
use Rattle.laws_dues.proofs.SayableDuties.{said_fit}
use Rattle.laws_dues.proofs.SayableEffects.{AcceptsFew, EffectFits, dealer_fits}
use Rattle.laws_dues.proofs.SayableEffects.{desk_fits, hit_fits, in_room_fits, investor_fits}
use Rattle.laws_dues.proofs.SayableEffects.{market_fits, nothing_fits, room_fits, when_fits}
use Rattle.laws_dues.proofs.SayableTrails.{TrailFits, drop_fits, own_fits, request_short, shown_fits, told_fits}
use Rattle.laws_dues.proofs.SayableVerdicts.{verdict_asks, verdict_drops}

module _ (config : Configuration) (limits : KeepsLimits config) (facts : List Fact) where
  abbrev Fits : Effect → Type 0
  Fits effect = EffectFits config facts effect

  abbrev trail : ℕ → List DealerEntry
  trail dealer = of_dealer dealer facts

  -- Duties.

  -- an event at a dealer's desk
  abbrev DealerFits : ℕ → DealerRow → DealerEvent → List Duty → Type 0
  DealerFits number row event left = TrailFits config (trail number)
      → TrailFits config (trail number ++ entries_of config.date row (trail number) event)

  -- what an action brings, where what it leaves fits
  abbrev FitsLeft : Effect → Type 0
  FitsLeft effect = AllFit config effect.duties → Fits effect

  walks : Walks DealerFits AnyInvestor AnyRoom config facts FitsLeft
  walks = record {
    idle = λ left. nothing_fits config facts;
    at_a_dealer = λ number row found event duties grows left.
        desk_fits config facts number row event duties grows left;
    at_an_investor = λ number row found event any left.
        market_fits config facts (market_of config number row) event [] left;
    in_a_room = λ room there event no_hit duties any left.
        room_fits config facts room (event_facts (of_room room facts) event) duties left;
    by_a_hit = λ room there response word moment any left.
        hit_fits config facts room response word moment
        (settlement_found config facts room word moment) left;
  }

  at_dealers : (by : Actor) (d : Duty) → DutyFits config d → DealerMay DealerFits config facts by d
  at_dealers by (duty.Show dealer room ask moment) fits = λ row found none before.
      shown_fits config config.date row (trail dealer) before room ask moment none fits.0 fits.1
  at_dealers by (duty.Tell dealer room close moment) fits = λ row found request there may before.
      told_fits config config.date row (trail dealer) before request close moment may
      (request_short config limits (trail dealer) before room request there)
  at_dealers (actor.Firm number) (duty.Drop last moment) short = λ row found before.
      drop_fits config config.date row (trail number) before last moment
      (answer_to_drop (trail number) last) short
  at_dealers by other fits = tt

  -- where what it leaves fits, too
  duty_brings : (by : Actor) (d : Duty) → DutyFits config d
      → AllFit config (duty_effect config facts by d).duties → Fits (duty_effect config facts by d)
  duty_brings by d fits left =
      duty_walks DealerFits AnyInvestor AnyRoom config facts FitsLeft walks by d
      (at_dealers by d fits) (any_investor AnyInvestor config by d (λ number row event is. tt))
      (any_room AnyRoom config facts by d (λ room event duties is. tt)) left

  -- What a duty leaves. What an opening shows, and how a drop goes on, is shown apart; of all else
  -- that is left nothing is asked.

  abbrev LeavesAny : Duty → Type 0
  LeavesAny (duty.Open room ask dealers moment) = ⊥
  LeavesAny (duty.Drop last moment) = ⊥
  LeavesAny other = Unit {0}

  any_fits : (more d : Duty) → LeavesAny d → LeftBy more d → DutyFits config more
  any_fits (duty.Open room ask dealers moment) d any left = absurd left
  any_fits (duty.Show dealer at what when) (duty.Open room ask dealers moment) any left = absurd any
  any_fits (duty.Show dealer at what when) other any left = absurd left
  any_fits (duty.Drop number when) (duty.Drop last moment) any left = absurd any
  any_fits (duty.Drop number when) other any left = absurd left
  any_fits more d any left = tt

  may_drop : (by : Actor) (last moment : ℕ) → is_short last ≡ true
      → MayLeave (DutyFits config) config facts by (duty.Drop last moment)
  may_drop (actor.Firm number) last moment short = ((λ quote. every_all _ (λ room. tt) _), short)
  may_drop actor.Clock last moment short = tt

  pub duty_fits : (by : Actor) (left : Duty) → DutyFits config left
      → EffectFits config facts (duty_effect config facts by left)
  unfolding duty_effect
  duty_fits by (duty.Open room ask dealers moment) named =
      in_room_fits config facts room true (at_room.Open (record { ask = ask; dealers = dealers }))
      (duties_of_open (of_room room facts) room ask dealers moment)
      (λ has. open_fit config (of_room room facts) room ask dealers moment named has)
  duty_fits by (duty.Drop last moment) short =
      duty_brings by (duty.Drop last moment) short
      (duty_leaves (DutyFits config) config facts by (duty.Drop last moment)
      (may_drop by last moment short)).each
  duty_fits by other fits =
      duty_brings by other fits
      (duty_each (DutyFits config) config facts by other (λ more left. any_fits more other tt left))

  -- A sweep.

  pub sweep_fits : (room : RoomRef) (moment : ℕ)
      → EffectFits config facts (sweep_effect config facts room moment)
  sweep_fits room moment =
      sweep_walks DealerFits AnyInvestor AnyRoom config facts FitsLeft walks room moment tt
      (sweep_each (DutyFits config) config facts room moment tt (λ dealer close. tt))

  -- A message.

  module _ (accepts : AcceptsFew) (moment : ℕ) (bytes : List ℕ)
      (said : not (length bytes == 0) ≡ true) where
    few_accepted : (number : ℕ) (row : DealerRow) → Seen config.date row (trail number)
        → quotes_accepted (book_by (trail number)) ≤ 4096
    few_accepted number row seen =
        let kept : quotes_accepted (book_by (trail number)) ≤ row.quotes =
        subst (λ (state : DeskState). quotes_accepted (book_of state.facts) ≤ row.quotes)
        seen.state_is (accepts config.date row seen.events) in
        let most : row.quotes ≤ 4096 = row.quotes_to in
        omega arith

    dealer_says : (number : ℕ) (row : DealerRow) → Seen config.date row (trail number)
        → Fits (received_by_dealer config facts moment bytes (dealer_of number row))
    dealer_says number row seen =
        let own = trail number in
        let v = verdict_on config facts moment bytes (dealer_of number row) in
        let settlement = settlement_of own v in
        when_fits config facts _
        (at_dealer config facts (dealer_of number row)
        (at_desk.Received moment bytes settlement) (left_by own moment v))
        (λ test. desk_fits config facts number row (at_desk.Received moment bytes settlement)
        (left_by own moment v)
        (λ before. own_fits config config.date row own before moment bytes settlement said)
        (said_fit config (book_by own) (rooms_by own) moment v settlement
        (verdict_drops row (book_by own) moment config.date bytes)
        (few_accepted number row seen)))

    investor_says : (firm : ℕ) (row : InvestorRow) → investor_numbered config firm ≡ Some row
        → Fits (received_by_investor facts moment bytes (market_of config firm row))
    investor_says firm row is =
        let market = market_of config firm row in
        let book = investor_trail.book_by (of_investor firm facts) in
        market_fits config facts market (at_investor.Received moment bytes)
        (left_by_investor facts moment bytes market)
        (asked_fit config market moment (investor_verdict market book moment bytes)
        (verdict_asks market book moment bytes) (investor_named config limits firm row is))

    pub message_fits : (firm : ℕ)
        → ((row : DealerRow) → dealer_numbered config firm ≡ Some row
        → Seen config.date row (trail firm))
        → EffectFits config facts (message_effect config facts firm moment bytes)
    unfolding message_effect
    message_fits firm seen = either (is_some (dealer_numbered config firm))
      where
        either : (b : Bool) → Fits
            (if b
            then done_by (dealer_at config firm) (received_by_dealer config facts moment bytes)
            else done_for (market_for config firm) (received_by_investor facts moment bytes))
        either true =
            dealer_fits config facts firm (received_by_dealer config facts moment bytes)
            (λ row is. dealer_says firm row (seen row is))
        either false =
            investor_fits config facts firm (received_by_investor facts moment bytes)
            (investor_says firm)
