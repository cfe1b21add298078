-- What every duty, message and sweep brings of what stands of trades. So it stands after every list
-- of steps.
use Rattle.laws_days.proofs.Common.{List, None, ℕ, [], inl, inr, refl}
use Rattle.laws_days.proofs.Common.{option_map, ◌++◌, ◌∷◌, ◌≡◌, append_assoc, subst}
use Rattle.laws_days.proofs.Common.{Duty, RoomRef, Configuration, dealer_numbered, DealerRow}
use Rattle.laws_days.proofs.Common.{InvestorRow, market_of, InvestorEvent, DealerEvent, shown_room}
use Rattle.laws_days.proofs.Common.{hit_word, Actor, Effect, AuditTrail, after_step}
use Rattle.laws_days.proofs.Common.{after_turn, audit_trail, no_steps, pending, duty_effect}
use Rattle.laws_days.proofs.Common.{message_effect, sweep_effect, Step, Every, In, all_in, in_right}
use Rattle.laws_days.proofs.Common.{take-append-drop, append-nil}
use Rattle.std.proofs.lemmas.List.Sums.{fold-append}
use Rattle.market_terms.specs.declared.duties.Duty.TheVariants as duty
use Rattle.venue_steps.specs.declared.actors.Actor.TheVariants as actor
use Rattle.request_room.specs.declared.events.RoomEvent.{RoomEvent}
use Rattle.step_replay.specs.Actions.{answer_to_hit, at_market, quote_asked}
use Rattle.step_replay.specs.declared.steps.Step.TheVariants as step
use Rattle.laws_days.specs.ActionCases.{numbered_does}
use Rattle.laws_days.specs.DutyWalk.{AnyRoom, DealerMay, InvestorMay, NoHitThere, RoomMay, Walks}
use Rattle.laws_days.specs.DutyWalk.{any_room, duty_walks}
use Rattle.laws_days.specs.LeftBehind.{LeftBy, duty_each}
use Rattle.laws_days.proofs.ListLemmas.{cases_some}
use Rattle.laws_days.proofs.LiveQuotes.{LoneQuotes}
use Rattle.laws_days.proofs.NewsWalk.{any_news}
use Rattle.laws_days.proofs.VenueDay.{venue_ok}
use Rattle.laws_days.proofs.VenueDesk.{WordsOfDay}
use Rattle.laws_days.proofs.VenueInvariant.{DutyOk, VenueOk}
use Rattle.laws_days.proofs.VenueKinds.{known}
use Rattle.laws_days.proofs.VenueKnown.{pending_ok}
use Rattle.laws_days.proofs.VenueParts.{Still, did_in, duties_by, later_same}
use Rattle.laws_days.proofs.VenueSteps.{Here}
use Rattle.laws_days.proofs.VenueTurns.{Doing, beside, turn, turns_of}
use Rattle.laws_trades.proofs.TradeDesk.{said_makes, shown_makes, unshown_adds}
use Rattle.laws_trades.proofs.TradeHits.{hit_makes}
use Rattle.laws_trades.proofs.TradeMarkets.{asked_makes, investor_makes, news_makes}
use Rattle.laws_trades.proofs.TradeMarkets.{relayed_makes}
use Rattle.laws_trades.proofs.TradeParts.{TradeDuty, TradeOk}
use Rattle.laws_trades.proofs.TradeReplies.{answer_makes}
use Rattle.laws_trades.proofs.TradeRooms.{opened_makes, passed_makes, posted_makes, swept_makes}
use Rattle.laws_trades.proofs.TradeRooms.{untraded}
use Rattle.laws_trades.proofs.TradeSteps.{DoneNow, DutyNow, FactNow, Makes, acting_makes}
use Rattle.laws_trades.proofs.TradeSteps.{idle_makes, ok_after, when_makes}

module _ (h : Here) where
  -- a turn: what it brings, and what stands as its duty is done
  abbrev Does : Duty → Effect → Type 0
  Does left effect = Makes h effect × DoneNow h effect left

  -- Duties of which nothing has to stand of a trade, and of what they leave neither, by the place at
  -- which they are done.

  abbrev IsCalm : Duty → Type 0
  IsCalm (duty.Open room ask dealers moment) = ⊥
  IsCalm (duty.Show dealer room ask moment) = ⊥
  IsCalm (duty.Post room quote price valid_until moment) = ⊥
  IsCalm (duty.Relay room offer moment) = ⊥
  IsCalm (duty.Hit room response word moment) = ⊥
  IsCalm (duty.Pass room response moment) = ⊥
  IsCalm (duty.Answer room response reply moment) = ⊥
  IsCalm other = Unit {0}

  calm_left : (effect : Effect) (more d : Duty) → IsCalm d → LeftBy more d → DutyNow h effect more
  calm_left effect (duty.Open room ask dealers moment) d calm left = absurd left
  calm_left effect (duty.Show dealer at what when) (duty.Open room ask dealers moment) calm left =
      absurd calm
  calm_left effect (duty.Show dealer at what when) other calm left = absurd left
  calm_left effect (duty.Post room quote price valid_until moment) d calm left = absurd left
  calm_left effect (duty.Relay at offer when) (duty.Post room quote price valid_until moment) calm
      left =
      absurd calm
  calm_left effect (duty.Relay at offer when) other calm left = absurd left
  calm_left effect (duty.Hit room response word moment) d calm left = absurd left
  calm_left effect (duty.Pass room response moment) d calm left = absurd left
  calm_left effect (duty.Answer at to reply when) (duty.Hit room response word moment) calm left =
      absurd calm
  calm_left effect (duty.Answer at to reply when) (duty.Pass room response moment) calm left =
      absurd calm
  calm_left effect (duty.Answer at to reply when) other calm left = absurd left
  calm_left effect more d calm left = λ now later. tt

  abbrev DealerAdds : ℕ → DealerRow → DealerEvent → List Duty → Type 0
  DealerAdds number row event left = shown_room event ≡ None

  abbrev InvestorAdds : ℕ → InvestorRow → InvestorEvent → Type 0
  InvestorAdds number row event =
      Makes h (at_market h.venue.facts (market_of h.config number row) event [])

  abbrev RoomAdds : RoomRef → RoomEvent → List Duty → Type 0
  RoomAdds room event left = NoHitThere event

  -- what an action adds stands
  abbrev Adds : Effect → Type 0
  Adds effect = Every (FactNow h effect) effect.facts

  walks : Walks DealerAdds InvestorAdds RoomAdds h.config h.venue.facts Adds
  walks = record {
    idle = tt;
    at_a_dealer = λ number row found event left none.
        unshown_adds h number row found event left none;
    at_an_investor = λ number row found event makes. makes.facts;
    in_a_room = λ room there event no_hit left is. untraded h room event left no_hit;
    by_a_hit = λ room there response word moment is. absurd is;
  }

  at_dealers : (by : Actor) (d : Duty) → IsCalm d
      → DealerMay DealerAdds h.config h.venue.facts by d
  at_dealers by (duty.Show dealer room ask moment) calm = absurd calm
  at_dealers by (duty.Tell dealer room close moment) calm = λ row found request there may. refl
  at_dealers (actor.Firm number) (duty.Drop last moment) calm = λ row found. refl
  at_dealers by other calm = tt

  at_investors : (d : Duty) → IsCalm d → InvestorMay InvestorAdds h.config d
  at_investors (duty.Relay room offer moment) calm = absurd calm
  at_investors (duty.Answer room response reply moment) calm = absurd calm
  at_investors other calm = any_news InvestorAdds h.config other tt (news_makes h)

  in_rooms : (by : Actor) (d : Duty) → IsCalm d → RoomMay RoomAdds h.config h.venue.facts by d
  in_rooms by (duty.Hit room response word moment) calm = absurd calm
  in_rooms by other calm =
      any_room AnyRoom h.config h.venue.facts by other (λ room event left at. tt)

  calm_makes : (d : Duty) → IsCalm d → Makes h (duty_effect h.config h.venue.facts h.by d)
  calm_makes d calm = record {
    facts = duty_walks DealerAdds InvestorAdds RoomAdds h.config h.venue.facts Adds walks h.by d
        (at_dealers h.by d calm) (at_investors d calm) (in_rooms h.by d calm);
    left = duty_each (DutyNow h (duty_effect h.config h.venue.facts h.by d)) h.config h.venue.facts
        h.by d
        (λ more left. calm_left (duty_effect h.config h.venue.facts h.by d) more d calm left);
  }

  -- All duties.

  turn_does : (left : Duty) → DutyOk h.config h.by left h.venue
      → Still (TradeDuty h.config h.by left) h.venue
      → Does left (duty_effect h.config h.venue.facts h.by left)
  unfolding duty_effect
  turn_does (duty.Open room ask dealers moment) ok stands =
      (opened_makes h room ask dealers moment stands, λ now later. tt)
  turn_does (duty.Show dealer room ask moment) ok stands = (
    numbered_does (Makes h) (idle_makes h) h.config dealer _
        (λ row is. shown_makes h dealer row is room ask moment stands),
    λ now later. tt,
  )
  turn_does (duty.Post room quote price valid_until moment) ok stands = (
    acting_makes h ok.0.named.who _
        (posted_makes h room ok.0.named.who quote price valid_until moment ok.0.within stands),
    λ now later. tt,
  )
  turn_does (duty.Relay room offer moment) ok stands = (
    investor_makes h room.investor _
        (λ row is. relayed_makes h room.investor row is room offer moment refl stands),
    λ now later. tt,
  )
  turn_does (duty.Hit room response word moment) ok stands = (
    when_makes h _ _ (λ test. hit_makes h room response word moment ok.by_is stands
        (option_map (answer_to_hit h.venue.facts)
        (quote_asked h.config (hit_word (known h room) word moment)))),
    λ now later. tt,
  )
  turn_does (duty.Pass room response moment) ok stands =
      (passed_makes h room response moment (stands h.venue (later_same h.venue)), λ now later. tt)
  turn_does (duty.Answer room response reply moment) ok stands =
      answer_makes h room response moment reply ok.0 ok.1 stands
  turn_does other ok stands = (calm_makes other tt, λ now later. tt)

  message_makes : (firm moment : ℕ) (bytes : List ℕ) → h.by ≡ actor.Firm firm
      → Makes h (message_effect h.config h.venue.facts firm moment bytes)
  unfolding message_effect
  message_makes firm moment bytes by_is = elim (cases_some (dealer_numbered h.config firm)) [
    | inl none ↦ rw none
        (investor_makes h firm _ (λ row is. asked_makes h firm row is by_is moment bytes))
    | inr some ↦ rw (some.1) (said_makes h firm some.0 some.1 by_is moment bytes)
  ]

-- a duty that stands first in a queue was left, and what stands of it
pub next_left : {config : Configuration} {venue : AuditTrail} → TradeOk config venue → (by : Actor)
    (left : Duty) (rest : List Duty) → pending by venue ≡ left ∷ rest
    → Still (TradeDuty config by left) venue
next_left {config} {venue} stood by left rest is =
    all_in (λ one. Still (TradeDuty config by one) venue) left (duties_by by venue.caused)
    (stood.left by)
    (subst (λ l. In left l) (take-append-drop (turns_of by venue.done) (duties_by by venue.caused))
    (in_right left (did_in venue by) (pending by venue) (rw is (inl refl))))

module _ (lone : LoneQuotes) (words : WordsOfDay) (config : Configuration) where
  module _ (venue : AuditTrail) (venue_stood : VenueOk config venue)
      (stood : TradeOk config venue) where
    -- an actor does something
    abbrev here : (by : Actor) → Doing venue by → Here
    here by doing =
        record { config = config; venue = venue; stood = venue_stood; by = by; doing = doing }

    turn_stands : (by : Actor) (duties : List Duty) → pending by venue ≡ duties
        → TradeOk config (after_turn config by venue duties)
    turn_stands by [] is = stood
    turn_stands by (left ∷ rest) is =
        let h = here by (turn left rest is) in
        let fits = (pending_ok venue_stood by left rest is).0 venue (later_same venue) in
        let does = turn_does h left fits (next_left stood by left rest is) in
        ok_after h (duty_effect config venue.facts by left) stood does.0 (does.1, tt)

    step_stands : (more : Step) → TradeOk config (after_step config venue more)
    unfolding after_step
    step_stands (step.In firm moment message) =
        let h = here (actor.Firm firm) beside in
        ok_after h (message_effect config venue.facts firm moment message) stood
        (message_makes h firm moment message refl) tt
    step_stands (step.Turn by) = turn_stands by (pending by venue) refl
    step_stands (step.Expire room moment) =
        let h = here actor.Clock beside in
        ok_after h (sweep_effect config venue.facts room moment) stood
        (swept_makes h room moment) tt

  start : TradeOk config (audit_trail config [])
  unfolding audit_trail
  start = record { facts = tt; left = λ by. tt; done = λ by. tt }

  -- one step behind some
  pub one_more : (before : List Step) (more : Step)
      → audit_trail config (before ++ more ∷ []) ≡ after_step config (audit_trail config before) more
  unfolding audit_trail
  one_more before more = fold-append (after_step config) no_steps before (more ∷ [])

  steps_stand : (before steps : List Step) → TradeOk config (audit_trail config before)
      → TradeOk config (audit_trail config (before ++ steps))
  steps_stand before [] stood = rw append-nil stood
  steps_stand before (more ∷ steps) stood =
      subst (λ l. TradeOk config (audit_trail config l)) (append_assoc before (more ∷ []) steps)
      (steps_stand (before ++ more ∷ []) steps (rw (one_more before more)
      (step_stands (audit_trail config before) (venue_ok lone words config before) stood more)))

  pub trade_ok : (steps : List Step) → TradeOk config (audit_trail config steps)
  trade_ok steps = steps_stand [] steps start
