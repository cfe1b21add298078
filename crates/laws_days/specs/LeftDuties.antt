-- What each action leaves to be done, whatever is to be shown of it.
use Rattle.std.proofs.Common.{◌≡◌, ℕ, Bool, true, false, List, ◌∷◌, Some}
use Rattle.std.proofs.Common.{IfSome, is_some, refl}
use Rattle.market_terms.specs.declared.duties.Duty.{Duty}
use Rattle.market_terms.specs.declared.duties.Duty.TheVariants as duty
use Rattle.market_terms.specs.declared.rooms.RoomRef.{RoomRef}
use Rattle.venue_rows.specs.Rows.{Configuration, dealer_numbered}
use Rattle.venue_rows.specs.declared.dealer_rows.DealerRow.{DealerRow}
use Rattle.venue_rows.specs.declared.investor_rows.InvestorRow.{InvestorRow}
use Rattle.dealer_desk.specs.declared.events.DealerEvent.{DealerEvent}
use Rattle.dealer_desk.specs.declared.events.DealerEvent.TheVariants as at_desk
use Rattle.investor_desk.specs.InvestorDesk.{market_of}
use Rattle.investor_desk.specs.InvestorOutput as investor_output
use Rattle.investor_desk.specs.InvestorRules.{investor_verdict}
use Rattle.request_room.specs.Book.{expired, hit_outcome, may_expire, passed, reply_of}
use Rattle.request_room.specs.RoomFacts.{is_open, is_vacant}
use Rattle.request_room.specs.declared.events.RoomEvent.{RoomEvent}
use Rattle.venue_steps.specs.RoomDuties.{shown_then_ready, told_in}
use Rattle.venue_steps.specs.declared.actors.Actor.{Actor}
use Rattle.venue_steps.specs.declared.actors.Actor.TheVariants as actor
use Rattle.step_replay.specs.Actions.{Effect, at_dealer}
use Rattle.step_replay.specs.Actions.{dealer_of}
use Rattle.step_replay.specs.Actions.{left_by, nothing, offer_of}
use Rattle.step_replay.specs.Actions.{received_by_dealer, received_by_investor, settlement_of}
use Rattle.step_replay.specs.Actions.{verdict_on, word_for}
use Rattle.step_replay.specs.DutyEffects.{duty_effect, message_effect, sweep_effect}
use Rattle.step_replay.specs.InvestorTrail as investor_trail
use Rattle.step_replay.specs.Lists.{Every}
use Rattle.step_replay.specs.VenueFacts.{Fact, of_dealer, of_investor, of_room}
use Rattle.laws_days.specs.ActionCases.{if_does, invested_does, message_of, numbered_does}
use Rattle.laws_days.specs.DutyWalk.{AnyInvestor, DealerMay, RoomMay, Walks, any_investor}
use Rattle.laws_days.specs.DutyWalk.{duty_walks, settlement_found, sweep_walks}
use Rattle.laws_days.specs.MayLeave.{AreTold, MayLeave, MaySay, drop_each, follows, if_each}
use Rattle.laws_days.specs.MayLeave.{outcome_each, shown_each, some_each, told_each, verdict_each}

-- each duty that an action leaves is so
pub record Leaves (P : Duty → Type 0) (effect : Effect) : Type 0 where
  pub each : Every P effect.duties

module _ (P : Duty → Type 0) (config : Configuration) (facts : List Fact) where
  none : Leaves P nothing
  none = record { each = tt }

  -- Duties.

  abbrev DealerLeaves : ℕ → DealerRow → DealerEvent → List Duty → Type 0
  DealerLeaves number row event left = Every P left

  abbrev RoomLeaves : RoomRef → RoomEvent → List Duty → Type 0
  RoomLeaves room event left = Every P left

  walks : Walks DealerLeaves AnyInvestor RoomLeaves config facts (Leaves P)
  walks = record {
    idle = none;
    at_a_dealer = λ number row found event left each. record { each = each };
    at_an_investor = λ number row found event any. record { each = tt };
    in_a_room = λ room there event no_hit left each. record { each = each };
    by_a_hit = λ room there response word moment each. record { each = each };
  }

  at_dealers : (by : Actor) (d : Duty) → MayLeave P config facts by d
      → DealerMay DealerLeaves config facts by d
  at_dealers by (duty.Show dealer room ask moment) is = λ row found none. tt
  at_dealers by (duty.Tell dealer room close moment) is =
      λ row found request there may. tt
  at_dealers (actor.Firm number) (duty.Drop last moment) is =
      λ row found. drop_each P config facts number last moment row is
  at_dealers by other is = tt

  in_rooms : (by : Actor) (d : Duty) → MayLeave P config facts by d
      → RoomMay RoomLeaves config facts by d
  in_rooms by (duty.Open room ask dealers moment) is =
      if_each P (is_vacant (of_room room facts)) (shown_then_ready room ask dealers moment)
      (shown_each P config facts room moment (λ dealer. duty.Show dealer room ask moment) dealers
      is)
  in_rooms (actor.Firm number) (duty.Post room quote price valid_until moment) is = λ row found.
      follows P _ _ (is (offer_of config (dealer_of number row) quote price valid_until))
  in_rooms (actor.Firm number) (duty.Unpost room quote moment) is = λ row found.
      follows P _ _ (is (word_for config (dealer_of number row) quote))
  in_rooms (actor.Firm number) (duty.Decline room moment) is =
      λ row found. follows P _ _ is
  in_rooms by (duty.Hit room response word moment) is =
      let outcome = hit_outcome (of_room room facts) word moment
      (settlement_found config facts room word moment) in
      (is.0 (reply_of outcome), outcome_each P config facts room moment is.1 outcome)
  in_rooms by (duty.Pass room response moment) is = (
    is.0 (is_open (of_room room facts)),
    if_each P (is_open (of_room room facts)) (told_in (of_room room facts) room passed moment)
        (told_each P config facts room passed moment is.1),
  )
  in_rooms by other is = tt

  pub duty_leaves : (by : Actor) (d : Duty) → MayLeave P config facts by d
      → Leaves P (duty_effect config facts by d)
  duty_leaves by d is =
      duty_walks DealerLeaves AnyInvestor RoomLeaves config facts (Leaves P) walks by d
      (at_dealers by d is) (any_investor AnyInvestor config by d (λ number row event is. tt))
      (in_rooms by d is)

  -- A sweep, and a message of a firm that is a dealer, or that is none.

  pub sweep_leaves : (room : RoomRef) (moment : ℕ) → P (duty.Close room moment)
      → AreTold P config facts room moment → Leaves P (sweep_effect config facts room moment)
  sweep_leaves room moment is told =
      sweep_walks DealerLeaves AnyInvestor RoomLeaves config facts (Leaves P) walks room moment
      (if_each P (may_expire (of_room room facts) moment)
      (duty.Close room moment ∷ told_in (of_room room facts) room expired moment)
      (is, told_each P config facts room expired moment told))

  pub message_leaves : (firm moment : ℕ) (bytes : List ℕ)
      → ((row : DealerRow) → dealer_numbered config firm ≡ Some row
      → MaySay P config facts firm moment
      (verdict_on config facts moment bytes (dealer_of firm row)))
      → ((row : InvestorRow) → is_some (dealer_numbered config firm) ≡ false
      → IfSome (investor_output.verdict_duty (market_of config firm row) moment
      (investor_verdict (market_of config firm row)
      (investor_trail.book_by (of_investor firm facts)) moment bytes)) P)
      → Leaves P (message_effect config facts firm moment bytes)
  unfolding message_effect
  message_leaves firm moment bytes says asks = either (is_some (dealer_numbered config firm)) refl
    where
      either : (b : Bool) → is_some (dealer_numbered config firm) ≡ b
          → Leaves P (message_of config facts firm moment bytes b)
      either true test =
          numbered_does (Leaves P) none config firm (received_by_dealer config facts moment bytes)
          (λ row found.
          let trail = of_dealer firm facts in
          let v = verdict_on config facts moment bytes (dealer_of firm row) in
          if_does (Leaves P) none _ (at_dealer config facts (dealer_of firm row)
          (at_desk.Received moment bytes (settlement_of trail v)) (left_by trail moment v))
          (record {
            each = verdict_each P config facts firm moment v (settlement_of trail v)
                (says row found);
          }))
      either false test =
          invested_does (Leaves P) none config firm (received_by_investor facts moment bytes)
          (λ row. record {
            each = some_each P (investor_output.verdict_duty (market_of config firm row) moment
                (investor_verdict (market_of config firm row)
                (investor_trail.book_by (of_investor firm facts)) moment bytes)) (asks row test);
          })
