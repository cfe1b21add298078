-- What an action does is what comes by the market's table.
use Rattle.step_replay.proofs.Common.{◌≡◌, ◌&&◌, ℕ, Bool, true, false, List, is_some, Option, Some}
use Rattle.step_replay.proofs.Common.{None, if◌then◌else◌, option_map, refl, sym, ap, subst, ◌<◌, []}
use Rattle.step_replay.proofs.Common.{length, ◌∙◌, Duty, RoomRef, Configuration, dealer_numbered}
use Rattle.step_replay.proofs.Common.{placed, swept, Actor, Effect, nothing, done_by, done_for}
use Rattle.step_replay.proofs.Common.{dropped_by, duty_effect, sweep_effect, dealer_gets}
use Rattle.step_replay.proofs.Common.{investor_gets, room_gets, Fact, ActsOnce, Does, Stands, Floor}
use Rattle.step_replay.proofs.Common.{has_item}
use Rattle.std.specs.Prelude.{option_and_then}
use Rattle.market_terms.specs.declared.rooms.ResponseRef.{ResponseRef}
use Rattle.venue_rows.specs.Rows.{has_room, investor_numbered}
use Rattle.venue_rows.specs.declared.dealer_rows.DealerRow.{DealerRow}
use Rattle.venue_rows.specs.declared.investor_rows.InvestorRow.{InvestorRow}
use Rattle.investor_desk.specs.InvestorDesk.{market_of}
use Rattle.investor_desk.specs.InvestorRules.{InvestorMarket}
use Rattle.venue_steps.specs.Dealers.{Dealer, acting_dealer, dealer_of}
use Rattle.venue_steps.specs.Placed.{has_place, placed_by, where_there}
use Rattle.venue_steps.specs.Table.{Line, acting_in, brings, drops, line_of, telling}
use Rattle.venue_steps.specs.declared.actors.Actor.TheVariants as actor
use Rattle.venue_steps.specs.declared.arrivals.ForInvestor.{ForInvestor}
use Rattle.venue_steps.specs.declared.arrivals.ForRoom.{ForRoom}
use Rattle.venue_steps.specs.declared.arrivals.ForRoom.TheVariants as to_room
use Rattle.venue_steps.specs.declared.arrivals.Placement.{Placement}
use Rattle.venue_steps.specs.declared.arrivals.Placement.TheVariants as arrival
use Rattle.step_replay.specs.Coming.{arrival_effect, room_gets_where}
use Rattle.step_replay.specs.WhereComing.{effect_where}
use Rattle.step_replay.specs.DutyEffects.{line_effect}
use Rattle.step_replay.proofs.FloorLemmas.{dealer_count}
use Rattle.step_replay.proofs.FoundDealers.{idle_does}
use Rattle.step_replay.proofs.RoomActionLemmas.{none_gets}

module _ (config : Configuration) (facts : List Fact) where
  -- What is brought to a place that the venue does not have does nothing.

  no_dealer : (number : ℕ) (action : Dealer → Effect) (found : Option DealerRow)
      → is_some found ≡ false → done_by (option_map (dealer_of number) found) action ≡ nothing
  no_dealer number action None none = refl
  no_dealer number action (Some row) none = cc

  no_investor : (number : ℕ) (action : InvestorMarket → Effect) (found : Option InvestorRow)
      → is_some found ≡ false
      → done_for (option_map (market_of config number) found) action ≡ nothing
  no_investor number action None none = refl
  no_investor number action (Some row) none = cc

  no_hit : (room : RoomRef) (response : ResponseRef) (word moment : ℕ)
      → has_room config room.investor room.n ≡ false
      → arrival_effect config facts (arrival.Hit room response word moment) ≡ nothing
  unfolding arrival_effect
  no_hit room response word moment none = rw none refl

  not_there : (coming : Placement) → has_place config coming ≡ false
      → arrival_effect config facts coming ≡ nothing
  unfolding arrival_effect
  not_there (arrival.Dealer firm what) none =
      no_dealer firm (dealer_gets config facts what) (dealer_numbered config firm) none
  not_there (arrival.Drop firm last moment) none = cc
  not_there (arrival.Investor firm what) none =
      no_investor firm (investor_gets facts what) (investor_numbered config firm) none
  not_there (arrival.Room room what) none = none_gets config facts room none what
  not_there (arrival.Hit room response word moment) none = no_hit room response word moment none

  place_comes : (coming : Placement)
      → arrival_effect config facts coming ≡ effect_where config facts (where_there config coming)
  place_comes coming = by_test (has_place config coming) refl
    where
      by_test : (b : Bool) → has_place config coming ≡ b
          → arrival_effect config facts coming
          ≡ effect_where config facts (if b then Some coming else None)
      by_test true there = refl
      by_test false none = not_there coming none

  -- What a room may not get does nothing.

  neither : (b : Bool) (effect : Effect) → (if b && false then effect else nothing) ≡ nothing
  neither true effect = refl
  neither false effect = refl

  may_not : (room : RoomRef) (what : ForRoom)
      → room_gets_where config facts false room what ≡ nothing
  unfolding room_gets_where
  may_not room (to_room.Ready moment) = neither (has_room config room.investor room.n) _
  may_not room other = neither (has_room config room.investor room.n) _

  -- The table, by the kinds of its lines.

  telling_comes : (firm : ℕ) (bring : Dealer → ForInvestor) (found : Option Dealer)
      → done_by found (λ dealer. arrival_effect config facts (arrival.Investor firm (bring dealer)))
      ≡ effect_where config facts (option_and_then (λ dealer.
      where_there config (arrival.Investor firm (bring dealer))) found)
  telling_comes firm bring None = refl
  telling_comes firm bring (Some dealer) = place_comes (arrival.Investor firm (bring dealer))

  in_its_room : (room : RoomRef) (what : ForRoom)
      → room_gets_where config facts true room what
      ≡ arrival_effect config facts (arrival.Room room what)
  unfolding arrival_effect room_gets
  in_its_room room what = refl

  acting_comes : (room : RoomRef) (may : Dealer → Bool) (bring : Dealer → ForRoom)
      (found : Option Dealer)
      → done_by found (λ dealer. room_gets_where config facts (may dealer) room (bring dealer))
      ≡ effect_where config facts (option_and_then (λ dealer.
      if may dealer then where_there config (arrival.Room room (bring dealer)) else None) found)
  acting_comes room may bring None = refl
  acting_comes room may bring (Some dealer) = by_test (may dealer)
    where
      by_test : (b : Bool) → room_gets_where config facts b room (bring dealer)
          ≡ effect_where config facts
          (if b then where_there config (arrival.Room room (bring dealer)) else None)
      by_test true =
          in_its_room room (bring dealer) ∙ place_comes (arrival.Room room (bring dealer))
      by_test false = may_not room (bring dealer)

  own_drop : (last moment number : ℕ) (found : Option DealerRow)
      → dealer_numbered config number ≡ found
      → done_by (option_map (dealer_of number) found) (dropped_by config facts last moment)
      ≡ effect_where config facts
      (option_and_then (λ (dealer : Dealer). Some (arrival.Drop dealer.number last moment))
      (option_map (dealer_of number) found))
  unfolding arrival_effect
  own_drop last moment number None is = refl
  own_drop last moment number (Some row) is = rw is refl

  drop_comes : (last moment : ℕ) (by : Actor)
      → done_by (acting_dealer config by) (dropped_by config facts last moment)
      ≡ effect_where config facts
      (option_and_then (λ (dealer : Dealer). Some (arrival.Drop dealer.number last moment))
      (acting_dealer config by))
  drop_comes last moment actor.Clock = refl
  drop_comes last moment (actor.Firm number) =
      own_drop last moment number (dealer_numbered config number) refl

  line_comes : (by : Actor) (line : Line)
      → line_effect config facts by line ≡ effect_where config facts (placed_by config by line)
  line_comes by (brings coming) = place_comes coming
  line_comes by (acting_in room may bring) =
      acting_comes room may bring (acting_dealer config by)
  line_comes by (telling firm bring) = telling_comes firm bring (acting_dealer config by)
  line_comes by (drops last moment) = drop_comes last moment by

  pub duty_comes : (by : Actor) (d : Duty)
      → duty_effect config facts by d ≡ effect_where config facts (placed config by d)
  unfolding duty_effect placed
  duty_comes by d = line_comes by (line_of config d)

  pub sweep_comes : (room : RoomRef) (moment : ℕ)
      → sweep_effect config facts room moment ≡ effect_where config facts (swept config room moment)
  unfolding sweep_effect arrival_effect
  sweep_comes room moment = place_comes (arrival.Room room (to_room.Expire moment))

-- An action by what the table gives for it, or gives not.
module _ {effect : Configuration → List Fact → Effect} (gives : Configuration → Option Placement)
    (line : (config : Configuration) (facts : List Fact)
    → effect config facts ≡ effect_where config facts (gives config))
    (before : Floor) where
  given : (config : Configuration) (facts : List Fact) (coming : Option Placement)
      → Stands config facts before → coming ≡ gives before.config
      → effect config facts ≡ effect_where config facts coming
  given config facts coming stands is =
      line config facts
      ∙ ap (effect_where config facts) (ap gives (sym stands.config_is) ∙ sym is)

  pub something_comes : (after : Floor) (duties : List Duty) (coming : Placement)
      → Some coming ≡ gives before.config
      → ActsOnce (λ config facts. arrival_effect config facts coming) before after duties
      → ActsOnce effect before after duties
  something_comes after duties coming is acts config facts stands one =
      subst (λ (e : Effect). Does config facts e after duties)
      (sym (given config facts (Some coming) stands is)) (acts config facts stands one)

  pub nothing_comes : (duties : List Duty) → None ≡ gives before.config → duties ≡ []
      → ActsOnce effect before before duties
  nothing_comes duties is leaves config facts stands one =
      idle_does config facts before _ duties stands leaves (given config facts None stands is)

-- a firm is a dealer where the floor has its place among the dealers'
pub dealer_here : {config : Configuration} {facts : List Fact} {floor : Floor} (firm : ℕ)
    → Stands config facts floor → firm < length floor.dealers.items
    → is_some (dealer_numbered config firm) ≡ true
dealer_here {config} {facts} {floor} firm before within =
    has_item config.dealers firm
    (subst (λ n. firm < n) (dealer_count config facts floor before) within)
