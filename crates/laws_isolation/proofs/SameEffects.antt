-- Every duty of this side, every message of a firm there and every sweep of a room there does the
-- same where only the facts of this side stand: by the place to which the market's table brings it.
use Rattle.std.proofs.Common.{◌≡◌, ℕ, Bool, true, false, ◌&&◌, List, ◌++◌, map, Option, Some, None}
use Rattle.std.proofs.Common.{IfSome, option_map, is_some, refl, sym, ap, ◌∙◌, subst}
use Rattle.std.proofs.Common.{if◌then◌else◌}
use Rattle.market_terms.specs.declared.closes.HitRefusal.{HitRefusal}
use Rattle.market_terms.specs.declared.duties.Duty.{Duty}
use Rattle.market_terms.specs.declared.rooms.ResponseRef.{ResponseRef}
use Rattle.market_terms.specs.declared.rooms.RoomRef.{RoomRef}
use Rattle.quote_word.specs.declared.settled.Settled.{Settled}
use Rattle.venue_rows.specs.Rows.{Configuration, dealer_numbered, has_room}
use Rattle.venue_rows.specs.declared.dealer_rows.DealerRow.{DealerRow}
use Rattle.investor_desk.specs.InvestorDesk.{market_of}
use Rattle.investor_desk.specs.InvestorRules.{InvestorMarket}
use Rattle.request_room.specs.RoomFacts.{RoomFact}
use Rattle.request_room.specs.Book.{event_facts, hit_outcome, hit_refusal, word_or}
use Rattle.request_room.specs.declared.events.RoomEvent.TheVariants as at_room
use Rattle.venue_steps.specs.RoomSteps.{duties_of_hit, hit_word, word_asked_by}
use Rattle.venue_steps.specs.Words.{has_word}
use Rattle.venue_steps.specs.Placed.{desk_for, desk_of_line, room_for, room_of_line}
use Rattle.venue_steps.specs.Table.{Line, acting_in, brings, drops, line_of, telling}
use Rattle.venue_steps.specs.declared.actors.Actor.{Actor}
use Rattle.venue_steps.specs.declared.actors.Actor.TheVariants as actor
use Rattle.venue_steps.specs.declared.arrivals.ForDealer.{ForDealer}
use Rattle.venue_steps.specs.declared.arrivals.ForDealer.TheVariants as to_dealer
use Rattle.venue_steps.specs.declared.arrivals.ForInvestor.{ForInvestor}
use Rattle.venue_steps.specs.declared.arrivals.ForInvestor.TheVariants as to_investor
use Rattle.venue_steps.specs.declared.arrivals.ForRoom.{ForRoom}
use Rattle.venue_steps.specs.declared.arrivals.ForRoom.TheVariants as to_room
use Rattle.venue_steps.specs.declared.arrivals.Placement.{Placement}
use Rattle.venue_steps.specs.declared.arrivals.Placement.TheVariants as arrival
use Rattle.step_replay.specs.Actions.{Dealer, Effect, QuoteRef, acting_dealer, answer_to_hit}
use Rattle.step_replay.specs.Actions.{dealer_at, dealer_of, done_by}
use Rattle.step_replay.specs.Actions.{dropped_by, hit_in, lifting, nothing}
use Rattle.step_replay.specs.Actions.{quote_asked, quote_with_word, received_by_dealer}
use Rattle.step_replay.specs.Actions.{received_by_investor, words_of}
use Rattle.step_replay.specs.Coming.{arrival_effect, dealer_gets, investor_gets, room_gets}
use Rattle.step_replay.specs.Coming.{room_gets_where}
use Rattle.step_replay.specs.DutyEffects.{duty_effect, line_effect, message_effect, sweep_effect}
use Rattle.step_replay.specs.Lists.{Every}
use Rattle.step_replay.specs.VenueFacts.{Fact, InRoom, of_room}
use Rattle.laws_days.specs.ActionCases.{by_both, invested_both, message_of, numbered_both}
use Rattle.laws_days.specs.ActionCases.{told_to_same}
use Rattle.laws_isolation.proofs.ThereFacts.{FactsOn, HappenedOn, IsOn, OwnerOn, dealer_same}
use Rattle.laws_isolation.proofs.ThereFacts.{investor_same, known, room_on, room_same, word_on}

-- one action is another
abbrev Same : Effect → Effect → Type 0
Same one other = one ≡ other

module _ (side : ℕ → Bool) (config : Configuration) (facts : List Fact) where
  -- the facts of this side
  abbrev here : List Fact
  here = known side facts

  -- A hit asks the word of a quote on this side.

  answer_same : (found : Option QuoteRef) → OwnerOn side true found
      → option_map (answer_to_hit facts) found ≡ option_map (answer_to_hit here) found
  answer_same None on = refl
  answer_same (Some quote) on = rw (dealer_same side facts quote.dealer on) refl

  module _ (room : RoomRef) (is : side room.investor ≡ true) where
    asked_same : FactsOn side config facts → (word moment : ℕ)
        → option_map (answer_to_hit facts)
        (quote_asked config (hit_word (of_room room facts) word moment))
        ≡ option_map (answer_to_hit here)
        (quote_asked config (hit_word (of_room room facts) word moment))
    asked_same on word moment = by_refusal (hit_refusal (of_room room facts) word moment) refl
      where
        by_refusal : (refused : Option HitRefusal)
            → hit_refusal (of_room room facts) word moment ≡ refused
            → option_map (answer_to_hit facts)
            (quote_asked config (word_asked_by (word_or word refused)))
            ≡ option_map (answer_to_hit here)
            (quote_asked config (word_asked_by (word_or word refused)))
        by_refusal (Some refused) none = refl
        by_refusal None none =
            answer_same (quote_with_word config word)
            (word_on side config true (of_room room facts)
            (subst (λ (own : Bool). Every (HappenedOn side config own) (of_room room facts)) is
            (room_on side config room facts on)) word moment none)

    -- a hit by the facts of its room and the settlement of the word
    abbrev hit_by : ResponseRef → ℕ → ℕ → List RoomFact → Option Settled → Effect
    hit_by response word moment l settlement =
        if has_room config room.investor room.n
        && has_word (words_of config) (hit_word l word moment)
        then record {
          facts = lifting (quote_with_word config word) (hit_outcome l word moment settlement)
              ++ map (InRoom room) (event_facts l (at_room.Hit word moment settlement));
          duties = duties_of_hit l room response word moment true settlement;
        }
        else nothing

    hit_same : FactsOn side config facts → (response : ResponseRef) (word moment : ℕ)
        → hit_in config facts room response word moment
        ≡ hit_in config here room response word moment
    hit_same on response word moment =
        ap (hit_by response word moment (of_room room facts)) (asked_same on word moment)
        ∙ ap (λ (l : List RoomFact). hit_by response word moment l
        (option_map (answer_to_hit here) (quote_asked config (hit_word l word moment))))
        (sym (room_same side facts room is))

  -- Who acts, and where something comes.

  desk_same : (number : ℕ) (does : List Fact → Dealer → Effect)
      → ((row : DealerRow) → does facts (dealer_of number row) ≡ does here (dealer_of number row))
      → done_by (dealer_at config number) (does facts)
      ≡ done_by (dealer_at config number) (does here)
  desk_same number does same =
      numbered_both Same refl config number (does facts) (does here) (λ row found. same row)

  act_same : (by : Actor) (does : List Fact → Dealer → Effect)
      → ((dealer : Dealer) → does facts dealer ≡ does here dealer)
      → done_by (acting_dealer config by) (does facts)
      ≡ done_by (acting_dealer config by) (does here)
  act_same by does same = by_both Same refl (acting_dealer config by) (does facts) (does here) same

  -- What comes to a place of this side.

  dealer_gets_same : (what : ForDealer) (dealer : Dealer) → side dealer.number ≡ true
      → dealer_gets config facts what dealer ≡ dealer_gets config here what dealer
  unfolding dealer_gets
  dealer_gets_same (to_dealer.Show room ask moment) dealer is =
      rw (dealer_same side facts dealer.number is) refl
  dealer_gets_same (to_dealer.Tell room close moment) dealer is =
      told_to_same config facts here dealer (dealer_same side facts dealer.number is) room close
      moment

  investor_gets_same : (what : ForInvestor) (market : InvestorMarket) → side market.firm ≡ true
      → investor_gets facts what market ≡ investor_gets here what market
  unfolding investor_gets
  investor_gets_same (to_investor.Answer request response reply moment) market is =
      rw (investor_same side facts market.firm is) refl
  investor_gets_same other market is = rw (investor_same side facts market.firm is) refl

  room_gets_same : (may : Bool) (room : RoomRef) (what : ForRoom) → side room.investor ≡ true
      → room_gets_where config facts may room what ≡ room_gets_where config here may room what
  unfolding room_gets_where
  room_gets_same may room (to_room.Ready moment) is = rw (room_same side facts room is) refl
  room_gets_same may room other is = rw (room_same side facts room is) refl

  -- a desk and a room, where there is one, are on this side
  abbrev AreOn : Option ℕ → Option RoomRef → Type 0
  AreOn desk room =
      IfSome desk (λ (number : ℕ). side number ≡ true)
      × IfSome room (λ (one : RoomRef). side one.investor ≡ true)

  abbrev ComesOn : Placement → Type 0
  ComesOn coming = AreOn (desk_for coming) (room_for coming)

  dropped_same : (number last moment : ℕ) → side number ≡ true
      → done_by (dealer_at config number) (dropped_by config facts last moment)
      ≡ done_by (dealer_at config number) (dropped_by config here last moment)
  dropped_same number last moment is =
      desk_same number (λ l. dropped_by config l last moment)
      (λ row. rw (dealer_same side facts number is) refl)

  arrival_same : FactsOn side config facts → (coming : Placement) → ComesOn coming
      → arrival_effect config facts coming ≡ arrival_effect config here coming
  unfolding arrival_effect room_gets
  arrival_same on (arrival.Dealer firm what) is =
      desk_same firm (λ l. dealer_gets config l what)
      (λ row. dealer_gets_same what (dealer_of firm row) is.0)
  arrival_same on (arrival.Drop firm last moment) is = dropped_same firm last moment is.0
  arrival_same on (arrival.Investor firm what) is =
      invested_both Same refl config firm (investor_gets facts what) (investor_gets here what)
      (λ row. investor_gets_same what (market_of config firm row) is.0)
  arrival_same on (arrival.Room room what) is = room_gets_same true room what is.1
  arrival_same on (arrival.Hit room response word moment) is =
      hit_same room is.1 on response word moment

  -- All duties, by the lines of the table.

  line_same : FactsOn side config facts → (by : Actor) (line : Line)
      → AreOn (desk_of_line by line) (room_of_line line)
      → line_effect config facts by line ≡ line_effect config here by line
  line_same on by (brings coming) is = arrival_same on coming is
  line_same on by (acting_in room may bring) is =
      act_same by (λ l dealer. room_gets_where config l (may dealer) room (bring dealer))
      (λ dealer. room_gets_same (may dealer) room (bring dealer) is.1)
  line_same on by (telling firm bring) is =
      act_same by (λ l dealer. arrival_effect config l (arrival.Investor firm (bring dealer)))
      (λ dealer. arrival_same on (arrival.Investor firm (bring dealer)) is)
  line_same on (actor.Firm number) (drops last moment) is = dropped_same number last moment is.0
  line_same on actor.Clock (drops last moment) is = refl

  pub duty_same : (by : Actor) (d : Duty) → FactsOn side config facts
      → IsOn side config true by d
      → duty_effect config facts by d ≡ duty_effect config here by d
  unfolding duty_effect
  duty_same by d on is = line_same on by (line_of config d) (is.desk_on, is.room_on)

  pub sweep_same : (room : RoomRef) (moment : ℕ) → side room.investor ≡ true
      → sweep_effect config facts room moment ≡ sweep_effect config here room moment
  unfolding sweep_effect
  sweep_same room moment is = rw (room_same side facts room is) refl

  pub message_same : (firm moment : ℕ) (bytes : List ℕ) → side firm ≡ true
      → message_effect config facts firm moment bytes ≡ message_effect config here firm moment bytes
  unfolding message_effect
  message_same firm moment bytes is = either (is_some (dealer_numbered config firm))
    where
      either : (b : Bool)
          → message_of config facts firm moment bytes b ≡ message_of config here firm moment bytes b
      either true =
          desk_same firm (λ l. received_by_dealer config l moment bytes)
          (λ row. rw (dealer_same side facts firm is) refl)
      either false =
          invested_both Same refl config firm (received_by_investor facts moment bytes)
          (received_by_investor here moment bytes)
          (λ row. rw (investor_same side facts firm is) refl)
