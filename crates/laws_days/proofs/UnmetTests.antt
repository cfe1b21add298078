-- An action whose test fails does nothing.
use Rattle.std.proofs.Common.{◌≡◌, ℕ, Bool, true, false, ◌&&◌, not, List, [], Option, Some, None}
use Rattle.std.proofs.Common.{if◌then◌else◌, is_some, refl, ◌∙◌}
use Rattle.market_terms.specs.declared.asks.Ask.{Ask}
use Rattle.market_terms.specs.declared.closes.Close.{Close}
use Rattle.market_terms.specs.declared.closes.Reply.{Reply}
use Rattle.market_terms.specs.declared.duties.Duty.{Duty}
use Rattle.market_terms.specs.declared.duties.Duty.TheVariants as duty
use Rattle.market_terms.specs.declared.rooms.ResponseRef.{ResponseRef}
use Rattle.market_terms.specs.declared.rooms.RoomRef.{RoomRef}
use Rattle.venue_rows.specs.Rows.{Configuration}
use Rattle.investor_desk.specs.InvestorDesk.{market_for}
use Rattle.investor_desk.specs.InvestorRules.{InvestorMarket}
use Rattle.investor_desk.specs.declared.events.InvestorEvent.{InvestorEvent}
use Rattle.investor_desk.specs.declared.events.InvestorEvent.TheVariants as at_investor
use Rattle.request_room.specs.Book.{event_facts}
use Rattle.request_room.specs.RoomFacts.{hears, is_opening, is_vacant}
use Rattle.request_room.specs.declared.events.RoomEvent.{RoomEvent}
use Rattle.request_room.specs.declared.events.RoomEvent.TheVariants as at_room
use Rattle.venue_steps.specs.InvestorSteps.{replies_to}
use Rattle.venue_steps.specs.declared.actors.Actor.{Actor}
use Rattle.step_replay.specs.Actions.{Dealer, Effect}
use Rattle.step_replay.specs.Actions.{done_by, done_for}
use Rattle.step_replay.specs.Actions.{has_word_for, in_room, nothing}
use Rattle.step_replay.specs.Actions.{received_by_dealer, told_of}
use Rattle.step_replay.specs.Actions.{where_known}
use Rattle.step_replay.specs.LineActions.{answered_by, at_investor_of, opened}
use Rattle.step_replay.specs.DutyEffects.{duty_effect}
use Rattle.step_replay.specs.VenueFacts.{Fact, of_dealer, of_room}
use Rattle.laws_days.specs.Conditions.{has_word_asked, holds_for, is_closable}
use Rattle.laws_days.specs.Conditions.{is_heard_on, is_known, is_known_to, is_met, is_room}

-- What is done where there is something of which a test holds.

by_unmet : (found : Option Dealer) (test : Dealer → Bool) (act : Dealer → Effect)
    → holds_for found test ≡ false
    → ((dealer : Dealer) → test dealer ≡ false → act dealer ≡ nothing) → done_by found act ≡ nothing
by_unmet None test act isnt each = refl
by_unmet (Some dealer) test act isnt each = each dealer isnt

for_unmet : (found : Option InvestorMarket) (test : InvestorMarket → Bool)
    (act : InvestorMarket → Effect)
    → ((market : InvestorMarket) → test market ≡ false → act market ≡ nothing)
    → holds_for found test ≡ false → done_for found act ≡ nothing
for_unmet None test act each isnt = refl
for_unmet (Some market) test act each isnt = each market isnt

for_none : (found : Option InvestorMarket) (act : InvestorMarket → Effect)
    → ((market : InvestorMarket) → act market ≡ nothing) → done_for found act ≡ nothing
for_none None act each = refl
for_none (Some market) act each = each market

from_not : (b : Bool) → not b ≡ false → b ≡ true
from_not true isnt = refl
from_not false isnt = cc

if_unmet : (b : Bool) (effect : Effect) → b ≡ false → (if b then effect else nothing) ≡ nothing
if_unmet b effect isnt = rw isnt refl

unless_unmet : (b : Bool) (effect : Effect) → not b ≡ false
    → (if b then nothing else effect) ≡ nothing
unless_unmet b effect isnt = rw (from_not b isnt) refl

swapped : (a b c : Bool) → (a && (b && c)) ≡ (b && (a && c))
swapped true true c = refl
swapped true false c = refl
swapped false true c = refl
swapped false false c = refl

module _ (config : Configuration) (facts : List Fact) where
  -- In a room.

  room_unmet : (room : RoomRef) (may : Bool) (event : RoomEvent) (duties : List Duty)
      → (is_room config room && may) ≡ false
      → in_room config facts room may event duties ≡ nothing
  room_unmet room may event duties isnt = rw isnt refl

  open_unmet : (room : RoomRef) (ask : Ask) (dealers : List ℕ) (moment : ℕ)
      → (is_room config room && is_vacant (of_room room facts)) ≡ false
      → opened config facts room ask dealers moment ≡ nothing
  unfolding event_facts
  open_unmet room ask dealers moment isnt = by_room (is_room config room) refl isnt
    where
      by_room : (b : Bool) → is_room config room ≡ b
          → (b && is_vacant (of_room room facts)) ≡ false
          → opened config facts room ask dealers moment ≡ nothing
      by_room false is fails = rw is refl
      by_room true is fails = rw (is, fails) refl

  ready_unmet : (room : RoomRef)
      → (is_room config room && is_opening (of_room room facts)) ≡ false
      → in_room config facts room true at_room.Ready [] ≡ nothing
  unfolding event_facts
  ready_unmet room isnt = by_room (is_room config room) refl isnt
    where
      by_room : (b : Bool) → is_room config room ≡ b
          → (b && is_opening (of_room room facts)) ≡ false
          → in_room config facts room true at_room.Ready [] ≡ nothing
      by_room false is fails = rw is refl
      by_room true is fails = rw (is, fails) refl

  pass_unmet : (room : RoomRef) (event : RoomEvent) (duties : List Duty)
      → is_room config room ≡ false → in_room config facts room true event duties ≡ nothing
  pass_unmet room event duties isnt = rw isnt refl

  heard_unmet : (room : RoomRef) (quote : ℕ) (dealer : Dealer) (event : RoomEvent)
      (duties : List Duty) → is_heard_on config facts room quote dealer ≡ false
      → in_room config facts room
      (has_word_for config dealer quote && hears (of_room room facts) dealer.number) event duties
      ≡ nothing
  heard_unmet room quote dealer event duties isnt =
      room_unmet room (has_word_for config dealer quote && hears (of_room room facts) dealer.number)
      event duties
      (swapped (is_room config room) (has_word_for config dealer quote)
      (hears (of_room room facts) dealer.number) ∙ isnt)

  -- At a desk.

  known_unmet : (room : RoomRef) (quote : Option ℕ) (event : InvestorEvent)
      → is_known config facts room quote ≡ false
      → at_investor_of config room (where_known facts room.n quote event) ≡ nothing
  known_unmet room quote event isnt =
      for_unmet (market_for config room.investor) (is_known_to facts room.n quote)
      (where_known facts room.n quote event) (λ market fails. rw fails refl) isnt

  declined_unmet : (found : Option Dealer) (room : RoomRef) (moment : ℕ)
      → (is_some found && is_known config facts room None) ≡ false
      → done_by found (λ (dealer : Dealer). at_investor_of config room
      (where_known facts room.n None (at_investor.DealerDeclined room.n dealer.row.name moment)))
      ≡ nothing
  declined_unmet None room moment isnt = refl
  declined_unmet (Some dealer) room moment isnt =
      known_unmet room None (at_investor.DealerDeclined room.n dealer.row.name moment) isnt

  answer_unmet : (room : RoomRef) (response : ResponseRef) (reply : Reply) (moment : ℕ)
      → (replies_to response.k reply && is_known config facts room response.k) ≡ false
      → at_investor_of config room (answered_by facts room response reply moment) ≡ nothing
  answer_unmet room response reply moment isnt = by_reply (replies_to response.k reply) refl isnt
    where
      by_reply : (b : Bool) → replies_to response.k reply ≡ b
          → (b && is_known config facts room response.k) ≡ false
          → at_investor_of config room (answered_by facts room response reply moment) ≡ nothing
      by_reply false is fails =
          for_none (market_for config room.investor) (answered_by facts room response reply moment)
          (λ market. rw is refl)
      by_reply true is fails =
          for_unmet (market_for config room.investor) (is_known_to facts room.n response.k)
          (answered_by facts room response reply moment) (λ market never. rw (is, never) refl) fails

  told_unmet : (dealer : Dealer) (close : Close) (moment : ℕ) (number : Option ℕ)
      → holds_for number (is_closable (of_dealer dealer.number facts)) ≡ false
      → told_of config facts dealer close moment number ≡ nothing
  told_unmet dealer close moment None isnt = refl
  told_unmet dealer close moment (Some request) isnt = rw isnt refl

  -- All duties.

  ruleset each_unmet = (by_unmet, for_unmet, if_unmet, unless_unmet, open_unmet, ready_unmet, heard_unmet, pass_unmet, declined_unmet, answer_unmet, told_unmet)

  pub unmet : (actor : Actor) (left : Duty) → is_met config facts actor left ≡ false
      → duty_effect config facts actor left ≡ nothing
  unfolding is_met duty_effect
  unmet actor (duty.Hit room response word moment) isnt = rw isnt refl
  unmet actor other isnt = search each_unmet

  -- a message of a dealer that asks a word which the venue does not have
  pub unasked : (dealer : Dealer) (moment : ℕ) (bytes : List ℕ)
      → has_word_asked config facts moment bytes dealer ≡ false
      → received_by_dealer config facts moment bytes dealer ≡ nothing
  unfolding has_word_asked
  unasked dealer moment bytes isnt = rw isnt refl
