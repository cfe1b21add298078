-- What comes to a room of a replay does what it should.
use Rattle.step_replay.proofs.Common.{◌≡◌, ℕ, Bool, true, false, ◌&&◌, List, [], ◌++◌}
use Rattle.step_replay.proofs.Common.{if◌then◌else◌, refl, sym, ap, ◌∙◌, arith, append-nil}
use Rattle.step_replay.proofs.Common.{Configuration, has_room, Duty, RoomRef, RoomFact, room_after}
use Rattle.step_replay.proofs.Common.{RoomEvent, where_done, Fact, of_room, nothing, room_gets}
use Rattle.step_replay.proofs.Common.{Stands, Does, InvestorPlace, Floor}
use Rattle.market_terms.specs.declared.duties.Duty.TheVariants as duty
use Rattle.request_room.specs.RoomFacts.{Opened, Readied, is_vacant, is_opening, hears}
use Rattle.request_room.specs.RoomFacts.{takes_quotes}
use Rattle.request_room.specs.Book.{event_facts, fact_if, may_unpost}
use Rattle.request_room.specs.declared.events.RoomEvent.TheVariants as at_room
use Rattle.venue_steps.specs.Brought.{room_with, duties_in_room}
use Rattle.venue_steps.specs.declared.arrivals.ForRoom.{ForRoom}
use Rattle.venue_steps.specs.declared.arrivals.ForRoom.TheVariants as to_room
use Rattle.venue_steps.specs.RoomSteps.{where_follows, duties_of_open, duties_of_pass}
use Rattle.venue_steps.specs.RoomSteps.{duties_of_expire, duties_of_decline, duties_of_unpost}
use Rattle.venue_steps.specs.RoomSteps.{duties_of_post}
use Rattle.venue_steps.proofs.EndLemmas.{after_more}
use Rattle.step_replay.specs.Actions.{in_room}
use Rattle.step_replay.proofs.RoomPlaceLemmas.{FoundRoom, floor_with, in_room_stands}

-- the room after an event, where it takes place
pub pushed : (events new : List RoomEvent) (event : RoomEvent) (b : Bool)
    → new ≡ where_done b events event
    → room_after new
    ≡ room_after events ++ (if b then event_facts (room_after events) event else [])
pushed events new event true is = ap room_after is ∙ after_more events event
pushed events new event false is = ap room_after is ∙ sym (append-nil (room_after events))

-- a fact that an event adds where it is so
once : (b : Bool) (fact : RoomFact) → (if b then fact_if b fact else []) ≡ fact_if b fact
once b fact = grind arith

never : {A : Type 0} → true ≡ false → A
never clash = cc

module _ {config : Configuration} {facts : List Fact} {floor : Floor} {at : RoomRef}
    {investor index : ℕ} {old : InvestorPlace} {events : List RoomEvent}
    (before : Stands config facts floor)
    (found : FoundRoom config facts at investor index old events) where
  -- the facts of the room, and the floor with new events in it
  abbrev known : List RoomFact
  known = of_room at facts

  abbrev after : List RoomEvent → Floor
  after new = floor_with floor investor index old new

  -- A step that takes place there where it may, with an event that is tried where it fits.
  step : (may : Bool) (fits : List RoomFact → Bool) (event : RoomEvent) (duties : List Duty)
      (new : List RoomEvent) (left : List Duty)
      → new ≡ where_done (fits (room_after events)) events event → left ≡ duties
      → (if fits known then event_facts known event else [])
      ≡ (if may then event_facts known event else []) → (may ≡ false → duties ≡ [])
      → Does config facts (in_room config facts at may event duties) (after new) left
  step may fits event duties new left grown leaves same none = by_test may same none
    where
      came : room_after new ≡ known ++ (if fits known then event_facts known event else [])
      came = pushed events new event (fits (room_after events)) grown
          ∙ ap (λ k. k ++ (if fits k then event_facts k event else [])) found.known

      by_test : (b : Bool) → (if fits known then event_facts known event else [])
          ≡ (if b then event_facts known event else []) → (b ≡ false → duties ≡ [])
          → Does config facts (in_room config facts at b event duties) (after new) left
      by_test true same none = rw found.has (record {
        stands = in_room_stands before found (event_facts known event) new
            (came ∙ ap (λ l. known ++ l) same);
        leaves = leaves;
      })
      by_test false same none = rw found.has (record {
        stands = in_room_stands before found [] new (came ∙ ap (λ l. known ++ l) same);
        leaves = leaves ∙ none refl;
      })

  -- what comes there does what it should
  pub room_does : (what : ForRoom) (new : List RoomEvent) (left : List Duty)
      → new ≡ room_with events what → left ≡ duties_in_room at events what
      → Does config facts (room_gets config facts at what) (after new) left
  unfolding event_facts room_with duties_in_room room_gets
  room_does (to_room.Open ask dealers moment) new left grown leaves =
      step true is_vacant _ _ new left grown (rw (sym found.known) leaves)
      (once (is_vacant known) _) never
  room_does (to_room.Ready moment) new left grown leaves =
      step true is_opening _ [] new left grown leaves (once (is_opening known) Readied) never
  room_does (to_room.Post dealer offer moment) new left grown leaves =
      step (hears known dealer) (λ k. hears k dealer) _ _ new left grown
      (rw (sym found.known) leaves) refl
      (λ no. ap (λ b. where_follows (b && takes_quotes known) (duty.Relay at offer moment)) no)
  room_does (to_room.Unpost dealer word moment) new left grown leaves =
      step (hears known dealer) (λ k. hears k dealer) _ _ new left grown
      (rw (sym found.known) leaves) refl
      (λ no. ap (λ b. where_follows (b && may_unpost known dealer word) (duty.Gone at word moment)) no)
  room_does (to_room.Decline dealer moment) new left grown leaves =
      step (hears known dealer) (λ k. hears k dealer) _ _ new left grown
      (rw (sym found.known) leaves) refl
      (λ no. ap (λ b. where_follows (b && takes_quotes known) (duty.Declined at moment)) no)
  room_does other new left grown leaves =
      step true (λ k. true) _ _ new left grown (rw (sym found.known) leaves) refl never

-- Where the venue has no such room.

pub none_gets : (config : Configuration) (facts : List Fact) (at : RoomRef)
    → has_room config at.investor at.n ≡ false → (what : ForRoom)
    → room_gets config facts at what ≡ nothing
unfolding room_gets
none_gets config facts at missing what = grind arith
