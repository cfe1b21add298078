-- What each step in a room does there, and the duties that it leaves (`RoomDuties`). A step whose
-- condition does not hold (a room that is not vacant, a dealer that is not named) changes nothing
-- and leaves no duty.
use Rattle.std.specs.Prelude.{ℕ, Bool, true, false, List, [], ◌∷◌, ◌++◌}
use Rattle.std.specs.Prelude.{Option, Some, None}
use Rattle.market_terms.specs.declared.asks.Ask.{Ask}
use Rattle.market_terms.specs.declared.closes.Reply.{Reply}
use Rattle.market_terms.specs.declared.closes.Reply.TheVariants as reply
use Rattle.market_terms.specs.declared.duties.Duty.{Duty}
use Rattle.market_terms.specs.declared.rooms.RoomRef.{RoomRef}
use Rattle.request_room.specs.RoomFacts.{RoomFact, is_vacant}
use Rattle.request_room.specs.RoomFacts.{end_of}
use Rattle.request_room.specs.Book.{room_after}
use Rattle.request_room.specs.declared.ends.End.{End}
use Rattle.request_room.specs.declared.events.RoomEvent.{RoomEvent}
use Rattle.request_room.specs.declared.events.RoomEvent.TheVariants as event
pub use Rattle.venue_steps.specs.RoomDuties.{close_at_award, close_by, close_for, dealers_of}
pub use Rattle.venue_steps.specs.RoomDuties.{duties_of_decline, duties_of_expire, duties_of_hit}
pub use Rattle.venue_steps.specs.RoomDuties.{duties_of_open, duties_of_pass, duties_of_post}
pub use Rattle.venue_steps.specs.RoomDuties.{duties_of_unpost, hit_duties, hit_word, is_cover}
pub use Rattle.venue_steps.specs.RoomDuties.{is_winner, reply_to_pass, shown_then_ready, told_in}
pub use Rattle.venue_steps.specs.RoomDuties.{told_of_hit, told_to_each, where_follows}
pub use Rattle.venue_steps.specs.RoomDuties.{word_asked_by}

-- one event more where a step takes place
abbrev pub where_done : Bool → List RoomEvent → RoomEvent → List RoomEvent
where_done true events event = events ++ event ∷ []
where_done false events event = events

-- the room after it is opened
abbrev pub room_after_open : List RoomEvent → Ask → List ℕ → List RoomEvent
room_after_open events ask dealers =
    where_done (is_vacant (room_after events)) events (event.Open (record {
      ask = ask;
      dealers = dealers;
    }))

-- the same where the room has ended, by how it did
abbrev pub told_by : List RoomFact → RoomRef → Option End → ℕ → List Duty
told_by facts at None moment = []
told_by facts at (Some end) moment = told_in facts at end moment

-- the same in a room that has ended
abbrev pub told_of_end : List RoomFact → RoomRef → ℕ → List Duty
told_of_end facts at moment = told_by facts at (end_of facts) moment

-- whether a reply says that the request is awarded
abbrev pub is_award : Reply → Bool
is_award reply.Awarded = true
is_award reply.Passed = false
is_award (reply.Refused refused) = false
