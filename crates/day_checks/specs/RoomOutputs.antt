-- What the events in a room leave for the desk of its investor: each quote that took effect there,
-- each reply to a hit or a pass, and that the request expired. (That a quote is gone and that a
-- dealer declined come to that desk, too, and are not among these.)
use Rattle.std.specs.Prelude.{ℕ, Bool, true, false, List, [], ◌∷◌, Option, Some, None, is_some}
use Rattle.std.specs.Prelude.{is_none, Result, is_ok, if◌then◌else◌}
use Rattle.std.specs.Option.{option_map}
use Rattle.market_terms.specs.declared.closes.HitRefusal.{HitRefusal}
use Rattle.market_terms.specs.declared.closes.Reply.{Reply}
use Rattle.quote_word.specs.declared.settled.Settled.{Settled}
use Rattle.request_room.specs.Book.{after_event, hit_outcome, hit_question, may_expire}
use Rattle.request_room.specs.Book.{quote_posted, reply_of}
use Rattle.request_room.specs.RoomFacts.{RoomFact, hears, is_open, is_opening, is_vacant}
use Rattle.request_room.specs.RoomFacts.{takes_quotes}
use Rattle.request_room.specs.declared.events.RoomEvent.{RoomEvent}
use Rattle.request_room.specs.declared.events.RoomEvent.TheVariants as in_room
use Rattle.venue_steps.specs.RoomDuties.{reply_to_pass}
use Rattle.day_checks.specs.declared.room_outputs.RoomOutput.{RoomOutput}
use Rattle.day_checks.specs.declared.room_outputs.RoomOutput.TheVariants as output

-- whether a hit has the settlement of its word exactly where it asks the word
abbrev pub is_settled_as_asked : Result ℕ HitRefusal → Option Settled → Bool
is_settled_as_asked question settlement =
    if is_ok question then is_some settlement else is_none settlement

-- Whether an event may be tried in a room with these facts: the room is opened while it is vacant
-- and made ready while it is opening, it hears the dealers that its request names, and a hit has
-- the settlement of its word exactly where it asks the word. Whoever brings an event to a room sees
-- to that; a list of events may be any.
abbrev pub may_be_tried : List RoomFact → RoomEvent → Bool
may_be_tried facts (in_room.Open request) = is_vacant facts
may_be_tried facts in_room.Ready = is_opening facts
may_be_tried facts (in_room.Post dealer word price valid_until) = hears facts dealer
may_be_tried facts (in_room.Unpost dealer word) = hears facts dealer
may_be_tried facts (in_room.Decline dealer) = hears facts dealer
may_be_tried facts (in_room.Hit word moment settlement) =
    is_settled_as_asked (hit_question facts word moment) settlement
may_be_tried facts (in_room.Pass moment) = true
may_be_tried facts (in_room.Expire moment) = true

-- a reply to a hit or a pass
abbrev pub replied : Bool → ℕ → Reply → Option RoomOutput
replied to_hit moment reply =
    Some (output.Reply (record { to_hit = to_hit; moment = moment; reply = reply }))

-- What an event leaves for the investor in a room with these facts: a quote that takes effect, the
-- reply to a hit or a pass, or that the request expired, by a sweep that ends the room.
abbrev pub output_of : List RoomFact → RoomEvent → Option RoomOutput
output_of facts (in_room.Post dealer word price valid_until) =
    if takes_quotes facts
    then Some (output.Quote (record { posted = quote_posted dealer word price valid_until }))
    else None
output_of facts (in_room.Hit word moment settlement) =
    replied true moment (reply_of (hit_outcome facts word moment settlement))
output_of facts (in_room.Pass moment) = replied false moment (reply_to_pass (is_open facts))
output_of facts (in_room.Expire moment) =
    if may_expire facts moment then Some (output.Expired moment) else None
output_of facts other = None

-- what is left, and what else is behind it
abbrev pub with_output : Option RoomOutput → List RoomOutput → List RoomOutput
with_output None later = later
with_output (Some one) later = one ∷ later

-- what events leave in a room with these facts, in their order, where each of them may be tried
abbrev pub outputs_from : List RoomFact → List RoomEvent → Option (List RoomOutput)
outputs_from facts [] = Some []
outputs_from facts (event ∷ later) =
    if may_be_tried facts event
    then option_map (with_output (output_of facts event))
    (outputs_from (after_event facts event) later)
    else None

-- what all events in a room leave for its investor
abbrev pub outputs_of : List RoomEvent → Option (List RoomOutput)
outputs_of events = outputs_from [] events
