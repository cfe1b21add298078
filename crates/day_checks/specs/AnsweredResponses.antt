-- What investors are answered, however the threads of a day ran: the hits and passes in a room, in
-- their order, have the replies that its investor's desk was answered for that request, each at the
-- moment of its response, and there are no others. Where a sweep ended the room, that desk was told
-- so once, at the moment of that sweep, and else it was not told so.
--
-- One session alone makes the hits and passes of a room, that of its investor, and it brings the
-- reply to each to its own desk before it takes the next message. So they come in the room's order,
-- also where they were refused, and where the room has ended. That it ended by a sweep comes from
-- the clock in its own time, so a reply to a later response may have come before.
use Rattle.std.specs.Prelude.{ℕ, Bool, true, false, ◌&&◌, ◌==◌, not, List, [], ◌∷◌, Option, Some}
use Rattle.std.specs.Prelude.{None, if◌then◌else◌}
use Rattle.std.specs.Cmp.Lexicographic.{pointwise}
use Rattle.std.specs.List.{filter_map}
use Rattle.std.specs.Str.{bytes_eq}
use Rattle.market_terms.specs.declared.closes.HitRefusal.{HitRefusal}
use Rattle.market_terms.specs.declared.closes.HitRefusal.TheVariants as refusal
use Rattle.market_terms.specs.declared.closes.Reply.{Reply}
use Rattle.market_terms.specs.declared.closes.Reply.TheVariants as reply
use Rattle.market_terms.specs.declared.rooms.RoomRef.{RoomRef}
use Rattle.recorded_days.specs.Records.{InvestorLists}
use Rattle.day_checks.specs.Arrivals.{arrivals_from}
use Rattle.day_checks.specs.DayChecks.{DayRoom}
use Rattle.day_checks.specs.RoomOutputs.{outputs_of}
use Rattle.day_checks.specs.declared.arrivals.Arrival.{Arrival}
use Rattle.day_checks.specs.declared.arrivals.Arrival.TheVariants as arrival
use Rattle.day_checks.specs.declared.room_outputs.RoomOutput.{RoomOutput}
use Rattle.day_checks.specs.declared.room_outputs.RoomOutput.TheVariants as output
use Rattle.day_checks.specs.declared.room_outputs.RoomReply.{RoomReply}

-- Replies.

-- a number for each refusal, behind those of the other replies
abbrev pub refusal_code : HitRefusal → ℕ
refusal_code refusal.NotOpen = 2
refusal_code refusal.Deadline = 3
refusal_code refusal.Gone = 4
refusal_code refusal.Expired = 5
refusal_code refusal.Withdrawn = 6

-- a number for each reply, by which replies are compared
abbrev pub reply_code : Reply → ℕ
reply_code reply.Awarded = 0
reply_code reply.Passed = 1
reply_code (reply.Refused why) = refusal_code why

-- whether two responses are of one kind, both hits or both passes
abbrev pub same_kind : Bool → Bool → Bool
same_kind true hit = hit
same_kind false hit = not hit

-- whether two replies are the same, and to responses of one kind and moment
abbrev pub same_reply : RoomReply → RoomReply → Bool
same_reply one other =
    same_kind one.to_hit other.to_hit
    && (one.moment == other.moment)
    && (reply_code one.reply == reply_code other.reply)

-- the reply that a room leaves
abbrev pub reply_left : RoomOutput → Option RoomReply
reply_left (output.Quote quote) = None
reply_left (output.Reply reply) = Some reply
reply_left (output.Expired moment) = None

-- the reply that came
abbrev pub reply_arrived : Arrival → Option RoomReply
reply_arrived (arrival.Quote offer) = None
reply_arrived (arrival.Reply reply) = Some reply
reply_arrived (arrival.Expired moment) = None

-- Expiries.

-- the moment at which a room left that its request expired
abbrev pub expiry_left : RoomOutput → Option ℕ
expiry_left (output.Quote quote) = None
expiry_left (output.Reply reply) = None
expiry_left (output.Expired moment) = Some moment

-- the moment of an expiry that came
abbrev pub expiry_arrived : Arrival → Option ℕ
expiry_arrived (arrival.Quote offer) = None
expiry_arrived (arrival.Reply reply) = None
expiry_arrived (arrival.Expired moment) = Some moment

-- Rooms.

-- whether the replies that a room left are, one by one, those that came
abbrev pub have_replies : List RoomOutput → List Arrival → Bool
have_replies outputs arrivals =
    pointwise same_reply (filter_map reply_left outputs) (filter_map reply_arrived arrivals)

-- whether the expiries that a room left are, one by one, those that came
abbrev pub have_expiries : List RoomOutput → List Arrival → Bool
have_expiries outputs arrivals =
    bytes_eq (filter_map expiry_left outputs) (filter_map expiry_arrived arrivals)

-- whether the replies and the expiry that a room left are those that came
abbrev pub are_answered : List RoomOutput → List Arrival → Bool
are_answered outputs arrivals = have_replies outputs arrivals && have_expiries outputs arrivals

-- the same of a room with these outputs, where it has any
abbrev pub are_answered_where : Option (List RoomOutput) → List Arrival → Bool
are_answered_where None arrivals = false
are_answered_where (Some outputs) arrivals = are_answered outputs arrivals

-- whether the hits and passes of a room were answered, and its expiry told, where this came from
-- the room
abbrev pub is_answered : List Arrival → DayRoom → Bool
is_answered arrivals room = are_answered_where (outputs_of room.day.events) arrivals

-- the first room whose hits and passes were not answered as the room replied: the investors are
-- numbered onward from this number
abbrev pub first_unanswered : ℕ → List InvestorLists → List DayRoom → Option RoomRef
first_unanswered first investors [] = None
first_unanswered first investors (room ∷ later) =
    if is_answered (arrivals_from room.at first investors) room
    then first_unanswered first investors later
    else Some room.at
