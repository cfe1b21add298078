-- Requests whose deadline has come.
use Rattle.std.specs.Prelude.{ℕ, Bool, ◌&&◌, nat_le, Option, Some, None, false}
use Rattle.market_terms.specs.declared.rooms.RoomRef.{RoomRef}
use Rattle.request_room.specs.RoomFacts.{is_open, request_of}
use Rattle.request_room.specs.declared.requests.RoomRequest.{RoomRequest}
use Rattle.step_replay.specs.AuditTrail.{AuditTrail}
use Rattle.step_replay.specs.VenueFacts.{of_room}

-- whether the deadline of a request is at this moment or before it
abbrev pub deadline_has_come : ℕ → Option RoomRequest → Bool
deadline_has_come moment None = false
deadline_has_come moment (Some request) = nat_le request.ask.deadline moment

-- whether a room is open whose deadline has come
abbrev pub is_overdue : ℕ → AuditTrail → RoomRef → Bool
is_overdue moment day room =
    is_open (of_room room day.facts) && deadline_has_come moment (request_of (of_room room day.facts))
