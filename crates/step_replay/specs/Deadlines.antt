-- The deadlines of the requests that have not ended.
use Rattle.std.specs.Prelude.{ℕ, nat_lt, List, map, fold, Option, Some, None, if◌then◌else◌}
use Rattle.std.specs.Option.{option_map}
use Rattle.request_room.specs.RoomFacts.{RoomFact, request_of, takes_quotes}
use Rattle.request_room.specs.declared.requests.RoomRequest.{RoomRequest}
use Rattle.venue_rows.specs.Rows.{Configuration}
use Rattle.step_replay.specs.VenueFacts.{Fact, of_room}
use Rattle.step_replay.specs.VenueRooms.{rooms_of}

-- the deadline of a room that is opening or open
abbrev pub deadline_of : List RoomFact → Option ℕ
deadline_of facts =
    if takes_quotes facts
    then option_map (λ (request : RoomRequest). request.ask.deadline) (request_of facts)
    else None

-- the earlier of two, where there are two
abbrev pub earlier : Option ℕ → Option ℕ → Option ℕ
earlier None other = other
earlier (Some one) None = Some one
earlier (Some one) (Some other) = if nat_lt other one then Some other else Some one

-- the earliest deadline of a room that is opening or open, if there is one
unfoldable pub next_deadline : Configuration → List Fact → Option ℕ
next_deadline config facts =
    fold earlier None (map (λ room. deadline_of (of_room room facts)) (rooms_of config))
