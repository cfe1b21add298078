-- A room without prices, and whoever was the cover. No step of a room asks for a price but to find
-- the cover: where two rooms are one but for both, each step does the same in both.
use Rattle.std.specs.Prelude.{None, Result, Ok, Err}
use Rattle.market_terms.specs.declared.closes.HitRefusal.{HitRefusal}
use Rattle.request_room.specs.RoomFacts.{RoomFact, Posted, Ended}
use Rattle.request_room.specs.declared.ends.End.{End}
use Rattle.request_room.specs.declared.events.RoomEvent.{RoomEvent}
use Rattle.request_room.specs.declared.events.RoomEvent.TheVariants as event
use Rattle.request_room.specs.declared.quotes.PostedQuote.{PostedQuote}

-- a quote
abbrev pub unpriced_quote : PostedQuote → PostedQuote
unpriced_quote quote = record quote { price = 0 }

-- how the room ended
abbrev pub uncovered_end : End → End
uncovered_end end = record end { cover = None }

-- a fact
abbrev pub unpriced : RoomFact → RoomFact
unpriced (Posted quote) = Posted (unpriced_quote quote)
unpriced (Ended end moment) = Ended (uncovered_end end) moment
unpriced fact = fact

-- what is tried on the room
abbrev pub unpriced_event : RoomEvent → RoomEvent
unpriced_event (event.Post dealer word price valid_until) = event.Post dealer word 0 valid_until
unpriced_event other = other

-- what becomes of a hit
abbrev pub uncovered : Result End HitRefusal → Result End HitRefusal
uncovered (Ok award) = Ok (uncovered_end award)
uncovered (Err refused) = Err refused
