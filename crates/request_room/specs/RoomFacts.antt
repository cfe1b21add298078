-- The facts of a room, and what follows from them: whether it is vacant, opening, open or ended,
-- what is asked for, of which dealers, and how it ended. Facts are only ever added.
use Rattle.std.specs.Prelude.{ℕ, Bool, true, false, ◌&&◌, ◌||◌, ◌==◌, not, List, [], ◌∷◌}
use Rattle.std.specs.Prelude.{Option, Some, None, is_some, is_none}
use Rattle.std.specs.List.{list_any}
use Rattle.std.specs.Option.{option_or}
use Rattle.request_room.specs.declared.ends.End.{End}
use Rattle.request_room.specs.declared.ends.EndKind.{EndKind}
use Rattle.request_room.specs.declared.ends.EndKind.TheVariants.{Awarded, Passed, Expired}
use Rattle.request_room.specs.declared.requests.RoomRequest.{RoomRequest}
use Rattle.request_room.specs.declared.quotes.PostedQuote.{PostedQuote}

-- what became so in a room
pub data RoomFact : Type 0 where
  Opened : RoomRequest → RoomFact  -- it was opened for a request
  Readied : RoomFact  -- each named dealer was shown the request
  Posted : PostedQuote → RoomFact  -- a quote was posted
  Unposted : ℕ → ℕ → RoomFact  -- the dealer's quote with this word was taken out
  Noted : ℕ → RoomFact  -- the dealer declined
  Ended : End → ℕ → RoomFact  -- it ended so, at this moment

-- the first that some facts say, where any of them says something
abbrev pub first_said : {A : Type 0} → (RoomFact → Option A) → List RoomFact → Option A
first_said says [] = None
first_said says (fact ∷ later) = option_or (says fact) (first_said says later)

-- the request that a fact opens the room for
abbrev pub opened_for : RoomFact → Option RoomRequest
opened_for (Opened request) = Some request
opened_for fact = None

-- how a fact ends the room
abbrev pub ended_as : RoomFact → Option End
ended_as (Ended end moment) = Some end
ended_as fact = None

-- whether a fact says that each named dealer was shown the request
abbrev pub is_readied : RoomFact → Bool
is_readied Readied = true
is_readied fact = false

-- the request of the room, once it was opened
abbrev pub request_of : List RoomFact → Option RoomRequest
request_of facts = first_said opened_for facts

-- how the room ended, once it has
abbrev pub end_of : List RoomFact → Option End
end_of facts = first_said ended_as facts

-- whether each named dealer was shown the request
abbrev pub is_ready : List RoomFact → Bool
is_ready facts = list_any is_readied facts

-- ended for good
abbrev pub is_ended : List RoomFact → Bool
is_ended facts = is_some (end_of facts)

-- vacant until it is opened
abbrev pub is_vacant : List RoomFact → Bool
is_vacant facts = is_none (request_of facts) && not (is_ended facts)

-- opening until each named dealer was shown the request
abbrev pub is_opening : List RoomFact → Bool
is_opening facts = is_some (request_of facts) && not (is_ready facts) && not (is_ended facts)

-- open from then on until it ends
abbrev pub is_open : List RoomFact → Bool
is_open facts = is_ready facts && not (is_ended facts)

-- posts, unposts and declines are taken while the room is opening or open
abbrev pub takes_quotes : List RoomFact → Bool
takes_quotes facts = is_some (request_of facts) && not (is_ended facts)

-- whether the request names a dealer
abbrev pub names : Option RoomRequest → ℕ → Bool
names None dealer = false
names (Some request) dealer = list_any (λ named. named == dealer) request.dealers

-- whether the room's request names a dealer
abbrev pub is_named : List RoomFact → ℕ → Bool
is_named facts dealer = names (request_of facts) dealer

-- whom a room hears: the dealers that its request names; while it is vacant anyone, and then
-- nothing follows
abbrev pub hears : List RoomFact → ℕ → Bool
hears facts dealer = is_vacant facts || is_named facts dealer

-- whether a fact ends the room
abbrev pub is_ending : RoomFact → Bool
is_ending (Ended end moment) = true
is_ending fact = false

-- whether an end of this kind is an award
abbrev pub is_awarded_kind : EndKind → Bool
is_awarded_kind Awarded = true
is_awarded_kind Passed = false
is_awarded_kind Expired = false

-- whether it ends the room by an award
abbrev pub is_award : RoomFact → Bool
is_award (Ended end moment) = is_awarded_kind end.kind
is_award fact = false
