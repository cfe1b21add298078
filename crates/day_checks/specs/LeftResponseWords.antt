-- A word of private contracts, which no public clause names: the response among the duties that a
-- message left.
use Rattle.std.specs.Prelude.{List, [], ◌∷◌, Option, None}
use Rattle.market_terms.specs.declared.duties.Duty.{Duty}
use Rattle.day_checks.specs.LeftResponses.{response_of}
use Rattle.day_checks.specs.declared.left_responses.LeftResponse.{LeftResponse}

-- the response that the first of some duties brings to a room, where there is one
abbrev pub response_in : List Duty → Option LeftResponse
response_in [] = None
response_in (first ∷ later) = response_of first
