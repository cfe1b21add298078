-- Every room of a venue, in the order of the investors and of their requests.
use Rattle.std.specs.Prelude.{ℕ, ◌+◌, zero, suc, List, [], ◌∷◌, ◌++◌, length, map}
use Rattle.market_terms.specs.declared.rooms.RoomRef.{RoomRef}
use Rattle.venue_rows.specs.Rows.{Configuration}
use Rattle.venue_rows.specs.declared.investor_rows.InvestorRow.{InvestorRow}
use Rattle.step_replay.specs.declared.steps.Step.{Step}
use Rattle.step_replay.specs.declared.steps.Step.TheVariants as step

-- the rooms of an investor's next requests, so many, behind its first ones
abbrev pub rooms_behind : ℕ → ℕ → ℕ → List RoomRef
rooms_behind investor first zero = []
rooms_behind investor first (suc more) =
    record { investor = investor; n = first + 1 } ∷ rooms_behind investor (first + 1) more

-- The rooms of investors that may make so many requests each. The first of them has this number
-- among the firms.
abbrev pub rooms_from : ℕ → List ℕ → List RoomRef
rooms_from investor [] = []
rooms_from investor (requests ∷ later) =
    rooms_behind investor 0 requests ++ rooms_from (investor + 1) later

-- how many requests each of these investors may make
abbrev pub requests_of : List InvestorRow → List ℕ
requests_of rows = map (λ (row : InvestorRow). row.requests) rows

-- every room of the venue
abbrev pub rooms_of : Configuration → List RoomRef
rooms_of config = rooms_from (length config.dealers) (requests_of config.investors)

-- a sweep of each of these rooms at a moment, one behind the other
abbrev pub sweeps_at : ℕ → List RoomRef → List Step
sweeps_at moment rooms = map (λ room. step.Expire room moment) rooms
