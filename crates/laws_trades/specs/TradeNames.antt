-- The trades between an investor and a dealer, as each of them counts them in its own list. A trade
-- goes by the room of its request, which neither of them sees.
use Rattle.std.specs.Prelude.{◌≡◌, ℕ, ◌-◌, Bool, false, List, ◌++◌, filter_map, slice_get}
use Rattle.std.specs.Prelude.{Option, Some, None, if◌then◌else◌}
use Rattle.market_terms.specs.declared.asks.Ask.{Ask}
use Rattle.market_terms.specs.declared.closes.Close.TheVariants.{Hit}
use Rattle.market_terms.specs.declared.rooms.RoomRef.{RoomRef}
use Rattle.venue_rows.specs.Texts.{same_text}
use Rattle.dealer_desk.specs.DealerFacts.{DealerFact, Shown, Told}
use Rattle.dealer_desk.specs.DealerOutput as dealer_output
use Rattle.investor_desk.specs.InvestorFacts.{InvestorFact, Closed}
use Rattle.investor_desk.specs.declared.standing.RequestClose.TheVariants.{Awarded}
use Rattle.step_replay.specs.DealerTrail.{DealerEntry, facts_of, rooms_by}
use Rattle.step_replay.specs.VenueFacts.{Fact, of_dealer}
use Rattle.laws_trades.specs.Trades.{at_investor, room_of}

-- The investor's list.

-- the room of a request, where this is an answer 297=0 to a hit of a quote of the dealer with this
-- name (448)
abbrev pub hit_in : ℕ → List ℕ → InvestorFact → Option RoomRef
hit_in investor dealer (Closed request (Awarded quote name price)) =
    if same_text name dealer then Some (room_of investor request) else None
hit_in investor dealer fact = None

-- the hits of an investor on quotes of this dealer that were answered 297=0, in their order
abbrev pub hits_of : ℕ → List ℕ → List Fact → List RoomRef
hits_of investor dealer facts = filter_map (hit_in investor dealer) (at_investor investor facts)

-- The dealer's list.

-- what a request asks for, where this shows one
abbrev pub ask_in : DealerFact → Option Ask
ask_in (Shown ask moment) = Some ask
ask_in fact = None

-- whether the investor with this name (448) asks for this
abbrev pub is_asked_by : List ℕ → Option Ask → Bool
is_asked_by investor None = false
is_asked_by investor (Some ask) = same_text ask.investor investor

-- whether the investor with this name asked for the request that the dealer was shown under this
-- number
abbrev pub was_asked_by : List ℕ → List DealerEntry → ℕ → Bool
was_asked_by investor trail request =
    is_asked_by investor (slice_get (filter_map ask_in (facts_of trail)) (request - 1))

-- the room of a request of the investor with this name, where this is a notice 694=1 of it
abbrev pub notice_in : List ℕ → List DealerEntry → DealerFact → Option RoomRef
notice_in investor trail (Told request Hit moment) =
    if was_asked_by investor trail request
    then dealer_output.room_of (rooms_by trail) request
    else None
notice_in investor trail fact = None

-- the notices 694=1 of a dealer's trail on requests of this investor, in their order
abbrev pub notices_to : List ℕ → List DealerEntry → List RoomRef
notices_to investor trail = filter_map (notice_in investor trail) (facts_of trail)

-- The k-th notice of the dealer and the k-th hit of the investor are of one request: the list of the
-- one begins the list of the other.
pub record NamesOneTrade (facts : List Fact) (investor dealer : ℕ) (investor_name dealer_name : List ℕ)
    : Type 0 where
  pub later : List RoomRef
  pub begins : hits_of investor dealer_name facts
      ≡ notices_to investor_name (of_dealer dealer facts) ++ later
