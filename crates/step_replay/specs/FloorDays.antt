-- How the code keeps the day of each firm: names for private functions alone.
use Rattle.std.specs.Prelude.{ℕ, List, [], ◌++◌, map, slice_get, Option, Some, None}
use Rattle.market_terms.specs.DayLines.{OfDealer, OfInvestor}
use Rattle.dealer_desk.specs.DealerDesk.{book_at}
use Rattle.dealer_desk.specs.DealerOutput.{dealer_output}
use Rattle.dealer_desk.specs.QuoteLines as quotes
use Rattle.investor_desk.specs.InvestorDesk as investor_desk
use Rattle.investor_desk.specs.InvestorOutput as investor
use Rattle.investor_desk.specs.RequestLines as requests
use Rattle.step_replay.specs.FirmDays.{FirmDay}
use Rattle.step_replay.specs.declared.floor.DealerPlace.{DealerPlace}
use Rattle.step_replay.specs.declared.floor.InvestorPlace.{InvestorPlace}
use Rattle.step_replay.specs.declared.floor.Floor.{Floor}

-- the day of the dealer of a place
abbrev pub dealer_day_at : DealerPlace → FirmDay
dealer_day_at place = record {
  sent = dealer_output place.desk.date place.desk.row place.desk.events;
  lines = OfDealer (quotes.lines_of (book_at place.desk));
}

-- the day of the investor of a place
abbrev pub investor_day_at : InvestorPlace → FirmDay
investor_day_at place = record {
  sent = investor.investor_output place.desk.market place.desk.events;
  lines = OfInvestor (requests.lines_of (investor_desk.book_at place.desk));
}

-- the days of the firms at their places
abbrev pub days_of_floor : Floor → List FirmDay
days_of_floor floor = map dealer_day_at floor.dealers.items ++ map investor_day_at floor.investors.items

-- what the code keeps of the messages of a firm
abbrev pub sent_on_day : Option FirmDay → List (List ℕ)
sent_on_day None = []
sent_on_day (Some day) = day.sent

abbrev pub sent_on_floor : Floor → ℕ → List (List ℕ)
sent_on_floor floor firm = sent_on_day (slice_get (days_of_floor floor) firm)
