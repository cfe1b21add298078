-- What a venue has of the day of each firm: the messages that it was sent, and the lines of its
-- blotter.
use Rattle.std.specs.Prelude.{ℕ, ◌+◌, List, [], ◌∷◌, ◌++◌, length}
use Rattle.market_terms.specs.DayLines.{DayLines, OfDealer, OfInvestor}
use Rattle.venue_rows.specs.Rows.{Configuration}
use Rattle.venue_rows.specs.declared.dealer_rows.DealerRow.{DealerRow}
use Rattle.venue_rows.specs.declared.investor_rows.InvestorRow.{InvestorRow}
use Rattle.dealer_desk.specs.QuoteLines as quotes
use Rattle.investor_desk.specs.RequestLines as requests
use Rattle.step_replay.specs.DealerTrail as dealer_trail
use Rattle.step_replay.specs.InvestorTrail as investor_trail
use Rattle.step_replay.specs.VenueFacts.{Fact, of_dealer, of_investor}

-- what a venue has of a firm's day
pub record FirmDay : Type 0 where
  pub sent : List (List ℕ)
  pub lines : DayLines

-- the day of the dealer with this number
abbrev pub dealer_day : List Fact → ℕ → FirmDay
dealer_day facts number = record {
  sent = dealer_trail.sent_by (of_dealer number facts);
  lines = OfDealer (quotes.lines_of (dealer_trail.book_by (of_dealer number facts)));
}

-- the day of the investor with this number
abbrev pub investor_day : List Fact → ℕ → FirmDay
investor_day facts number = record {
  sent = investor_trail.sent_by (of_investor number facts);
  lines = OfInvestor (requests.lines_of (investor_trail.book_by (of_investor number facts)));
}

-- the days of these dealers, of which the first has this number
abbrev pub dealer_days : List Fact → ℕ → List DealerRow → List FirmDay
dealer_days facts number [] = []
dealer_days facts number (row ∷ rows) = dealer_day facts number ∷ dealer_days facts (number + 1) rows

-- the days of these investors, of which the first has this number
abbrev pub investor_days : List Fact → ℕ → List InvestorRow → List FirmDay
investor_days facts number [] = []
investor_days facts number (row ∷ rows) =
    investor_day facts number ∷ investor_days facts (number + 1) rows

-- the days of all firms, in the order of their numbers
abbrev pub firm_days : Configuration → List Fact → List FirmDay
firm_days config facts = dealer_days facts 0 config.dealers
    ++ investor_days facts (length config.dealers) config.investors
