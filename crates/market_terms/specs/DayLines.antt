-- The lines of a firm's day: those of a dealer's quotes, or of an investor's requests.
use Rattle.std.specs.Prelude.{List}
use Rattle.market_terms.specs.declared.lines.FirmLines.{FirmLines}
use Rattle.market_terms.specs.declared.lines.FirmLines.TheVariants as lent
use Rattle.market_terms.specs.declared.lines.QuoteLine.{QuoteLine}
use Rattle.market_terms.specs.declared.lines.RequestLine.{RequestLine}

-- the lines of a firm's blotter
pub data DayLines : Type 0 where
  OfDealer : List QuoteLine → DayLines
  OfInvestor : List RequestLine → DayLines

-- those that are lent
abbrev pub lines_in : FirmLines → DayLines
lines_in (lent.Dealer lines) = OfDealer lines.now
lines_in (lent.Investor lines) = OfInvestor lines.now
