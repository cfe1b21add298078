-- The blotter of an investor: a line for each accepted request, with what became of it.
use Rattle.std.specs.Prelude.{List, map, Option, Some, None}
use Rattle.market_terms.specs.declared.lines.RequestLine.{RequestLine}
use Rattle.market_terms.specs.declared.lines.RequestState.{RequestState}
use Rattle.market_terms.specs.declared.lines.RequestState.TheVariants as state
use Rattle.investor_desk.specs.InvestorFacts.{InvestorBook, StandingRequest}
use Rattle.investor_desk.specs.declared.standing.RequestClose.{RequestClose}
use Rattle.investor_desk.specs.declared.standing.RequestClose.TheVariants as close

-- what became of a request that was closed so
abbrev pub state_at_close : RequestClose → RequestState
state_at_close (close.Awarded quote dealer price) = state.Won dealer price
state_at_close close.Passed = state.Passed
state_at_close close.Expired = state.Expired

-- what became of a request, by its first close
abbrev pub state_by : Option RequestClose → RequestState
state_by None = state.Open
state_by (Some close) = state_at_close close

-- the line of a request
abbrev pub line_of : StandingRequest → RequestLine
line_of own = record {
  n = own.request.number;
  moment = own.request.moment;
  trader = own.request.trader;
  bond = own.request.ask.bond;
  side = own.request.ask.side;
  quantity = own.request.ask.quantity;
  state = state_by own.close;
}

-- the investor's blotter: a line for each accepted request, in order
unfoldable pub lines_of : InvestorBook → List RequestLine
lines_of book = map line_of book.requests
