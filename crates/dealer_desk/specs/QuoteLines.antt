-- The blotter of a dealer: a line for each accepted quote, with what became of it.
use Rattle.std.specs.Prelude.{Bool, true, false, List, map, Option, Some, None}
use Rattle.market_terms.specs.declared.closes.Close.{Close}
use Rattle.market_terms.specs.declared.closes.Close.TheVariants as closes
use Rattle.market_terms.specs.declared.lines.QuoteLine.{QuoteLine}
use Rattle.market_terms.specs.declared.lines.QuoteState.{QuoteState}
use Rattle.market_terms.specs.declared.lines.QuoteState.TheVariants as state
use Rattle.dealer_desk.specs.DealerFacts.{DealerBook}
use Rattle.dealer_desk.specs.declared.standing.StandingQuote.{StandingQuote}
use Rattle.dealer_desk.specs.declared.standing.QuoteEnd.{QuoteEnd}
use Rattle.dealer_desk.specs.declared.standing.QuoteEnd.TheVariants as end
use Rattle.dealer_desk.specs.declared.standing.Withdrawal.TheVariants as by

-- what becomes of a quote that is live when its request is closed so
abbrev pub state_at_close : Close → QuoteState
state_at_close closes.Hit = state.Lifted
state_at_close closes.Expired = state.Ended
state_at_close closes.Cover = state.Ended
state_at_close closes.DoneAway = state.Ended
state_at_close closes.Pass = state.Ended

-- what became of a quote, by what ended it and whether it is known to be lifted
abbrev pub state_by : Option QuoteEnd → Bool → QuoteState
state_by (Some (end.Withdrawn by.Cancel)) is_known_lifted = state.Withdrawn
state_by (Some (end.Withdrawn by.Replacement)) is_known_lifted = state.Replaced
state_by (Some (end.Closed close)) true = state.Lifted
state_by (Some (end.Closed close)) false = state_at_close close
state_by None true = state.Lifted
state_by None false = state.Live

-- what became of a quote, by how it stands
abbrev pub state_of : StandingQuote → QuoteState
state_of own = state_by own.end own.is_known_lifted

-- the line of a quote
abbrev pub line_of : StandingQuote → QuoteLine
line_of own = record {
  q = own.quote.number;
  moment = own.quote.moment;
  trader = own.quote.trader;
  request = own.quote.request;
  bond = own.quote.bond;
  side = own.quote.side;
  quantity = own.quote.quantity;
  price = own.quote.price;
  state = state_of own;
}

-- the dealer's blotter: a line for each accepted quote, in order
unfoldable pub lines_of : DealerBook → List QuoteLine
lines_of book = map line_of book.quotes
