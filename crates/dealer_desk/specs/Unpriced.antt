-- A dealer's desk without prices, and whoever was the cover. No rule of the desk asks for either:
-- where two desks are one but for them, each message gets one verdict at both.
use Rattle.std.specs.Prelude.{Bool, [], map, if◌then◌else◌}
use Rattle.std.specs.Option.{option_map}
use Rattle.market_terms.specs.Unpriced.{uncovered}
use Rattle.dealer_desk.specs.DealerFacts.{DealerFact, DealerBook, Came, Quoted, Told}
use Rattle.dealer_desk.specs.declared.accepted.AcceptedQuote.{AcceptedQuote}
use Rattle.dealer_desk.specs.declared.events.DealerEvent.{DealerEvent}
use Rattle.dealer_desk.specs.declared.events.DealerEvent.TheVariants as event
use Rattle.dealer_desk.specs.declared.standing.QuoteEnd.{QuoteEnd}
use Rattle.dealer_desk.specs.declared.standing.QuoteEnd.TheVariants as end
use Rattle.dealer_desk.specs.declared.standing.StandingQuote.{StandingQuote}
use Rattle.dealer_desk.specs.declared.verdicts.DealerVerdict.{DealerVerdict}
use Rattle.dealer_desk.specs.declared.verdicts.DealerVerdict.TheVariants as verdict

-- a quote
abbrev pub unpriced_quote : AcceptedQuote → AcceptedQuote
unpriced_quote quote = record quote { price = 0 }

-- a fact; the bytes that came are left in it or not
abbrev pub unpriced : Bool → DealerFact → DealerFact
unpriced bytes_stay (Came moment bytes used) = Came moment (if bytes_stay then bytes else []) used
unpriced bytes_stay (Quoted quote) = Quoted (unpriced_quote quote)
unpriced bytes_stay (Told request close moment) = Told request (uncovered close) moment
unpriced bytes_stay fact = fact

-- what comes to the desk
abbrev pub unpriced_event : DealerEvent → DealerEvent
unpriced_event (event.Told request close moment) = event.Told request (uncovered close) moment
unpriced_event other = other

-- a quote as it stands
abbrev pub unpriced_end : QuoteEnd → QuoteEnd
unpriced_end (end.Withdrawn by) = end.Withdrawn by
unpriced_end (end.Closed close) = end.Closed (uncovered close)

abbrev pub unpriced_standing : StandingQuote → StandingQuote
unpriced_standing own = record {
  quote = unpriced_quote own.quote;
  is_known_lifted = own.is_known_lifted;
  end = option_map unpriced_end own.end;
}

-- the book
abbrev pub unpriced_book : DealerBook → DealerBook
unpriced_book book = record book { quotes = map unpriced_standing book.quotes }

-- a verdict: that a quote is accepted bears the price that the quote gives
abbrev pub unpriced_verdict : DealerVerdict → DealerVerdict
unpriced_verdict (verdict.QuoteAccepted request id quote replaced) =
    verdict.QuoteAccepted request id (unpriced_quote quote) replaced
unpriced_verdict other = other
