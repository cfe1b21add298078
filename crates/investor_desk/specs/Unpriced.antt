-- An investor's desk without prices. No rule of the desk asks for one: where two desks are one but
-- for prices, each message gets one verdict at both.
use Rattle.std.specs.Prelude.{map}
use Rattle.std.specs.Option.{option_map}
use Rattle.market_terms.specs.Unpriced.{unpriced_offer}
use Rattle.investor_desk.specs.InvestorFacts.{InvestorFact, InvestorBook, StandingRequest, Offered}
use Rattle.investor_desk.specs.InvestorFacts.{Closed}
use Rattle.investor_desk.specs.declared.events.InvestorEvent.{InvestorEvent}
use Rattle.investor_desk.specs.declared.events.InvestorEvent.TheVariants as event
use Rattle.investor_desk.specs.declared.standing.RequestClose.{RequestClose}
use Rattle.investor_desk.specs.declared.standing.RequestClose.TheVariants as closes
use Rattle.investor_desk.specs.declared.standing.ShownOffer.{ShownOffer}

-- a quote that was shown
abbrev pub unpriced_shown : ShownOffer → ShownOffer
unpriced_shown shown = record shown { offer = unpriced_offer shown.offer }

-- how a request was closed
abbrev pub unpriced_close : RequestClose → RequestClose
unpriced_close (closes.Awarded quote dealer price) = closes.Awarded quote dealer 0
unpriced_close closes.Passed = closes.Passed
unpriced_close closes.Expired = closes.Expired

-- a fact
abbrev pub unpriced : InvestorFact → InvestorFact
unpriced (Offered shown) = Offered (unpriced_shown shown)
unpriced (Closed request close) = Closed request (unpriced_close close)
unpriced fact = fact

-- what comes to the desk
abbrev pub unpriced_event : InvestorEvent → InvestorEvent
unpriced_event (event.QuoteCame request offer moment) =
    event.QuoteCame request (unpriced_offer offer) moment
unpriced_event other = other

-- a request as it stands
abbrev pub unpriced_request : StandingRequest → StandingRequest
unpriced_request own = record {
  request = own.request;
  close = option_map unpriced_close own.close;
  standing = map unpriced_shown own.standing;
}

-- the book
abbrev pub unpriced_book : InvestorBook → InvestorBook
unpriced_book book = record {
  used = book.used;
  requests = map unpriced_request book.requests;
  offers = map unpriced_shown book.offers;
}
