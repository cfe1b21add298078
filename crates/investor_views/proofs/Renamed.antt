-- The desk of an investor with its own numbers in the place of the words of quotes.
use Rattle.std.proofs.Common.{map}
use Rattle.investor_desk.specs.InvestorFacts.{InvestorFact, InvestorBook, StandingRequest, Offered}
use Rattle.investor_desk.specs.InvestorRules.{InvestorMarket}
use Rattle.investor_desk.specs.declared.standing.ShownOffer.{ShownOffer}

-- a quote that was shown, whose word is its number
abbrev pub renamed : ShownOffer → ShownOffer
renamed shown = record shown { offer = record shown.offer { word = shown.number } }

abbrev pub renamed_fact : InvestorFact → InvestorFact
renamed_fact (Offered shown) = Offered (renamed shown)
renamed_fact fact = fact

abbrev pub renamed_request : StandingRequest → StandingRequest
renamed_request own = record {
  request = own.request;
  close = own.close;
  standing = map renamed own.standing;
}

abbrev pub renamed_book : InvestorBook → InvestorBook
renamed_book book = record {
  used = book.used;
  requests = map renamed_request book.requests;
  offers = map renamed book.offers;
}

-- a market without the investor's number among the firms
abbrev pub unnumbered : InvestorMarket → InvestorMarket
unnumbered market = record {
  date = market.date;
  bonds = market.bonds;
  dealers = market.dealers;
  firm = 0;
  row = market.row;
}
