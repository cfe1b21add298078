-- What an investor's desk looks at of the configuration of a venue, what a contract sees of the
-- desk, and the desk after an event.
use Rattle.std.specs.Prelude.{ℕ, List, [], ◌∷◌, ◌++◌, map, Option}
use Rattle.std.specs.Option.{option_map}
use Rattle.venue_rows.specs.Rows.{Configuration, investor_numbered}
use Rattle.venue_rows.specs.declared.investor_rows.InvestorRow.{InvestorRow}
use Rattle.investor_desk.specs.InvestorFacts.{InvestorFact, InvestorBook, book_of}
use Rattle.investor_desk.specs.InvestorRules.{InvestorMarket, investor_verdict}
use Rattle.investor_desk.specs.declared.events.InvestorEvent.{InvestorEvent}
use Rattle.investor_desk.specs.declared.verdicts.InvestorVerdict.{InvestorVerdict}
use Rattle.investor_desk.specs.InvestorOutput.{desk_after}

-- What the desk looks at of the configuration of a venue.

-- the market of an investor with this number and row
abbrev pub market_of : Configuration → ℕ → InvestorRow → InvestorMarket
market_of config firm row = record {
  date = config.date;
  bonds = config.bonds;
  dealers = map (λ dealer. dealer.name) config.dealers;
  firm = firm;
  row = row;
}

-- the market of the firm with this number, where it is an investor
abbrev pub market_for : Configuration → ℕ → Option InvestorMarket
market_for config firm = option_map (market_of config firm) (investor_numbered config firm)

-- What a contract sees of an investor's desk.
pub record DeskEvents : Type 0 where
  pub market : InvestorMarket
  pub events : List InvestorEvent

-- a desk at the start of the day
abbrev pub no_events : InvestorMarket → DeskEvents
no_events market = record { market = market; events = [] }

-- a desk to which one more event came, and nothing else changed
abbrev pub with_event : DeskEvents → InvestorEvent → DeskEvents
with_event desk event = record desk { events = desk.events ++ event ∷ [] }

-- the facts that stand at a desk
abbrev pub facts_at : DeskEvents → List InvestorFact
facts_at desk = (desk_after desk.market desk.events).facts

-- its book
abbrev pub book_at : DeskEvents → InvestorBook
book_at desk = book_of (facts_at desk)

-- the verdict on bytes that come to a desk
abbrev pub verdict_at : DeskEvents → ℕ → List ℕ → InvestorVerdict
verdict_at desk moment bytes = investor_verdict desk.market (book_at desk) moment bytes
