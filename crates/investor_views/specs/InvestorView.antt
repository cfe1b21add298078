-- What an investor is sent, as a function of what is due to it and of the market that it sees.
use Rattle.std.specs.Prelude.{ℕ, ◌+◌, List, fold, map, Option}
use Rattle.market_terms.specs.declared.rooms.Offer.{Offer}
use Rattle.venue_rows.specs.Rows.{Configuration}
use Rattle.venue_rows.specs.declared.bond_rows.BondRow.{BondRow}
use Rattle.venue_rows.specs.declared.dealer_rows.DealerRow.{DealerRow}
use Rattle.venue_rows.specs.declared.investor_rows.InvestorRow.{InvestorRow}
use Rattle.investor_desk.specs.InvestorFacts.{InvestorBook, offers_shown}
use Rattle.investor_desk.specs.InvestorDesk.{DeskEvents, book_at, no_events}
use Rattle.investor_desk.specs.InvestorOutput.{investor_output}
use Rattle.investor_desk.specs.InvestorRules.{InvestorMarket}
use Rattle.investor_desk.specs.declared.events.InvestorEvent.{InvestorEvent}
use Rattle.investor_desk.specs.declared.events.InvestorEvent.TheVariants as event
use Rattle.venue_steps.specs.InvestorSteps.{with_event_if}
use Rattle.step_replay.specs.Fitting.{fits}
use Rattle.investor_views.specs.declared.dues.InvestorDue.{InvestorDue}
use Rattle.investor_views.specs.declared.dues.InvestorDue.TheVariants as due

-- The market as an investor sees it: the day, its own row, the bonds with their grids, and the
-- names of the dealers in their order. Nothing else of a configuration stands in it: no limit of a
-- dealer, no other investor, and not the investor's number among the firms.
pub record SeenMarket : Type 0 where
  pub date : List ℕ
  pub row : InvestorRow
  pub bonds : List BondRow
  pub dealers : List (List ℕ)

-- what an investor with this row sees of a venue
abbrev pub seen_by : Configuration → InvestorRow → SeenMarket
seen_by config row = record {
  date = config.date;
  row = row;
  bonds = config.bonds;
  dealers = map (λ (dealer : DealerRow). dealer.name) config.dealers;
}

-- The same as the market of a desk. A desk names its rooms by the investor's number among the
-- firms, which goes into no message; the view has no rooms, and that number is 0.
abbrev pub market_seen : SeenMarket → InvestorMarket
market_seen seen = record {
  date = seen.date;
  bonds = seen.bonds;
  dealers = seen.dealers;
  firm = 0;
  row = seen.row;
}

-- a quote that comes, as the view's desk has it: its word is the number under which it is shown,
-- where it is
abbrev pub offer_due : InvestorBook → List ℕ → ℕ → Option ℕ → Offer
offer_due book dealer price valid_until = record {
  dealer = dealer;
  word = offers_shown book + 1;
  price = price;
  valid_until = valid_until;
}

-- the event that an item is at a desk with this book
unfoldable pub event_by : InvestorBook → InvestorDue → InvestorEvent
event_by book (due.Own moment message) = event.Received moment message
event_by book (due.Offered request dealer price valid_until moment) =
    event.QuoteCame request (offer_due book dealer price valid_until) moment
event_by book (due.Gone request quote moment) = event.QuoteGone request quote moment
event_by book (due.Declined request dealer moment) = event.DealerDeclined request dealer moment
event_by book (due.Answered request response reply moment) =
    event.Answered request response reply moment
event_by book (due.Expired request moment) = event.Closed request moment

-- a desk after an event, where the event fits what stands there
abbrev pub where_it_fits : DeskEvents → InvestorEvent → DeskEvents
where_it_fits desk more = with_event_if (fits (book_at desk) more) desk more

-- The view after one item more. An item on a request that was not accepted, or a reply that fits
-- no response, changes nothing.
unfoldable pub after_due : DeskEvents → InvestorDue → DeskEvents
after_due desk item = where_it_fits desk (event_by (book_at desk) item)

-- the view after all of it, item by item
abbrev pub view_after : SeenMarket → List InvestorDue → DeskEvents
view_after seen dues = fold after_due (no_events (market_seen seen)) dues

-- what the investor of a desk was sent
abbrev pub sent_at : DeskEvents → List (List ℕ)
sent_at desk = investor_output desk.market desk.events

-- The investor view: every message that an investor is sent. It takes the market that the investor
-- sees and the list of what is due to it, so nothing else of the venue can matter to what it is
-- sent.
abbrev pub investor_view : SeenMarket → List InvestorDue → List (List ℕ)
investor_view seen dues = sent_at (view_after seen dues)
