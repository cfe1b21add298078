-- What an investor was sent by the events at its desk alone. The investor view asks of each item
-- whether it fits what stands at the view's desk, as each step of the venue asks it there; the desk
-- view takes each item as it stands, and is one with it where every event fits.
use Rattle.std.specs.Prelude.{ℕ, Bool, true, ◌&&◌, List, [], ◌∷◌, fold}
use Rattle.investor_desk.specs.InvestorDesk.{DeskEvents, book_at, no_events, with_event}
use Rattle.investor_desk.specs.InvestorRules.{InvestorMarket}
use Rattle.investor_desk.specs.declared.events.InvestorEvent.{InvestorEvent}
use Rattle.step_replay.specs.Fitting.{fits}
use Rattle.investor_views.specs.InvestorDues.{due_by}
use Rattle.investor_views.specs.InvestorView.{SeenMarket, event_by, market_seen, sent_at}
use Rattle.investor_views.specs.InvestorView.{where_it_fits}
use Rattle.investor_views.specs.declared.dues.InvestorDue.{InvestorDue}

-- whether events that come to a desk fit, each what stands there when it comes
abbrev pub all_fit : DeskEvents → List InvestorEvent → Bool
all_fit desk [] = true
all_fit desk (first ∷ later) = fits (book_at desk) first && all_fit (with_event desk first) later

-- what is due by events at a desk that takes those that fit
abbrev pub fitting_dues_from : DeskEvents → List InvestorEvent → List InvestorDue
fitting_dues_from desk [] = []
fitting_dues_from desk (first ∷ later) =
    due_by (book_at desk) first ∷ fitting_dues_from (where_it_fits desk first) later

-- the market that the investor of a desk sees
abbrev pub seen_at : InvestorMarket → SeenMarket
seen_at market = record {
  date = market.date;
  row = market.row;
  bonds = market.bonds;
  dealers = market.dealers;
}

-- the view's desk after one item more, whatever stands there
unfoldable pub with_item : DeskEvents → InvestorDue → DeskEvents
with_item desk item = with_event desk (event_by (book_at desk) item)

-- The desk view: every message that an investor is sent for a list of items, each taken as it
-- stands. Nothing goes into it but the market that the investor sees and the list.
abbrev pub desk_view : SeenMarket → List InvestorDue → List (List ℕ)
desk_view seen dues = sent_at (fold with_item (no_events (market_seen seen)) dues)
