-- What is due to an investor, item by item of the events at its desk. Requests and quotes stand in
-- it by the investor's own numbers, as it has them in its own messages; no word of a quote, no room
-- and no other investor stands in it.
use Rattle.std.specs.Prelude.{ℕ, List, [], ◌∷◌, Option, Some, None, option_and_then}
use Rattle.market_terms.specs.declared.rooms.Offer.{Offer}
use Rattle.venue_rows.specs.Rows.{Configuration}
use Rattle.investor_desk.specs.InvestorFacts.{InvestorBook, offer_with_word}
use Rattle.investor_desk.specs.InvestorFacts.{open_request}
use Rattle.investor_desk.specs.InvestorDesk.{DeskEvents, book_at, market_for, no_events}
use Rattle.investor_desk.specs.InvestorDesk.{with_event}
use Rattle.investor_desk.specs.InvestorRules.{InvestorMarket}
use Rattle.investor_desk.specs.declared.events.InvestorEvent.{InvestorEvent}
use Rattle.investor_desk.specs.declared.events.InvestorEvent.TheVariants as event
use Rattle.investor_desk.specs.declared.standing.ShownOffer.{ShownOffer}
use Rattle.step_replay.specs.AuditTrail.{audit_trail}
use Rattle.step_replay.specs.declared.steps.Step.{Step}
use Rattle.step_replay.specs.InvestorEvents.{happened_to}
use Rattle.investor_views.specs.declared.dues.InvestorDue.{InvestorDue}
use Rattle.investor_views.specs.declared.dues.InvestorDue.TheVariants as due

-- The number of a quote that is taken back.

-- the quote with this word that stands on an open request with this number, where there is one
abbrev pub quote_meant : InvestorBook → ℕ → ℕ → Option ShownOffer
quote_meant book request word =
    option_and_then (λ own. offer_with_word own word) (open_request book request)

-- its number, as the investor was shown it (QuoteID 117); 0 where none is meant
abbrev pub number_of : Option ShownOffer → ℕ
number_of None = 0
number_of (Some shown) = shown.number

-- Items.

-- a quote that comes
abbrev pub due_by_offer : ℕ → Offer → ℕ → InvestorDue
due_by_offer request offer moment =
    due.Offered request offer.dealer offer.price offer.valid_until moment

-- what is due by an event at a desk with this book
unfoldable pub due_by : InvestorBook → InvestorEvent → InvestorDue
due_by book (event.Received moment bytes) = due.Own moment bytes
due_by book (event.QuoteCame request offer moment) = due_by_offer request offer moment
due_by book (event.QuoteGone request word moment) =
    due.Gone request (number_of (quote_meant book request word)) moment
due_by book (event.DealerDeclined request dealer moment) = due.Declined request dealer moment
due_by book (event.Answered request response reply moment) =
    due.Answered request response reply moment
due_by book (event.Closed request moment) = due.Expired request moment

-- what is due by events that come to a desk
abbrev pub event_dues_from : DeskEvents → List InvestorEvent → List InvestorDue
event_dues_from desk [] = []
event_dues_from desk (first ∷ later) =
    due_by (book_at desk) first ∷ event_dues_from (with_event desk first) later

-- what was due to an investor with this market by all events at its desk
abbrev pub event_dues : InvestorMarket → List InvestorEvent → List InvestorDue
event_dues market events = event_dues_from (no_events market) events

-- the same, where there is such an investor
abbrev pub dues_where : Option InvestorMarket → List InvestorEvent → List InvestorDue
dues_where None events = []
dues_where (Some market) events = event_dues market events

-- What was due to the investor with this number in a day: by the events at its desk, as its own
-- trail has them.
abbrev pub due_to_investor : Configuration → ℕ → List Step → List InvestorDue
due_to_investor config number steps =
    dues_where (market_for config number) (happened_to number (audit_trail config steps))
