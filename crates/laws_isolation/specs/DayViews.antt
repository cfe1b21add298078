-- What was due to an investor on a recorded day, by the events at its desk alone, what it was sent,
-- and whether these events fit.
use Rattle.std.specs.Prelude.{◌≡◌, ℕ, true, List}
use Rattle.std.specs.Prelude.{Option, Some, option_and_then}
use Rattle.std.specs.Option.{option_map}
use Rattle.venue_rows.specs.Rows.{Configuration}
use Rattle.investor_desk.specs.InvestorDesk.{market_for, no_events}
use Rattle.investor_desk.specs.InvestorRules.{InvestorMarket}
use Rattle.investor_views.specs.DeskView.{all_fit}
use Rattle.investor_views.specs.InvestorDues.{event_dues}
use Rattle.investor_views.specs.declared.dues.InvestorDue.{InvestorDue}
use Rattle.recorded_days.specs.Records.{InvestorLists, RecordedDay, investor_in}

-- what the investor with this number was sent on a recorded day
abbrev pub investor_sent_on : RecordedDay → ℕ → Option (List (List ℕ))
investor_sent_on day investor =
    option_map (λ (lists : InvestorLists). lists.sent) (investor_in day investor)

-- what was due to it by the events at its desk, where the configuration and the record have it
abbrev pub investor_dues_of : Configuration → RecordedDay → ℕ → Option (List InvestorDue)
investor_dues_of config day investor =
    option_and_then (λ (market : InvestorMarket).
    option_map (λ (lists : InvestorLists). event_dues market lists.events)
    (investor_in day investor)) (market_for config investor)

-- each event that is recorded at the desk of the investor with this number fits what stood there
abbrev pub EventsFit : Configuration → RecordedDay → ℕ → Type 0
EventsFit config day investor = (market : InvestorMarket) (lists : InvestorLists)
    → market_for config investor ≡ Some market → investor_in day investor ≡ Some lists
    → all_fit (no_events market) lists.events ≡ true
