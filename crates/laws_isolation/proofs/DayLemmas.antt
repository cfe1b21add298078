-- What the investors of a recorded day were sent, by their numbers.
use Rattle.std.proofs.Common.{◌≡◌, ◌≤◌, ◌<◌, ℕ, ◌+◌, ◌-◌, nat_le, nat_lt, Bool, true, false, List}
use Rattle.std.proofs.Common.{length, Option, Some, None, option_map, if◌then◌else◌, refl, sym, ap}
use Rattle.std.proofs.Common.{◌∙◌, arith}
use Rattle.std.specs.Prelude.{slice_get, option_and_then}
use Rattle.std.proofs.lemmas.Bool.Decides.{nat_tests}
use Rattle.std.proofs.lemmas.Option.{same_Some, slice_get_within}
use Rattle.venue_rows.specs.Rows.{Configuration, investor_numbered}
use Rattle.venue_rows.specs.declared.investor_rows.InvestorRow.{InvestorRow}
use Rattle.investor_desk.specs.InvestorDesk.{market_for, market_of, no_events}
use Rattle.investor_desk.specs.InvestorOutput.{investor_output}
use Rattle.investor_desk.specs.InvestorRules.{InvestorMarket}
use Rattle.investor_desk.specs.declared.events.InvestorEvent.{InvestorEvent}
use Rattle.step_replay.specs.StepFaults.{firms_of}
use Rattle.investor_views.specs.DeskView.{all_fit, desk_view, seen_at}
use Rattle.investor_views.specs.InvestorDues.{event_dues}
use Rattle.investor_views.specs.InvestorView.{investor_view, seen_by}
use Rattle.investor_views.specs.declared.dues.InvestorDue.{InvestorDue}
use Rattle.recorded_days.specs.Records.{InvestorLists, RecordedDay, investor_in}
use Rattle.day_checks.specs.KeptDays.{InvestorKeeps, InvestorsKeep}
use Rattle.laws_isolation.specs.DayViews.{EventsFit, investor_dues_of, investor_sent_on}
use Rattle.step_replay.specs.PlaceLemmas.{behind_dealers}

-- The laws of desks.

-- what a desk sends for events is the desk view of what was due by them
abbrev pub EventsSend : Type 0
EventsSend = (market : InvestorMarket) (events : List InvestorEvent)
    → investor_output market events ≡ desk_view (seen_at market) (event_dues market events)

-- and where all fit the investor view
abbrev pub FittingSend : Type 0
FittingSend = (market : InvestorMarket) (events : List InvestorEvent)
    → all_fit (no_events market) events ≡ true
    → investor_output market events ≡ investor_view (seen_at market) (event_dues market events)

-- Tests of numbers.

is_not_below : (one other : ℕ) → other ≤ one → nat_lt one other ≡ false
is_not_below one other behind = grind (arith, nat_tests)

-- The number of an investor.

-- its place among the investors, by the row that is found
row_found : (config : Configuration) (number : ℕ) (row : InvestorRow) (b : Bool)
    → (if b then slice_get config.investors (number - length config.dealers) else None) ≡ Some row
    → (b ≡ true) × (slice_get config.investors (number - length config.dealers) ≡ Some row)
row_found config number row true is = (refl, is)
row_found config number row false is = absurd cc

-- an investor is a firm of the venue
pub is_firm : (config : Configuration) (number : ℕ) (row : InvestorRow)
    → investor_numbered config number ≡ Some row → number < firms_of config
is_firm config number row is =
    let found = row_found config number row (nat_le (length config.dealers) number) is in
    let behind : length config.dealers ≤ number = behind_dealers config number row is in
    let there : number - length config.dealers < length config.investors =
    slice_get_within config.investors (number - length config.dealers) row found.1 in
    omega arith

pub market_is : (config : Configuration) (number : ℕ) (row : InvestorRow)
    → investor_numbered config number ≡ Some row
    → market_for config number ≡ Some (market_of config number row)
market_is config number row is = ap (option_map (market_of config number)) is

module _ (config : Configuration) (day : RecordedDay) (investor : ℕ) (row : InvestorRow)
    (is_investor : investor_numbered config investor ≡ Some row) where
  -- the market of the investor
  abbrev market : InvestorMarket
  market = market_of config investor row

  -- its place among the investors
  abbrev place : ℕ
  place = investor - length config.dealers

  place_is : length config.dealers + place ≡ investor
  place_is =
      let behind : length config.dealers ≤ investor =
      behind_dealers config investor row is_investor in
      omega arith

  -- what is recorded there, unless the number is a dealer's
  abbrev unless : Bool → Option InvestorLists → Option InvestorLists
  unless b found = if b then None else found

  -- what is recorded of the investor stands at that place
  lists_are : length day.dealers ≡ length config.dealers
      → investor_in day investor ≡ slice_get day.investors place
  lists_are lengths =
      let test : nat_lt investor (length config.dealers) ≡ false =
      is_not_below investor (length config.dealers)
      (behind_dealers config investor row is_investor) in
      ap (λ (n : ℕ). unless (nat_lt investor n) (slice_get day.investors (investor - n))) lengths
      ∙ ap (λ (b : Bool). unless b (slice_get day.investors place)) test

  -- what was due to it by the events at its desk
  abbrev dues_in : InvestorLists → List InvestorDue
  dues_in lists = event_dues market lists.events

  -- its list, where it is recorded
  dues_are : investor_dues_of config day investor ≡ option_map dues_in (investor_in day investor)
  dues_are =
      ap (option_and_then (λ (own : InvestorMarket).
      option_map (λ (lists : InvestorLists). event_dues own lists.events)
      (investor_in day investor))) (market_is config investor row is_investor)

  -- what is recorded of it is the desk view of that
  lists_sent : EventsSend → InvestorsKeep config day.investors → (lists : InvestorLists)
      → slice_get day.investors place ≡ Some lists
      → lists.sent ≡ desk_view (seen_by config row) (dues_in lists)
  lists_sent send keep lists there =
      let kept : InvestorKeeps config (length config.dealers + place) lists =
      keep place lists there in
      let same : kept.market ≡ market =
      same_Some kept.market market (sym kept.market_is ∙ ap (market_for config) place_is
      ∙ market_is config investor row is_investor) in
      kept.sent_is
      ∙ ap (λ (own : InvestorMarket). investor_output own lists.events) same
      ∙ send market lists.events

  view_found : EventsSend → InvestorsKeep config day.investors → (found : Option InvestorLists)
      → slice_get day.investors place ≡ found
      → option_map (λ (lists : InvestorLists). lists.sent) found
      ≡ option_map (desk_view (seen_by config row)) (option_map dues_in found)
  view_found send keep None there = refl
  view_found send keep (Some lists) there = ap Some (lists_sent send keep lists there)

  -- an investor was sent its desk view
  pub is_sent_on : EventsSend → InvestorsKeep config day.investors
      → length day.dealers ≡ length config.dealers
      → investor_sent_on day investor
      ≡ option_map (desk_view (seen_by config row)) (investor_dues_of config day investor)
  is_sent_on send keep lengths =
      ap (option_map (λ (lists : InvestorLists). lists.sent)) (lists_are lengths)
      ∙ view_found send keep (slice_get day.investors place) refl
      ∙ ap (λ (found : Option InvestorLists).
      option_map (desk_view (seen_by config row)) (option_map dues_in found))
      (sym (lists_are lengths))
      ∙ ap (option_map (desk_view (seen_by config row))) (sym dues_are)

  fitting_found : EventsSend → FittingSend → EventsFit config day investor
      → (found : Option InvestorLists) → investor_in day investor ≡ found
      → option_map (desk_view (seen_by config row)) (option_map dues_in found)
      ≡ option_map (investor_view (seen_by config row)) (option_map dues_in found)
  fitting_found send fitting fit None there = refl
  fitting_found send fitting fit (Some lists) there =
      ap Some (sym (send market lists.events) ∙ fitting market lists.events
      (fit market lists (market_is config investor row is_investor) there))

  -- which is its investor view, where its events fit
  pub views_on : EventsSend → FittingSend → EventsFit config day investor
      → option_map (desk_view (seen_by config row)) (investor_dues_of config day investor)
      ≡ option_map (investor_view (seen_by config row)) (investor_dues_of config day investor)
  views_on send fitting fit =
      ap (option_map (desk_view (seen_by config row))) dues_are
      ∙ fitting_found send fitting fit (investor_in day investor) refl
      ∙ ap (option_map (investor_view (seen_by config row))) (sym dues_are)
