-- What is due by events, event by event.
use Rattle.std.proofs.Common.{◌≡◌, ◌<◌, ℕ, ◌+◌, List, [], ◌∷◌, ◌++◌, fold, length, take, get_or}
use Rattle.std.proofs.Common.{Option, Some, None, option_map, refl, sym, ap, ap₂, ◌∙◌}
use Rattle.std.proofs.lemmas.List.{take_more}
use Rattle.std.proofs.lemmas.List.Sums.{fold-append}
use Rattle.std.proofs.lemmas.Option.{same_Some}
use Rattle.venue_rows.specs.declared.investor_rows.InvestorRow.{InvestorRow}
use Rattle.investor_desk.specs.InvestorDesk.{DeskEvents, book_at, no_events, with_event}
use Rattle.investor_desk.specs.InvestorRules.{InvestorMarket}
use Rattle.investor_desk.specs.declared.events.InvestorEvent.{InvestorEvent}
use Rattle.investor_views.specs.InvestorDues.{due_by, dues_where, event_dues_from}
use Rattle.investor_views.specs.declared.dues.InvestorDue.{InvestorDue}

event_dues_more : (start : DeskEvents) (front : List InvestorEvent) (more : InvestorEvent)
    → event_dues_from start (front ++ more ∷ [])
    ≡ event_dues_from start front ++ due_by (book_at (fold with_event start front)) more ∷ []
event_dues_more start [] more = refl
event_dues_more start (first ∷ later) more =
    ap (λ (l : List InvestorDue). due_by (book_at start) first ∷ l)
    (event_dues_more (with_event start first) later more)

module _ (start : DeskEvents) (events : List InvestorEvent) (at : ℕ) (event : InvestorEvent)
    (before : DeskEvents) (within : at < length events) (is : event ≡ get_or events at event)
    (had : before ≡ fold with_event start (take at events)) where
  taken : take (at + 1) events ≡ take at events ++ event ∷ []
  taken =
      take_more events at event within
      ∙ ap (λ (found : InvestorEvent). take at events ++ found ∷ []) (sym is)

  pub desk_more : (after : DeskEvents) → after ≡ with_event before event
      → after ≡ fold with_event start (take (at + 1) events)
  desk_more after now =
      now ∙ ap (λ (d : DeskEvents). with_event d event) had
      ∙ sym (ap (fold with_event start) taken
      ∙ fold-append with_event start (take at events) (event ∷ []))

  pub dues_more : (dues more : List InvestorDue) (due : InvestorDue)
      → dues ≡ event_dues_from start (take at events) → due ≡ due_by (book_at before) event
      → more ≡ dues ++ due ∷ [] → more ≡ event_dues_from start (take (at + 1) events)
  dues_more dues more due so_far due_is now =
      now
      ∙ ap₂ (λ (l : List InvestorDue) (x : InvestorDue). l ++ x ∷ []) so_far
      (due_is ∙ ap (λ (d : DeskEvents). due_by (book_at d) event) had)
      ∙ sym (ap (event_dues_from start) taken ∙ event_dues_more start (take at events) event)

-- what is due at the desk that an investor has at the start of its day
pub at_start : (market : Option InvestorMarket) (desk : DeskEvents) (events : List InvestorEvent)
    → Some desk ≡ option_map no_events market
    → event_dues_from desk events ≡ dues_where market events
at_start None desk events is = cc
at_start (Some market) desk events is =
    ap (λ (d : DeskEvents). event_dues_from d events) (same_Some desk (no_events market) is)

-- the events that an investor's desk has
pub events_are : (row : Option InvestorRow) (events happened : List InvestorEvent)
    → Some events ≡ option_map (λ (r : InvestorRow). happened) row → events ≡ happened
events_are None events happened is = cc
events_are (Some row) events happened is = same_Some events happened is
