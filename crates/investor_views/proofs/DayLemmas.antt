-- The desk to which the events of an investor's trail came stands where the trail has come, and each
-- event fitted what stood there.
use Rattle.std.proofs.Common.{◌≡◌, ◌≤◌, ℕ, ◌-◌, Bool, true, false, List, [], ◌++◌, length}
use Rattle.std.proofs.Common.{nat_le, Option, Some, None, is_some, if◌then◌else◌, refl, sym, ap, ◌∙◌}
use Rattle.std.proofs.Common.{subst, arith}
use Rattle.std.specs.Prelude.{slice_get}
use Rattle.std.proofs.lemmas.Bool.Decides.{nat_tests}
use Rattle.std.proofs.lemmas.Option.{slice_get_past}
use Rattle.venue_rows.specs.Rows.{Configuration, dealer_numbered, investor_numbered}
use Rattle.venue_rows.specs.declared.dealer_rows.DealerRow.{DealerRow}
use Rattle.venue_rows.specs.declared.investor_rows.InvestorRow.{InvestorRow}
use Rattle.investor_desk.specs.InvestorDesk.{market_of, no_events}
use Rattle.investor_desk.specs.InvestorFacts.{InvestorBook, book_of}
use Rattle.investor_desk.specs.InvestorOutput.{DeskState, after_event, desk_after, investor_notes}
use Rattle.investor_desk.specs.InvestorOutput.{investor_output}
use Rattle.investor_desk.specs.InvestorRules.{InvestorMarket}
use Rattle.investor_desk.specs.declared.events.InvestorEvent.{InvestorEvent}
use Rattle.step_replay.specs.AuditTrail.{audit_trail, sent_to}
use Rattle.step_replay.specs.DealerTrail as dealer_trail
use Rattle.step_replay.specs.Fitting.{fits}
use Rattle.step_replay.specs.InvestorEvents.{events_of, happened_to}
use Rattle.step_replay.specs.InvestorGrowth.{desk_of, desk_push, events_grown, trail_push}
use Rattle.step_replay.specs.InvestorKept.{kept_by_all}
use Rattle.step_replay.specs.InvestorTrail as investor_trail
use Rattle.step_replay.specs.InvestorTrail.{InvestorEntry, book_by, entries_of}
use Rattle.step_replay.specs.NotedGrowth.{noted_push}
use Rattle.step_replay.specs.NotedTrail.{NotedAs, NotedSoFar, noted_in, notes_by}
use Rattle.step_replay.specs.VenueFacts.{of_dealer, of_investor}
use Rattle.step_replay.specs.declared.steps.Step.{Step}
use Rattle.investor_views.specs.DeskView.{all_fit}
use Rattle.investor_views.proofs.FitLemmas.{one_fits}

-- no dealer has the number of an investor
pub no_dealer : (config : Configuration) (number : ℕ) (row : InvestorRow)
    → investor_numbered config number ≡ Some row → dealer_numbered config number ≡ None
no_dealer config number row is = by_test (nat_le (length config.dealers) number) refl is
  where
    by_test : (b : Bool) → nat_le (length config.dealers) number ≡ b
        → (if b then slice_get config.investors (number - length config.dealers) else None)
        ≡ Some row
        → dealer_numbered config number ≡ None
    by_test true behind found =
        let beyond : length config.dealers ≤ number = grind (arith, nat_tests) in
        slice_get_past config.dealers number beyond
    by_test false behind found = cc

-- The desk of the events of a trail has come where the trail has.
pub record DeskStands (market : InvestorMarket) (trail : List InvestorEntry) : Type 0 where
  pub state_is : desk_after market (events_of trail) ≡ desk_of trail
  pub notes_are : NotedAs market (events_of trail) trail
  pub all_fit_there : all_fit (no_events market) (events_of trail) ≡ true

module _ (market : InvestorMarket) where
  -- at the start of the day
  start_stands : DeskStands market []
  unfolding desk_after noted_in
  start_stands = record { state_is = refl; notes_are = refl; all_fit_there = refl }

  -- the book of the desk is that of the trail
  book_is : (trail : List InvestorEntry) → DeskStands market trail
      → book_of (desk_after market (events_of trail)).facts ≡ book_by trail
  book_is trail before = ap (λ (state : DeskState). book_of state.facts) before.state_is

  -- after one event that fits
  happens : (trail : List InvestorEntry) (more : InvestorEvent) → fits (book_by trail) more ≡ true
      → DeskStands market trail → DeskStands market (trail ++ entries_of market trail more)
  happens trail more fit before =
      let grown = events_grown market trail more in
      record {
        state_is = ap (λ (l : List InvestorEvent). desk_after market l) grown
            ∙ desk_push market (events_of trail) more
            ∙ ap (λ (state : DeskState). after_event market state more) before.state_is
            ∙ trail_push market trail more;
        notes_are = subst (λ (l : List InvestorEvent).
            NotedAs market l (trail ++ entries_of market trail more)) (sym grown)
            (noted_push market (events_of trail) trail more before.state_is before.notes_are);
        all_fit_there = ap (λ (l : List InvestorEvent). all_fit (no_events market) l) grown
            ∙ one_fits market more [] (events_of trail) before.all_fit_there
            (ap (λ (book : InvestorBook). fits book more) (book_is trail before) ∙ fit);
      }

module _ (config : Configuration) (number : ℕ) (row : InvestorRow)
    (is_investor : investor_numbered config number ≡ Some row) (steps : List Step) where
  -- the market of the investor
  abbrev market : InvestorMarket
  market = market_of config number row

  -- its trail, and the events of it
  abbrev trail : List InvestorEntry
  trail = of_investor number (audit_trail config steps).facts

  abbrev happened : List InvestorEvent
  happened = happened_to number (audit_trail config steps)

  day_stands : DeskStands market trail
  day_stands =
      kept_by_all config number row is_investor (DeskStands market) (happens market)
      (start_stands market) steps

  pub day_fits : all_fit (no_events market) happened ≡ true
  day_fits = day_stands.all_fit_there

  pub facts_are_one : (desk_after market happened).facts ≡ investor_trail.facts_of trail
  facts_are_one = ap (λ (state : DeskState). state.facts) day_stands.state_is

  -- what the investor was sent is what that desk sends
  pub is_sent_by_its_desk : sent_to config number (audit_trail config steps)
      ≡ investor_output market happened
  is_sent_by_its_desk =
      ap (λ (found : Option DealerRow). if is_some found
      then dealer_trail.sent_by (of_dealer number (audit_trail config steps).facts)
      else investor_trail.sent_by trail)
      (no_dealer config number row is_investor)
      ∙ sym (ap (λ (state : DeskState). state.sent) day_stands.state_is)

  -- and what is noted of it is what that desk notes
  pub is_noted_by_its_desk : notes_by market trail ≡ investor_notes market happened
  is_noted_by_its_desk = ap (λ (so_far : NotedSoFar). so_far.notes) day_stands.notes_are
