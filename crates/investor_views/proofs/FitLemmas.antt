-- Events at a desk, each of which fits what stands there, and one more that does.
use Rattle.std.proofs.Common.{◌≡◌, true, List, [], ◌∷◌, ◌++◌, refl, sym, ap, ◌∙◌}
use Rattle.std.proofs.lemmas.Bool.{and_from, and_parts}
use Rattle.std.proofs.lemmas.List.{append-nil, append_assoc}
use Rattle.investor_desk.specs.InvestorDesk.{DeskEvents, book_at, with_event}
use Rattle.investor_desk.specs.InvestorRules.{InvestorMarket}
use Rattle.investor_desk.specs.declared.events.InvestorEvent.{InvestorEvent}
use Rattle.step_replay.specs.Fitting.{fits}
use Rattle.investor_views.specs.DeskView.{all_fit}

module _ (market : InvestorMarket) (more : InvestorEvent) where
  -- the desk to which these events came
  abbrev pub desk_with : List InvestorEvent → DeskEvents
  desk_with events = record { market = market; events = events }

  pub one_fits : (before events : List InvestorEvent) → all_fit (desk_with before) events ≡ true
      → fits (book_at (desk_with (before ++ events))) more ≡ true
      → all_fit (desk_with before) (events ++ more ∷ []) ≡ true
  one_fits before [] all fit =
      and_from (fits (book_at (desk_with before)) more) true
      (ap (λ (l : List InvestorEvent). fits (book_at (desk_with l)) more) (sym (append-nil before))
      ∙ fit) refl
  one_fits before (first ∷ later) all fit =
      let both = and_parts (fits (book_at (desk_with before)) first)
      (all_fit (with_event (desk_with before) first) later) all in
      and_from (fits (book_at (desk_with before)) first)
      (all_fit (with_event (desk_with before) first) (later ++ more ∷ [])) both.0
      (one_fits (before ++ first ∷ []) later both.1
      (ap (λ (l : List InvestorEvent). fits (book_at (desk_with l)) more)
      (append_assoc before (first ∷ []) later) ∙ fit))
