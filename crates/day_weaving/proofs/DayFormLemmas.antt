-- The actions of a record, and where it is well-formed or malformed.
use Rattle.std.proofs.Common.{◌≡◌, ◌<◌, ◌≤◌, ℕ, true, false, count_by, length, Option, Some}
use Rattle.std.proofs.Common.{is_some, sym, ap, ◌∙◌, List}
use Rattle.std.specs.Prelude.{option_and_then}
use Rattle.std.specs.List.{list_any}
use Rattle.std.specs.Option.{option_map}
use Rattle.venue_rows.specs.Rows.{Configuration}
use Rattle.venue_steps.specs.declared.actors.Actor.TheVariants as actor
use Rattle.venue_steps.specs.declared.actors.Actor.{Actor}
use Rattle.day_weaving.specs.DayForm.{AreMisnamed, AreNamedOnce, ClockTakesMessage, IsWellFormed}
use Rattle.day_weaving.specs.DayForm.{Misnamed, NamedNowhere, NamedTwice, NamesNoAction}
use Rattle.day_weaving.specs.DayForm.{OtherDealers, OtherInvestors, DeskIsSwept, FirmSweeps}
use Rattle.day_weaving.specs.DayForm.{IsMalformed, OtherInbox, OtherRoom, names_sweep, sweeps}
use Rattle.day_weaving.specs.DayForm.{takes_message}
use Rattle.recorded_days.specs.declared.actions.Inbound.{Inbound}
use Rattle.recorded_days.specs.Records.{ActionRef, FirmLists, RecordedDay, action_in}
use Rattle.recorded_days.specs.Records.{action_numbered, actions_of, firm_in}
use Rattle.recorded_days.specs.declared.actions.Action.{Action}
use Rattle.day_weaving.proofs.NumberedLemmas.{mapped, then_some, numbered_in, numbered_some}

-- Actions.

pub action_there : (day : RecordedDay) (by : Actor) (actions : List Action) (number : ℕ)
    → actions_of day by ≡ Some actions → 0 < number → number ≤ length actions
    → is_some (action_in day (by, number)) ≡ true
action_there day by actions number are least within =
    ap (λ (found : Option (List Action)). is_some (option_and_then (action_numbered number) found))
    are ∙ numbered_in actions number least within

-- an action of the day has a number of its actor's
pub action_within : (day : RecordedDay) (by : Actor) (number : ℕ)
    → is_some (action_in day (by, number)) ≡ true
    → (actions : List Action) × (actions_of day by ≡ Some actions) × (0 < number)
    × (number ≤ length actions)
action_within day by number is =
    let found = then_some (action_numbered number) (actions_of day by) is in
    let both = numbered_some found.0 number found.2 in
    (found.0, found.1, both.0, both.1)

-- Why the record of a firm is not as it must be.

module _ (config : Configuration) (day : RecordedDay) (firm : ℕ) (actions : List Action)
    (acts : Some actions ≡ actions_of day (actor.Firm firm)) where
  pub other_inbox : (inbox : List Inbound) (count : ℕ)
      → Some inbox ≡ option_map (λ (lists : FirmLists). lists.inbox) (firm_in day firm)
      → count ≡ count_by takes_message actions → (count ≡ length inbox → ⊥)
      → IsMalformed config day
  other_inbox inbox count inbox_is counted differs =
      let found = mapped (λ (lists : FirmLists). lists.actions) (firm_in day firm) actions
      (sym acts) in
      let boxes : Some found.0.inbox ≡ Some inbox =
      ap (option_map (λ (lists : FirmLists). lists.inbox)) (sym found.1) ∙ sym inbox_is in
      let box : found.0.inbox ≡ inbox = cc in
      OtherInbox firm found.0 found.1 (λ same. differs (counted
      ∙ ap (count_by takes_message) (sym found.2) ∙ same ∙ ap length box))

  pub firm_sweeps : list_any sweeps actions ≡ true → IsMalformed config day
  firm_sweeps any =
      let found = mapped (λ (lists : FirmLists). lists.actions) (firm_in day firm) actions
      (sym acts) in
      FirmSweeps firm found.0 found.1 (ap (list_any sweeps) found.2 ∙ any)

pub desk_swept : (config : Configuration) (day : RecordedDay) (firm : ℕ) (order : List ActionRef)
    → Some order ≡ option_map (λ (lists : FirmLists). lists.order) (firm_in day firm)
    → list_any (names_sweep day) order ≡ true → IsMalformed config day
desk_swept config day firm order order_is any =
    let found = mapped (λ (lists : FirmLists). lists.order) (firm_in day firm) order
    (sym order_is) in
    DeskIsSwept firm found.0 found.1 (ap (list_any (names_sweep day)) found.2 ∙ any)

-- A record is well-formed or malformed, and not both.

misnamed_never : (day : RecordedDay) → AreNamedOnce day → AreMisnamed day → ⊥
misnamed_never day named (NamesNoAction action at spot stands none) =
    let clash : true ≡ false = sym (named.nothing_else action at spot stands) ∙ none in
    absurd cc
misnamed_never day named (NamedNowhere action is nowhere) = nowhere (named.each action is)
misnamed_never day named (NamedTwice action at other spot other_spot stands stands_too differs) =
    differs (named.once action at other spot other_spot stands stands_too)

pub never_both : (config : Configuration) (day : RecordedDay) → IsWellFormed config day
    → IsMalformed config day → ⊥
never_both config day well (OtherDealers differs) = differs well.firms.dealers
never_both config day well (OtherInvestors differs) = differs well.firms.investors
never_both config day well (OtherRoom room is unknown) =
    let clash : true ≡ false = sym (well.firms.rooms room is) ∙ unknown in
    absurd cc
never_both config day well (OtherInbox firm lists is differs) =
    differs (well.days firm lists is).inbox
never_both config day well (FirmSweeps firm lists is any) =
    let clash : true ≡ false = sym any ∙ (well.days firm lists is).sweeps_none in
    absurd cc
never_both config day well (DeskIsSwept firm lists is any) =
    let clash : true ≡ false = sym any ∙ (well.days firm lists is).not_swept in
    absurd cc
never_both config day well (ClockTakesMessage any) =
    let clash : true ≡ false = sym any ∙ well.clock in
    absurd cc
never_both config day well (Misnamed misnamed) = misnamed_never day well.named misnamed
