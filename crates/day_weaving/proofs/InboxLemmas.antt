-- The message of an action, from the inbox of its firm, and a sweep's room.
use Rattle.std.proofs.Common.{◌≡◌, ◌<◌, ◌≤◌, ℕ, ◌+◌, ◌-◌, true, false, List, length, take, count_by}
use Rattle.std.proofs.Common.{slice_get, Option, Some, None, arith, refl, sym, ap, subst, ◌∙◌}
use Rattle.std.specs.Prelude.{option_and_then}
use Rattle.std.specs.List.{list_any}
use Rattle.std.specs.Option.{option_map, option_map_or}
use Rattle.std.proofs.lemmas.List.{take_all}
use Rattle.std.proofs.lemmas.List.Folds.{list_any_at}
use Rattle.std.proofs.lemmas.Option.{get_or_from_slice_get, slice_get_within}
use Rattle.market_terms.specs.declared.rooms.RoomRef.{RoomRef}
use Rattle.venue_rows.specs.Rows.{Configuration}
use Rattle.venue_steps.specs.declared.actors.Actor.{Actor}
use Rattle.venue_steps.specs.declared.actors.Actor.TheVariants as actor
use Rattle.day_weaving.specs.DayForm.{IsWellFormed, names_sweep, sweeps, takes_message}
use Rattle.day_weaving.specs.DayOrder.{StandsAt, is_by}
use Rattle.day_weaving.specs.OrderCounts.{AreOfInboxes, Counts, IsNext, count_in, inbound_at}
use Rattle.day_weaving.specs.OrderSearch.{IsSlot}
use Rattle.recorded_days.specs.Records.{ActionRef, FirmLists, RecordedDay, action_in}
use Rattle.recorded_days.specs.Records.{action_numbered, actions_of, firm_in}
use Rattle.recorded_days.specs.declared.actions.Action.{Action}
use Rattle.recorded_days.specs.declared.actions.Inbound.{Inbound}
use Rattle.day_weaving.specs.declared.sites.Site.{Site}
use Rattle.day_weaving.specs.declared.sites.Site.TheVariants as site
use Rattle.day_weaving.specs.declared.weave_plan.Slot.{Slot}
use Rattle.day_weaving.proofs.NumberedLemmas.{numbered_at, within_some}
use Rattle.day_weaving.proofs.MessageLemmas.{acts, taken_one}
use Rattle.day_weaving.proofs.NthLemmas.{mono}

-- The message of an action.

-- there is one in the inbox for each that came
pub record HasMessage (day : RecordedDay) (slot : Slot) (counts : Counts) : Type 0 where
  pub firm : ℕ
  pub inbound : Inbound
  pub by_firm : slot.action.0 ≡ actor.Firm firm
  pub there : inbound_at day firm (count_in counts firm) ≡ Some inbound

pub has_message : (config : Configuration) (day : RecordedDay) (before : List Slot) (slot : Slot)
    (action : Action) (counts : Counts) → IsWellFormed config day
    → Some action ≡ action_in day slot.action → IsNext before slot → takes_message action ≡ true
    → AreOfInboxes day counts before → HasMessage day slot counts
has_message config day before slot action counts well is next message stand =
    by_actor slot.action.0 refl
  where
    by_actor : (by : Actor) → slot.action.0 ≡ by → HasMessage day slot counts
    by_actor actor.Clock by_it =
        let found : Some action ≡ action_numbered slot.action.1 day.clock =
        is ∙ ap (λ (a : Actor). option_and_then (action_numbered slot.action.1) (actions_of day a))
        by_it in
        let least : 0 < slot.action.1 = omega (arith, next) in
        let there : slice_get day.clock (slot.action.1 - 1) ≡ Some action =
        sym (found ∙ numbered_at day.clock slot.action.1 least) in
        let within : slot.action.1 - 1 < length day.clock =
        slice_get_within day.clock (slot.action.1 - 1) action there in
        let some_one : list_any takes_message day.clock ≡ true =
        list_any_at takes_message day.clock (slot.action.1 - 1) action within
        (ap takes_message (get_or_from_slice_get day.clock (slot.action.1 - 1) action action there)
        ∙ message) in
        let clash : true ≡ false = sym some_one ∙ well.clock in
        absurd cc
    by_actor (actor.Firm firm) by_it = by_lists (firm_in day firm) refl
      where
        by_lists : (found : Option FirmLists) → firm_in day firm ≡ found
            → HasMessage day slot counts
        by_lists None none =
            let clash : Some action ≡ None =
            is ∙ ap (λ (a : Actor). option_and_then (action_numbered slot.action.1)
            (actions_of day a)) by_it
            ∙ ap (λ (held : Option FirmLists). option_and_then (action_numbered slot.action.1)
            (option_map (λ (recorded : FirmLists). recorded.actions) held)) none in
            absurd cc
        by_lists (Some lists) lists_are =
            let there : slice_get lists.actions number ≡ Some action =
            acts day before slot action is next firm lists lists_are by_it in
            let inside : number < length lists.actions =
            slice_get_within lists.actions number action there in
            let one_more : count_by takes_message (take (number + 1) lists.actions)
            ≡ count_by takes_message (take number lists.actions) + 1 =
            taken_one takes_message lists.actions number action true there message in
            let most : number + 1 ≤ length lists.actions = omega arith in
            let all : length lists.actions ≤ length lists.actions = omega arith in
            let total : count_by takes_message (take (length lists.actions) lists.actions)
            ≡ count_by takes_message lists.actions =
            ap (count_by takes_message) (take_all (length lists.actions) lists.actions all) in
            let grows : count_by takes_message (take (number + 1) lists.actions)
            ≤ count_by takes_message (take (length lists.actions) lists.actions) =
            mono takes_message lists.actions (number + 1) (length lists.actions) most in
            let inbox : count_by takes_message lists.actions ≡ length lists.inbox =
            (well.days firm lists lists_are).inbox in
            let came : count_in counts firm
            ≡ count_by takes_message (take number lists.actions) = stand firm lists lists_are in
            let within : count_in counts firm < length lists.inbox =
            omega (arith, one_more, total, grows, inbox, came) in
            let found = within_some lists.inbox (count_in counts firm) within in
            record {
              firm = firm;
              inbound = found.0;
              by_firm = by_it;
              there = ap (λ (held : Option FirmLists). option_and_then
                  (λ (one : FirmLists). slice_get one.inbox (count_in counts firm)) held) lists_are
                  ∙ found.1;
            }
          where
            number : ℕ
            number = count_by (is_by (actor.Firm firm)) before

-- A sweep comes to a room.

pub swept_room : (config : Configuration) (day : RecordedDay) (slot : Slot) (action : Action)
    → IsWellFormed config day → IsSlot day slot → Some action ≡ action_in day slot.action
    → sweeps action ≡ true → (room : RoomRef) × (slot.site ≡ site.Room room)
swept_room config day slot action well is_slot is swept = by_site slot.site refl
  where
    by_site : (at : Site) → slot.site ≡ at → (room : RoomRef) × (slot.site ≡ site.Room room)
    by_site (site.Room room) at_it = (room, at_it)
    by_site (site.Desk firm) at_it = by_lists (firm_in day firm) refl
      where
        stands : StandsAt day (site.Desk firm) slot.spot slot.action
        stands =
            subst (λ (at : Site). StandsAt day at slot.spot slot.action) at_it is_slot.stands

        named : names_sweep day slot.action ≡ true
        named =
            ap (λ (a : Option Action). option_map_or sweeps a false) (sym is) ∙ swept

        by_lists : (found : Option FirmLists) → firm_in day firm ≡ found
            → (room : RoomRef) × (slot.site ≡ site.Room room)
        by_lists None none =
            let clash : None ≡ Some slot.action =
            ap (λ (held : Option FirmLists). option_and_then
            (λ (order : List ActionRef). slice_get order slot.spot)
            (option_map (λ (lists : FirmLists). lists.order) held)) (sym none) ∙ stands in
            absurd cc
        by_lists (Some lists) lists_are =
            let there : slice_get lists.order slot.spot ≡ Some slot.action =
            ap (λ (held : Option FirmLists). option_and_then
            (λ (order : List ActionRef). slice_get order slot.spot)
            (option_map (λ (one : FirmLists). one.order) held)) (sym lists_are) ∙ stands in
            let within : slot.spot < length lists.order =
            slice_get_within lists.order slot.spot slot.action there in
            let some_one : list_any (names_sweep day) lists.order ≡ true =
            list_any_at (names_sweep day) lists.order slot.spot slot.action within
            (ap (names_sweep day)
            (get_or_from_slice_get lists.order slot.spot slot.action slot.action there) ∙ named) in
            let clash : true ≡ false =
            sym some_one ∙ (well.days firm lists lists_are).not_swept in
            absurd cc

-- The inbox of a firm.

pub inbox_at : (day : RecordedDay) (firm at : ℕ) (inbox : List Inbound)
    → Some inbox ≡ option_map (λ (lists : FirmLists). lists.inbox) (firm_in day firm)
    → inbound_at day firm at ≡ slice_get inbox at
inbox_at day firm at inbox is = by_lists (firm_in day firm) refl
  where
    by_lists : (found : Option FirmLists) → firm_in day firm ≡ found
        → inbound_at day firm at ≡ slice_get inbox at
    by_lists None none =
        let clash : Some inbox ≡ None =
        is ∙ ap (option_map (λ (lists : FirmLists). lists.inbox)) none in
        absurd cc
    by_lists (Some lists) lists_are =
        let both : Some inbox ≡ Some lists.inbox =
        is ∙ ap (option_map (λ (one : FirmLists). one.inbox)) lists_are in
        let same : inbox ≡ lists.inbox = cc in
        ap (λ (held : Option FirmLists). option_and_then
        (λ (one : FirmLists). slice_get one.inbox at) held) lists_are
        ∙ ap (λ (list : List Inbound). slice_get list at) (sym same)
