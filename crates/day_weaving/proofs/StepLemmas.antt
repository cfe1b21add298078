-- The steps of an order that is kept.
use Rattle.std.proofs.Common.{◌≡◌, ◌<◌, ℕ, ◌+◌, Bool, true, nat_lt, List, [], ◌∷◌, ◌++◌, suc}
use Rattle.std.proofs.Common.{length, take, slice_get, slice_index_or, Option, Some, None, is_some}
use Rattle.std.proofs.Common.{arith, refl, sym, ap, subst, ◌∙◌, if◌then◌else◌}
use Rattle.std.specs.Prelude.{option_and_then}
use Rattle.std.specs.List.{AllZip}
use Rattle.std.specs.Option.{option_map}
use Rattle.std.proofs.lemmas.Bool.Decides.{nat_tests}
use Rattle.std.proofs.lemmas.List.{take_more}
use Rattle.std.proofs.lemmas.Option.{get_or_from_slice_get, slice_get_within}
use Rattle.market_terms.specs.declared.rooms.RoomRef.{RoomRef}
use Rattle.venue_rows.specs.Rows.{Configuration, has_room}
use Rattle.step_replay.specs.StepFaults.{fault_of, fault_of_firm, first_fault, first_fault_from}
use Rattle.step_replay.specs.StepFaults.{firms_of, or_else}
use Rattle.step_replay.specs.declared.faults.ReplayFault.{ReplayFault}
use Rattle.step_replay.specs.declared.faults.ReplayFault.TheVariants as fault
use Rattle.venue_steps.specs.declared.actors.Actor.{Actor}
use Rattle.venue_steps.specs.declared.actors.Actor.TheVariants as actor
use Rattle.step_replay.specs.declared.steps.Step.{Step}
use Rattle.step_replay.specs.declared.steps.Step.TheVariants as step
use Rattle.day_weaving.specs.DayForm.{HasFirmsOf, IsWellFormed}
use Rattle.day_weaving.specs.DayOrder.{KeepsOrder, StandsAt}
use Rattle.day_weaving.specs.OrderCounts.{AreOfInboxes, Counts, IsNext}
use Rattle.day_weaving.specs.OrderSearch.{IsSlot}
use Rattle.recorded_days.specs.Records.{ActionRef, FirmLists, RecordedDay, RoomLists}
use Rattle.recorded_days.specs.Records.{action_numbered, actions_of, firm_in, room_in}
use Rattle.day_weaving.specs.Weaving.{IsStepOf, IsStepOfKind}
use Rattle.recorded_days.specs.declared.actions.Kind.{Kind}
use Rattle.recorded_days.specs.declared.actions.Kind.TheVariants as kind
use Rattle.day_weaving.specs.declared.sites.Site.{Site}
use Rattle.day_weaving.specs.declared.sites.Site.TheVariants as site
use Rattle.day_weaving.specs.declared.weave_plan.Slot.{Slot}
use Rattle.day_weaving.proofs.NumberedLemmas.{within_some}
use Rattle.day_weaving.proofs.RecordRoomLemmas.{firm_within}

-- Lists.

got : (slots : List Slot) (place : ℕ) (now : Slot) → slice_get slots place ≡ Some now
    → slice_index_or slots place now ≡ now
got slots place now is = get_or_from_slice_get slots place now now is

pub taken_more : (slots : List Slot) (place : ℕ) (now : Slot) → slice_get slots place ≡ Some now
    → take (place + 1) slots ≡ take place slots ++ now ∷ []
taken_more slots place now is =
    take_more slots place now (slice_get_within slots place now is)
    ∙ ap (λ (found : Slot). take place slots ++ found ∷ []) (got slots place now is)

pub pairs_more : {A B : Type 0} (R : A → B → Type 0) (xs : List A) (ys : List B) (x : A) (y : B)
    → AllZip R xs ys → R x y → AllZip R (xs ++ x ∷ []) (ys ++ y ∷ [])
pairs_more R [] [] x y all one = (one, tt)
pairs_more R [] (b ∷ ys) x y all one = absurd all
pairs_more R (a ∷ xs) [] x y all one = absurd all
pairs_more R (a ∷ xs) (b ∷ ys) x y all one = (all.0, pairs_more R xs ys x y all.1 one)

-- The steps so far.

-- what is read at a place of an order stands there
there_is : (slots : List Slot) (index : ℕ) (one : Slot) → index < length slots
    → slice_get slots index ≡ Some (slice_index_or slots index one)
there_is slots index one within =
    let found = within_some slots index within in
    found.1
    ∙ ap (λ (s : Slot). Some s) (sym (get_or_from_slice_get slots index found.0 one found.1))

pub slot_in : (day : RecordedDay) (slots : List Slot) (index : ℕ) (one : Slot)
    → KeepsOrder day slots → index < length slots → IsSlot day (slice_index_or slots index one)
slot_in day slots index one keeps within =
    let turn =
    keeps.turns index (slice_index_or slots index one) (there_is slots index one within) in
    record {
      is_action = turn.is_action;
      stands = turn.stands;
    }

-- one step more
pub steps_more : (day : RecordedDay) (slots : List Slot) (index : ℕ) (one : Slot)
    (came after : Counts) (steps now : List Step) → KeepsOrder day slots → index < length slots
    → AllZip (IsStepOf day) (take index slots) steps → AreOfInboxes day came (take index slots)
    → ((before : List Slot) → AreOfInboxes day came before
    → IsNext before (slice_index_or slots index one)
    → (next : Step) × (now ≡ steps ++ next ∷ [])
    × IsStepOf day (slice_index_or slots index one) next)
    → ((before : List Slot) → AreOfInboxes day came before
    → IsNext before (slice_index_or slots index one)
    → AreOfInboxes day after (before ++ slice_index_or slots index one ∷ []))
    → (AllZip (IsStepOf day) (take (index + 1) slots) now)
    × AreOfInboxes day after (take (index + 1) slots)
steps_more day slots index one came after steps now keeps within are stand step counted = (
  subst (λ (l : List Slot). AllZip (IsStepOf day) l now) (sym more)
      (subst (λ (l : List Step). AllZip (IsStepOf day) (take index slots ++ slot ∷ []) l)
      (sym told.1)
      (pairs_more (IsStepOf day) (take index slots) steps slot told.0 are told.2)),
  subst (λ (l : List Slot). AreOfInboxes day after l) (sym more)
      (counted (take index slots) stand next),
)
  where
    slot : Slot
    slot = slice_index_or slots index one

    there : slice_get slots index ≡ Some slot
    there = there_is slots index one within

    next : IsNext (take index slots) slot
    next = (keeps.turns index slot there).of_actor

    told : (next_one : Step) × (now ≡ steps ++ next_one ∷ []) × IsStepOf day slot next_one
    told = step (take index slots) stand next

    more : take (index + 1) slots ≡ take index slots ++ slot ∷ []
    more = taken_more slots index slot there

-- The steps name what the venue has.

known_firm : (config : Configuration) (k firm : ℕ) → firm < firms_of config
    → fault_of_firm config k firm ≡ None
known_firm config k firm within =
    let test : nat_lt firm (firms_of config) ≡ true = grind (arith, nat_tests) in
    rw test refl

step_known : (config : Configuration) (day : RecordedDay) (slot : Slot) (now : Step) (k : ℕ)
    → HasFirmsOf config day → StandsAt day slot.site slot.spot slot.action
    → IsStepOf day slot now → fault_of config k now ≡ None
step_known config day slot now k firms stands is = by_kind is.action.kind is.step_is
  where
    actor_known : (by : Actor) → slot.action.0 ≡ by → fault_of config k (step.Turn by) ≡ None
    actor_known actor.Clock by_it = refl
    actor_known (actor.Firm firm) by_it = by_lists (firm_in day firm) refl
      where
        by_lists : (found : Option FirmLists) → firm_in day firm ≡ found
            → fault_of config k (step.Turn (actor.Firm firm)) ≡ None
        by_lists (Some lists) lists_are =
            known_firm config k firm (firm_within config day firms firm (ap is_some lists_are))
        by_lists None none =
            let clash : Some is.action ≡ None =
            sym is.action_is ∙ ap (λ (a : Actor). option_and_then
            (action_numbered slot.action.1) (actions_of day a)) by_it
            ∙ ap (λ (held : Option FirmLists). option_and_then (action_numbered slot.action.1)
            (option_map (λ (recorded : FirmLists). recorded.actions) held)) none in
            absurd cc

    room_known : (room : RoomRef) → slot.site ≡ site.Room room
        → has_room config room.investor room.n ≡ true
    room_known room at_it = by_room (room_in day room) refl
      where
        by_room : (found : Option RoomLists) → room_in day room ≡ found
            → has_room config room.investor room.n ≡ true
        by_room (Some lists) lists_are = firms.rooms room (ap is_some lists_are)
        by_room None none =
            let there : StandsAt day (site.Room room) slot.spot slot.action =
            subst (λ (at : Site). StandsAt day at slot.spot slot.action) at_it stands in
            let clash : None ≡ Some slot.action =
            ap (λ (held : Option RoomLists). option_and_then
            (λ (order : List ActionRef). slice_get order slot.spot)
            (option_map (λ (lists : RoomLists). lists.order) held)) (sym none) ∙ there in
            absurd cc

    by_kind : (of_kind : Kind) → IsStepOfKind day of_kind slot is.action.moment now
        → fault_of config k now ≡ None
    by_kind kind.In message =
        ap (fault_of config k) message.step_is
        ∙ known_firm config k message.firm
        (firm_within config day firms message.firm (ap is_some message.lists_are))
    by_kind kind.Expire sweep =
        ap (fault_of config k) sweep.step_is
        ∙ ap (λ (b : Bool). if b then None else Some (fault.UnknownRoom k))
        (room_known sweep.room sweep.room_is)
    by_kind other turn =
        ap (fault_of config k) turn ∙ actor_known slot.action.0 refl

all_known : (config : Configuration) (day : RecordedDay) (slots : List Slot) (steps : List Step)
    (k : ℕ) → HasFirmsOf config day
    → ((place : ℕ) (slot : Slot) → slice_get slots place ≡ Some slot
    → StandsAt day slot.site slot.spot slot.action)
    → AllZip (IsStepOf day) slots steps → first_fault_from config k steps ≡ None
all_known config day [] [] k firms stand are = refl
all_known config day [] (now ∷ steps) k firms stand are = absurd are
all_known config day (slot ∷ slots) [] k firms stand are = absurd are
all_known config day (slot ∷ slots) (now ∷ steps) k firms stand are =
    ap (λ (found : Option ReplayFault). or_else found (first_fault_from config (k + 1) steps))
    (step_known config day slot now k firms (stand 0 slot refl) are.0)
    ∙ all_known config day slots steps (k + 1) firms (λ place found there.
    stand (suc place) found there) are.1

pub steps_known : (config : Configuration) (day : RecordedDay) (slots : List Slot)
    (steps : List Step) → IsWellFormed config day → KeepsOrder day slots
    → AllZip (IsStepOf day) slots steps → first_fault config steps ≡ None
steps_known config day slots steps well keeps are =
    all_known config day slots steps 1 well.firms
    (λ place slot there. (keeps.turns place slot there).stands) are
