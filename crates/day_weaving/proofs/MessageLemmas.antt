-- Which message of the inbox of a firm comes with which of its actions.
use Rattle.std.proofs.Common.{◌≡◌, ◌≢◌, ◌<◌, ℕ, ◌+◌, ◌-◌, Bool, true, false, List, [], ◌∷◌, ◌++◌}
use Rattle.std.proofs.Common.{take, count_by, length, slice_get, Option, Some, None, arith, cond}
use Rattle.std.proofs.Common.{if◌then◌else◌, refl, sym, ap, subst, ◌∙◌}
use Rattle.std.specs.Prelude.{option_and_then}
use Rattle.std.specs.Option.{option_map}
use Rattle.std.proofs.lemmas.List.Sums.{count_by_more_no, count_by_more_yes, sum_by-append}
use Rattle.std.proofs.lemmas.Option.{get_or_from_slice_get, slice_get_within}
use Rattle.step_replay.specs.AuditTrail.{is_same_actor}
use Rattle.venue_steps.specs.declared.actors.Actor.{Actor}
use Rattle.venue_steps.specs.declared.actors.Actor.TheVariants as actor
use Rattle.step_replay.specs.declared.steps.Step.{Step}
use Rattle.step_replay.specs.declared.steps.Step.TheVariants as step
use Rattle.day_weaving.specs.DayForm.{takes_message}
use Rattle.day_weaving.specs.DayOrder.{is_by}
use Rattle.day_weaving.specs.OrderCounts.{AreOfInboxes, Counts, IsNext, SetsCount, TakesNext}
use Rattle.day_weaving.specs.OrderCounts.{count_in}
use Rattle.recorded_days.specs.Records.{FirmLists, RecordedDay, action_in, action_numbered}
use Rattle.recorded_days.specs.Records.{actions_of, firm_in}
use Rattle.recorded_days.specs.Kinds.{is_in}
use Rattle.day_weaving.specs.Weaving.{IsMessage, IsStepOfKind}
use Rattle.recorded_days.specs.declared.actions.Kind.{Kind}
use Rattle.recorded_days.specs.declared.actions.Kind.TheVariants as kind
use Rattle.recorded_days.specs.declared.actions.Action.{Action}
use Rattle.day_weaving.specs.declared.weave_plan.Slot.{Slot}
use Rattle.day_weaving.proofs.NumberedLemmas.{numbered_at}
use Rattle.step_replay.specs.QueueLemmas.{same_actor, one_actor}

-- Counts.

-- one item more is counted where it passes
pub count_one : {A : Type 0} (p : A → Bool) (xs : List A) (x : A) (b : Bool) → p x ≡ b
    → count_by p (xs ++ x ∷ []) ≡ count_by p xs + (if b then 1 else 0)
count_one p xs x b is =
    sum_by-append (λ (y : _). cond (p y) 1 0) xs (x ∷ [])
    ∙ ap (λ (n : ℕ). count_by p xs + n) (alone b is)
  where
    alone : (c : Bool) → p x ≡ c → count_by p (x ∷ []) ≡ (if c then 1 else 0)
    alone true same = rw same refl
    alone false same = rw same refl

pub taken_one : {A : Type 0} (p : A → Bool) (xs : List A) (n : ℕ) (x : A) (b : Bool)
    → slice_get xs n ≡ Some x → p x ≡ b
    → count_by p (take (n + 1) xs) ≡ count_by p (take n xs) + (if b then 1 else 0)
taken_one p xs n x true there is =
    let within : n < length xs = slice_get_within xs n x there in
    count_by_more_yes p xs n x within (ap p (get_or_from_slice_get xs n x x there) ∙ is)
taken_one p xs n x false there is =
    let within : n < length xs = slice_get_within xs n x there in
    let same : count_by p (take n xs) + 0 ≡ count_by p (take n xs) = omega arith in
    count_by_more_no p xs n x within (ap p (get_or_from_slice_get xs n x x there) ∙ is)
    ∙ sym same

-- An action more of an order.

module _ (day : RecordedDay) (before : List Slot) (slot : Slot) (action : Action)
    (is : Some action ≡ action_in day slot.action) (next : IsNext before slot) where
  -- the action among those of its firm
  pub acts : (firm : ℕ) (lists : FirmLists) → firm_in day firm ≡ Some lists
      → slot.action.0 ≡ actor.Firm firm
      → slice_get lists.actions (count_by (is_by (actor.Firm firm)) before) ≡ Some action
  acts firm lists lists_are by_firm =
      let number : slot.action.1 ≡ count_by (is_by (actor.Firm firm)) before + 1 =
      next ∙ ap (λ (by : Actor). count_by (is_by by) before + 1) by_firm in
      let least : 0 < slot.action.1 = omega arith in
      let back : slot.action.1 - 1 ≡ count_by (is_by (actor.Firm firm)) before = omega arith in
      let found : action_in day slot.action ≡ action_numbered slot.action.1 lists.actions =
      ap (λ (by : Actor). option_and_then (action_numbered slot.action.1) (actions_of day by)) by_firm
      ∙ ap (λ (held : Option FirmLists). option_and_then (action_numbered slot.action.1)
      (option_map (λ (recorded : FirmLists). recorded.actions) held)) lists_are in
      sym (is ∙ found ∙ numbered_at lists.actions slot.action.1 least
      ∙ ap (slice_get lists.actions) back)

  -- the messages that came from a firm
  came : (firm : ℕ) (lists : FirmLists) → firm_in day firm ≡ Some lists
      → (by_it message : Bool) → is_same_actor slot.action.0 (actor.Firm firm) ≡ by_it
      → takes_message action ≡ message
      → count_by takes_message (take (count_by (is_by (actor.Firm firm)) (before ++ slot ∷ []))
      lists.actions)
      ≡ count_by takes_message (take (count_by (is_by (actor.Firm firm)) before) lists.actions)
      + (if by_it then (if message then 1 else 0) else 0)
  came firm lists lists_are true message same is_message =
      ap (λ (n : ℕ). count_by takes_message (take n lists.actions))
      (count_one (is_by (actor.Firm firm)) before slot true same)
      ∙ taken_one takes_message lists.actions (count_by (is_by (actor.Firm firm)) before) action
      message (acts firm lists lists_are (one_actor slot.action.0 (actor.Firm firm) same)) is_message
  came firm lists lists_are false message other is_message =
      let same : count_by (is_by (actor.Firm firm)) (before ++ slot ∷ [])
      ≡ count_by (is_by (actor.Firm firm)) before =
      omega (arith, count_one (is_by (actor.Firm firm)) before slot false other) in
      let none : count_by takes_message
      (take (count_by (is_by (actor.Firm firm)) before) lists.actions) + 0
      ≡ count_by takes_message (take (count_by (is_by (actor.Firm firm)) before) lists.actions) =
      omega arith in
      ap (λ (n : ℕ). count_by takes_message (take n lists.actions)) same ∙ sym none

  -- another action counts no message
  pub came_stays : (counts : Counts) → takes_message action ≡ false
      → AreOfInboxes day counts before → AreOfInboxes day counts (before ++ slot ∷ [])
  came_stays counts no_message stand firm lists lists_are =
      by_test (is_same_actor slot.action.0 (actor.Firm firm)) refl
    where
      by_test : (b : Bool) → is_same_actor slot.action.0 (actor.Firm firm) ≡ b
          → count_in counts firm
          ≡ count_by takes_message (take (count_by (is_by (actor.Firm firm)) (before ++ slot ∷ []))
          lists.actions)
      by_test true test =
          let was = stand firm lists lists_are in
          let now = came firm lists lists_are true false test no_message in
          omega (arith, was, now)
      by_test false test =
          let was = stand firm lists lists_are in
          let now = came firm lists lists_are false false test no_message in
          omega (arith, was, now)

  -- a message is counted for its firm
  pub came_more : (counts after : Counts) (sender : ℕ) → takes_message action ≡ true
      → slot.action.0 ≡ actor.Firm sender
      → SetsCount counts after sender (count_in counts sender + 1)
      → AreOfInboxes day counts before → AreOfInboxes day after (before ++ slot ∷ [])
  came_more counts after sender message by_sender sets stand firm lists lists_are =
      by_test (is_same_actor slot.action.0 (actor.Firm firm)) refl
    where
      by_test : (b : Bool) → is_same_actor slot.action.0 (actor.Firm firm) ≡ b
          → count_in after firm
          ≡ count_by takes_message (take (count_by (is_by (actor.Firm firm)) (before ++ slot ∷ []))
          lists.actions)
      by_test true test =
          let both : actor.Firm sender ≡ actor.Firm firm =
          sym by_sender ∙ one_actor slot.action.0 (actor.Firm firm) test in
          let same : sender ≡ firm = cc in
          let set : count_in after firm ≡ count_in counts firm + 1 =
          subst (λ (n : ℕ). count_in after n ≡ count_in counts n + 1) same sets.set in
          let was = stand firm lists lists_are in
          let now = came firm lists lists_are true true test message in
          omega (arith, was, now, set)
      by_test false test =
          let differs : firm ≢ sender = λ same. never same in
          let kept = sets.others firm differs in
          let was = stand firm lists lists_are in
          let now = came firm lists lists_are false true test message in
          omega (arith, was, now, kept)
        where
          never : firm ≡ sender → ⊥
          never same =
              let clash : true ≡ false = sym (same_actor (actor.Firm firm))
              ∙ ap (λ (by : Actor). is_same_actor by (actor.Firm firm))
              (ap (λ (n : ℕ). actor.Firm n) same ∙ sym by_sender) ∙ test in
              absurd cc

-- The message that comes is that of the action.

pub is_message : (day : RecordedDay) (before : List Slot) (slot : Slot) (counts after : Counts)
    (steps now : List Step) → IsNext before slot → AreOfInboxes day counts before
    → TakesNext day slot counts after steps now
    → (next : Step) × (now ≡ steps ++ next ∷ []) × IsMessage day slot next
is_message day before slot counts after steps now number stand takes =
    by_lists (firm_in day takes.firm) refl takes.is_next
  where
    by_lists : (found : Option FirmLists) → firm_in day takes.firm ≡ found
        → option_and_then (λ (lists : FirmLists). slice_get lists.inbox (count_in counts takes.firm))
        found ≡ Some takes.inbound
        → (next : Step) × (now ≡ steps ++ next ∷ []) × IsMessage day slot next
    by_lists None none is = absurd cc
    by_lists (Some lists) lists_are is =
        let counted : slot.action.1 ≡ count_by (is_by (actor.Firm takes.firm)) before + 1 =
        number ∙ ap (λ (by : Actor). count_by (is_by by) before + 1) takes.by_firm in
        let back : slot.action.1 - 1 ≡ count_by (is_by (actor.Firm takes.firm)) before =
        omega arith in (
          step.In takes.firm takes.inbound.moment takes.inbound.bytes,
          takes.steps_are,
          record {
            firm = takes.firm;
            lists = lists;
            inbound = takes.inbound;
            by_firm = takes.by_firm;
            lists_are = lists_are;
            is_its = ap (λ (n : ℕ). slice_get lists.inbox
                (count_by takes_message (take n lists.actions))) back
                ∙ ap (slice_get lists.inbox) (sym (stand takes.firm lists lists_are)) ∙ is;
            step_is = refl;
          },
        )

-- Kinds of action.

pub turn_is : (day : RecordedDay) (of_kind : Kind) (slot : Slot) (moment : ℕ) (now : Step)
    → (of_kind ≡ kind.In → ⊥) → (of_kind ≡ kind.Expire → ⊥) → now ≡ step.Turn slot.action.0
    → IsStepOfKind day of_kind slot moment now
turn_is day kind.In slot moment now not_in not_expire is = absurd (not_in refl)
turn_is day kind.Expire slot moment now not_in not_expire is = absurd (not_expire refl)
turn_is day other slot moment now not_in not_expire is = is

pub no_message : (of_kind : Kind) → (of_kind ≡ kind.In → ⊥) → is_in of_kind ≡ false
no_message kind.In not_in = absurd (not_in refl)
no_message other not_in = refl
