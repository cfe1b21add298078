-- An order that is kept has each action of its day behind all that are directly before it.
use Rattle.std.proofs.Common.{◌≡◌, ◌<◌, ◌≤◌, ℕ, zero, suc, ◌+◌, ◌-◌, ◌==◌, Bool, true, false, ◌&&◌}
use Rattle.std.proofs.Common.{nat_lt, not, List, take, length, count_by, slice_get, Option, Some}
use Rattle.std.proofs.Common.{is_some, arith, refl, sym, ap, subst, ◌∙◌, eq-eqb}
use Rattle.std.specs.Option.{option_map_or}
use Rattle.std.proofs.lemmas.Bool.Decides.{nat_tests}
use Rattle.std.proofs.lemmas.Option.{slice_get_within}
use Rattle.quote_word.specs.declared.settled.Settled.{Settled}
use Rattle.venue_rows.specs.Rows.{Configuration}
use Rattle.day_weaving.specs.DayForm.{AreNamedOnce, IsWellFormed}
use Rattle.day_weaving.specs.DayOrder.{ByActor, BySite, ByWord, IsBehind, IsCycle}
use Rattle.day_weaving.specs.DayOrder.{IsDirectlyBefore, IsFirst, IsNextAtSite, KeepsOrder}
use Rattle.day_weaving.specs.DayOrder.{OfOneWord, StandsAt, grants, is_as_wished, is_by, is_granted}
use Rattle.day_weaving.specs.DayOrder.{is_refused, refuses}
use Rattle.day_weaving.specs.OrderLaws.{ComesBefore, StandsIn}
use Rattle.recorded_days.specs.Records.{ActionRef, RecordedDay, action_in}
use Rattle.recorded_days.specs.declared.actions.Action.{Action}
use Rattle.day_weaving.specs.declared.sites.Site.{Site}
use Rattle.day_weaving.specs.Weaving.{FaultIsTrue, IsDifferentOrMemory}
use Rattle.day_weaving.specs.declared.weave_plan.Slot.{Slot}
use Rattle.day_weaving.specs.declared.weaving.WeaveFault.{WeaveFault}
use Rattle.day_weaving.specs.declared.weaving.WeaveFault.TheVariants as fault
use Rattle.day_weaving.proofs.DayFormLemmas.{never_both}
use Rattle.day_weaving.proofs.NthLemmas.{mono, none_passes}
use Rattle.day_weaving.proofs.ActorOrderLemmas.{number_at, by_numbers, stands_once}
use Rattle.step_replay.specs.QueueLemmas.{one_actor}

-- Desks and rooms.

module _ (day : RecordedDay) (slots : List Slot) (named : AreNamedOnce day)
    (keeps : KeepsOrder day slots) where
  -- what came before an action at its desk or in its room
  pub record Previous (at : Site) (spot later : ℕ) : Type 0 where
    pub action : ActionRef
    pub stands : StandsAt day at spot action
    pub place : ℕ
    pub stands_in : StandsIn slots action place
    pub earlier : place < later

  previous_of : (at : Site) (spot : ℕ) (other : ActionRef) (later : ℕ)
      → StandsAt day at (spot + 1) other → StandsIn slots other later → Previous at spot later
  previous_of at spot other later stands stands_in =
      let turn = keeps.turns later stands_in.slot stands_in.there in
      let here : StandsAt day stands_in.slot.site stands_in.slot.spot other =
      subst (StandsAt day stands_in.slot.site stands_in.slot.spot) stands_in.is_it turn.stands in
      let same = named.once other stands_in.slot.site at stands_in.slot.spot (spot + 1) here stands in
      by_turn same.0 same.1 turn.at_site
    where
      by_turn : stands_in.slot.site ≡ at → stands_in.slot.spot ≡ spot + 1
          → IsNextAtSite day (take later slots) stands_in.slot → Previous at spot later
      by_turn site_is spot_is (IsFirst first) = absurd (omega arith)
      by_turn site_is spot_is (IsBehind previous stood within) =
          let back : stands_in.slot.spot - 1 ≡ spot = omega arith in
          let there : StandsAt day at spot previous =
          subst (λ (n : ℕ). StandsAt day at n previous) back
          (subst (λ (s : Site). StandsAt day s (stands_in.slot.spot - 1) previous) site_is stood) in
          let found = stands_once day slots keeps previous
          (named.nothing_else previous at spot there) in
          let number : previous.1 ≡ count_by (is_by previous.0) (take found.place slots) + 1 =
          number_at day slots keeps previous found.place found.stands in
          record {
            action = previous;
            stands = there;
            place = found.place;
            stands_in = found.stands;
            earlier = by_test found.place number (nat_lt found.place later) refl;
          }
        where
          by_test : (place : ℕ)
              → previous.1 ≡ count_by (is_by previous.0) (take place slots) + 1
              → (b : Bool) → nat_lt place later ≡ b → place < later
          by_test place number true test = grind (arith, nat_tests)
          by_test place number false test =
              let behind : later ≤ place = grind (arith, nat_tests) in
              let grows : count_by (is_by previous.0) (take later slots)
              ≤ count_by (is_by previous.0) (take place slots) =
              mono (is_by previous.0) slots later place behind in
              absurd (omega (arith, number, within, grows))

  by_spots : (at : Site) (one_spot other_spot : ℕ) (one other : ActionRef) → one_spot < other_spot
      → StandsAt day at one_spot one → StandsAt day at other_spot other
      → ComesBefore slots one other
  by_spots at one_spot zero one other earlier is is_too place later stands stands_too =
      absurd (omega arith)
  by_spots at one_spot (suc spot) one other earlier is is_too place later stands stands_too =
      let number : suc spot ≡ spot + 1 = omega arith in
      let there : StandsAt day at (spot + 1) other =
      subst (λ (n : ℕ). StandsAt day at n other) number is_too in
      by_test (λ (middle : ActionRef) (under : one_spot < spot)
      (there_is : StandsAt day at spot middle). by_spots at one_spot spot one middle under is there_is)
      (previous_of at spot other later there stands_too) (nat_lt one_spot spot) refl
    where
      by_test : ((middle : ActionRef) → one_spot < spot → StandsAt day at spot middle
          → ComesBefore slots one middle) → Previous at spot later → (b : Bool)
          → nat_lt one_spot spot ≡ b → place < later
      by_test nearer previous true test =
          let before_it : one_spot < spot = grind (arith, nat_tests) in
          let first : place < previous.place =
          nearer previous.action before_it previous.stands place previous.place stands
          previous.stands_in in
          let second : previous.place < later = previous.earlier in
          omega arith
      by_test nearer previous false test =
          let same : one_spot ≡ spot = grind (arith, nat_tests) in
          let one_there : StandsAt day at spot one =
          subst (λ (n : ℕ). StandsAt day at n one) same is in
          let both : Some one ≡ Some previous.action = sym one_there ∙ previous.stands in
          let is_previous : one ≡ previous.action = cc in
          let once = stands_once day slots keeps one (named.nothing_else one at spot one_there) in
          let here : place ≡ once.place = once.nowhere_else place stands in
          let its : previous.place ≡ once.place = once.nowhere_else previous.place
          (subst (λ (a : ActionRef). StandsIn slots a previous.place) (sym is_previous)
          previous.stands_in) in
          let second : previous.place < later = previous.earlier in
          omega arith

  -- Words.

  by_word : (one other : ActionRef) → OfOneWord day one other → ComesBefore slots one other
  by_word one other asked place later stands stands_too = by_test (nat_lt place later) refl
    where
      granted_there : is_granted day asked.word stands.slot ≡ true
      granted_there =
          ap (λ (a : ActionRef). option_map_or (grants asked.word) (action_in day a) false)
          stands.is_it
          ∙ ap (λ (a : Option Action). option_map_or (grants asked.word) a false) asked.one_is
          ∙ ap (λ (w : Option (ℕ × Settled)). option_map_or (λ (one : ℕ × Settled).
          (one.0 == asked.word) && is_as_wished asked.granted.kind one.1) w false)
          asked.one_asked.word_is
          ∙ ap (λ (b : Bool). b && is_as_wished asked.granted.kind asked.one_asked.settlement)
          (eq-eqb asked.word asked.word refl)
          ∙ asked.one_asked.wished_is

      refused_there : is_refused day asked.word stands_too.slot ≡ true
      refused_there =
          ap (λ (a : ActionRef). option_map_or (refuses asked.word) (action_in day a) false)
          stands_too.is_it
          ∙ ap (λ (a : Option Action). option_map_or (refuses asked.word) a false) asked.other_is
          ∙ ap (λ (w : Option (ℕ × Settled)). option_map_or (λ (one : ℕ × Settled).
          (one.0 == asked.word) && not (is_as_wished asked.refused.kind one.1)) w false)
          asked.other_asked.word_is
          ∙ ap (λ (b : Bool). b && not (is_as_wished asked.refused.kind asked.other_asked.settlement))
          (eq-eqb asked.word asked.word refl)
          ∙ ap (λ (b : Bool). not b) asked.other_asked.wished_is

      apart : place ≡ later → ⊥
      apart same =
          let found : Some stands.slot ≡ Some stands_too.slot =
          sym stands.there ∙ ap (slice_get slots) same ∙ stands_too.there in
          let slot : stands.slot ≡ stands_too.slot = cc in
          let action : Some asked.granted ≡ Some asked.refused =
          sym asked.one_is ∙ ap (action_in day) (sym stands.is_it
          ∙ ap (λ (s : Slot). s.action) slot ∙ stands_too.is_it) ∙ asked.other_is in
          let same_action : asked.granted ≡ asked.refused = cc in
          let left : ℕ × Settled = (asked.word, asked.one_asked.settlement) in
          let right : ℕ × Settled = (asked.word, asked.other_asked.settlement) in
          let answers : Some left ≡ Some right =
          sym asked.one_asked.word_is ∙ ap (λ (a : Action). a.word) same_action
          ∙ asked.other_asked.word_is in
          let pair : left ≡ right = cc in
          let settlement : asked.one_asked.settlement ≡ asked.other_asked.settlement =
          ap (λ (asked_one : ℕ × Settled). asked_one.1) pair in
          let clash : true ≡ false = sym asked.one_asked.wished_is
          ∙ ap (λ (a : Action). is_as_wished a.kind asked.one_asked.settlement) same_action
          ∙ ap (is_as_wished asked.refused.kind) settlement ∙ asked.other_asked.wished_is in
          absurd cc

      by_test : (b : Bool) → nat_lt place later ≡ b → place < later
      by_test true test = grind (arith, nat_tests)
      by_test false test = by_equal (place == later) refl
        where
          by_equal : (e : Bool) → (place == later) ≡ e → place < later
          by_equal true equal =
              let same : place ≡ later = grind (arith, nat_tests) in
              absurd (apart same)
          by_equal false differs =
              let behind : later < place = grind (arith, nat_tests) in
              let turn = (keeps.turns place stands.slot stands.there).by_word asked.word
              granted_there in
              let clash : true ≡ false = sym refused_there
              ∙ none_passes (is_refused day asked.word) slots place later stands_too.slot
              stands_too.there behind turn in
              absurd cc

  -- All together.

  pub comes_before : (one other : ActionRef) → IsDirectlyBefore day one other
      → ComesBefore slots one other
  comes_before one other (ByActor acts) =
      by_numbers day slots keeps one other (one_actor one.0 other.0 acts.same) acts.earlier
  comes_before one other (BySite stands) =
      by_spots stands.at stands.one_spot stands.other_spot one other stands.earlier stands.one_is
      stands.other_is
  comes_before one other (ByWord asked) = by_word one other asked

  is_action : (one other : ActionRef) → IsDirectlyBefore day one other
      → (is_some (action_in day one) ≡ true) × (is_some (action_in day other) ≡ true)
  is_action one other (ByActor acts) = (acts.one_is, acts.other_is)
  is_action one other (BySite stands) = (
    named.nothing_else one stands.at stands.one_spot stands.one_is,
    named.nothing_else other stands.at stands.other_spot stands.other_is,
  )
  is_action one other (ByWord asked) = (ap is_some asked.one_is, ap is_some asked.other_is)

  -- no action of a cycle stands anywhere
  never : (actions : List ActionRef) → IsCycle day actions → (n index : ℕ) (action : ActionRef)
      → slice_get actions index ≡ Some action → (place : ℕ) → StandsIn slots action place
      → place < n → ⊥
  never actions cycle zero index action there place stands below = omega arith
  never actions cycle (suc n) index action there place stands below =
      let within : index < length actions = slice_get_within actions index action there in
      let back = cycle.each index within in
      let both : Some back.later_is ≡ Some action = sym back.later_there ∙ there in
      let same : back.later_is ≡ action = cc in
      let directly : IsDirectlyBefore day back.one_is action =
      subst (IsDirectlyBefore day back.one_is) same back.before in
      let once = stands_once day slots keeps back.one_is (is_action back.one_is action directly).0 in
      let less : once.place < place =
      comes_before back.one_is action directly once.place place once.stands stands in
      let lower : once.place < n = omega arith in
      never actions cycle n back.other back.one_is back.one_there once.place once.stands lower

  pub no_cycle : (actions : List ActionRef) → IsCycle day actions → ⊥
  no_cycle actions cycle =
      let back = cycle.each 0 cycle.some in
      let once = stands_once day slots keeps back.one_is
      (is_action back.one_is back.later_is back.before).0 in
      let under : once.place < once.place + 1 = omega arith in
      never actions cycle (once.place + 1) back.other back.one_is back.one_there once.place
      once.stands under

-- Faults.

pub told_with_an_order : (config : Configuration) (day : RecordedDay) (slots : List Slot)
    (why : WeaveFault) → IsWellFormed config day → KeepsOrder day slots
    → FaultIsTrue config day why → IsDifferentOrMemory why
told_with_an_order config day slots fault.Malformed well keeps is =
    absurd (never_both config day well is)
told_with_an_order config day slots (fault.Cycle actions) well keeps is =
    absurd (no_cycle day slots well.named keeps actions.items is.1)
told_with_an_order config day slots (fault.Differs firm) well keeps is = tt
told_with_an_order config day slots fault.Memory well keeps is = tt
