-- After every list of steps the quotes of a dealer on a request ascend; so they are shown in the
-- order in which they were accepted, and each at most once.
use Rattle.std.proofs.Common.{◌≡◌, ◌≤◌, ◌<◌, ℕ, ◌==◌, true, false, ◌&&◌, nat_le, List}
use Rattle.std.proofs.Common.{[], ◌∷◌, ◌++◌, filter_map, fold, length, count_by, Option, Some}
use Rattle.std.proofs.Common.{refl, sym, ap, ◌∙◌, subst, arith, inl, inr, eq-eqb}
use Rattle.std.proofs.lemmas.Bool.{cases_Bool, eqb-true}
use Rattle.std.proofs.lemmas.List.{append_assoc}
use Rattle.std.proofs.lemmas.List.Elements.{filter_map-append}
use Rattle.std.proofs.lemmas.Option.{same_Some}
use Rattle.market_terms.specs.declared.duties.Duty.{Duty}
use Rattle.market_terms.specs.declared.rooms.Offer.{Offer}
use Rattle.market_terms.specs.declared.rooms.RoomRef.{RoomRef}
use Rattle.venue_rows.specs.Rows.{Configuration, dealer_numbered}
use Rattle.venue_rows.specs.declared.dealer_rows.DealerRow.{DealerRow}
use Rattle.venue_steps.specs.declared.actors.Actor.{Actor}
use Rattle.venue_steps.specs.declared.actors.Actor.TheVariants as actor
use Rattle.dealer_desk.specs.DealerFacts.{Quoted}
use Rattle.dealer_desk.specs.declared.accepted.AcceptedQuote.{AcceptedQuote}
use Rattle.investor_desk.specs.declared.standing.ShownOffer.{ShownOffer}
use Rattle.step_replay.specs.Actions.{Effect}
use Rattle.step_replay.specs.AuditTrail.{AuditTrail, after_step, after_turn, audit_trail}
use Rattle.step_replay.specs.AuditTrail.{duty_of, is_same_actor, no_steps, pending, with_effect}
use Rattle.step_replay.specs.DealerTrail as dealer_trail
use Rattle.step_replay.specs.DutyEffects.{duty_effect, message_effect, sweep_effect}
use Rattle.step_replay.specs.GrowthLemmas.{all_in}
use Rattle.step_replay.specs.Lists.{Every}
use Rattle.step_replay.specs.QueueLemmas.{grown_within, one_actor, other_pending, other_turned}
use Rattle.step_replay.specs.QueueLemmas.{other_within, own_pending, own_turned, own_within}
use Rattle.step_replay.specs.QueueLemmas.{same_either}
use Rattle.step_replay.specs.VenueFacts.{Fact, of_dealer, of_investor}
use Rattle.step_replay.specs.declared.steps.Step.{Step}
use Rattle.step_replay.specs.declared.steps.Step.TheVariants as step
use Rattle.laws_days.specs.DayParts.{pending_ok}
use Rattle.laws_shown.specs.ShownQuotes.{AreShownInOrder, AreShownOnce, IsShown}
use Rattle.laws_shown.specs.ShownRequests.{at_dealer, room_of}
use Rattle.laws_shown.proofs.Ascending.{Ascends, ascends_apart, number_of_word, own_number}
use Rattle.laws_shown.proofs.ShownDay.{DayOk, day_ok, step_stands}
use Rattle.laws_shown.proofs.ShownLaws.{dealer_facts}
use Rattle.laws_shown.proofs.ShownOrder.{InOrder, accepted, left_numbers, order_beside}
use Rattle.laws_shown.proofs.ShownOrder.{quiet_numbers, shown_by, shown_numbers}
use Rattle.laws_shown.proofs.ShownParts.{DealerOk, DutyOk, WasQuoted}
use Rattle.laws_shown.proofs.ShownQuiet.{message_quiet, sweep_quiet}
use Rattle.laws_shown.proofs.ShownTurns.{QuotesOk, other_turn, own_message, own_turn}

module _ (config : Configuration) where
  -- what is in order for one dealer and one room
  abbrev OrderIn : AuditTrail → ℕ → RoomRef → Type 0
  OrderIn venue dealer room =
      InOrder config dealer room venue.facts (pending (actor.Firm dealer) venue)
      (accepted dealer venue.facts)

  in_order : (dealer : ℕ) (room : RoomRef) (facts : List Fact) (duties left : List Duty)
      → left ≡ duties → InOrder config dealer room facts duties (accepted dealer facts)
      → InOrder config dealer room facts left (accepted dealer facts)
  in_order dealer room facts duties left is order = rw is order

  module _ (venue : AuditTrail) (day : DayOk config venue) (ok : QuotesOk config venue) where
    -- an effect that shows nothing, of another actor
    beside : (by : Actor) (effect : Effect) (dealer : ℕ) (room : RoomRef)
        → is_same_actor by (actor.Firm dealer) ≡ false
        → shown_numbers config dealer room effect.facts ≡ [] → OrderIn venue dealer room
        → OrderIn (with_effect by venue effect) dealer room
    beside by effect dealer room differs none order =
        in_order dealer room (venue.facts ++ effect.facts) (pending (actor.Firm dealer) venue)
        (pending (actor.Firm dealer) (with_effect by venue effect))
        (other_pending by (actor.Firm dealer) venue effect differs)
        (order_beside config dealer room venue.facts effect.facts
        (pending (actor.Firm dealer) venue) none order)

    message_order : (firm moment : ℕ) (bytes : List ℕ) (dealer : ℕ) (row : DealerRow)
        → dealer_numbered config dealer ≡ Some row → (room : RoomRef)
        → OrderIn (with_effect (actor.Firm firm) venue
        (message_effect config venue.facts firm moment bytes)) dealer room
    message_order firm moment bytes dealer row is room =
        let effect = message_effect config venue.facts firm moment bytes in
        elim (cases_Bool (firm == dealer)) [
          | inl same ↦
              subst (λ f. OrderIn (with_effect (actor.Firm f) venue
              (message_effect config venue.facts f moment bytes)) dealer room)
              (sym (eqb-true firm dealer same)) (own_order moment bytes dealer row is room)
          | inr differs ↦
              beside (actor.Firm firm) effect dealer room differs
              (quiet_numbers config dealer room effect
              (message_quiet config venue.facts firm moment bytes)) (ok.order dealer row is room)
        ]
      where
        own_order : (when : ℕ) (text : List ℕ) (d : ℕ) (r : DealerRow)
            → dealer_numbered config d ≡ Some r → (at : RoomRef)
            → OrderIn (with_effect (actor.Firm d) venue
            (message_effect config venue.facts d when text)) d at
        own_order when text d r found at =
            let effect = message_effect config venue.facts d when text in
            in_order d at (venue.facts ++ effect.facts)
            (pending (actor.Firm d) venue ++ effect.duties)
            (pending (actor.Firm d) (with_effect (actor.Firm d) venue effect))
            (own_pending (actor.Firm d) venue effect (ok.within (actor.Firm d)))
            (own_message config d r found at venue.facts when text (pending (actor.Firm d) venue)
            (ok.order d r found at))

    effect_within : (by : Actor) (effect : Effect) (other : Actor)
        → count_by (is_same_actor other) (with_effect by venue effect).done
        ≤ length (filter_map (duty_of other) (with_effect by venue effect).caused)
    effect_within by effect other = grown_within by other venue effect (ok.within other)

    -- A turn.

    module _ (by : Actor) (left : Duty) (rest : List Duty)
        (is : pending by venue ≡ left ∷ rest) (fits : DutyOk config venue.facts by left) where
      abbrev effect : Effect
      effect = duty_effect config venue.facts by left

      abbrev then_day : AuditTrail
      then_day = with_effect by (record venue { done = venue.done ++ by ∷ [] }) effect

      turn_within : (other : Actor) → count_by (is_same_actor other) then_day.done
          ≤ length (filter_map (duty_of other) then_day.caused)
      turn_within other = elim (cases_Bool (is_same_actor by other)) [
        | inl same ↦
            subst (λ a. count_by (is_same_actor a) then_day.done
            ≤ length (filter_map (duty_of a) then_day.caused)) (one_actor by other same)
            (own_within by venue effect left rest is)
        | inr differs ↦
            other_within by other venue effect differs (same_either by other differs)
            (ok.within other)
      ]

      own_turn_order : (dealer : ℕ) (row : DealerRow) → dealer_numbered config dealer ≡ Some row
          → (room : RoomRef) → by ≡ actor.Firm dealer → OrderIn then_day dealer room
      own_turn_order dealer row found room by_is =
          let order = in_order dealer room venue.facts (pending (actor.Firm dealer) venue)
          (left ∷ rest) (sym is ∙ ap (λ (a : Actor). pending a venue) by_is)
          (ok.order dealer row found room) in
          let fits_own = subst (λ (a : Actor). DutyOk config venue.facts a left) by_is fits in
          let moved = own_turn config dealer row found room venue.facts left rest fits_own order in
          in_order dealer room (venue.facts ++ effect.facts) (rest ++ effect.duties)
          (pending (actor.Firm dealer) then_day)
          (ap (λ (a : Actor). pending a then_day) (sym by_is)
          ∙ own_turned by venue effect left rest is)
          (subst (λ (a : Actor). InOrder config dealer room
          (venue.facts ++ (duty_effect config venue.facts a left).facts)
          (rest ++ (duty_effect config venue.facts a left).duties)
          (accepted dealer (venue.facts ++ (duty_effect config venue.facts a left).facts)))
          (sym by_is) moved)

      turn_order : (dealer : ℕ) (row : DealerRow) → dealer_numbered config dealer ≡ Some row
          → (room : RoomRef) → OrderIn then_day dealer room
      turn_order dealer row found room =
          elim (cases_Bool (is_same_actor by (actor.Firm dealer))) [
            | inl same ↦ own_turn_order dealer row found room
                (one_actor by (actor.Firm dealer) same)
            | inr differs ↦
                in_order dealer room (venue.facts ++ effect.facts)
                (pending (actor.Firm dealer) venue) (pending (actor.Firm dealer) then_day)
                (other_turned by (actor.Firm dealer) venue effect differs
                (same_either by (actor.Firm dealer) differs))
                (other_turn config dealer row found room venue.facts by left
                (pending (actor.Firm dealer) venue) differs fits
                (ok.order dealer row found room))
          ]

    turn_keeps : (by : Actor) (duties : List Duty) → pending by venue ≡ duties
        → Every (DutyOk config venue.facts by) duties
        → QuotesOk config (after_turn config by venue duties)
    turn_keeps by [] is fits = ok
    turn_keeps by (left ∷ rest) is fits = record {
      within = turn_within by left rest is fits.0;
      order = turn_order by left rest is fits.0;
    }

    step_keeps : (more : Step) → QuotesOk config (after_step config venue more)
    unfolding after_step
    step_keeps (step.In firm moment bytes) = record {
      within = effect_within (actor.Firm firm) (message_effect config venue.facts firm moment bytes);
      order = message_order firm moment bytes;
    }
    step_keeps (step.Turn by) =
        turn_keeps by (pending by venue) refl
        (pending_ok (DutyOk config venue.facts) by venue day.caused)
    step_keeps (step.Expire room moment) = record {
      within = effect_within actor.Clock (sweep_effect config venue.facts room moment);
      order = λ dealer row is at.
          beside actor.Clock (sweep_effect config venue.facts room moment) dealer at refl
          (quiet_numbers config dealer at (sweep_effect config venue.facts room moment)
          (sweep_quiet config venue.facts room moment)) (ok.order dealer row is at);
    }

  steps_keep : (venue : AuditTrail) (steps : List Step) → DayOk config venue
      → QuotesOk config venue → QuotesOk config (fold (after_step config) venue steps)
  steps_keep venue [] day ok = ok
  steps_keep venue (more ∷ steps) day ok =
      steps_keep (after_step config venue more) steps (step_stands config venue more day)
      (step_keeps venue day ok more)

  pub quotes_ok : (steps : List Step) → QuotesOk config (audit_trail config steps)
  unfolding audit_trail of_dealer of_investor
  quotes_ok steps =
      steps_keep no_steps steps (day_ok config []) (record {
        within = λ by. none;
        order = λ dealer row is room. none;
      })
    where
      none : 0 ≤ 0
      none = omega arith

-- The laws.

-- the numbers of a list in which two items stand
split_numbers : {X : Type 0} (f : X → Option ℕ) (before between after : List X) (one other : X)
    (n m : ℕ) (left : List ℕ) → f one ≡ Some n → f other ≡ Some m
    → filter_map f (before ++ one ∷ between ++ other ∷ after) ++ left
    ≡ filter_map f before ++ n ∷ (filter_map f between ++ m ∷ (filter_map f after ++ left))
split_numbers f before between after one other n m left is also =
    let B = filter_map f before in
    let M = filter_map f between in
    let A = filter_map f after in
    rw (
      filter_map-append f (before ++ one ∷ between) (other ∷ after),
      filter_map-append f before (one ∷ between),
      is,
      also,
    ) (append_assoc (B ++ n ∷ M) (m ∷ A) left ∙ append_assoc B (n ∷ M) (m ∷ (A ++ left)))

module _ (config : Configuration) (steps : List Step) (investor : ℕ) where
  abbrev known : List Fact
  known = (audit_trail config steps).facts

  -- the own number of a quote that was shown
  shown_number : (shown : ShownOffer) (dealer : ℕ) (quote : AcceptedQuote)
      → IsShown config known investor shown dealer quote → (request : ℕ)
      → shown.request ≡ request
      → shown_by config dealer (room_of investor request) shown ≡ Some quote.number
  shown_number shown dealer quote is request same =
      let own = is.is_written.is_quote in
      let was : WasQuoted config known dealer quote =
      all_in (λ fact. DealerOk config known dealer (dealer_trail.AtDesk fact)) (Quoted quote)
      (at_dealer dealer known)
      (dealer_facts config known (day_ok config steps).stood.each dealer) own.accepted in
      let other = was.is_quote.is_written.is_quote in
      let rows : other.row ≡ own.row =
      same_Some other.row own.row (sym other.is_dealer ∙ own.is_dealer) in
      let within : (nat_le 1 quote.number && nat_le quote.number own.row.quotes) ≡ true =
      rw rows at was.is_quote.within in
      let test : (shown.request == request) ≡ true = eq-eqb shown.request request same in
      rw test (ap (λ (o : Offer). number_of_word config dealer o.word) is.offer
      ∙ own_number config dealer own.row own.is_dealer quote.number within)

  pub shown_in_order : AreShownInOrder config known investor
  shown_in_order before between after one other dealer first second splits is also same =
      let room = room_of investor one.request in
      let own = is.is_written.is_quote in
      let by = shown_by config dealer room in
      let order = (quotes_ok config steps).order dealer own.row own.is_dealer room in
      let left = left_numbers config dealer room
      (pending (actor.Firm dealer) (audit_trail config steps)) in
      ascends_apart 0 (filter_map by before) first.number (filter_map by between) second.number
      (filter_map by after ++ left) (accepted dealer known)
      (subst (λ (l : List ℕ). Ascends 0 l (accepted dealer known))
      (ap (λ (l : List ShownOffer). filter_map by l ++ left) splits
      ∙ split_numbers by before between after one other first.number second.number left
      (shown_number one dealer first is one.request refl)
      (shown_number other dealer second also one.request (sym same))) order)

  -- two rooms of one quote are one request
  pub shown_once : AreShownOnce config known investor
  shown_once before between after one other dealer quote splits is also =
      let rooms : room_of investor one.request ≡ room_of investor other.request =
      same_Some _ _ (sym is.is_written.is_quote.answers ∙ also.is_written.is_quote.answers) in
      let same = ap (λ (r : RoomRef). r.n) rooms in
      let below : quote.number < quote.number =
      shown_in_order before between after one other dealer quote quote splits is also same in
      omega arith
