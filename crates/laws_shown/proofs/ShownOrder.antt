-- The quotes of one dealer on one request are shown in the order in which they were accepted: those
-- that were shown, those that are to be relayed and those that are to be posted ascend.
use Rattle.std.proofs.Common.{◌≡◌, ◌≤◌, ◌<◌, ℕ, ◌+◌, ◌==◌, List, [], ◌∷◌}
use Rattle.std.proofs.Common.{◌++◌, filter_map, length, Option, Some, None}
use Rattle.std.proofs.Common.{refl, sym, subst, arith, inl, inr, ◌⊎◌, if◌then◌else◌}
use Rattle.std.specs.List.{cons_option}
use Rattle.std.specs.Option.{option_to_list}
use Rattle.std.proofs.lemmas.List.{append-nil, append_assoc, length-append}
use Rattle.std.proofs.lemmas.List.Elements.{filter_map-append}
use Rattle.market_terms.specs.declared.duties.Duty.{Duty}
use Rattle.market_terms.specs.declared.duties.Duty.TheVariants as duty
use Rattle.market_terms.specs.declared.rooms.RoomRef.{RoomRef}
use Rattle.venue_rows.specs.Rows.{Configuration}
use Rattle.dealer_desk.specs.DealerFacts.{DealerFact, Quoted, standings}
use Rattle.dealer_desk.specs.DealerOutput.{is_same_room}
use Rattle.dealer_desk.specs.declared.accepted.AcceptedQuote.{AcceptedQuote}
use Rattle.investor_desk.specs.declared.standing.ShownOffer.{ShownOffer}
use Rattle.step_replay.specs.Actions.{Effect}
use Rattle.step_replay.specs.Lists.{Every}
use Rattle.step_replay.specs.VenueFacts.{Fact}
use Rattle.laws_shown.specs.ShownQuotes.{shown_to}
use Rattle.laws_shown.specs.ShownRequests.{at_dealer}
use Rattle.laws_shown.proofs.Ascending.{Ascends, ascends_higher, ascends_push, ascends_without}
use Rattle.laws_shown.proofs.Ascending.{number_of_word}
use Rattle.laws_shown.proofs.ShownParts.{dealer_facts_grown, shown_grown}
use Rattle.laws_shown.proofs.ShownQuiet.{IsQuiet}

-- The quotes that a dealer had accepted.

abbrev pub quoted_in : DealerFact → Option AcceptedQuote
quoted_in (Quoted quote) = Some quote
quoted_in fact = None

-- how many
abbrev pub accepted : ℕ → List Fact → ℕ
accepted dealer facts = length (filter_map quoted_in (at_dealer dealer facts))

pub accepted_count : (facts : List DealerFact)
    → length (standings facts) ≡ length (filter_map quoted_in facts)
accepted_count [] = refl
accepted_count (Quoted quote ∷ facts) = rw (accepted_count facts) refl
accepted_count (fact ∷ facts) = accepted_count facts

pub accepted_grown : (dealer : ℕ) (facts more : List Fact)
    → accepted dealer (facts ++ more) ≡ accepted dealer facts + accepted dealer more
accepted_grown dealer facts more = rw (
  dealer_facts_grown dealer facts more,
  filter_map-append quoted_in (at_dealer dealer facts) (at_dealer dealer more),
  length-append (filter_map quoted_in (at_dealer dealer facts))
      (filter_map quoted_in (at_dealer dealer more)),
) refl

pub accepted_later : (dealer : ℕ) (facts more : List Fact)
    → accepted dealer facts ≤ accepted dealer (facts ++ more)
accepted_later dealer facts more =
    let sum : accepted dealer (facts ++ more) ≡ accepted dealer facts + accepted dealer more =
    accepted_grown dealer facts more in
    omega arith

cons_is : (o : Option ℕ) (xs : List ℕ) → cons_option o xs ≡ option_to_list o ++ xs
cons_is None xs = refl
cons_is (Some x) xs = refl

module _ (config : Configuration) (dealer : ℕ) (room : RoomRef) where
  -- The own numbers of the dealer's quotes on the request of the room: of those that were shown, of
  -- those that a duty relays, and of those that a duty posts.

  abbrev pub shown_by : ShownOffer → Option ℕ
  shown_by shown =
      if shown.request == room.n then number_of_word config dealer shown.offer.word else None

  abbrev pub relayed_by : Duty → Option ℕ
  relayed_by (duty.Relay at offer moment) =
      if is_same_room at room then number_of_word config dealer offer.word else None
  relayed_by other = None

  abbrev pub posted_by : Duty → Option ℕ
  posted_by (duty.Post at quote price valid_until moment) =
      if is_same_room at room then Some quote else None
  posted_by other = None

  abbrev pub shown_numbers : List Fact → List ℕ
  shown_numbers facts = filter_map shown_by (shown_to room.investor facts)

  abbrev pub left_numbers : List Duty → List ℕ
  left_numbers duties = filter_map relayed_by duties ++ filter_map posted_by duties

  -- they ascend
  abbrev pub InOrder : List Fact → List Duty → ℕ → Type 0
  InOrder facts duties most = Ascends 0 (shown_numbers facts ++ left_numbers duties) most

  pub shown_numbers_grown : (facts more : List Fact)
      → shown_numbers (facts ++ more) ≡ shown_numbers facts ++ shown_numbers more
  shown_numbers_grown facts more =
      rw (shown_grown room.investor facts more, filter_map-append) refl

  pub quiet_numbers : (effect : Effect) → IsQuiet effect → shown_numbers effect.facts ≡ []
  quiet_numbers effect quiet = rw (quiet.none room.investor) refl

  -- What leaves nothing of the dealer's quotes to be shown.

  abbrev pub IsSilent : Duty → Type 0
  IsSilent (duty.Relay at offer moment) = ⊥
  IsSilent (duty.Post at quote price valid_until moment) = ⊥
  IsSilent other = Unit {0}

  none_relayed : (duties : List Duty) → Every IsSilent duties → filter_map relayed_by duties ≡ []
  none_relayed [] silent = refl
  none_relayed (duty.Relay at offer moment ∷ duties) silent = absurd silent.0
  none_relayed (duty.Post at quote price valid_until moment ∷ duties) silent = absurd silent.0
  none_relayed (left ∷ duties) silent = none_relayed duties silent.1

  none_posted : (duties : List Duty) → Every IsSilent duties → filter_map posted_by duties ≡ []
  none_posted [] silent = refl
  none_posted (duty.Relay at offer moment ∷ duties) silent = absurd silent.0
  none_posted (duty.Post at quote price valid_until moment ∷ duties) silent = absurd silent.0
  none_posted (left ∷ duties) silent = none_posted duties silent.1

  -- another does something that shows nothing of this dealer
  pub order_beside : (facts more : List Fact) (duties : List Duty)
      → shown_numbers more ≡ [] → InOrder facts duties (accepted dealer facts)
      → InOrder (facts ++ more) duties (accepted dealer (facts ++ more))
  order_beside facts more duties none order =
      rw (shown_numbers_grown facts more, none, append-nil (shown_numbers facts))
      (ascends_higher 0 (shown_numbers facts ++ left_numbers duties) (accepted dealer facts)
      (accepted dealer (facts ++ more)) order (accepted_later dealer facts more))

  -- the dealer leaves duties behind its others that show nothing
  pub order_silent : (facts more : List Fact) (duties left : List Duty)
      → shown_numbers more ≡ [] → Every IsSilent left
      → InOrder facts duties (accepted dealer facts)
      → InOrder (facts ++ more) (duties ++ left) (accepted dealer (facts ++ more))
  order_silent facts more duties left none silent order = rw (
    filter_map-append relayed_by duties left,
    filter_map-append posted_by duties left,
    none_relayed left silent,
    none_posted left silent,
    append-nil (filter_map relayed_by duties),
    append-nil (filter_map posted_by duties),
  ) (order_beside facts more duties none order)

  -- it leaves a post of the quote that it had accepted last
  pub order_posts : (facts more : List Fact) (duties : List Duty) (left : Duty)
      (number : ℕ) → shown_numbers more ≡ [] → relayed_by left ≡ None
      → (posted_by left ≡ None) ⊎ (posted_by left ≡ Some number)
      → accepted dealer facts < number → number ≤ accepted dealer (facts ++ more)
      → InOrder facts duties (accepted dealer facts)
      → InOrder (facts ++ more) (duties ++ left ∷ []) (accepted dealer (facts ++ more))
  order_posts facts more duties left number none relays posts above most order =
      let S = shown_numbers facts in
      let A = filter_map relayed_by duties in
      let P = filter_map posted_by duties in
      rw (
        filter_map-append relayed_by duties (left ∷ []),
        filter_map-append posted_by duties (left ∷ []),
        relays,
        append-nil (filter_map relayed_by duties),
      ) (elim posts [
        | inl silent ↦ rw (silent, append-nil (filter_map posted_by duties))
            (order_beside facts more duties none order)
        | inr posted ↦ rw (
          posted,
          shown_numbers_grown facts more,
          none,
          append-nil (shown_numbers facts),
          sym (append_assoc A P (number ∷ [])),
          sym (append_assoc S (A ++ P) (number ∷ [])),
        ) (ascends_push 0 (S ++ (A ++ P)) (accepted dealer facts) number
            (accepted dealer (facts ++ more)) order above most)
      ])

  -- it has posted a quote, which is to be relayed, or is not
  pub order_relays : (facts more : List Fact) (posted : Duty) (rest left : List Duty)
      → shown_numbers more ≡ [] → relayed_by posted ≡ None
      → filter_map posted_by left ≡ []
      → (filter_map relayed_by left ≡ [])
      ⊎ (filter_map relayed_by left ≡ option_to_list (posted_by posted))
      → InOrder facts (posted ∷ rest) (accepted dealer facts)
      → InOrder (facts ++ more) (rest ++ left) (accepted dealer (facts ++ more))
  order_relays facts more posted rest left none relays posts kept order =
      let S = shown_numbers facts in
      let A = filter_map relayed_by rest in
      let P = filter_map posted_by rest in
      let O = option_to_list (posted_by posted) in
      let before : Ascends 0 (S ++ (A ++ (O ++ P))) (accepted dealer facts) =
      subst (λ (l : List ℕ). Ascends 0 l (accepted dealer facts)) (opened posted rest relays) order in
      let more_may = accepted_later dealer facts more in
      rw (
        shown_numbers_grown facts more,
        none,
        append-nil (shown_numbers facts),
        filter_map-append relayed_by rest left,
        filter_map-append posted_by rest left,
        posts,
        append-nil (filter_map posted_by rest),
      ) (ascends_higher 0 _ (accepted dealer facts) (accepted dealer (facts ++ more))
      (elim kept [
        | inl gone ↦ rw (gone, append-nil (filter_map relayed_by rest), sym (append_assoc S A P))
            (ascends_without 0 (S ++ A) (posted_by posted) P (accepted dealer facts)
            (rw (append_assoc S A (O ++ P)) before))
        | inr goes ↦ rw (goes, append_assoc A O P) before
      ]) more_may)
    where
      opened : (first : Duty) (others : List Duty) → relayed_by first ≡ None
          → shown_numbers facts ++ left_numbers (first ∷ others)
          ≡ shown_numbers facts ++ (filter_map relayed_by others
          ++ (option_to_list (posted_by first) ++ filter_map posted_by others))
      opened first others is =
          rw (is, cons_is (posted_by first) (filter_map posted_by others)) refl

  -- a relay shows its quote, or does not
  pub order_shown : (facts more : List Fact) (relay : Duty) (rest : List Duty)
      → posted_by relay ≡ None
      → (shown_numbers more ≡ []) ⊎ (shown_numbers more ≡ option_to_list (relayed_by relay))
      → InOrder facts (relay ∷ rest) (accepted dealer facts)
      → InOrder (facts ++ more) rest (accepted dealer (facts ++ more))
  order_shown facts more relay rest posts shows order =
      let S = shown_numbers facts in
      let A = filter_map relayed_by rest in
      let P = filter_map posted_by rest in
      let O = option_to_list (relayed_by relay) in
      let before : Ascends 0 (S ++ (O ++ (A ++ P))) (accepted dealer facts) =
      subst (λ (l : List ℕ). Ascends 0 l (accepted dealer facts)) (opened relay rest posts) order in
      rw (shown_numbers_grown facts more)
      (ascends_higher 0 _ (accepted dealer facts) (accepted dealer (facts ++ more))
      (elim shows [
        | inl gone ↦ rw (gone, append-nil (shown_numbers facts))
            (ascends_without 0 S (relayed_by relay) (A ++ P) (accepted dealer facts) before)
        | inr goes ↦ rw (goes, append_assoc S O (A ++ P)) before
      ]) (accepted_later dealer facts more))
    where
      opened : (first : Duty) (others : List Duty) → posted_by first ≡ None
          → shown_numbers facts ++ left_numbers (first ∷ others)
          ≡ shown_numbers facts ++ (option_to_list (relayed_by first)
          ++ (filter_map relayed_by others ++ filter_map posted_by others))
      opened first others is =
          rw (
            is,
            cons_is (relayed_by first) (filter_map relayed_by others),
            append_assoc (option_to_list (relayed_by first)) (filter_map relayed_by others)
                (filter_map posted_by others),
          ) refl
