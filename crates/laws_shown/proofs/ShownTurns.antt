-- Each step of the venue keeps the order in which the quotes of a dealer on a request are shown.
use Rattle.std.proofs.Common.{◌≡◌, ◌≤◌, ◌<◌, ℕ, ◌+◌, ◌==◌, Bool, true, false, ◌&&◌, List, [], ◌∷◌}
use Rattle.std.proofs.Common.{◌++◌, filter_map, length, count_by, Option, Some, None, option_map}
use Rattle.std.proofs.Common.{refl, sym, ap, ◌∙◌, subst, arith, inl, inr, ◌⊎◌, if◌then◌else◌}
use Rattle.std.proofs.Common.{eq-eqb}
use Rattle.std.specs.List.{cons_option}
use Rattle.std.specs.Option.{option_to_list}
use Rattle.std.proofs.lemmas.List.{append-nil}
use Rattle.std.proofs.lemmas.Option.{same_Some}
use Rattle.market_terms.specs.declared.duties.Duty.{Duty}
use Rattle.market_terms.specs.declared.duties.Duty.TheVariants as duty
use Rattle.market_terms.specs.declared.rooms.Offer.{Offer}
use Rattle.market_terms.specs.declared.rooms.RoomRef.{RoomRef}
use Rattle.venue_rows.specs.Rows.{Configuration, dealer_numbered, has_room}
use Rattle.venue_rows.specs.declared.dealer_rows.DealerRow.{DealerRow}
use Rattle.venue_steps.specs.Dealers.{dealer_of, offer_of, word_for}
use Rattle.venue_steps.specs.declared.actors.Actor.{Actor}
use Rattle.venue_steps.specs.declared.actors.Actor.TheVariants as actor
use Rattle.quote_word.specs.declared.settled.Settled.{Settled}
use Rattle.dealer_desk.specs.DealerFacts.{DealerFact, Quoted, standings}
use Rattle.dealer_desk.specs.DealerOutput.{event_facts, goes_through, is_same_room, is_withdrawn}
use Rattle.dealer_desk.specs.DealerOutput.{post_of, room_of, settled_facts, verdict_duty}
use Rattle.dealer_desk.specs.DealerOutput.{verdict_facts, word_asked}
use Rattle.dealer_desk.specs.DealerRules.{dealer_verdict}
use Rattle.dealer_desk.specs.declared.accepted.AcceptedQuote.{AcceptedQuote}
use Rattle.dealer_desk.specs.declared.events.DealerEvent.TheVariants as at_desk
use Rattle.dealer_desk.specs.declared.standing.Withdrawal.TheVariants as by_way
use Rattle.dealer_desk.specs.declared.verdicts.DealerVerdict.{DealerVerdict}
use Rattle.dealer_desk.specs.declared.verdicts.DealerVerdict.TheVariants as verdict
use Rattle.request_room.specs.RoomFacts.{hears, takes_quotes}
use Rattle.request_room.specs.declared.events.RoomEvent.{RoomEvent}
use Rattle.request_room.specs.declared.events.RoomEvent.TheVariants as at_room
use Rattle.venue_steps.specs.RoomSteps.{where_follows}
use Rattle.investor_desk.specs.InvestorDesk.{market_of}
use Rattle.investor_desk.specs.InvestorFacts.{knows}
use Rattle.investor_desk.specs.declared.events.InvestorEvent.TheVariants as event
use Rattle.investor_desk.specs.declared.standing.ShownOffer.{ShownOffer}
use Rattle.step_replay.specs.Actions.{Effect, at_dealer as at_desk_of, at_market, left_by}
use Rattle.step_replay.specs.Actions.{has_word_for, in_room, settlement_of, words_of}
use Rattle.step_replay.specs.DealerTrail.{DealerEntry, book_by as book_by_dealer, facts_of, rooms_by}
use Rattle.step_replay.specs.GrowthLemmas.{in_right}
use Rattle.step_replay.specs.Lists.{Every, In}
use Rattle.venue_steps.specs.Words.{has_word}
use Rattle.laws_shown.specs.ShownRequests.{at_dealer}
use Rattle.laws_shown.proofs.AcceptedQuotes.{AcceptOk, verdict_accepts}
use Rattle.laws_shown.proofs.ShownDesk.{happened_here}
use Rattle.step_replay.specs.InvestorTrail.{book_by}
use Rattle.step_replay.specs.AuditTrail.{AuditTrail, duty_of}
use Rattle.step_replay.specs.AuditTrail.{is_same_actor, pending}
use Rattle.step_replay.specs.DutyEffects.{duty_effect, message_effect}
use Rattle.step_replay.specs.VenueFacts.{Fact, of_dealer, of_investor, of_room}
use Rattle.laws_days.specs.ActionCases.{if_does, invested_does, numbered_does}
use Rattle.laws_shown.specs.ShownQuotes.{shown_to}
use Rattle.laws_shown.proofs.Ascending.{no_number, number_of_word, own_number}
use Rattle.laws_shown.proofs.ShownActions.{firm_of}
use Rattle.laws_shown.proofs.SilentDuties.{silent_left}
use Rattle.laws_shown.proofs.ShownOrder.{InOrder, IsSilent, accepted, accepted_count, accepted_grown}
use Rattle.laws_shown.proofs.ShownOrder.{order_beside, order_posts, quoted_in}
use Rattle.laws_shown.proofs.ShownOrder.{order_relays, order_shown, order_silent, posted_by}
use Rattle.laws_shown.proofs.ShownOrder.{quiet_numbers, relayed_by, shown_by, shown_numbers}
use Rattle.laws_shown.proofs.ShownParts.{DutyOk, Posts, Relays}
use Rattle.laws_shown.proofs.ShownQuiet.{Relayed, duty_quiet}
use Rattle.laws_shown.proofs.ShownQuiet.{message_quiet, nothing_shown, one_shown, relay_shows}

-- The quotes of a dealer that are shown, relayed and posted, and what its queue has.
pub record QuotesOk (config : Configuration) (venue : AuditTrail) : Type 0 where
  pub within : (by : Actor) → count_by (is_same_actor by) venue.done
      ≤ length (filter_map (duty_of by) venue.caused)
  pub order : (dealer : ℕ) (row : DealerRow) → dealer_numbered config dealer ≡ Some row
      → (room : RoomRef)
      → InOrder config dealer room venue.facts (pending (actor.Firm dealer) venue)
      (accepted dealer venue.facts)

cons_one : (o : Option ℕ) → cons_option o [] ≡ option_to_list o
cons_one None = refl
cons_one (Some x) = refl

-- one quote that stands is one
quoted_some : (quote : AcceptedQuote) (facts : List DealerFact) → In (Quoted quote) facts
    → 1 ≤ length (filter_map quoted_in facts)
quoted_some quote [] is = absurd is
quoted_some quote (Quoted other ∷ facts) is = omega arith
quoted_some quote (fact ∷ facts) (inl is) = cc
quoted_some quote (fact ∷ facts) (inr is) = quoted_some quote facts is

kept_there : (b : Bool) (quote : AcceptedQuote) → b ≡ true
    → In (Quoted quote) (if b then Quoted quote ∷ [] else [])
kept_there true quote is = inl refl
kept_there false quote is = cc

-- an effect that leaves nothing
record LeavesNone (effect : Effect) : Type 0 where
  pub none : effect.duties ≡ []

either_none : {A : Type 0} (b : Bool) (x : Option A) → x ≡ None
    → (if b then x else None) ≡ None
either_none true x is = is
either_none false x is = refl

module _ (config : Configuration) (dealer : ℕ) (row : DealerRow)
    (is_dealer : dealer_numbered config dealer ≡ Some row) (room : RoomRef) where
  abbrev own : Actor
  own = actor.Firm dealer

  -- A relay.

  module _ (facts : List Fact) (by : Actor) (at : RoomRef) (offer : Offer) (moment : ℕ)
      (ok : Relays config facts by at offer) where
    abbrev relay : Duty
    relay = duty.Relay at offer moment

    abbrev effect : Effect
    effect = duty_effect config facts by relay

    -- what it shows of the dealer's quotes is what it relays
    relay_numbers : (shown_numbers config dealer room effect.facts ≡ [])
        ⊎ (shown_numbers config dealer room effect.facts
        ≡ option_to_list (relayed_by config dealer room relay))
    relay_numbers =
        by_shown (shown_to room.investor effect.facts)
        ((relay_shows config facts by at offer moment).each room.investor)
      where
        by_shown : (shown : List ShownOffer) → Relayed at offer room.investor shown
            → (filter_map (shown_by config dealer room) shown ≡ [])
            ⊎ (filter_map (shown_by config dealer room) shown
            ≡ option_to_list (relayed_by config dealer room relay))
        by_shown shown (nothing_shown is) = inl (rw is refl)
        by_shown shown (one_shown one investor is request offer_is) =
            let test : (at.investor == room.investor) ≡ true =
            eq-eqb at.investor room.investor (sym investor) in
            let same : shown_by config dealer room one ≡ relayed_by config dealer room relay =
            rw (request, offer_is, test) refl in
            inr (rw is (rw same (cons_one (relayed_by config dealer room relay))))

    -- one of another dealer relays none of this dealer's quotes
    relay_other : is_same_actor by own ≡ false → relayed_by config dealer room relay ≡ None
    relay_other differs =
        let quote = ok.is_quote.is_written.is_quote in
        let test : (ok.dealer == dealer) ≡ false =
        subst (λ (a : Actor). is_same_actor a own ≡ false) ok.by_is differs in
        either_none (is_same_room at room) (number_of_word config dealer offer.word)
        (ap (λ (o : Offer). number_of_word config dealer o.word) ok.offer_is
        ∙ no_number config ok.dealer quote.row quote.is_dealer ok.quote.number ok.is_quote.within
        dealer test)

    relay_beside : is_same_actor by own ≡ false
        → shown_numbers config dealer room effect.facts ≡ []
    relay_beside differs = elim relay_numbers [
      | inl none ↦ none
      | inr some ↦ some ∙ ap (λ (o : Option ℕ). option_to_list o) (relay_other differs)
    ]

  -- a relay leaves nothing
  relay_left : (facts : List Fact) (by : Actor) (at : RoomRef) (offer : Offer) (moment : ℕ)
      → (duty_effect config facts by (duty.Relay at offer moment)).duties ≡ []
  unfolding duty_effect
  relay_left facts by at offer moment =
      (invested_does LeavesNone (record { none = refl }) config at.investor _
      (λ r. if_does LeavesNone (record { none = refl })
      (knows (book_by (of_investor at.investor facts)) at.n None)
      (at_market facts (market_of config at.investor r) (event.QuoteCame at.n offer moment) [])
      (record { none = refl }))).none

  -- A post.

  abbrev PostLeft : Duty → List Duty → Type 0
  PostLeft post duties = (filter_map (posted_by config dealer room) duties ≡ [])
      × ((filter_map (relayed_by config dealer room) duties ≡ [])
      ⊎ (filter_map (relayed_by config dealer room) duties
      ≡ option_to_list (posted_by config dealer room post)))

  record LeavesRelay (post : Duty) (effect : Effect) : Type 0 where
    pub is : PostLeft post effect.duties

  post_left : (facts : List Fact) (at : RoomRef) (quote price : ℕ) (until : Option ℕ)
      (moment : ℕ) → Posts config facts own at quote price until
      → PostLeft (duty.Post at quote price until moment)
      (duty_effect config facts own (duty.Post at quote price until moment)).duties
  unfolding duty_effect
  post_left facts at quote price until moment ok =
      let post = duty.Post at quote price until moment in
      (numbered_does (LeavesRelay post) (record { is = (refl, inl refl) }) config dealer _
      (λ r found. in_its_room
      (has_word_for config (dealer_of dealer r) quote && hears (of_room at facts) dealer)
      (at_room.Post dealer (word_for config (dealer_of dealer r) quote) price until) _
      (follows_of r found (hears (of_room at facts) dealer && takes_quotes (of_room at facts))))).is
    where
      in_its_room : (may : Bool) (more : RoomEvent) (duties : List Duty)
          → PostLeft (duty.Post at quote price until moment) duties
          → LeavesRelay (duty.Post at quote price until moment)
          (in_room config facts at may more duties)
      in_its_room may more duties is =
          if_does (LeavesRelay (duty.Post at quote price until moment))
          (record { is = (refl, inl refl) }) (has_room config at.investor at.n && may) _
          (record { is = is })

      numbers : (r : DealerRow) → dealer_numbered config dealer ≡ Some r
          → number_of_word config dealer (word_for config (dealer_of dealer r) quote) ≡ Some quote
      numbers r found =
          let own_dealer : ok.dealer ≡ dealer = ap firm_of (sym ok.by_is) in
          let written = ok.is_quote.is_written.is_quote in
          let rows : written.row ≡ r =
          same_Some written.row r (sym written.is_dealer
          ∙ ap (dealer_numbered config) own_dealer ∙ found) in
          own_number config dealer r found quote
          (rw (rows, ok.number_is) at ok.is_quote.within)

      follows_of : (r : DealerRow) → dealer_numbered config dealer ≡ Some r → (b : Bool)
          → PostLeft (duty.Post at quote price until moment) (where_follows b
          (duty.Relay at (offer_of config (dealer_of dealer r) quote price until) moment))
      follows_of r found false = (refl, inl refl)
      follows_of r found true =
          (refl, inr (rw (numbers r found) (cons_one (if is_same_room at room then Some quote else None))))

  -- A message of the dealer.

  -- what an effect of the dealer leaves: nothing of its quotes, or the post of the next one
  pub data LeavesNext (facts more : List Fact) (duties : List Duty) : Type 0 where
    silent : Every (IsSilent config dealer room) duties → LeavesNext facts more duties
    next : (left : Duty) (number : ℕ) → duties ≡ left ∷ []
        → relayed_by config dealer room left ≡ None
        → (posted_by config dealer room left ≡ None)
        ⊎ (posted_by config dealer room left ≡ Some number)
        → accepted dealer facts < number → number ≤ accepted dealer (facts ++ more)
        → LeavesNext facts more duties

  pub record MessageLeaves (facts : List Fact) (effect : Effect) : Type 0 where
    pub is : LeavesNext facts effect.facts effect.duties

  module _ (facts : List Fact) (moment : ℕ) (bytes : List ℕ) where
    abbrev trail : List DealerEntry
    trail = of_dealer dealer facts

    in_rooms : (more : List Fact) (b : Bool) (request : ℕ) (left : RoomRef → Duty)
        → ((r : RoomRef) → IsSilent config dealer room (left r))
        → LeavesNext facts more
        (option_to_list (if b then option_map left (room_of (rooms_by trail) request) else None))
    in_rooms more false request left is = silent tt
    in_rooms more true request left is = by_room (room_of (rooms_by trail) request)
      where
        by_room : (found : Option RoomRef)
            → LeavesNext facts more (option_to_list (option_map left found))
        by_room None = silent tt
        by_room (Some r) = silent (is r, tt)

    posts : (more : List Fact) (b : Bool) (quote : AcceptedQuote)
        → (b ≡ true → accepted dealer facts < quote.number)
        → (b ≡ true → quote.number ≤ accepted dealer (facts ++ more))
        → LeavesNext facts more (option_to_list
        (if b then option_map (post_of quote) (room_of (rooms_by trail) quote.request) else None))
    posts more false quote above most = silent tt
    posts more true quote above most = by_room (room_of (rooms_by trail) quote.request)
      where
        by_test : (b : Bool)
            → ((if b then Some quote.number else None) ≡ None)
            ⊎ ((if b then Some quote.number else None) ≡ Some quote.number)
        by_test true = inr refl
        by_test false = inl refl

        by_room : (found : Option RoomRef)
            → LeavesNext facts more (option_to_list (option_map (post_of quote) found))
        by_room None = silent tt
        by_room (Some r) =
            next (post_of quote r) quote.number refl refl (by_test (is_same_room r room))
            (above refl) (most refl)

    said_next : (more : List Fact) (v : DealerVerdict) (settlement : Option Settled)
        → AcceptOk config.date row (facts_of trail) moment bytes v
        → ((fact : DealerFact) → In fact (verdict_facts v settlement)
        → In fact (at_dealer dealer more))
        → LeavesNext facts more
        (option_to_list (verdict_duty (rooms_by trail) moment v settlement))
    said_next more (verdict.QuoteAccepted name id quote old) settlement accepts added =
        let counted : length (standings (facts_of trail)) ≡ accepted dealer facts =
        accepted_count (facts_of trail) in
        let number : quote.number ≡ length (standings (facts_of trail)) + 1 = accepts.number_is in
        let sum : accepted dealer (facts ++ more) ≡ accepted dealer facts + accepted dealer more =
        accepted_grown dealer facts more in
        posts more (goes_through old settlement) quote (λ goes. omega arith)
        (λ goes.
        let some : 1 ≤ accepted dealer more =
        quoted_some quote (at_dealer dealer more) (added (Quoted quote) (in_right (Quoted quote)
        (settled_facts old by_way.Replacement settlement) _
        (kept_there (goes_through old settlement) quote goes))) in
        omega arith)
    said_next more (verdict.CancelAccepted id quote request) settlement accepts added =
        in_rooms more (is_withdrawn settlement) request (λ r. duty.Unpost r quote moment)
        (λ r. tt)
    said_next more (verdict.DropsFollow last) settlement accepts added = silent (tt, tt)
    said_next more (verdict.DeclineAccepted request name) settlement accepts added =
        in_rooms more true name (λ r. duty.Decline r moment) (λ r. tt)
    said_next more other settlement accepts added = silent tt

    pub message_next : MessageLeaves facts (message_effect config facts dealer moment bytes)
    unfolding message_effect event_facts
    message_next =
        let v = dealer_verdict config.date row (book_by_dealer trail) moment bytes in
        let settlement = settlement_of trail v in
        let more = at_desk.Received moment bytes settlement in
        let duties = left_by trail moment v in
        rw is_dealer (if_does (MessageLeaves facts) (record { is = silent tt })
        (has_word (words_of config) (option_map (word_for config (dealer_of dealer row))
        (word_asked v))) (at_desk_of config facts (dealer_of dealer row) more duties) (record {
          is = said_next _ v settlement
              (verdict_accepts config.date row (facts_of trail) moment bytes)
              (λ fact is. happened_here config facts own dealer row more duties fact (inr is));
        }))

  -- A turn of the dealer.

  pub own_turn : (facts : List Fact) (left : Duty) (rest : List Duty) → DutyOk config facts own left
      → InOrder config dealer room facts (left ∷ rest) (accepted dealer facts)
      → InOrder config dealer room (facts ++ (duty_effect config facts own left).facts)
      (rest ++ (duty_effect config facts own left).duties)
      (accepted dealer (facts ++ (duty_effect config facts own left).facts))
  own_turn facts (duty.Relay at offer moment) rest ok order =
      rw (relay_left facts own at offer moment, append-nil rest)
      (order_shown config dealer room facts _ (duty.Relay at offer moment) rest refl
      (relay_numbers facts own at offer moment ok) order)
  own_turn facts (duty.Post at quote price until moment) rest ok order =
      let post = duty.Post at quote price until moment in
      let left = post_left facts at quote price until moment ok in
      order_relays config dealer room facts _ post rest _
      (quiet_numbers config dealer room (duty_effect config facts own post)
      (duty_quiet config facts own post refl)) refl left.0 left.1 order
  own_turn facts other rest ok order =
      order_silent config dealer room facts _ rest _
      (quiet_numbers config dealer room (duty_effect config facts own other)
      (duty_quiet config facts own other refl))
      (silent_left config dealer room facts own other refl) order

  pub other_turn : (facts : List Fact) (by : Actor) (left : Duty) (duties : List Duty)
      → is_same_actor by own ≡ false → DutyOk config facts by left
      → InOrder config dealer room facts duties (accepted dealer facts)
      → InOrder config dealer room (facts ++ (duty_effect config facts by left).facts) duties
      (accepted dealer (facts ++ (duty_effect config facts by left).facts))
  other_turn facts by (duty.Relay at offer moment) duties differs ok order =
      order_beside config dealer room facts _ duties
      (relay_beside facts by at offer moment ok differs) order
  other_turn facts by other duties differs ok order =
      order_beside config dealer room facts _ duties
      (quiet_numbers config dealer room (duty_effect config facts by other)
      (duty_quiet config facts by other refl)) order

  pub own_message : (facts : List Fact) (moment : ℕ) (bytes : List ℕ) (duties : List Duty)
      → InOrder config dealer room facts duties (accepted dealer facts)
      → InOrder config dealer room
      (facts ++ (message_effect config facts dealer moment bytes).facts)
      (duties ++ (message_effect config facts dealer moment bytes).duties)
      (accepted dealer (facts ++ (message_effect config facts dealer moment bytes).facts))
  own_message facts moment bytes duties order =
      by_left (message_effect config facts dealer moment bytes).duties
      (message_next facts moment bytes).is
    where
      quiet : shown_numbers config dealer room
          (message_effect config facts dealer moment bytes).facts ≡ []
      quiet =
          quiet_numbers config dealer room (message_effect config facts dealer moment bytes)
          (message_quiet config facts dealer moment bytes)

      by_left : (left : List Duty)
          → LeavesNext facts (message_effect config facts dealer moment bytes).facts left
          → InOrder config dealer room
          (facts ++ (message_effect config facts dealer moment bytes).facts) (duties ++ left)
          (accepted dealer (facts ++ (message_effect config facts dealer moment bytes).facts))
      by_left left (silent is) = order_silent config dealer room facts _ duties left quiet is order
      by_left left (next one number is relays posts above most) =
          rw is (order_posts config dealer room facts _ duties one number quiet relays posts above
          most order)
