-- What an action brings to a room of the answers of one dealer.
use Rattle.std.proofs.Common.{◌≡◌, ◌==◌, ◌&&◌, ℕ, Bool, true, false, List, [], ◌∷◌, map, filter_map}
use Rattle.std.proofs.Common.{Option, Some, None, is_some, refl, sym, ap, ◌∙◌, subst, inl, inr}
use Rattle.std.proofs.Common.{if◌then◌else◌}
use Rattle.std.proofs.lemmas.Bool.{and_parts, cases_Bool, eq-eqb}
use Rattle.dealer_desk.specs.DealerOutput.{is_same_room}
use Rattle.market_terms.specs.declared.duties.Duty.{Duty}
use Rattle.market_terms.specs.declared.duties.Duty.TheVariants as duty
use Rattle.market_terms.specs.declared.rooms.RoomRef.{RoomRef}
use Rattle.venue_rows.specs.Rows.{Configuration, dealer_numbered, has_room}
use Rattle.venue_rows.specs.declared.dealer_rows.DealerRow.{DealerRow}
use Rattle.venue_steps.specs.Dealers.{dealer_at, dealer_of, has_word_for, word_for}
use Rattle.venue_steps.specs.declared.actors.Actor.{Actor}
use Rattle.venue_steps.specs.declared.actors.Actor.TheVariants as actor
use Rattle.investor_desk.specs.InvestorDesk.{market_for}
use Rattle.request_room.specs.Book.{event_facts, quote_posted, fact_if}
use Rattle.request_room.specs.RoomFacts.{Noted, Posted, RoomFact, hears, is_ended}
use Rattle.request_room.specs.RoomFacts.{request_of, takes_quotes}
use Rattle.step_replay.specs.Actions.{Effect, done_by, done_for, nothing}
use Rattle.step_replay.specs.Actions.{received_by_dealer, received_by_investor}
use Rattle.step_replay.specs.LineActions.{declined_by, posted_by}
use Rattle.step_replay.specs.AuditTrail.{AuditTrail, is_same_actor}
use Rattle.step_replay.specs.DutyEffects.{duty_effect, message_effect, sweep_effect}
use Rattle.step_replay.specs.EachLemmas.{every_weaker}
use Rattle.step_replay.specs.GrowthLemmas.{names_some, same_room}
use Rattle.step_replay.specs.PlaceLemmas.{other_room, own_room, room_at_investor}
use Rattle.step_replay.specs.VenueFacts.{Fact, InRoom, of_room}
use Rattle.laws_days.specs.ActionCases.{if_does, invested_does, numbered_does}
use Rattle.laws_days.specs.Conditions.{is_met}
use Rattle.laws_days.proofs.PlainFacts.{in_room_all}
use Rattle.laws_days.proofs.VenueInvariant.{ByNamed, DutyOk}
use Rattle.laws_rooms.specs.Answered.{Answer, Declines, Quotes, answer_in, answers_in}
use Rattle.laws_rooms.proofs.LeftLemmas.{IsOther, Quiet, duty_quiet, received_quiet, sweep_quiet}
use Rattle.laws_rooms.proofs.ReplyDuties.{none_of}

-- the quote or the decline that a duty of a dealer brings to a room, where it brings one
abbrev pub answer_of : Configuration → ℕ → DealerRow → RoomRef → Duty → Option Answer
answer_of config dealer row room (duty.Post at quote price valid_until moment) =
    if is_same_room at room
    then Some (Quotes (quote_posted dealer (word_for config (dealer_of dealer row) quote) price valid_until))
    else None
answer_of config dealer row room (duty.Decline at moment) =
    if is_same_room at room then Some Declines else None
answer_of config dealer row room other = None

module _ (dealer : ℕ) where
  abbrev pub answers : List RoomFact → List Answer
  answers facts = answers_in dealer facts

  -- what was done, beside the facts that it added to a room: they say just that; or they say nothing,
  -- and nothing was done, or the room had ended
  pub data Goes (known added : List RoomFact) (items : List Answer) : Type 0 where
    quiet : answers added ≡ [] → items ≡ [] → Goes known added items
    takes : answers added ≡ items → is_ended known ≡ false → Goes known added items
    late : answers added ≡ [] → is_ended known ≡ true → Goes known added items

  -- Facts that say nothing of it.

  none_in : (room : RoomRef) (fact : RoomFact) → IsOther (InRoom room fact) → answer_in dealer fact ≡ None
  none_in room (Posted quote) is = absurd is
  none_in room (Noted other) is = absurd is
  none_in room other is = refl

  module _ (config : Configuration) (row : DealerRow) (is : dealer_numbered config dealer ≡ Some row)
      (room : RoomRef) where
    abbrev pub me : Actor
    me = actor.Firm dealer

    abbrev pub lefts : List Duty → List Answer
    lefts duties = filter_map (answer_of config dealer row room) duties

    -- an effect that brings the room nothing of it
    pub record NoneIn (effect : Effect) : Type 0 where
      pub none : answers (of_room room effect.facts) ≡ []

    quiet_none : (effect : Effect) → Quiet effect → NoneIn effect
    quiet_none effect hushed = record {
      none = none_of (answer_in dealer) (of_room room effect.facts)
          (every_weaker (λ (fact : RoomFact). IsOther (InRoom room fact))
          (λ (fact : RoomFact). answer_in dealer fact ≡ None) (none_in room) (of_room room effect.facts)
          (in_room_all IsOther room effect.facts hushed.facts));
    }

    idle : NoneIn nothing
    unfolding of_room
    idle = record { none = refl }

    added_none : (at : RoomRef) (happened : List RoomFact) (duties : List Duty) → answers happened ≡ []
        → NoneIn (record { facts = map (InRoom at) happened; duties = duties })
    added_none at happened duties none = elim (cases_Bool (is_same_room at room)) [
      | inl same ↦ record {
        none = ap answers (subst (λ (r : RoomRef). of_room r (map (InRoom at) happened) ≡ happened)
            (same_room at room same) (own_room at happened)) ∙ none;
      }
      | inr differs ↦ record { none = ap answers (other_room room at differs happened) }
    ]

    elsewhere : (at : RoomRef) (happened : List RoomFact) (duties : List Duty) → is_same_room at room ≡ false
        → NoneIn (record { facts = map (InRoom at) happened; duties = duties })
    elsewhere at happened duties differs = record { none = ap answers (other_room room at differs happened) }

    module _ (facts : List Fact) where
      abbrev known : List RoomFact
      known = of_room room facts

      abbrev brings : Actor → Duty → List RoomFact
      brings by d = of_room room (duty_effect config facts by d).facts

      -- Another dealer's answers.

      posts_none : (number : ℕ) → (number == dealer) ≡ false → (b : Bool) (word price : ℕ) (until : Option ℕ)
          → answers (fact_if b (Posted (quote_posted number word price until))) ≡ []
      posts_none number differs true word price until = rw differs refl
      posts_none number differs false word price until = refl

      notes_none : (number : ℕ) → (number == dealer) ≡ false → (b : Bool) → answers (fact_if b (Noted number)) ≡ []
      notes_none number differs true = rw differs refl
      notes_none number differs false = refl

      post_other : (by : Actor) → is_same_actor by me ≡ false → (at : RoomRef) (quote price : ℕ)
          (until : Option ℕ) (moment : ℕ)
          → NoneIn (duty_effect config facts by (duty.Post at quote price until moment))
      unfolding duty_effect event_facts
      post_other (actor.Firm number) differs at quote price until moment =
          numbered_does NoneIn idle config number (posted_by config facts at quote price until moment)
          (λ other found. if_does NoneIn idle _ _
          (added_none at _ _ (posts_none number differs (takes_quotes (of_room at facts)) _ price until)))
      post_other actor.Clock differs at quote price until moment = idle

      decline_other : (by : Actor) → is_same_actor by me ≡ false → (at : RoomRef) (moment : ℕ)
          → NoneIn (duty_effect config facts by (duty.Decline at moment))
      unfolding duty_effect event_facts
      decline_other (actor.Firm number) differs at moment =
          numbered_does NoneIn idle config number (declined_by config facts at moment)
          (λ other found. if_does NoneIn idle _ _
          (added_none at _ _ (notes_none number differs (takes_quotes (of_room at facts)))))
      decline_other actor.Clock differs at moment = idle

      -- Its own, on another request.

      post_elsewhere : (at : RoomRef) (quote price : ℕ) (until : Option ℕ) (moment : ℕ)
          → is_same_room at room ≡ false
          → NoneIn (duty_effect config facts me (duty.Post at quote price until moment))
      unfolding duty_effect
      post_elsewhere at quote price until moment differs =
          numbered_does NoneIn idle config dealer (posted_by config facts at quote price until moment)
          (λ other found. if_does NoneIn idle _ _ (elsewhere at _ _ differs))

      decline_elsewhere : (at : RoomRef) (moment : ℕ) → is_same_room at room ≡ false
          → NoneIn (duty_effect config facts me (duty.Decline at moment))
      unfolding duty_effect
      decline_elsewhere at moment differs =
          numbered_does NoneIn idle config dealer (declined_by config facts at moment)
          (λ other found. if_does NoneIn idle _ _ (elsewhere at _ _ differs))

      -- Its own, on this request.

      module _ (asked : is_some (request_of known) ≡ true) where
        post_here : (quote price : ℕ) (until : Option ℕ) (moment : ℕ)
            → is_met config facts me (duty.Post room quote price until moment) ≡ true
            → Goes known (brings me (duty.Post room quote price until moment))
            (Quotes (quote_posted dealer (word_for config (dealer_of dealer row) quote) price until) ∷ [])
        unfolding is_met duty_effect event_facts
        post_here quote price until moment fit =
            let own = dealer_of dealer row in
            let posted = Posted (quote_posted dealer (word_for config own quote) price until) in
            let same : (dealer == dealer) ≡ true = eq-eqb dealer dealer refl in
            let first = and_parts (has_word_for config own quote)
            (has_room config room.investor room.n && hears known dealer) (rw is at fit) in
            let second = and_parts (has_room config room.investor room.n) (hears known dealer) first.1 in
            elim (cases_Bool (is_ended known)) [
              | inl ended ↦ rw (is, first.0, second.0, second.1, asked, ended)
                  (late (ap answers (own_room room [])) ended)
              | inr lives ↦ rw (is, first.0, second.0, second.1, asked, lives)
                  (takes (ap answers (own_room room (posted ∷ [])) ∙ rw same refl) lives)
            ]

        decline_here : (moment : ℕ) → is_met config facts me (duty.Decline room moment) ≡ true
            → Goes known (brings me (duty.Decline room moment)) (Declines ∷ [])
        unfolding is_met duty_effect event_facts
        decline_here moment fit =
            let same : (dealer == dealer) ≡ true = eq-eqb dealer dealer refl in
            let both_are = and_parts (has_room config room.investor room.n) (hears known dealer) (rw is at fit) in
            elim (cases_Bool (is_ended known)) [
              | inl ended ↦ rw (is, both_are.0, both_are.1, asked, ended)
                  (late (ap answers (own_room room [])) ended)
              | inr lives ↦ rw (is, both_are.0, both_are.1, asked, lives)
                  (takes (ap answers (own_room room (Noted dealer ∷ [])) ∙ rw same refl) lives)
            ]

      -- A duty of its own, and of another's.

      pub named_asks : (by : Actor) (at : RoomRef) → ByNamed config by at facts
          → is_some (request_of (of_room at facts)) ≡ true
      named_asks by at named =
          let request = names_some (request_of (of_room at facts)) named.who.dealer named.named in
          ap is_some request.1

      post_goes : (at : RoomRef) (quote price : ℕ) (until : Option ℕ) (moment : ℕ)
          → is_some (request_of (of_room at facts)) ≡ true
          → is_met config facts me (duty.Post at quote price until moment) ≡ true
          → Goes known (brings me (duty.Post at quote price until moment))
          (lefts (duty.Post at quote price until moment ∷ []))
      post_goes at quote price until moment asked fit = elim (cases_Bool (is_same_room at room)) [
        | inr differs ↦ quiet (post_elsewhere at quote price until moment differs).none (rw differs refl)
        | inl same ↦ rw same (subst (λ (r : RoomRef). is_some (request_of (of_room r facts)) ≡ true
            → is_met config facts me (duty.Post r quote price until moment) ≡ true
            → Goes known (brings me (duty.Post r quote price until moment))
            (Quotes (quote_posted dealer (word_for config (dealer_of dealer row) quote) price until) ∷ []))
            (sym (same_room at room same)) (λ a f. post_here a quote price until moment f) asked fit)
      ]

      decline_goes : (at : RoomRef) (moment : ℕ) → is_some (request_of (of_room at facts)) ≡ true
          → is_met config facts me (duty.Decline at moment) ≡ true
          → Goes known (brings me (duty.Decline at moment)) (lefts (duty.Decline at moment ∷ []))
      decline_goes at moment asked fit = elim (cases_Bool (is_same_room at room)) [
        | inr differs ↦ quiet (decline_elsewhere at moment differs).none (rw differs refl)
        | inl same ↦ rw same (subst (λ (r : RoomRef). is_some (request_of (of_room r facts)) ≡ true
            → is_met config facts me (duty.Decline r moment) ≡ true
            → Goes known (brings me (duty.Decline r moment)) (Declines ∷ []))
            (sym (same_room at room same)) (λ a f. decline_here a moment f) asked fit)
      ]

      pub turn_mine : (venue : AuditTrail) → venue.facts ≡ facts → (by : Actor) (d : Duty)
          → DutyOk config by d venue → is_met config facts by d ≡ true → by ≡ me
          → Goes known (brings by d) (lefts (d ∷ []))
      turn_mine venue at_facts by (duty.Post at quote price until moment) ok fit one =
          subst (λ (a : Actor). Goes known (brings a (duty.Post at quote price until moment))
          (lefts (duty.Post at quote price until moment ∷ []))) (sym one)
          (post_goes at quote price until moment
          (named_asks by at (subst (λ (l : List Fact). ByNamed config by at l) at_facts ok.0.named))
          (subst (λ (a : Actor). is_met config facts a (duty.Post at quote price until moment) ≡ true) one fit))
      turn_mine venue at_facts by (duty.Decline at moment) ok fit one =
          subst (λ (a : Actor). Goes known (brings a (duty.Decline at moment)) (lefts (duty.Decline at moment ∷ [])))
          (sym one) (decline_goes at moment
          (named_asks by at (subst (λ (l : List Fact). ByNamed config by at l) at_facts ok))
          (subst (λ (a : Actor). is_met config facts a (duty.Decline at moment) ≡ true) one fit))
      turn_mine venue at_facts by other ok fit one =
          quiet (quiet_none (duty_effect config facts by other) (duty_quiet config facts by other tt)).none refl

      pub turn_other : (by : Actor) (d : Duty) → is_same_actor by me ≡ false → Goes known (brings by d) []
      turn_other by (duty.Post at quote price until moment) differs =
          quiet (post_other by differs at quote price until moment).none refl
      turn_other by (duty.Decline at moment) differs = quiet (decline_other by differs at moment).none refl
      turn_other by other differs =
          quiet (quiet_none (duty_effect config facts by other) (duty_quiet config facts by other tt)).none refl

      -- Messages and sweeps.

      message_none : (firm moment : ℕ) (bytes : List ℕ)
          → NoneIn (message_effect config facts firm moment bytes)
      unfolding message_effect
      message_none firm moment bytes = either (is_some (dealer_numbered config firm))
        where
          either : (b : Bool) → NoneIn (if b
              then done_by (dealer_at config firm) (received_by_dealer config facts moment bytes)
              else done_for (market_for config firm) (received_by_investor facts moment bytes))
          either true = numbered_does NoneIn idle config firm (received_by_dealer config facts moment bytes)
              (λ other found. quiet_none (received_by_dealer config facts moment bytes (dealer_of firm other))
              (received_quiet config facts (dealer_of firm other) moment bytes))
          either false = invested_does NoneIn idle config firm (received_by_investor facts moment bytes)
              (λ other. record { none = ap answers (room_at_investor room firm _) })

      pub message_goes : (firm moment : ℕ) (bytes : List ℕ)
          → Goes known (of_room room (message_effect config facts firm moment bytes).facts) []
      message_goes firm moment bytes = quiet (message_none firm moment bytes).none refl

      pub sweep_goes : (at : RoomRef) (moment : ℕ)
          → Goes known (of_room room (sweep_effect config facts at moment).facts) []
      sweep_goes at moment =
          quiet (quiet_none (sweep_effect config facts at moment) (sweep_quiet config facts at moment)).none refl
