-- What a duty of a dealer brings to a room of its quotes, its withdrawals and its decline.
use Rattle.std.proofs.Common.{◌≡◌, ◌==◌, ◌&&◌, ℕ, true, false, List, [], ◌∷◌, ◌++◌, map, filter_map}
use Rattle.std.proofs.Common.{Option, Some, None, is_some, refl, sym, ap, ◌∙◌, subst, inl, inr}
use Rattle.std.proofs.Common.{if◌then◌else◌}
use Rattle.std.proofs.lemmas.Bool.{and_parts, cases_Bool, eq-eqb, false≢true}
use Rattle.std.proofs.lemmas.List.{append-nil, append_assoc}
use Rattle.std.proofs.lemmas.List.Elements.{filter_map-append}
use Rattle.dealer_desk.specs.DealerOutput.{is_same_room}
use Rattle.market_terms.specs.declared.duties.Duty.{Duty}
use Rattle.market_terms.specs.declared.duties.Duty.TheVariants as duty
use Rattle.market_terms.specs.declared.rooms.RoomRef.{RoomRef}
use Rattle.venue_rows.specs.Rows.{Configuration, dealer_numbered, has_room}
use Rattle.venue_rows.specs.declared.dealer_rows.DealerRow.{DealerRow}
use Rattle.venue_steps.specs.Dealers.{dealer_of, has_word_for, word_for}
use Rattle.venue_steps.specs.declared.actors.Actor.{Actor}
use Rattle.venue_steps.specs.declared.actors.Actor.TheVariants as actor
use Rattle.request_room.specs.Book.{book_of, event_facts, quote_posted, stands}
use Rattle.request_room.specs.RoomFacts.{RoomFact, Unposted, ended_as, end_of, hears, is_ended, request_of}
use Rattle.request_room.specs.declared.ends.End.{End}
use Rattle.step_replay.specs.Actions.{Effect, nothing}
use Rattle.step_replay.specs.LineActions.{unposted_by}
use Rattle.step_replay.specs.AuditTrail.{AuditTrail}
use Rattle.step_replay.specs.DutyEffects.{duty_effect}
use Rattle.step_replay.specs.GrowthLemmas.{said_grown, same_room}
use Rattle.step_replay.specs.PlaceLemmas.{other_room, own_room}
use Rattle.step_replay.specs.VenueFacts.{Fact, InRoom, of_room}
use Rattle.laws_days.specs.ActionCases.{if_does, numbered_does}
use Rattle.laws_days.specs.LeftBehind.{LeftBy, duty_each}
use Rattle.laws_days.specs.Conditions.{is_met}
use Rattle.laws_days.proofs.VenueInvariant.{ByNamed, DutyOk}
use Rattle.laws_rooms.specs.Answered.{Answer, Declines, Quotes, TookEffect, Withdraws, answers_in, change_in}
use Rattle.laws_rooms.specs.Answered.{changes_in}
use Rattle.laws_rooms.proofs.AnswerLemmas.{Goes, late, named_asks, quiet, takes, turn_mine}
use Rattle.laws_rooms.proofs.FollowLemmas.{quiet_none}
use Rattle.laws_rooms.proofs.ReplyDuties.{none_of}
use Rattle.laws_rooms.proofs.RoomLemmas.{some_of}
use Rattle.laws_rooms.proofs.RoomWalk.{duty_adds}
use Rattle.laws_rooms.proofs.TurnLists.{IsNoUnpost, same_changes}

-- every duty but a drop
abbrev pub IsNoDrop : Duty → Type 0
IsNoDrop (duty.Drop last moment) = ⊥
IsNoDrop other = Unit {0}

-- Rooms that go on.

still_open : (known added : List RoomFact) → is_ended (known ++ added) ≡ false → is_ended known ≡ false
still_open known added lives = elim (cases_Bool (is_ended known)) [
  | inr not_yet ↦ not_yet
  | inl ended ↦
      (let end = some_of (end_of known) ended in
      absurd (false≢true (sym lives
      ∙ ap (λ (e : Option End). is_some e) (said_grown ended_as known added end.0 end.1))))
]

module _ (dealer : ℕ) where
  abbrev changes : List RoomFact → List Answer
  changes facts = changes_in dealer facts

  -- what was done, beside the facts that it added to a room: they say just that; or they say nothing,
  -- and nothing was done, or the room had ended
  pub data Went (known added : List RoomFact) (items : List Answer) : Type 0 where
    beside_it : changes added ≡ [] → items ≡ [] → Went known added items
    in_time : changes added ≡ items → is_ended known ≡ false → Went known added items
    too_late : changes added ≡ [] → is_ended known ≡ true → Went known added items

  module _ (known added : List RoomFact) where
    both : changes (known ++ added) ≡ changes known ++ changes added
    both = filter_map-append (change_in dealer) known added

    both_none : changes added ≡ [] → changes (known ++ added) ≡ changes known
    both_none none = both ∙ ap (λ (l : List Answer). changes known ++ l) none ∙ append-nil (changes known)

    pub took_more : (before items : List Answer) → TookEffect known dealer before → Went known added items
        → TookEffect (known ++ added) dealer (before ++ items)
    took_more before items took (beside_it none none_done) = record {
      rest = took.rest;
      begins = ap (λ (l : List Answer). before ++ l) none_done ∙ append-nil before ∙ took.begins
          ∙ ap (λ (l : List Answer). l ++ took.rest) (sym (both_none none));
      whole = λ lives. took.whole (still_open known added lives);
    }
    took_more before items took (in_time says lives) = record {
      rest = [];
      begins = ap (λ (l : List Answer). l ++ items) took.begins
          ∙ ap (λ (l : List Answer). (changes known ++ l) ++ items) (took.whole lives)
          ∙ ap (λ (l : List Answer). l ++ items) (append-nil (changes known))
          ∙ ap (λ (l : List Answer). changes known ++ l) (sym says)
          ∙ sym both ∙ sym (append-nil (changes (known ++ added)));
      whole = λ still. refl;
    }
    took_more before items took (too_late none ended) = record {
      rest = took.rest ++ items;
      begins = ap (λ (l : List Answer). l ++ items) took.begins
          ∙ append_assoc (changes known) took.rest items
          ∙ ap (λ (l : List Answer). l ++ (took.rest ++ items)) (sym (both_none none));
      whole = λ lives. absurd (false≢true (sym (still_open known added lives) ∙ ended));
    }

    -- a quote or a decline
    went : (items : List Answer) → changes added ≡ answers_in dealer added → Goes dealer known added items
        → Went known added items
    went items same (quiet none none_done) = beside_it (same ∙ none) none_done
    went items same (takes says lives) = in_time (same ∙ says) lives
    went items same (late none ended) = too_late (same ∙ none) ended

  module _ (config : Configuration) (row : DealerRow) (is : dealer_numbered config dealer ≡ Some row)
      (room : RoomRef) where
    abbrev me : Actor
    me = actor.Firm dealer

    -- the quote, the withdrawal or the decline that a duty of the dealer brings to the room, if it does
    abbrev pub change_of : Duty → Option Answer
    change_of (duty.Post at quote price valid_until moment) =
        if is_same_room at room
        then Some (Quotes (quote_posted dealer (word_for config (dealer_of dealer row) quote) price valid_until))
        else None
    change_of (duty.Unpost at quote moment) =
        if is_same_room at room then Some (Withdraws (word_for config (dealer_of dealer row) quote)) else None
    change_of (duty.Decline at moment) = if is_same_room at room then Some Declines else None
    change_of other = None

    abbrev pub lefts : List Duty → List Answer
    lefts duties = filter_map change_of duties

    module _ (facts : List Fact) where
      abbrev known : List RoomFact
      known = of_room room facts

      abbrev brings : Actor → Duty → List RoomFact
      brings by d = of_room room (duty_effect config facts by d).facts

      -- the quote that a withdrawal names stands while the room goes on
      abbrev pub MayWithdraw : Duty → Type 0
      MayWithdraw d = (word : ℕ) → change_of d ≡ Some (Withdraws word) → is_ended known ≡ false
          → stands (book_of known) dealer word ≡ true

      unpost_here : (quote moment : ℕ) → is_some (request_of known) ≡ true
          → is_met config facts me (duty.Unpost room quote moment) ≡ true
          → (is_ended known ≡ false
          → stands (book_of known) dealer (word_for config (dealer_of dealer row) quote) ≡ true)
          → Went known (brings me (duty.Unpost room quote moment))
          (Withdraws (word_for config (dealer_of dealer row) quote) ∷ [])
      unfolding is_met duty_effect event_facts
      unpost_here quote moment asked fit may =
          let own = dealer_of dealer row in
          let same : (dealer == dealer) ≡ true = eq-eqb dealer dealer refl in
          let first = and_parts (has_word_for config own quote)
          (has_room config room.investor room.n && hears known dealer) (rw is at fit) in
          let second = and_parts (has_room config room.investor room.n) (hears known dealer) first.1 in
          elim (cases_Bool (is_ended known)) [
            | inl ended ↦ rw (is, first.0, second.0, second.1, asked, ended)
                (too_late (ap changes (own_room room [])) ended)
            | inr lives ↦ rw (is, first.0, second.0, second.1, asked, lives, may lives)
                (in_time (ap changes (own_room room (Unposted dealer (word_for config own quote) ∷ [])) ∙ rw same refl)
                lives)
          ]

      -- one of another room
      record NoneIn (effect : Effect) : Type 0 where
        pub none : changes (of_room room effect.facts) ≡ []

      idle : NoneIn nothing
      unfolding of_room
      idle = record { none = refl }

      elsewhere : (at : RoomRef) (happened : List RoomFact) (duties : List Duty) → is_same_room at room ≡ false
          → NoneIn (record { facts = map (InRoom at) happened; duties = duties })
      elsewhere at happened duties differs = record { none = ap changes (other_room room at differs happened) }

      unpost_away : (at : RoomRef) (quote moment : ℕ) → is_same_room at room ≡ false
          → NoneIn (duty_effect config facts me (duty.Unpost at quote moment))
      unfolding duty_effect
      unpost_away at quote moment differs =
          numbered_does NoneIn idle config dealer (unposted_by config facts at quote moment)
          (λ other found. if_does NoneIn idle _ _ (elsewhere at _ _ differs))

      unpost_went : (at : RoomRef) (quote moment : ℕ) → is_some (request_of (of_room at facts)) ≡ true
          → is_met config facts me (duty.Unpost at quote moment) ≡ true
          → MayWithdraw (duty.Unpost at quote moment)
          → Went known (brings me (duty.Unpost at quote moment)) (lefts (duty.Unpost at quote moment ∷ []))
      unpost_went at quote moment asked fit may = elim (cases_Bool (is_same_room at room)) [
        | inr differs ↦ beside_it (unpost_away at quote moment differs).none (rw differs refl)
        | inl same ↦
            (let word = word_for config (dealer_of dealer row) quote in
            rw same (subst (λ (r : RoomRef). is_some (request_of (of_room r facts)) ≡ true
            → is_met config facts me (duty.Unpost r quote moment) ≡ true
            → Went known (brings me (duty.Unpost r quote moment)) (Withdraws word ∷ []))
            (sym (same_room at room same))
            (λ a f. unpost_here quote moment a f (may word (rw same refl))) asked fit))
      ]

      abbrev added_by : Duty → List RoomFact
      added_by d = brings me d

      posts_alone : (at : RoomRef) (quote price : ℕ) (until : Option ℕ) (moment : ℕ)
          → changes (added_by (duty.Post at quote price until moment))
          ≡ answers_in dealer (added_by (duty.Post at quote price until moment))
      posts_alone at quote price until moment =
          same_changes dealer _ (duty_adds IsNoUnpost config facts room me (duty.Post at quote price until moment)
          (λ found row_is. tt)).each

      declines_alone : (at : RoomRef) (moment : ℕ)
          → changes (added_by (duty.Decline at moment)) ≡ answers_in dealer (added_by (duty.Decline at moment))
      declines_alone at moment =
          same_changes dealer _ (duty_adds IsNoUnpost config facts room me (duty.Decline at moment)
          (λ found row_is. tt)).each

      pub turn_went : (venue : AuditTrail) → venue.facts ≡ facts → (by : Actor) (d : Duty)
          → DutyOk config by d venue → is_met config facts by d ≡ true → by ≡ me → MayWithdraw d
          → Went known (brings by d) (lefts (d ∷ []))
      turn_went venue at_facts by (duty.Post at quote price until moment) ok fit one may =
          let d = duty.Post at quote price until moment in
          went known (brings by d) (lefts (d ∷ []))
          (subst (λ (a : Actor). changes (brings a d) ≡ answers_in dealer (brings a d)) (sym one)
          (posts_alone at quote price until moment))
          (turn_mine dealer config row is room facts venue at_facts by d ok fit one)
      turn_went venue at_facts by (duty.Decline at moment) ok fit one may =
          let d = duty.Decline at moment in
          went known (brings by d) (lefts (d ∷ []))
          (subst (λ (a : Actor). changes (brings a d) ≡ answers_in dealer (brings a d)) (sym one)
          (declines_alone at moment))
          (turn_mine dealer config row is room facts venue at_facts by d ok fit one)
      turn_went venue at_facts by (duty.Unpost at quote moment) ok fit one may =
          let d = duty.Unpost at quote moment in
          subst (λ (a : Actor). Went known (brings a d) (lefts (d ∷ []))) (sym one)
          (unpost_went at quote moment
          (named_asks dealer config row is room facts by at
          (subst (λ (l : List Fact). ByNamed config by at l) at_facts ok.named))
          (subst (λ (a : Actor). is_met config facts a d ≡ true) one fit) may)
      turn_went venue at_facts by other ok fit one may =
          beside_it (quiet_none dealer config row is room facts by other tt) refl

      -- What is left: only a message and a drop leave one.

      abbrev NoChange : Duty → Type 0
      NoChange d = change_of d ≡ None

      pub leaves_none : (by : Actor) (d : Duty) → IsNoDrop d → lefts (duty_effect config facts by d).duties ≡ []
      leaves_none by d isnt =
          none_of change_of (duty_effect config facts by d).duties
          (duty_each NoChange config facts by d (λ more left. each more d isnt left))
        where
          each : (more one : Duty) → IsNoDrop one → LeftBy more one → NoChange more
          each (duty.Post at quote price until when) one so left = absurd left
          each (duty.Unpost at quote when) (duty.Drop last moment) so left = absurd so
          each (duty.Unpost at quote when) one so left = absurd left
          each (duty.Decline at when) one so left = absurd left
          each more one so left = refl
