-- A hit brings what stands in a venue: where it awards, the winner's quote of the book is lifted.
use Rattle.laws_days.proofs.Common.{Bool, Err, List, None, Ok, Option, Result, Some, ℕ, [], ap}
use Rattle.laws_days.proofs.Common.{arith, eq-eqb, false, if◌then◌else◌, inl, inr, map, refl}
use Rattle.laws_days.proofs.Common.{subst, sym, true, ◌++◌, ◌+◌, ◌∙◌, ◌∷◌, ◌≡◌, cases_Bool}
use Rattle.laws_days.proofs.Common.{eqb-true, not-false, or_left, HitRefusal, Duty, ResponseRef}
use Rattle.laws_days.proofs.Common.{RoomRef, Settled, hit_checks, hit_refusal, quote_meant, Ended}
use Rattle.laws_days.proofs.Common.{RoomFact, is_open, End, close_for, Effect, QuoteRef, lifting}
use Rattle.laws_days.proofs.Common.{quote_with_word, Lifted, lifts, any_right, dealer_grown}
use Rattle.laws_days.proofs.Common.{own_trail, Fact, InRoom, of_dealer, none_holds}
use Rattle.market_terms.specs.declared.closes.Close.TheVariants as closes
use Rattle.market_terms.specs.declared.duties.Duty.TheVariants as duty
use Rattle.request_room.specs.Book.{award_of, book_of, end_by, event_facts, hit_outcome, is_lift}
use Rattle.request_room.specs.Book.{reply_of}
use Rattle.request_room.specs.declared.quotes.PostedQuote.{PostedQuote as BookQuote}
use Rattle.venue_steps.specs.RoomSteps.{is_cover, is_winner, told_of_hit}
use Rattle.step_replay.specs.Actions.{hit_with}
use Rattle.step_replay.specs.OwnerLemmas.{owner_among, quote_at}
use Rattle.laws_days.proofs.ListLemmas.{cases_some, some_of}
use Rattle.laws_days.proofs.VenueEnds.{answered, ended_brings, ending, left_brings, none_lifted}
use Rattle.laws_days.proofs.VenueInvariant.{PostedIn, RespondsIn}
use Rattle.laws_days.proofs.VenueKinds.{in_it, known}
use Rattle.laws_days.proofs.VenueKnown.{posted_in}
use Rattle.laws_days.proofs.VenueParts.{LiftedIn, closer, lifted_later, quoted_later}
use Rattle.laws_days.proofs.VenueSteps.{Brings, Here, day, since, trail_of}

-- a hit that awards asked a word that no check refused, and ends as the book says
awards : (facts : List RoomFact) (word moment : ℕ) (settlement : Option Settled) (award : End)
    → hit_outcome facts word moment settlement ≡ Ok award
    → (hit_refusal facts word moment ≡ None) × (award_of facts word ≡ award)
awards facts word moment settlement award is =
    elim (cases_some (hit_refusal facts word moment)) [
      | inr some ↦ cc (rw (some.1) at is)
      | inl none ↦ elim (cases_Bool (is_lift settlement)) [
        | inr withdrawn ↦ cc (rw (none, withdrawn) at is)
        | inl lifts ↦ (none, cc (rw (none, lifts) at is))
      ]
    ]

-- who is told of a hit is the winner
winner_is : (b c : Bool)
    → (if b then closes.Hit else if c then closes.Cover else closes.DoneAway) ≡ closes.Hit
    → b ≡ true
winner_is true c is = refl
winner_is false true is = cc
winner_is false false is = cc

module _ (h : Here) (room : RoomRef) where
  module _ (word : ℕ) (award : End) (award_is : award_of (known h room) word ≡ award)
      (rest : List Fact) where
    -- what an award adds
    abbrev lift_with : Option QuoteRef → Effect
    lift_with found = record { facts = lifting found (Ok award) ++ rest; duties = [] }

    abbrev Lifts : Option QuoteRef → ℕ → Type 0
    Lifts found number = LiftedIn (day h (lift_with found)).facts number room

    lift : (quote : BookQuote) (posted : PostedIn h.config room quote h.venue)
        → Lifts (Some (quote_at quote.dealer posted.quote)) quote.dealer
    lift quote posted =
        let lifted = Some (quote_at quote.dealer posted.quote) in
        record {
          quote = posted.quote;
          quoted = quoted_later (since h (lift_with lifted)) quote.dealer room posted.quote
              posted.quoted;
          lifted = rw (
            dealer_grown quote.dealer h.venue.facts (lifting lifted (Ok award) ++ rest),
            dealer_grown quote.dealer (lifting lifted (Ok award)) rest,
            own_trail quote.dealer (Lifted posted.quote ∷ []),
          ) (any_right (lifts posted.quote) (trail_of h quote.dealer)
              (Lifted posted.quote ∷ of_dealer quote.dealer rest)
              (or_left _ _ (eq-eqb posted.quote posted.quote refl)));
        }

    -- the winner's quote is lifted
    winner_lifted : (dealer : ℕ) → close_for award dealer ≡ closes.Hit
        → Lifts (quote_with_word h.config word) dealer
    winner_lifted dealer hit =
        let wins = winner_is (is_winner (award_of (known h room) word).winner dealer)
        (is_cover (award_of (known h room) word).cover dealer) (rw (← award_is) at hit) in
        elim (cases_some (quote_meant (book_of (known h room)) word)) [
          | inl none ↦ cc (rw none at wins)
          | inr some ↦
              let quote = some.0 in
              let posted = posted_in h.stood room word quote some.1 in
              let number : 0 + quote.dealer ≡ quote.dealer = omega arith in
              subst (Lifts (quote_with_word h.config word))
              (eqb-true quote.dealer dealer (rw (some.1) at wins))
              (subst (λ (o : Option QuoteRef). Lifts o quote.dealer)
              (sym (ap (quote_with_word h.config) (sym posted.0 ∙ posted.1.word_is)
              ∙ owner_among 0 h.config.dealers quote.dealer posted.1.row posted.1.quote
              posted.1.row_is posted.1.within
              ∙ ap (λ (n : ℕ). Some (quote_at n posted.1.quote)) number))
              (lift quote posted.1))
        ]

  pub hit_brings : (response : ResponseRef) (word moment : ℕ) (settlement : Option Settled)
      → RespondsIn h.config h.by room response true h.venue
      → Brings h (hit_with h.config h.venue.facts room response word moment settlement)
  unfolding event_facts hit_refusal
  hit_brings response word moment settlement hits =
      by_outcome (hit_outcome (known h room) word moment settlement) refl
    where
      replied : Result End HitRefusal → Duty
      replied outcome = duty.Answer room response (reply_of outcome) moment

      quote : (n : ℕ) × (response.k ≡ Some n)
      quote = some_of response.k hits.some_is

      by_outcome : (outcome : Result End HitRefusal)
          → hit_outcome (known h room) word moment settlement ≡ outcome
          → Brings h (record {
            facts = lifting (quote_with_word h.config word) outcome
                ++ map (InRoom room) (end_by outcome moment);
            duties = replied outcome ∷ told_of_hit (known h room) room moment outcome;
          })
      by_outcome (Ok award) is =
          let so = awards (known h room) word moment settlement award is in
          let lifted = quote_with_word h.config word in
          ended_brings h room award moment (replied (Ok award)) lifted
          (not-false (is_open (known h room))
          (none_holds (hit_checks (known h room) word moment) so.0).0)
          (hits.by_is ∙ ap (λ (e : End). closer e.kind room) so.1)
          (answered h room response (reply_of (Ok award)) moment hits (rw (quote.1) refl)
          (ending h room award moment (replied (Ok award)) lifted))
          (λ now later dealer hit. lifted_later later dealer room (winner_lifted word award so.1
          (map (InRoom room) (Ended award moment ∷ [])) dealer hit))
      by_outcome (Err why) is =
          rw (none_lifted (quote_with_word h.config word) why)
          (left_brings h room (replied (Err why))
          (answered h room response (reply_of (Err why)) moment hits (rw (quote.1) refl)
          (in_it h room [] (replied (Err why) ∷ []))))
