-- Hits of two days of which the same is left: where both are awarded, on one request and to one
-- dealer, or both are refused, what they add and leave is the same, but for what is left out.
use Rattle.std.proofs.Common.{◌≡◌, ℕ, ◌==◌, ◌+◌, true, false, List, [], ◌∷◌, filter_map, Option}
use Rattle.std.proofs.Common.{Some, None, refl, sym, ap, ◌∙◌, subst, arith, inl, inr, Result, Ok}
use Rattle.std.proofs.Common.{Err}
use Rattle.std.proofs.lemmas.Bool.{cases_Bool, eqb-true}
use Rattle.std.proofs.lemmas.Option.{same_Some}
use Rattle.market_terms.specs.declared.closes.HitRefusal.{HitRefusal}
use Rattle.market_terms.specs.declared.closes.Reply.TheVariants as reply
use Rattle.market_terms.specs.declared.duties.Duty.{Duty}
use Rattle.market_terms.specs.declared.duties.Duty.TheVariants as duty
use Rattle.market_terms.specs.declared.rooms.ResponseRef.{ResponseRef}
use Rattle.market_terms.specs.declared.rooms.RoomRef.{RoomRef}
use Rattle.quote_word.specs.declared.settled.Settled.{Settled}
use Rattle.venue_rows.specs.Rows.{Configuration}
use Rattle.request_room.specs.Book.{award_of, book_of, hit_outcome, quote_meant, stands}
use Rattle.request_room.specs.RoomFacts.{RoomFact, Ended, request_of}
use Rattle.request_room.specs.declared.ends.End.{End}
use Rattle.request_room.specs.declared.quotes.PostedQuote.{PostedQuote}
use Rattle.venue_steps.specs.RoomSteps.{dealers_of}
use Rattle.venue_steps.specs.declared.actors.Actor.{Actor}
use Rattle.step_replay.specs.Actions.{Effect, QuoteRef, lifting, quote_with_word}
use Rattle.step_replay.specs.AuditTrail.{AuditTrail}
use Rattle.step_replay.specs.DutyEffects.{duty_effect}
use Rattle.step_replay.specs.OwnerLemmas.{owner_among, quote_at}
use Rattle.step_replay.specs.VenueFacts.{InRoom, of_room}
use Rattle.laws_days.specs.Conditions.{may_hit}
use Rattle.laws_days.proofs.VenueInvariant.{VenueOk}
use Rattle.laws_days.proofs.VenueKnown.{posted_in}
use Rattle.laws_isolation.specs.Presence.{Award, award_in}
use Rattle.laws_isolation.proofs.Left.{AreAlike, left, left_append, no_response}
use Rattle.laws_isolation.proofs.LeftPlaces.{left_room, room_left}
use Rattle.laws_isolation.proofs.LeftRoom.{one_stands, own_stands, request_same}
use Rattle.laws_isolation.proofs.HitOutcomes.{award_awards, awarded, hit_is, lifted_none, meant}
use Rattle.laws_isolation.proofs.HitOutcomes.{meant_stands, outcome, refused_awards, settled_for}
use Rattle.laws_isolation.proofs.HitOutcomes.{told_left, told_won, with_outcome}

-- Two days of which the same is left.

module _ (config : Configuration) (own : ℕ) (one other : AuditTrail)
    (stood : VenueOk config one) (stood_too : VenueOk config other)
    (same : left own one.facts ≡ left own other.facts) where
  -- what is left of a room
  rooms_same : (room : RoomRef)
      → left_room own (of_room room one.facts) ≡ left_room own (of_room room other.facts)
  rooms_same room =
      sym (room_left own room one.facts) ∙ ap (of_room room) same ∙ room_left own room other.facts

  -- the dealers that it names
  asked_same : (room : RoomRef)
      → dealers_of (request_of (of_room room one.facts))
      ≡ dealers_of (request_of (of_room room other.facts))
  asked_same room =
      ap (λ r. dealers_of r)
      (sym (request_same own (of_room room one.facts))
      ∙ ap (λ (l : List RoomFact). request_of l) (rooms_same room)
      ∙ request_same own (of_room room other.facts))

-- the quote that a hit means is one of its dealer's day
lifted_is : (config : Configuration) (venue : AuditTrail) (stood : VenueOk config venue)
    (room : RoomRef) (word : ℕ) (quote : PostedQuote)
    → quote_meant (book_of (of_room room venue.facts)) word ≡ Some quote
    → (number : ℕ) × (quote_with_word config word ≡ Some (quote_at quote.dealer number))
lifted_is config venue stood room word quote is =
    let posted = posted_in stood room word quote is in
    let number : 0 + quote.dealer ≡ quote.dealer = omega arith in (
      posted.1.quote,
      ap (quote_with_word config) (sym posted.0 ∙ posted.1.word_is)
          ∙ owner_among 0 config.dealers quote.dealer posted.1.row posted.1.quote
          posted.1.row_is posted.1.within
          ∙ ap (λ (n : ℕ). Some (quote_at n posted.1.quote)) number,
    )

-- what is left of a lifting
left_lifting : (own : ℕ) (found : Option QuoteRef) (award award_too : End)
    → left own (lifting found (Ok award)) ≡ left own (lifting found (Ok award_too))
left_lifting own None award award_too = refl
left_lifting own (Some quote) award award_too = refl

ended_left : (own : ℕ) (room : RoomRef) (end end_too : End) (moment : ℕ)
    → left own (InRoom room (Ended end moment) ∷ [])
    ≡ left own (InRoom room (Ended end_too moment) ∷ [])
unfolding left
ended_left own room end end_too moment = refl

left_another : (own : ℕ) (found : Option QuoteRef) (dealer number : ℕ) (award : End)
    → found ≡ Some (quote_at dealer number) → (dealer == own) ≡ false
    → left own (lifting found (Ok award)) ≡ []
unfolding left
left_another own found dealer number award is another = rw (is, another) refl

module _ (config : Configuration) (own : ℕ) (one other : AuditTrail)
    (stood : VenueOk config one) (stood_too : VenueOk config other)
    (same : left own one.facts ≡ left own other.facts)
    (room : RoomRef) (response response_too : ResponseRef) (word word_too moment : ℕ) where
  -- the room in both days
  abbrev here : List RoomFact
  here = of_room room one.facts

  abbrev there : List RoomFact
  there = of_room room other.facts

  module _ (quote quote_too : PostedQuote)
      (is : quote_meant (book_of here) word ≡ Some quote)
      (is_too : quote_meant (book_of there) word_too ≡ Some quote_too)
      (dealers_are : quote.dealer ≡ quote_too.dealer) where
    abbrev award : End
    award = award_of here word

    abbrev award_too : End
    award_too = award_of there word_too

    -- where the dealer itself won, its one quote was hit in both
    words_are : (quote.dealer == own) ≡ true → word ≡ word_too
    words_are mine =
        let dealer : quote.dealer ≡ own = eqb-true quote.dealer own mine in
        let stand : stands (book_of here) own quote.word ≡ true =
        subst (λ (d : ℕ). stands (book_of here) d quote.word ≡ true) dealer
        (meant_stands (book_of here) word quote is) in
        let stand_too : stands (book_of there) own quote_too.word ≡ true =
        subst (λ (d : ℕ). stands (book_of there) d quote_too.word ≡ true)
        (sym dealers_are ∙ dealer)
        (meant_stands (book_of there) word_too quote_too is_too) in
        let now = own_stands own here quote.word ∙ stand in
        let now_too : stands (book_of (left_room own here)) own quote_too.word ≡ true =
        ap (λ (l : List RoomFact). stands (book_of l) own quote_too.word)
        (rooms_same config own one other stood stood_too same room)
        ∙ own_stands own there quote_too.word ∙ stand_too in
        sym (posted_in stood room word quote is).0
        ∙ one_stands own (left_room own here) quote.word quote_too.word now now_too
        ∙ (posted_in stood_too room word_too quote_too is_too).0

    liftings_are : left own (lifting (quote_with_word config word) (Ok award))
        ≡ left own (lifting (quote_with_word config word_too) (Ok award_too))
    liftings_are = elim (cases_Bool (quote.dealer == own)) [
      | inl mine ↦
          left_lifting own (quote_with_word config word) award award_too
          ∙ ap (λ (w : ℕ). left own (lifting (quote_with_word config w) (Ok award_too)))
          (words_are mine)
      | inr another ↦
          let found = lifted_is config one stood room word quote is in
          let found_too = lifted_is config other stood_too room word_too quote_too is_too in
          left_another own (quote_with_word config word) quote.dealer found.0 award found.1 another
          ∙ sym (left_another own (quote_with_word config word_too) quote_too.dealer found_too.0
          award_too found_too.1 (rw dealers_are at another))
    ]

    pub awards_alike : AreAlike own (with_outcome config room response word moment here (Ok award))
        (with_outcome config room response_too word_too moment there (Ok award_too))
    awards_alike = record {
      facts_are = rw (
        left_append,
        left_append,
        liftings_are,
        ended_left own room award award_too moment,
      ) refl;
      duties_are = ap (λ (l : List Duty). duty.Answer room no_response reply.Passed moment ∷ l)
          (told_left config room response word moment here quote is
          (dealers_of (request_of here))
          ∙ ap (λ (d : ℕ). told_won room d moment (dealers_of (request_of here))) dealers_are
          ∙ ap (told_won room quote_too.dealer moment)
          (asked_same config own one other stood stood_too same room)
          ∙ sym (told_left config room response_too word_too moment there quote_too is_too
          (dealers_of (request_of there))));
    }

  -- the same, where the rooms are one
  pub moved : (quote : PostedQuote) → quote_meant (book_of here) word ≡ Some quote
      → (place : RoomRef) → room ≡ place → (quote_too : PostedQuote)
      → quote_meant (book_of (of_room place other.facts)) word_too ≡ Some quote_too
      → quote.dealer ≡ quote_too.dealer
      → AreAlike own (with_outcome config room response word moment here (Ok (award_of here word)))
      (with_outcome config place response_too word_too moment (of_room place other.facts)
      (Ok (award_of (of_room place other.facts) word_too)))
  moved quote is place rooms_are =
      subst (λ (r : RoomRef). (quote_too : PostedQuote)
      → quote_meant (book_of (of_room r other.facts)) word_too ≡ Some quote_too
      → quote.dealer ≡ quote_too.dealer
      → AreAlike own (with_outcome config room response word moment here (Ok (award_of here word)))
      (with_outcome config r response_too word_too moment (of_room r other.facts)
      (Ok (award_of (of_room r other.facts) word_too)))) rooms_are
      (λ quote_too is_too dealers_are. awards_alike quote quote_too is is_too dealers_are)

one_award : (x y : Award) → x ∷ [] ≡ y ∷ [] → x ≡ y
one_award x y is = cc

module _ (config : Configuration) (own : ℕ) (one other : AuditTrail)
    (stood : VenueOk config one) (stood_too : VenueOk config other)
    (same : left own one.facts ≡ left own other.facts)
    (room room_too : RoomRef) (response response_too : ResponseRef)
    (word word_too moment : ℕ) where
  abbrev does : Result End HitRefusal → Effect
  does outcome = with_outcome config room response word moment (of_room room one.facts) outcome

  abbrev does_too : Result End HitRefusal → Effect
  does_too outcome =
      with_outcome config room_too response_too word_too moment (of_room room_too other.facts)
      outcome

  refused_alike : (why why_too : HitRefusal) → AreAlike own (does (Err why)) (does_too
      (Err why_too))
  refused_alike why why_too = record {
    facts_are = rw (
      lifted_none (quote_with_word config word) why,
      lifted_none (quote_with_word config word_too) why_too,
    ) refl;
    duties_are = refl;
  }

  -- the awards of both
  abbrev AwardSame : Effect → Effect → Type 0
  AwardSame first second =
      filter_map award_in first.facts ≡ filter_map award_in second.facts

  outcomes_alike : (outcome outcome_too : Result End HitRefusal)
      (settlement settlement_too : Option Settled)
      → hit_outcome (of_room room one.facts) word moment settlement ≡ outcome
      → hit_outcome (of_room room_too other.facts) word_too moment settlement_too ≡ outcome_too
      → AwardSame (does outcome) (does_too outcome_too)
      → AreAlike own (does outcome) (does_too outcome_too)
  outcomes_alike (Err why) (Err why_too) settlement settlement_too is is_too alike =
      refused_alike why why_too
  outcomes_alike (Ok award) (Err why_too) settlement settlement_too is is_too alike =
      let so = awarded (of_room room one.facts) word moment settlement award is in
      let quote = meant (of_room room one.facts) word moment so.0 in
      cc (sym (award_awards config room response word moment
      (of_room room one.facts) quote.0 quote.1)
      ∙ ap (λ (e : End). filter_map award_in (does (Ok e)).facts) so.1 ∙ alike
      ∙ refused_awards config room_too response_too word_too moment
      (of_room room_too other.facts) why_too)
  outcomes_alike (Err why) (Ok award_too) settlement settlement_too is is_too alike =
      let so = awarded (of_room room_too other.facts) word_too moment settlement_too award_too
      is_too in
      let quote = meant (of_room room_too other.facts) word_too moment so.0 in
      cc (sym (award_awards config room_too response_too word_too moment
      (of_room room_too other.facts) quote.0 quote.1)
      ∙ ap (λ (e : End). filter_map award_in (does_too (Ok e)).facts) so.1 ∙ sym alike
      ∙ refused_awards config room response word moment (of_room room one.facts) why)
  outcomes_alike (Ok award) (Ok award_too) settlement settlement_too is is_too alike =
      let so = awarded (of_room room one.facts) word moment settlement award is in
      let so_too = awarded (of_room room_too other.facts) word_too moment settlement_too award_too
      is_too in
      let quote = meant (of_room room one.facts) word moment so.0 in
      let quote_too = meant (of_room room_too other.facts) word_too moment so_too.0 in
      let both = sym (award_awards config room response word moment (of_room room one.facts)
      quote.0 quote.1)
      ∙ ap (λ (e : End). filter_map award_in (does (Ok e)).facts) so.1 ∙ alike
      ∙ ap (λ (e : End). filter_map award_in (does_too (Ok e)).facts) (sym so_too.1)
      ∙ award_awards config room_too response_too word_too moment (of_room room_too other.facts)
      quote_too.0 quote_too.1 in
      let award_is = one_award _ _ both in
      let rooms_are : room ≡ room_too = ap (λ (a : Award). a.room) award_is in
      let dealers_are : quote.0.dealer ≡ quote_too.0.dealer =
      same_Some quote.0.dealer quote_too.0.dealer (ap (λ (a : Award). a.winner) award_is) in
      subst (λ (e : End). AreAlike own (does (Ok e)) (does_too (Ok award_too))) so.1
      (subst (λ (e : End). AreAlike own (does (Ok (award_of (of_room room one.facts) word)))
      (does_too (Ok e))) so_too.1
      (moved config own one other stood stood_too same room response response_too word word_too
      moment quote.0 quote.1 room_too rooms_are quote_too.0 quote_too.1 dealers_are))

  pub hits_alike : (by : Actor) → may_hit config one.facts room word moment ≡ true
      → may_hit config other.facts room_too word_too moment ≡ true
      → AwardSame (duty_effect config one.facts by (duty.Hit room response word moment))
      (duty_effect config other.facts by (duty.Hit room_too response_too word_too moment))
      → AreAlike own (duty_effect config one.facts by (duty.Hit room response word moment))
      (duty_effect config other.facts by (duty.Hit room_too response_too word_too moment))
  hits_alike by may may_too alike =
      let is = hit_is config room response word moment one.facts by may in
      let is_too = hit_is config room_too response_too word_too moment other.facts by may_too in
      rw (is, is_too) (outcomes_alike (outcome config room response word moment one.facts)
      (outcome config room_too response_too word_too moment other.facts)
      (settled_for config room word moment one.facts)
      (settled_for config room_too word_too moment other.facts) refl refl
      (rw (is, is_too) at alike))
