-- A hit brings what stands of trades: where it awards, it lifts the quote that won, and leaves the
-- answer to its investor.
use Rattle.laws_days.proofs.Common.{Err, List, None, Ok, Option, Result, Some, ℕ, [], ap}
use Rattle.laws_days.proofs.Common.{arith, eq-eqb, inl, inr, map, not, refl, subst, sym}
use Rattle.laws_days.proofs.Common.{true, ◌++◌, ◌+◌, ◌∙◌, ◌∷◌, ◌≡◌, and_parts, cases_Bool}
use Rattle.laws_days.proofs.Common.{not-false, not-true, or_left, option_map, HitRefusal, Duty}
use Rattle.laws_days.proofs.Common.{ResponseRef, RoomRef, Settled, hit_checks, hit_refusal}
use Rattle.laws_days.proofs.Common.{quote_meant, Ended, RoomFact, end_of, ended_as, is_ended}
use Rattle.laws_days.proofs.Common.{is_open, is_ready, End, Effect, QuoteRef, lifting}
use Rattle.laws_days.proofs.Common.{quote_with_word, Actor, AuditTrail, Lifted, lifts}
use Rattle.laws_days.proofs.Common.{In, any_right, in_right, said_after, dealer_grown, own_room}
use Rattle.laws_days.proofs.Common.{own_trail, room_grown, AtDealer, InRoom, of_dealer}
use Rattle.laws_days.proofs.Common.{of_room, none_holds, was_lifted, any_left}
use Rattle.market_terms.specs.declared.closes.Reply.TheVariants as reply
use Rattle.market_terms.specs.declared.duties.Duty.TheVariants as duty
use Rattle.request_room.specs.Book.{award_of, book_of, end_by, event_facts, hit_outcome, is_lift}
use Rattle.request_room.specs.Book.{reply_of}
use Rattle.request_room.specs.declared.ends.EndKind.{EndKind}
use Rattle.request_room.specs.declared.ends.EndKind.TheVariants as ends
use Rattle.request_room.specs.declared.quotes.PostedQuote.{PostedQuote as BookQuote}
use Rattle.venue_steps.specs.RoomSteps.{told_in, told_of_hit}
use Rattle.venue_steps.specs.declared.actors.Actor.TheVariants as actor
use Rattle.step_replay.specs.Actions.{hit_with}
use Rattle.step_replay.specs.OwnerLemmas.{owner_among, quote_at}
use Rattle.laws_days.proofs.ListLemmas.{cases_some, none_some}
use Rattle.laws_days.proofs.VenueEnds.{none_lifted}
use Rattle.laws_days.proofs.VenueInvariant.{PostedIn}
use Rattle.laws_days.proofs.VenueKinds.{known}
use Rattle.laws_days.proofs.VenueKnown.{posted_in}
use Rattle.laws_days.proofs.VenueParts.{Later, Still, duties_by}
use Rattle.laws_days.proofs.VenueParts.{quoted_later, said_later}
use Rattle.laws_days.proofs.VenueSteps.{Here, day, queue, to_now, trail_of}
use Rattle.laws_days.proofs.VenueTurns.{own_left}
use Rattle.laws_trades.proofs.TradeParts.{AwardLeft, AwardedTo, EndLeft, HitOf, LiftedAt}
use Rattle.laws_trades.proofs.TradeRooms.{told_left}
use Rattle.laws_trades.proofs.TradeSteps.{Makes}

-- a hit that awards asked a word that no check refused, and ends as the book says
pub awards : (facts : List RoomFact) (word moment : ℕ) (settlement : Option Settled) (award : End)
    → hit_outcome facts word moment settlement ≡ Ok award
    → (hit_refusal facts word moment ≡ None) × (award_of facts word ≡ award)
awards facts word moment settlement award is =
    elim (cases_some (hit_refusal facts word moment)) [
      | inr some ↦ cc (rw (some.1) at is)
      | inl none ↦ elim (cases_Bool (is_lift settlement)) [
        | inr withdrawn ↦ cc (rw (none, withdrawn) at is)
        | inl lifts ↦ (none, cc (rw (none, lifts) at is))
      ]
    ]

module _ (h : Here) (room : RoomRef) (response : ResponseRef) (word moment : ℕ)
    (by_is : h.by ≡ actor.Firm room.investor)
    (means : Still (λ now. HitOf now.facts room response word) h.venue) where
  -- An award.

  module _ (award : End) (award_is : award_of (known h room) word ≡ award)
      (refused : hit_refusal (known h room) word moment ≡ None)
      (quote : BookQuote) (found : quote_meant (book_of (known h room)) word ≡ Some quote)
      (word_is : quote.word ≡ word) (posted : PostedIn h.config room quote h.venue) where
    -- what it adds and leaves
    abbrev pub answer : Duty
    answer = duty.Answer room response reply.Awarded moment

    abbrev pub awarding : Effect
    awarding = record {
      facts = AtDealer quote.dealer (Lifted posted.quote) ∷ InRoom room (Ended award moment) ∷ [];
      duties = answer ∷ told_in (known h room) room award moment;
    }

    pub open_before : is_open (known h room) ≡ true
    unfolding hit_refusal
    open_before =
        not-false (is_open (known h room))
        (none_holds (hit_checks (known h room) word moment) refused).0

    pub none_before : end_of (known h room) ≡ None
    none_before =
        none_some (end_of (known h room)) (not-true (is_ended (known h room))
        (and_parts (is_ready (known h room)) (not (is_ended (known h room))) open_before).1)

    room_then : of_room room awarding.facts ≡ Ended award moment ∷ []
    unfolding of_room
    room_then = own_room room (Ended award moment ∷ [])

    pub end_then : end_of (of_room room (day h awarding).facts) ≡ Some award
    end_then =
        rw (room_grown room h.venue.facts awarding.facts, room_then)
        (said_after ended_as (known h room) (Ended award moment ∷ []) none_before)

    kind_is : award.kind ≡ ends.Awarded
    kind_is = ap (λ (e : End). e.kind) (sym award_is)

    pub awarded_to : (w : ℕ) → quote.word ≡ w → (now : AuditTrail) → Later (day h awarding) now
        → AwardedTo now.facts room quote.dealer w
    awarded_to w is now later = record {
      end = award;
      end_is = said_later later ended_as room award end_then;
      kind_is = kind_is;
      winner_is = ap (λ (e : End). e.winner) (sym award_is)
          ∙ ap (option_map (λ (q : BookQuote). (q.dealer, q.word))) found
          ∙ ap (λ (n : ℕ). Some (quote.dealer, n)) is;
    }

    lift_at : (now : AuditTrail) → Later (day h awarding) now
        → LiftedAt h.config now.facts quote.dealer posted.quote room
    lift_at now later = record {
      row = posted.row;
      row_is = posted.row_is;
      within = posted.within;
      quoted = quoted_later (to_now h awarding later) quote.dealer room posted.quote posted.quoted;
      award = awarded_to _ posted.word_is now later;
    }

    lifted_then : was_lifted (of_dealer quote.dealer (day h awarding).facts) posted.quote ≡ true
    lifted_then =
        rw (
          dealer_grown quote.dealer h.venue.facts awarding.facts,
          dealer_grown quote.dealer (AtDealer quote.dealer (Lifted posted.quote) ∷ [])
              (InRoom room (Ended award moment) ∷ []),
          own_trail quote.dealer (Lifted posted.quote ∷ []),
        ) (any_right (lifts posted.quote) (trail_of h quote.dealer)
        (Lifted posted.quote ∷ of_dealer quote.dealer (InRoom room (Ended award moment) ∷ []))
        (or_left _ _ (eq-eqb posted.quote posted.quote refl)))

    left_then : In answer (duties_by (actor.Firm room.investor) (day h awarding).caused)
    left_then =
        subst (λ (a : Actor). In answer (duties_by a (day h awarding).caused)) by_is
        (rw (own_left h.venue h.by awarding)
        (in_right answer (queue h) awarding.duties (inl refl)))

    award_left : (now : AuditTrail) → Later (day h awarding) now → AwardLeft h.config room now
    award_left now later = record {
      dealer = quote.dealer;
      quote = posted.quote;
      response = response;
      moment = moment;
      lift = lift_at now later;
      lifted = rw (
        later.facts_are,
        dealer_grown quote.dealer (day h awarding).facts later.more,
      ) (any_left (lifts posted.quote) (of_dealer quote.dealer (day h awarding).facts) _ lifted_then);
      left = later.left (actor.Firm room.investor) answer left_then;
    }

    award_makes : Makes h awarding
    award_makes = record {
      facts = (
        λ now later. (room, lift_at now later),
        (
          λ now later. subst (λ (k : EndKind). EndLeft h.config k room now) (sym kind_is)
              (award_left now later),
          tt,
        ),
      );
      left = (
        λ now later. let hit = means now (to_now h awarding later) in (
          by_is,
          record {
            winner = quote.dealer;
            word = hit.shown.offer.word;
            hit = record {
              shown = hit.shown;
              found = hit.found;
              request_is = hit.request_is;
              response_is = hit.response_is;
              word_is = refl;
              id_is = hit.id_is;
            };
            award = awarded_to hit.shown.offer.word (word_is ∙ sym hit.word_is) now later;
          },
        ),
        told_left h room awarding award moment,
      );
    }

    -- the quote that has the word is the winner's
    pub owner_is : quote_with_word h.config word ≡ Some (quote_at quote.dealer posted.quote)
    owner_is =
        let number : 0 + quote.dealer ≡ quote.dealer = omega arith in
        ap (quote_with_word h.config) (sym word_is ∙ posted.word_is)
        ∙ owner_among 0 h.config.dealers quote.dealer posted.row posted.quote posted.row_is
        posted.within
        ∙ ap (λ (n : ℕ). Some (quote_at n posted.quote)) number

  pub hit_makes : (settlement : Option Settled)
      → Makes h (hit_with h.config h.venue.facts room response word moment settlement)
  unfolding event_facts hit_refusal
  hit_makes settlement = by_outcome (hit_outcome (known h room) word moment settlement) refl
    where
      by_outcome : (outcome : Result End HitRefusal)
          → hit_outcome (known h room) word moment settlement ≡ outcome
          → Makes h (record {
            facts = lifting (quote_with_word h.config word) outcome
                ++ map (InRoom room) (end_by outcome moment);
            duties = duty.Answer room response (reply_of outcome) moment
                ∷ told_of_hit (known h room) room moment outcome;
          })
      by_outcome (Ok award) is =
          let so = awards (known h room) word moment settlement award is in
          elim (cases_some (quote_meant (book_of (known h room)) word)) [
            | inl none ↦
                cc (rw none at (none_holds (hit_checks (known h room) word moment) so.0).1.1.0)
            | inr some ↦
                let posted = posted_in h.stood room word some.0 some.1 in
                subst (λ (o : Option QuoteRef). Makes h (record {
                  facts = lifting o (Ok award) ++ map (InRoom room) (Ended award moment ∷ []);
                  duties = duty.Answer room response reply.Awarded moment
                      ∷ told_in (known h room) room award moment;
                })) (sym (owner_is award so.1 so.0 some.0 some.1 posted.0 posted.1))
                (award_makes award so.1 so.0 some.0 some.1 posted.0 posted.1)
          ]
      by_outcome (Err why) is =
          let effect : Effect = record {
            facts = lifting (quote_with_word h.config word) (Err why)
                ++ map (InRoom room) (end_by (Err why) moment);
            duties = duty.Answer room response (reply_of (Err why)) moment
                ∷ told_of_hit (known h room) room moment (Err why);
          } in
          record {
            facts = rw (none_lifted (quote_with_word h.config word) why) tt;
            left = (λ now later. (means now (to_now h effect later)).id_is, tt);
          }
