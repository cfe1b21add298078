-- What a dealer says and drops brings what stands in a venue.
use Rattle.laws_days.proofs.Common.{Bool, IfSome, List, None, Option, Some, ℕ, ap, arith, false}
use Rattle.laws_days.proofs.Common.{if◌then◌else◌, inl, inr, map, nat_le, option_map}
use Rattle.laws_days.proofs.Common.{option_to_list, refl, subst, true, ◌&&◌, ◌+◌, ◌-◌, ◌∙◌, ◌∷◌}
use Rattle.laws_days.proofs.Common.{◌≡◌, ◌≤◌, nat_tests, Duty, RoomRef, Settled, Configuration}
use Rattle.laws_days.proofs.Common.{dealer_numbered, DealerRow, Came, Dropped, Quoted}
use Rattle.laws_days.proofs.Common.{number_to_drop, event_facts, settled_facts, uses_number}
use Rattle.laws_days.proofs.Common.{verdict_facts, dealer_verdict, AcceptedQuote, StandingQuote}
use Rattle.laws_days.proofs.Common.{DealerVerdict, Effect, answer_to_drop, dealer_of, drop_at}
use Rattle.laws_days.proofs.Common.{dropped_by, received_by_dealer, settlement_of, facts_grown}
use Rattle.laws_days.proofs.Common.{DealerEntry, book_by, entries_of, facts_of, rooms_by, Every}
use Rattle.laws_days.proofs.Common.{every_both, In, in_right, dealer_grown, own_trail, AtDealer}
use Rattle.laws_days.proofs.Common.{Fact, of_dealer}
use Rattle.market_terms.specs.declared.duties.Duty.TheVariants as duty
use Rattle.laws_days.specs.AcceptedQuotes.{AcceptOk, verdict_accepts}
use Rattle.dealer_desk.specs.DealerDesk.{DeskEvents, book_at, verdict_at}
use Rattle.dealer_desk.specs.DealerFacts.{book_of, quote_to_drop}
use Rattle.dealer_desk.specs.DealerOutput.{DeskState, goes_through, is_withdrawn, post_of, room_of}
use Rattle.dealer_desk.specs.DealerOutput.{unpost_dropped, verdict_duty, word_asked}
use Rattle.dealer_desk.specs.declared.events.DealerEvent.TheVariants as event
use Rattle.dealer_desk.specs.declared.standing.Withdrawal.TheVariants as by_way
use Rattle.dealer_desk.specs.declared.verdicts.DealerVerdict.TheVariants as verdict
use Rattle.venue_steps.specs.declared.actors.Actor.TheVariants as actor
use Rattle.step_replay.specs.Actions.{left_by, left_by_drop}
use Rattle.laws_days.proofs.ListLemmas.{cases_some, slice_holds}
use Rattle.laws_days.proofs.PlainFacts.{event_plain, settled_plain, verdict_plain}
use Rattle.laws_days.proofs.VenueInvariant.{ByDealer, ByNamed, DeskOk, ShownTo}
use Rattle.laws_days.proofs.VenueKinds.{Fine, desk_plain, when_brings}
use Rattle.laws_days.proofs.VenueKnown.{rooms_shown}
use Rattle.laws_days.proofs.VenueParts.{Still, named_later, number_later, quoted_later}
use Rattle.laws_days.proofs.VenueSteps.{Brings, Here, day, since, to_now, trail_of}

-- The words of a dealer's day.

-- a quote of the day
abbrev pub OfRow : DealerRow → ℕ → Type 0
OfRow row quote = (1 ≤ quote) × (quote ≤ row.quotes)

pub within_row : (row : DealerRow) (quote : ℕ) → OfRow row quote
    → (nat_le 1 quote && nat_le quote row.quotes) ≡ true
within_row row quote of =
    let least : 1 ≤ quote = of.0 in
    let most : quote ≤ row.quotes = of.1 in
    grind (arith, nat_tests)

-- the word that a message asks is that of a quote of the day, and so is the one that a drop asks
pub record WordsOfDay : Type 0 where
  pub asks : (desk : DeskEvents) (moment : ℕ) (bytes : List ℕ)
      → IfSome (word_asked (verdict_at desk moment bytes)) (OfRow desk.row)
  pub drops : (desk : DeskEvents) (last : ℕ)
      → IfSome (number_to_drop (book_at desk) last) (OfRow desk.row)

module _ (words : WordsOfDay) {config : Configuration} {facts : List Fact} {dealer : ℕ}
    {row : DealerRow} (desk : DeskOk config facts dealer row) where
  -- the desk that has seen what its trail has
  abbrev seen_desk : DeskEvents
  seen_desk = record { date = config.date; row = row; events = desk.seen.events }

  pub asks_of_day : (moment : ℕ) (bytes : List ℕ)
      → IfSome (word_asked (dealer_verdict config.date row (book_by (of_dealer dealer facts)) moment
      bytes)) (OfRow row)
  asks_of_day moment bytes =
      subst (λ (state : DeskState). IfSome (word_asked (dealer_verdict config.date row
      (book_of state.facts) moment bytes)) (OfRow row)) desk.seen.state_is
      (words.asks seen_desk moment bytes)

  pub drops_of_day : (last : ℕ)
      → IfSome (number_to_drop (book_by (of_dealer dealer facts)) last) (OfRow row)
  drops_of_day last =
      subst (λ (state : DeskState). IfSome (number_to_drop (book_of state.facts) last) (OfRow row))
      desk.seen.state_is (words.drops seen_desk last)

-- What the dealer's desk leaves.

module _ (words : WordsOfDay) (h : Here) (dealer : ℕ) (row : DealerRow)
    (is : dealer_numbered h.config dealer ≡ Some row) (by_is : h.by ≡ actor.Firm dealer) where
  abbrev trail : List DealerEntry
  trail = trail_of h dealer

  abbrev rooms : List RoomRef
  rooms = rooms_by trail

  desk : DeskOk h.config h.venue.facts dealer row
  desk = h.stood.desks dealer row is

  abbrev who : ByDealer h.config h.by
  who = record { dealer = dealer; row = row; by_is = by_is; row_is = is }

  module _ (effect : Effect) where
    abbrev AreFine : Option Duty → Type 0
    AreFine left = Every (Fine h effect) (option_to_list left)

    named_then : (number : ℕ) (room : RoomRef) → room_of rooms number ≡ Some room
        → Still (λ now. ByNamed h.config h.by room now.facts) (day h effect)
    named_then number room found now later = record {
      who = who;
      named = named_later (to_now h effect later) room dealer
          ((slice_holds (λ r. ShownTo h.config dealer r h.venue) rooms (number - 1) room found
          (rooms_shown h.stood dealer)).2.ok.named);
    }

    -- a duty in the room with a number, where something holds
    room_fine : (b : Bool) (number : ℕ) (left : RoomRef → Duty)
        → ((room : RoomRef) → b ≡ true → room_of rooms number ≡ Some room
        → Fine h effect (left room))
        → AreFine (if b then option_map left (room_of rooms number) else None)
    room_fine false number left fine = tt
    room_fine true number left fine = elim (cases_some (room_of rooms number)) [
      | inl none ↦ rw none tt
      | inr some ↦ rw (some.1) (fine some.0 refl some.1, tt)
    ]

    unpost_fine : (b : Bool) (number quote moment : ℕ) → OfRow row quote
        → AreFine (if b
        then option_map (λ room. duty.Unpost room quote moment) (room_of rooms number) else None)
    unfolding named_then
    unpost_fine b number quote moment of_day =
        room_fine b number (λ room. duty.Unpost room quote moment) (λ room is found. (
          λ now later. record {
            named = named_then number room found now later;
            within = within_row row quote of_day;
          },
          refl,
        ))

    said_fine : (moment : ℕ) (v : DealerVerdict) (settlement : Option Settled) → AcceptOk row v
        → IfSome (word_asked v) (OfRow row)
        → ((quote : AcceptedQuote) → In (Quoted quote) (verdict_facts v settlement)
        → In (Quoted quote) (facts_of (of_dealer dealer (day h effect).facts)))
        → AreFine (verdict_duty rooms moment v settlement)
    unfolding named_then
    said_fine moment (verdict.QuoteAccepted name id quote old) settlement accepts of_day quoted =
        let least : 1 ≤ quote.request = accepts.0 in
        let place : quote.request - 1 + 1 ≡ quote.request = omega arith in
        room_fine (goes_through old settlement) quote.request (post_of quote) (λ room goes found. (
          λ now later. (
            record {
              named = named_then quote.request room found now later;
              within = accepts.1;
            },
            quoted_later later dealer room quote.number (record {
              own = quote;
              quoted = quoted quote (in_right (Quoted quote)
                  (settled_facts old by_way.Replacement settlement) _ (rw goes (inl refl)));
              number_is = refl;
              request_is = number_later (since h effect) dealer room quote.request
                  (desk.numbered (quote.request - 1) room found
                  ∙ ap (λ (n : ℕ). Some n) place);
            }),
          ),
          refl,
        ))
    said_fine moment (verdict.CancelAccepted id quote request) settlement accepts of_day quoted =
        unpost_fine (is_withdrawn settlement) request quote moment of_day
    said_fine moment (verdict.DeclineAccepted name number) settlement accepts of_day quoted =
        room_fine true number (λ room. duty.Decline room moment)
        (λ room is found. (named_then number room found, refl))
    said_fine moment (verdict.DropsFollow last) settlement accepts of_day quoted =
        ((λ now later. who, refl), tt)
    said_fine moment other settlement accepts of_day quoted = tt

    -- A drop.

    dropped_fine : (moment : ℕ) (settlement : Option Settled) (own : Option StandingQuote)
        → IfSome (option_map (λ (o : StandingQuote). o.quote.number) own) (OfRow row)
        → AreFine (unpost_dropped rooms moment settlement own)
    dropped_fine moment settlement None of_day = tt
    dropped_fine moment settlement (Some own) of_day =
        unpost_fine (is_withdrawn settlement) own.quote.request own.quote.number moment of_day

    further_fine : (b : Bool) (last moment : ℕ)
        → AreFine (if b then Some (duty.Drop last moment) else None)
    further_fine true last moment = ((λ now later. who, refl), tt)
    further_fine false last moment = tt

  pub said_brings : (moment : ℕ) (bytes : List ℕ)
      → Brings h (received_by_dealer h.config h.venue.facts moment bytes (dealer_of dealer row))
  unfolding entries_of event_facts
  said_brings moment bytes =
      let v = dealer_verdict h.config.date row (book_by trail) moment bytes in
      let settlement = settlement_of trail v in
      let more = event.Received moment bytes settlement in
      let entries = entries_of h.config.date row trail more in
      when_brings h _ _ (λ test.
      desk_plain h dealer row is entries (left_by trail moment v)
      (event_plain (Came moment bytes (uses_number v) ∷ verdict_facts v settlement) _
      (refl, verdict_plain v settlement))
      (said_fine _ moment v settlement
      (verdict_accepts row (facts_of trail) moment h.config.date bytes)
      (asks_of_day words desk moment bytes)
      (λ quote quoted. rw (
        dealer_grown dealer h.venue.facts (map (AtDealer dealer) entries),
        own_trail dealer entries,
        facts_grown h.config.date row trail more,
      ) (in_right (Quoted quote) (facts_of trail) _ (inr quoted)))))

  pub dropped_brings : (last moment : ℕ)
      → Brings h (dropped_by h.config h.venue.facts last moment (dealer_of dealer row))
  unfolding entries_of event_facts
  dropped_brings last moment =
      let asked = number_to_drop (book_by trail) last in
      let settlement = answer_to_drop trail last in
      when_brings h _ _ (λ test.
      desk_plain h dealer row is (entries_of h.config.date row trail (drop_at trail last moment))
      (left_by_drop h.config h.venue.facts last moment (dealer_of dealer row))
      (event_plain (Dropped last moment ∷ settled_facts asked by_way.Cancel settlement) _
      (refl, settled_plain asked by_way.Cancel settlement))
      (every_both (Fine h _) _ _
      (dropped_fine _ moment settlement (quote_to_drop (book_by trail) last)
      (drops_of_day words desk last))
      (further_fine _ _ last moment)))
