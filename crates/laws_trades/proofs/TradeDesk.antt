-- What comes to a dealer's desk, and what its messages leave, brings what stands of trades.
use Rattle.laws_days.proofs.Common.{Bool, List, None, Option, Some, ℕ, [], ap, arith, false}
use Rattle.laws_days.proofs.Common.{filter_map, if◌then◌else◌, inl, inr, length, map, option_map}
use Rattle.laws_days.proofs.Common.{option_to_list, refl, true, ◌+◌, ◌-◌, ◌∙◌, ◌∷◌, ◌≡◌, ◌≤◌}
use Rattle.laws_days.proofs.Common.{filter_map-append, Ask, Duty, RoomRef}
use Rattle.laws_days.proofs.Common.{Settled, dealer_numbered, DealerRow, Quoted, slice_get}
use Rattle.laws_days.proofs.Common.{event_facts, verdict_facts, dealer_verdict, AcceptedQuote}
use Rattle.laws_days.proofs.Common.{DealerVerdict, Effect, dealer_of}
use Rattle.laws_days.proofs.Common.{received_by_dealer, settlement_of}
use Rattle.laws_days.proofs.Common.{facts_grown, rooms_grown, AuditTrail, DealerEntry}
use Rattle.laws_days.proofs.Common.{book_by, entries_of, facts_of, rooms_by, Every, In}
use Rattle.laws_days.proofs.Common.{in_right, dealer_grown, own_trail, AtDealer, of_dealer}
use Rattle.laws_days.proofs.Common.{number_in, settled_facts, is_some}
use Rattle.laws_days.proofs.Common.{DealerEvent, Shown, ShownIn, in_left, message_by, shown_room}
use Rattle.laws_days.proofs.Common.{subst, sym}
use Rattle.market_terms.specs.declared.duties.Duty.TheVariants as duty
use Rattle.laws_days.specs.AcceptedQuotes.{AcceptOk, verdict_accepts}
use Rattle.dealer_desk.specs.DealerOutput.{goes_through, is_withdrawn, post_of}
use Rattle.dealer_desk.specs.DealerOutput.{room_of, verdict_duty}
use Rattle.dealer_desk.specs.declared.events.DealerEvent.TheVariants as event
use Rattle.dealer_desk.specs.declared.standing.Withdrawal.TheVariants as by_way
use Rattle.dealer_desk.specs.declared.verdicts.DealerVerdict.TheVariants as verdict
use Rattle.venue_steps.specs.declared.actors.Actor.TheVariants as actor
use Rattle.step_replay.specs.Actions.{at_dealer, left_by, shown_to}
use Rattle.laws_days.proofs.ListLemmas.{cases_some}
use Rattle.laws_days.proofs.ShownRequests.{shown_in}
use Rattle.laws_days.proofs.VenueInvariant.{DeskOk}
use Rattle.laws_days.proofs.VenueParts.{Later, Still, number_later}
use Rattle.laws_days.proofs.VenueSteps.{Here, day, to_now, trail_of}
use Rattle.laws_trades.proofs.TradeLists.{get_grown, get_next}
use Rattle.laws_trades.proofs.TradeParts.{AskOf, ShownAs}
use Rattle.laws_trades.proofs.TradeSteps.{DutyNow, FactNow, Makes, desk_facts, unless_makes}
use Rattle.laws_trades.proofs.TradeSteps.{when_makes}

-- a quote that was accepted stays so
pub quoted_now : {was now : AuditTrail} → Later was now → (dealer : ℕ) (quote : AcceptedQuote)
    → In (Quoted quote) (facts_of (of_dealer dealer was.facts))
    → In (Quoted quote) (facts_of (of_dealer dealer now.facts))
quoted_now {was} later dealer quote is =
    rw (later.facts_are, dealer_grown dealer was.facts later.more, filter_map-append)
    (in_left (Quoted quote) (facts_of (of_dealer dealer was.facts)) _ is)

-- a room that was shown stays so, with what was shown with it
pub shown_later : {was now : AuditTrail} → Later was now → (dealer : ℕ) (room : RoomRef) (ask : Ask)
    (place : ℕ) → slice_get (rooms_by (of_dealer dealer was.facts)) place ≡ Some room
    → slice_get (filter_map shown_in (facts_of (of_dealer dealer was.facts))) place ≡ Some ask
    → AskOf now.facts room ask → ShownAs now.facts dealer room
shown_later later dealer room ask place there shows asks = record {
  place = place;
  ask = ask;
  there = rw (later.facts_are, dealer_grown dealer, filter_map-append)
      (get_grown _ _ place room there);
  shows = rw (later.facts_are, dealer_grown dealer, filter_map-append, filter_map-append)
      (get_grown _ _ place ask shows);
  ask_of = asks;
}

module _ (h : Here) (dealer : ℕ) (row : DealerRow)
    (is : dealer_numbered h.config dealer ≡ Some row) where
  abbrev trail : List DealerEntry
  trail = trail_of h dealer

  abbrev rooms : List RoomRef
  rooms = rooms_by trail

  desk : DeskOk h.config h.venue.facts dealer row
  desk = h.stood.desks dealer row is

  -- An event by which no room is shown, and a request that is shown.

  pub unshown_adds : (more : DealerEvent) (duties : List Duty) → shown_room more ≡ None
      → Every (FactNow h (at_dealer h.config h.venue.facts (dealer_of dealer row) more duties))
      (at_dealer h.config h.venue.facts (dealer_of dealer row) more duties).facts
  unfolding entries_of
  unshown_adds more duties none =
      let effect = at_dealer h.config h.venue.facts (dealer_of dealer row) more duties in
      desk_facts h effect dealer (event_facts h.config.date row (book_by trail) more)
      (option_to_list (shown_room more)) (option_to_list (message_by h.config.date row trail more))
      (subst (λ (found : Option RoomRef).
      Every (λ (room : RoomRef). FactNow h effect (AtDealer dealer (ShownIn room)))
      (option_to_list found)) (sym none) tt)

  pub shown_makes : (room : RoomRef) (ask : Ask) (moment : ℕ)
      → Still (λ now. AskOf now.facts room ask) h.venue
      → Makes h (shown_to h.config h.venue.facts room ask moment (dealer_of dealer row))
  unfolding entries_of event_facts
  shown_makes room ask moment asks =
      let more = event.Shown room ask moment in
      let entries = entries_of h.config.date row trail more in
      let effect : Effect = record { facts = map (AtDealer dealer) entries; duties = [] } in
      unless_makes h (is_some (number_in rooms room)) effect (λ test. record {
        facts = desk_facts h effect dealer (Shown ask moment ∷ []) (room ∷ [])
            (option_to_list (message_by h.config.date row trail more)) (
              λ now later. shown_later later dealer room ask (length rooms)
                  (rw (
                    dealer_grown dealer h.venue.facts (map (AtDealer dealer) entries),
                    own_trail dealer entries,
                    rooms_grown h.config.date row trail more,
                  ) (get_next rooms [] room))
                  (rw (
                    dealer_grown dealer h.venue.facts (map (AtDealer dealer) entries),
                    own_trail dealer entries,
                    facts_grown h.config.date row trail more,
                    filter_map-append,
                    desk.noticed.counted,
                  ) (get_next (filter_map shown_in (facts_of trail)) [] ask))
                  (asks now (to_now h effect later)),
              tt,
            );
        left = tt;
      })

  -- What a message leaves.

  module _ (by_is : h.by ≡ actor.Firm dealer) (effect : Effect) where
    -- a duty in the room with a number, where something holds
    room_left : (b : Bool) (number : ℕ) (left : RoomRef → Duty)
        → ((room : RoomRef) → b ≡ true → room_of rooms number ≡ Some room
        → DutyNow h effect (left room))
        → Every (DutyNow h effect)
        (option_to_list (if b then option_map left (room_of rooms number) else None))
    room_left false number left fine = tt
    room_left true number left fine = elim (cases_some (room_of rooms number)) [
      | inl none ↦ rw none tt
      | inr some ↦ rw (some.1) (fine some.0 refl some.1, tt)
    ]

    said_left : (moment : ℕ) (v : DealerVerdict) (settlement : Option Settled) → AcceptOk row v
        → ((quote : AcceptedQuote) → In (Quoted quote) (verdict_facts v settlement)
        → In (Quoted quote) (facts_of (of_dealer dealer (day h effect).facts)))
        → Every (DutyNow h effect) (option_to_list (verdict_duty rooms moment v settlement))
    said_left moment (verdict.QuoteAccepted name id quote old) settlement accepts quoted =
        let least : 1 ≤ quote.request = accepts.0 in
        let place : quote.request - 1 + 1 ≡ quote.request = omega arith in
        room_left (goes_through old settlement) quote.request (post_of quote) (λ room goes found.
        λ now later. (
          dealer,
          by_is,
          record {
            own = quote;
            quoted = quoted_now later dealer quote (quoted quote (in_right (Quoted quote)
                (settled_facts old by_way.Replacement settlement) _ (rw goes (inl refl))));
            request_is = number_later (to_now h effect later) dealer room quote.request
                (desk.numbered (quote.request - 1) room found ∙ ap (λ (n : ℕ). Some n) place);
            number_is = refl;
            price_is = refl;
            valid_is = refl;
          },
        ))
    said_left moment (verdict.CancelAccepted id quote request) settlement accepts quoted =
        room_left (is_withdrawn settlement) request (λ room. duty.Unpost room quote moment)
        (λ room goes found. λ now later. tt)
    said_left moment (verdict.DeclineAccepted name number) settlement accepts quoted =
        room_left true number (λ room. duty.Decline room moment)
        (λ room goes found. λ now later. tt)
    said_left moment (verdict.DropsFollow last) settlement accepts quoted = (λ now later. tt, tt)
    said_left moment other settlement accepts quoted = tt

  pub said_makes : h.by ≡ actor.Firm dealer → (moment : ℕ) (bytes : List ℕ)
      → Makes h (received_by_dealer h.config h.venue.facts moment bytes (dealer_of dealer row))
  unfolding entries_of event_facts
  said_makes by_is moment bytes =
      let v = dealer_verdict h.config.date row (book_by trail) moment bytes in
      let settlement = settlement_of trail v in
      let more = event.Received moment bytes settlement in
      let entries = entries_of h.config.date row trail more in
      let effect : Effect =
      record { facts = map (AtDealer dealer) entries; duties = left_by trail moment v } in
      when_makes h _ effect (λ test. record {
        facts = desk_facts h effect dealer (event_facts h.config.date row (book_by trail) more) []
            (option_to_list (message_by h.config.date row trail more)) tt;
        left = said_left by_is effect moment v settlement
            (verdict_accepts row (facts_of trail) moment h.config.date bytes)
            (λ quote quoted. rw (
              dealer_grown dealer h.venue.facts (map (AtDealer dealer) entries),
              own_trail dealer entries,
              facts_grown h.config.date row trail more,
            ) (in_right (Quoted quote) (facts_of trail) _ (inr quoted)));
      })
