-- A duty that is left meets the test of its action as its turn comes, by what stands in a venue:
-- what is done once was not done before.
use Rattle.laws_days.proofs.Common.{Bool, IfSome, List, None, Option, Some, ℕ, ap, arith, false}
use Rattle.laws_days.proofs.Common.{inl, inr, is_some, nat_le, option_map, refl, subst, sym, take}
use Rattle.laws_days.proofs.Common.{true, ◌&&◌, ◌+◌, ◌-◌, ◌∙◌, ◌≡◌, ◌≤◌, and_from, both_ways}
use Rattle.laws_days.proofs.Common.{or_right, nat_tests, same_Some, slice_get_within, slice_get}
use Rattle.laws_days.proofs.Common.{Ask, Close, HitRefusal, Duty, RoomRef, none_holds}
use Rattle.laws_days.proofs.Common.{Configuration, dealer_numbered, investor_numbered, DealerRow}
use Rattle.laws_days.proofs.Common.{number_to_drop, closable, knows, hit_checks, hit_refusal}
use Rattle.laws_days.proofs.Common.{quote_meant, RoomFact, is_ended, is_named, is_opening}
use Rattle.laws_days.proofs.Common.{is_ready, is_vacant, request_of, End, hit_word}
use Rattle.laws_days.proofs.Common.{Actor, Dealer, acting_dealer, dealer_at, dealer_of, word_for}
use Rattle.laws_days.proofs.Common.{AuditTrail, DealerEntry, book_by, facts_of, rooms_by}
use Rattle.laws_days.proofs.Common.{of_dealer, of_room}
use Rattle.std.proofs.Common.{nat_lt}
use Rattle.std.proofs.lemmas.Bool.{false_from_ne_true, not_from_false, true_from_ne_false}
use Rattle.std.proofs.lemmas.List.Sums.{sum_by_more_le}
use Rattle.std.proofs.lemmas.Option.{get_or_from_slice_get}
use Rattle.market_terms.specs.declared.duties.Duty.TheVariants as duty
use Rattle.request_room.specs.Book.{book_of, word_or}
use Rattle.venue_steps.specs.RoomSteps.{word_asked_by}
use Rattle.venue_steps.specs.Words.{has_word}
use Rattle.venue_steps.specs.declared.actors.Actor.TheVariants as actor
use Rattle.step_replay.specs.Actions.{has_word_for, quotes_of, words_of}
use Rattle.laws_days.proofs.ListLemmas.{cases_some, found_in, slice_holds, some_of}
use Rattle.laws_days.proofs.NoticeLemmas.{told_if_closed}
use Rattle.laws_days.proofs.ShownRequests.{number_place, told_in}
use Rattle.laws_days.proofs.VenueDesk.{OfRow, WordsOfDay, asks_of_day, drops_of_day, within_row}
use Rattle.laws_days.proofs.VenueInvariant.{ByDealer, ByNamed, Did, DutyOk, OpensIn, ShownTo}
use Rattle.laws_days.proofs.VenueInvariant.{ShowsIn, TellsIn, VenueOk}
use Rattle.laws_days.proofs.VenueKnown.{ended_ready, known_named, known_opened, known_room}
use Rattle.laws_days.proofs.VenueKnown.{named_dealer, opened_in, posted_in, ready_in, ready_opened}
use Rattle.laws_days.proofs.VenueKnown.{rooms_shown, shown_ended, told_did}
use Rattle.laws_days.proofs.VenueParts.{IsOpened, KnownIn, Mark, Opening, OrderOk, Readying}
use Rattle.laws_days.proofs.VenueParts.{Showing, Telling, WasDone, closer, did_in, mark_of, marks}
use Rattle.laws_days.proofs.VenueParts.{number_for}
use Rattle.laws_days.specs.Conditions.{has_word_asked, holds_for, is_heard, is_heard_on, is_known}
use Rattle.laws_days.specs.Conditions.{is_met, is_room, is_unshown, is_untold, may_drop}

-- Words.

word_in_rows : (rows : List DealerRow) (place : ℕ) (row : DealerRow) (quote : ℕ)
    → slice_get rows place ≡ Some row → (nat_le 1 quote && nat_le quote row.quotes) ≡ true
    → nat_lt (quotes_of (take place rows) + (quote - 1)) (quotes_of rows) ≡ true
word_in_rows rows place row quote at within =
    let there : quotes_of (take place rows) + row.quotes ≤ quotes_of rows =
    rw (get_or_from_slice_get rows place row row at) at
    (sum_by_more_le (λ (r : DealerRow). r.quotes) rows place row
    (slice_get_within rows place row at)) in
    grind (arith, nat_tests)

has_asked : (config : Configuration) (dealer : ℕ) (row : DealerRow)
    → dealer_numbered config dealer ≡ Some row → (asked : Option ℕ) → IfSome asked (OfRow row)
    → has_word (words_of config) (option_map (word_for config (dealer_of dealer row)) asked) ≡ true
has_asked config dealer row is None of = refl
has_asked config dealer row is (Some quote) of =
    word_in_rows config.dealers dealer row quote is (within_row row quote of)

module _ {config : Configuration} {venue : AuditTrail} (stood : VenueOk config venue)
    (by : Actor) where
  abbrev known : RoomRef → List RoomFact
  known room = of_room room venue.facts

  -- what an actor did before is not done again
  never : {A : Type 0} {left : Duty} (did : Did config left venue) (mark : Mark)
      → mark_of left ≡ Some mark → by ≡ did.by → (WasDone venue by mark → ⊥) → A
  never {A} {left} did mark is same undone =
      absurd (undone (subst (λ (a : Actor). WasDone venue a mark) (sym same)
      (found_in mark_of left mark (did_in venue did.by) is did.done)))

  open_met : (room : RoomRef) (ask : Ask) (dealers : List ℕ)
      → OpensIn config by room ask dealers venue → (WasDone venue by (Opening room) → ⊥)
      → (is_room config room && is_vacant (known room)) ≡ true
  open_met room ask dealers opens undone =
      and_from (is_room config room) (is_vacant (known room))
      (known_room stood room None opens.known)
      (elim (cases_some (request_of (known room))) [
        | inl none ↦ rw (
          none,
          false_from_ne_true (is_ended (known room)) (λ ended. cc (rw none at
              (ready_opened stood room (ended_ready stood room ended)))),
        ) refl
        | inr some ↦
            let did = (opened_in stood room some.0 some.1).1 in
            never did (Opening room) refl (opens.by_is ∙ sym did.ok.by_is) undone
      ])

  -- a dealer that a room names is there
  dealer_met : (room : RoomRef) (dealer : ℕ) → is_named (known room) dealer ≡ true
      → (test : Dealer → Bool)
      → ((row : DealerRow) → dealer_numbered config dealer ≡ Some row
      → test (dealer_of dealer row) ≡ true)
      → holds_for (dealer_at config dealer) test ≡ true
  dealer_met room dealer named test is =
      let there = named_dealer stood room dealer named in
      rw there.1 (is there.0 there.1)

  pub show_met : (dealer : ℕ) (room : RoomRef) (ask : Ask)
      → ShowsIn config by dealer room ask venue → (WasDone venue by (Showing dealer room) → ⊥)
      → holds_for (dealer_at config dealer) (is_unshown venue.facts room) ≡ true
  show_met dealer room ask fits undone =
      dealer_met room dealer fits.named (is_unshown venue.facts room)
      (λ row is. not_from_false (is_some (number_for venue.facts dealer room))
      (false_from_ne_true (is_some (number_for venue.facts dealer room)) (λ shown.
      let number = some_of (number_for venue.facts dealer room) shown in
      let place = number_place 1 (rooms_by (of_dealer dealer venue.facts)) room number.0 number.1 in
      let did = (slice_holds (λ at. ShownTo config dealer at venue)
      (rooms_by (of_dealer dealer venue.facts)) place.0 room place.2
      (rooms_shown stood dealer)).2 in
      never did (Showing dealer room) refl (fits.by_is ∙ sym did.ok.by_is) undone)))

  ready_met : (room : RoomRef) → (by ≡ actor.Firm room.investor) × IsOpened room venue.facts
      → (WasDone venue by (Readying room) → ⊥)
      → (is_room config room && is_opening (known room)) ≡ true
  ready_met room fits undone =
      and_from (is_room config room) (is_opening (known room))
      (known_room stood room None (known_opened stood room fits.1))
      (rw (
        fits.1,
        unready,
        false_from_ne_true (is_ended (known room)) (λ ended. both_ways (is_ready (known room))
            unready (ended_ready stood room ended)),
      ) refl)
    where
      unready : is_ready (known room) ≡ false
      unready = false_from_ne_true (is_ready (known room)) (λ is.
          let did = (ready_in stood room is).did in
          never did (Readying room) refl (fits.0 ∙ sym did.ok.0) undone)

  pub tell_met : (dealer : ℕ) (room : RoomRef) (close : Close)
      → TellsIn config by dealer room close venue → (WasDone venue by (Telling dealer room) → ⊥)
      → holds_for (dealer_at config dealer) (is_untold venue.facts room) ≡ true
  tell_met dealer room close fits undone =
      let number = shown_ended stood room fits.end dealer fits.end_is fits.named in
      dealer_met room dealer fits.named (is_untold venue.facts room)
      (λ row is. rw (number.1) (true_from_ne_false (is_some (closable (book_by trail) number.0))
      (λ closed.
      let told = told_in number.0 (facts_of trail) (told_if_closed trail
      (stood.desks dealer row is).noticed room number.0 number.1 closed) in
      let did = (told_did stood room dealer number.0 told.0 told.1 number.1 told.2).1 in
      never did (Telling dealer room) refl (fits.by_is ∙ ap (λ (e : End). closer e.kind room)
      (same_Some fits.end did.ok.end (sym fits.end_is ∙ did.ok.end_is)) ∙ sym did.ok.by_is)
      undone)))
    where
      trail : List DealerEntry
      trail = of_dealer dealer venue.facts

  -- All duties.

  is_known_in : (room : RoomRef) (quote : Option ℕ) → KnownIn room quote venue.facts
      → is_known config venue.facts room quote ≡ true
  is_known_in room quote knows = elim (cases_some (investor_numbered config room.investor)) [
    | inl none ↦ cc (rw none at (known_room stood room quote knows))
    | inr some ↦ rw (some.1) knows
  ]

  acts : (who : ByDealer config by) (test : Dealer → Bool)
      → test (dealer_of who.dealer who.row) ≡ true
      → holds_for (acting_dealer config by) test ≡ true
  acts who test is = rw (who.by_is, who.row_is) is

  is_acting : ByDealer config by → is_some (acting_dealer config by) ≡ true
  is_acting who = rw (who.by_is, who.row_is) refl

  heard : (room : RoomRef) (named : ByNamed config by room venue.facts)
      → is_heard config venue.facts room (dealer_of named.who.dealer named.who.row) ≡ true
  heard room named =
      and_from (is_room config room) _
      (known_room stood room None (known_named stood room named.who.dealer named.named))
      (or_right (is_vacant (known room)) (is_named (known room) named.who.dealer) named.named)

  heard_on : (room : RoomRef) (named : ByNamed config by room venue.facts)
      (quote : ℕ) → (nat_le 1 quote && nat_le quote named.who.row.quotes) ≡ true
      → holds_for (acting_dealer config by) (is_heard_on config venue.facts room quote) ≡ true
  heard_on room named quote within =
      let own = dealer_of named.who.dealer named.who.row in
      acts named.who (is_heard_on config venue.facts room quote)
      (and_from (has_word_for config own quote) (is_heard config venue.facts room own)
      (word_in_rows config.dealers named.who.dealer named.who.row quote named.who.row_is within)
      (heard room named))

  -- the word that a hit asks
  hit_asks : (room : RoomRef) (word moment : ℕ)
      → has_word (words_of config) (hit_word (known room) word moment) ≡ true
  unfolding hit_refusal
  hit_asks room word moment = by_refusal (hit_refusal (known room) word moment) refl
    where
      by_refusal : (refused : Option HitRefusal) → hit_refusal (known room) word moment ≡ refused
          → has_word (words_of config) (word_asked_by (word_or word refused)) ≡ true
      by_refusal (Some why) refused = refl
      by_refusal None refused = elim (cases_some (quote_meant (book_of (known room)) word)) [
        | inl gone ↦
            cc (rw gone at (none_holds (hit_checks (known room) word moment) refused).1.1.0)
        | inr some ↦
            let posted = posted_in stood room word some.0 some.1 in
            subst (λ (w : ℕ). nat_lt w (words_of config) ≡ true) (sym posted.1.word_is ∙ posted.0)
            (word_in_rows config.dealers some.0.dealer posted.1.row posted.1.quote
            posted.1.row_is posted.1.within)
      ]

  ruleset each_met = (open_met, show_met, ready_met, tell_met, acts, heard, heard_on, is_acting, is_known_in, known_opened, known_named, known_room, hit_asks, and_from)

  -- every duty, as its turn comes
  pub met : WordsOfDay → (left : Duty) → DutyOk config by left venue
      → OrderOk venue (marks (did_in venue by)) (mark_of left)
      → is_met config venue.facts by left ≡ true
  unfolding is_met
  met words (duty.Decline room moment) fits order =
      acts fits.who (is_heard config venue.facts room) (heard room fits)
  met words (duty.Drop last moment) fits order =
      acts fits (may_drop config venue.facts last)
      (has_asked config fits.dealer fits.row fits.row_is
      (number_to_drop (book_by (of_dealer fits.dealer venue.facts)) last)
      (drops_of_day words (stood.desks fits.dealer fits.row fits.row_is) last))
  met words other fits order = search each_met

-- the word that a message asks
pub message_met : {config : Configuration} {venue : AuditTrail} (stood : VenueOk config venue)
    (words : WordsOfDay) (dealer : ℕ) (row : DealerRow) (moment : ℕ) (bytes : List ℕ)
    → dealer_numbered config dealer ≡ Some row
    → has_word_asked config venue.facts moment bytes (dealer_of dealer row) ≡ true
unfolding has_word_asked
message_met {config} {venue} stood words dealer row moment bytes is =
    has_asked config dealer row is _
    (asks_of_day words (stood.desks dealer row is) moment bytes)
