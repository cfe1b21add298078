-- What is left of the trail of the dealer itself: whoever asks there for no price and no cover
-- reads the same.
use Rattle.std.proofs.Common.{◌≡◌, ℕ, ◌==◌, true, List, [], ◌∷◌, map, filter_map, Option, Some}
use Rattle.std.proofs.Common.{None, option_map, refl}
use Rattle.dealer_desk.specs.DealerFacts.{number_to_drop}
use Rattle.dealer_desk.specs.DealerOutput.{closable, shown_room}
use Rattle.dealer_desk.specs.DealerRules.{dealer_verdict}
use Rattle.dealer_desk.specs.Unpriced as dealers
use Rattle.dealer_desk.specs.declared.events.DealerEvent.{DealerEvent}
use Rattle.dealer_desk.specs.declared.events.DealerEvent.TheVariants as at_desk
use Rattle.dealer_desk.proofs.UnpricedBooks.{book_same, withdrawn_same}
use Rattle.dealer_desk.proofs.UnpricedVerdicts.{closable_same, kept_same, number_same}
use Rattle.dealer_desk.proofs.UnpricedVerdicts.{verdict_same}
use Rattle.venue_rows.specs.declared.dealer_rows.DealerRow.{DealerRow}
use Rattle.step_replay.specs.DealerTrail.{DealerEntry, Sent, answer_to_dealer, book_by, entries_of}
use Rattle.step_replay.specs.DealerTrail.{facts_of, rooms_by, was_lifted, was_withdrawn}
use Rattle.step_replay.specs.VenueFacts.{AtDealer, Fact, of_dealer}
use Rattle.laws_isolation.proofs.Left.{left, left_at_dealer}
use Rattle.laws_isolation.proofs.LeftPlaces.{dealer_added, trail_left}

facts_left : (trail : List DealerEntry) → facts_of (filter_map left_at_dealer trail)
    ≡ map (dealers.unpriced true) (facts_of trail)
facts_left [] = refl
facts_left (Sent message ∷ trail) = facts_left trail
facts_left (entry ∷ trail) = rw (facts_left trail)

rooms_same : (trail : List DealerEntry)
    → rooms_by (filter_map left_at_dealer trail) ≡ rooms_by trail
rooms_same [] = refl
rooms_same (Sent message ∷ trail) = rooms_same trail
rooms_same (entry ∷ trail) = rw (rooms_same trail)

lifted_same : (quote : ℕ) (trail : List DealerEntry)
    → was_lifted (filter_map left_at_dealer trail) quote ≡ was_lifted trail quote
lifted_same quote [] = refl
lifted_same quote (Sent message ∷ trail) = lifted_same quote trail
lifted_same quote (entry ∷ trail) = rw (lifted_same quote trail)

-- What is known of the dealer.
module _ (own : ℕ) (facts : List Fact) (number : ℕ) (mine : (number == own) ≡ true) where
  -- its trail
  abbrev trail : List DealerEntry
  trail = of_dealer number facts

  -- what is left of it
  abbrev known : List DealerEntry
  known = of_dealer number (left own facts)

  pub facts_known : facts_of known ≡ map (dealers.unpriced true) (facts_of trail)
  facts_known = rw (trail_left own number mine facts) (facts_left trail)

  pub rooms_known : rooms_by known ≡ rooms_by trail
  rooms_known = rw (trail_left own number mine facts) (rooms_same trail)

  lifted_known : (quote : ℕ) → was_lifted known quote ≡ was_lifted trail quote
  lifted_known quote = rw (trail_left own number mine facts) (lifted_same quote trail)

  pub withdrawn_known : (quote : ℕ) → was_withdrawn known quote ≡ was_withdrawn trail quote
  withdrawn_known quote = rw facts_known (withdrawn_same true quote (facts_of trail))

  pub book_known : book_by known ≡ dealers.unpriced_book (book_by trail)
  book_known = rw facts_known (book_same true (facts_of trail))

  pub number_known : (last : ℕ)
      → number_to_drop (book_by known) last ≡ number_to_drop (book_by trail) last
  number_known last = rw book_known (number_same (book_by trail) last)

  pub closable_known : (request : ℕ)
      → closable (book_by known) request ≡ closable (book_by trail) request
  closable_known request = rw book_known (closable_same (book_by trail) request)

  pub verdict_known : (date : List ℕ) (row : DealerRow) (moment : ℕ) (bytes : List ℕ)
      → dealer_verdict date row (book_by known) moment bytes
      ≡ dealer_verdict date row (book_by trail) moment bytes
  verdict_known date row moment bytes =
      rw book_known (verdict_same (book_by trail) date row moment bytes)

  -- the answer to the word that the dealer asks, where it asks one
  pub answer_known : (asked : Option ℕ)
      → option_map (answer_to_dealer known) asked ≡ option_map (answer_to_dealer trail) asked
  answer_known None = refl
  answer_known (Some quote) = rw (lifted_known quote)

  shown_same : (more : DealerEvent) → shown_room (dealers.unpriced_event more) ≡ shown_room more
  shown_same (at_desk.Told request close moment) = refl
  shown_same other = refl

  -- what an event adds
  pub event_left : (date : List ℕ) (row : DealerRow) (more : DealerEvent)
      → left own (map (AtDealer number) (entries_of date row trail more))
      ≡ left own
      (map (AtDealer number) (entries_of date row known (dealers.unpriced_event more)))
  event_left date row more =
      rw (
        dealer_added own number mine date row trail more,
        dealer_added own number mine date row known (dealers.unpriced_event more),
        shown_same more,
        book_known,
        kept_same date row true (book_by trail) more,
      ) refl
