-- A day of which the prices are erased, who was the cover, what was sent, and the bytes of what
-- dealers sent, but for one dealer: what is left is what that dealer's due list can tell of, but
-- for the cover. Whoever asks for nothing that is erased reads the same of what is left.
use Rattle.laws_days.proofs.Common.{◌≡◌, Bool, List, [], ◌∷◌, ◌++◌, map, filter_map, Option, Some}
use Rattle.laws_days.proofs.Common.{None, option_map, option_to_list, refl, ℕ, ◌==◌, inl, inr}
use Rattle.laws_days.proofs.Common.{cases_Bool, eqb-true, map-append, filter_map-append, map-map}
use Rattle.laws_days.proofs.Common.{RoomRef, DealerRow, number_to_drop, dealer_verdict, closable}
use Rattle.laws_days.proofs.Common.{event_facts, is_same_room, shown_room, DealerEvent, book_same}
use Rattle.laws_days.proofs.Common.{InvestorBook, knows, InvestorMarket, investor_verdict}
use Rattle.laws_days.proofs.Common.{InvestorEvent, RoomFact, DealerEntry, AtDesk, ShownIn, Sent}
use Rattle.laws_days.proofs.Common.{book_by, answer_to_dealer, entries_of, facts_of, rooms_by}
use Rattle.laws_days.proofs.Common.{was_lifted, was_withdrawn, InvestorEntry, nothing_of, Fact}
use Rattle.laws_days.proofs.Common.{AtDealer, InRoom, AtInvestor, of_dealer, of_investor, of_room}
use Rattle.std.proofs.Common.{◌+◌, length}
use Rattle.investor_desk.specs.InvestorFacts.{InvestorFact}
use Rattle.std.proofs.Common.{append-nil}
use Rattle.dealer_desk.specs.Unpriced as dealers
use Rattle.dealer_desk.proofs.UnpricedBooks.{withdrawn_same}
use Rattle.dealer_desk.proofs.UnpricedVerdicts.{closable_same, kept_same, number_same, verdict_same}
use Rattle.investor_desk.specs.InvestorOutput as investor_output
use Rattle.investor_desk.specs.Unpriced as investors
use Rattle.investor_desk.proofs.UnpricedDesks as investors_same
use Rattle.request_room.specs.Unpriced as rooms
use Rattle.step_replay.specs.InvestorTrail as investor_trail
use Rattle.step_replay.specs.InvestorTrail.{AtDesk as AtInvestorsDesk, Happened}
use Rattle.step_replay.specs.InvestorTrail.{Sent as SentToInvestor}

-- What is left of a fact, where anything is.

-- at a dealer: the bytes that came stay or do not
abbrev pub erase_entry : Bool → DealerEntry → Option DealerEntry
erase_entry stay (AtDesk fact) = Some (AtDesk (dealers.unpriced stay fact))
erase_entry stay (Sent message) = None
erase_entry stay entry = Some entry

-- in the venue: the bytes stay that the dealer with this number sent
abbrev pub erase : ℕ → Fact → Option Fact
erase own (AtDealer number entry) = option_map (AtDealer number) (erase_entry (number == own) entry)
erase own (InRoom room fact) = Some (InRoom room (rooms.unpriced fact))
erase own (AtInvestor number (AtInvestorsDesk fact)) =
    Some (AtInvestor number (AtInvestorsDesk (investors.unpriced fact)))
erase own (AtInvestor number (SentToInvestor message)) = None
erase own (AtInvestor number (Happened event)) = None

-- what is left of facts
unfoldable pub bare : ℕ → List Fact → List Fact
bare own facts = filter_map (erase own) facts

-- What is left of what is added.

pub bare_append : (own : ℕ) (facts more : List Fact)
    → bare own (facts ++ more) ≡ bare own facts ++ bare own more
unfolding bare
bare_append own facts more = filter_map-append (erase own) facts more

-- where of each fact something is left
bare_all : {X : Type 0} (own : ℕ) (place : X → Fact) (u : X → X)
    → ((x : X) → erase own (place x) ≡ Some (place (u x))) → (xs : List X)
    → bare own (map place xs) ≡ map place (map u xs)
unfolding bare
bare_all own place u same [] = refl
bare_all own place u same (x ∷ xs) = rw (same x, bare_all own place u same xs)

pub desk_added : (own number : ℕ) (date : List ℕ) (row : DealerRow) (trail : List DealerEntry)
    (event : DealerEvent)
    → bare own (map (AtDealer number) (entries_of date row trail event))
    ≡ map (λ fact. AtDealer number (AtDesk fact))
    (map (dealers.unpriced (number == own)) (event_facts date row (book_by trail) event))
    ++ map (λ room. AtDealer number (ShownIn room)) (option_to_list (shown_room event))
unfolding bare entries_of
desk_added own number date row trail event =
    simp (
      map-append,
      map-map,
      bare_append,
      bare_all own (λ fact. AtDealer number (AtDesk fact)) (dealers.unpriced (number == own))
          (λ fact. refl),
      bare_all own (λ room. AtDealer number (ShownIn room)) (λ room. room) (λ room. refl),
      nothing_of (erase own) (λ message. AtDealer number (Sent message)) (λ message. refl),
      append-nil,
    )

pub room_added : (own : ℕ) (room : RoomRef) (facts : List RoomFact)
    → bare own (map (InRoom room) facts) ≡ map (InRoom room) (map rooms.unpriced facts)
room_added own room facts = bare_all own (InRoom room) rooms.unpriced (λ fact. refl) facts

none_sent : (own number : ℕ) (messages : List (List ℕ))
    → bare own (map (λ message. AtInvestor number (SentToInvestor message)) messages) ≡ []
unfolding bare
none_sent own number messages =
    nothing_of (erase own) (λ message. AtInvestor number (SentToInvestor message)) (λ message. refl)
    messages

entries_added : (own number : ℕ) (facts : List InvestorFact) (messages : List (List ℕ))
    → bare own (map (AtInvestor number) (map AtInvestorsDesk facts ++ map SentToInvestor messages))
    ≡ map (λ fact. AtInvestor number (AtInvestorsDesk fact)) (map investors.unpriced facts)
entries_added own number facts messages =
    simp (
      map-append,
      map-map,
      bare_append,
      bare_all own (λ fact. AtInvestor number (AtInvestorsDesk fact)) investors.unpriced
          (λ fact. refl),
      none_sent own number,
      append-nil,
    )

pub market_added : (own number : ℕ) (market : InvestorMarket) (trail : List InvestorEntry)
    (event : InvestorEvent)
    → bare own (map (AtInvestor number) (investor_trail.entries_of market trail event))
    ≡ map (λ fact. AtInvestor number (AtInvestorsDesk fact)) (map investors.unpriced
    (investor_output.event_facts market (investor_trail.book_by trail) event))
unfolding bare investor_trail.entries_of
market_added own number market trail event =
    entries_added own number
    (investor_output.event_facts market (investor_trail.book_by trail) event)
    (investor_output.written_from market (length (investor_trail.sent_by trail) + 1)
    (investor_output.moment_of event)
    (investor_output.event_messages market (investor_trail.book_by trail) event))

pub ruleset added = (desk_added, room_added, market_added)

-- What is left at a place.

pub trail_left : (own number : ℕ) (facts : List Fact) → of_dealer number (bare own facts)
    ≡ filter_map (erase_entry (number == own)) (of_dealer number facts)
unfolding bare of_dealer
trail_left own number [] = refl
trail_left own number (AtDealer dealer (Sent message) ∷ facts) =
    let later = trail_left own number facts in
    elim (cases_Bool (dealer == number)) [ inl is ↦ rw (is, later) | inr is ↦ rw (is, later) ]
trail_left own number (AtDealer dealer entry ∷ facts) =
    elim (cases_Bool (dealer == number)) [
      | inl is ↦ let same : dealer ≡ number = eqb-true dealer number is in
          rw (is, trail_left own number facts) (cc)
      | inr is ↦ rw (is, trail_left own number facts)
    ]
trail_left own number (AtInvestor investor (SentToInvestor message) ∷ facts) =
    trail_left own number facts
trail_left own number (AtInvestor investor (Happened event) ∷ facts) = trail_left own number facts
trail_left own number (fact ∷ facts) = trail_left own number facts

pub room_left : (own : ℕ) (place : RoomRef) (facts : List Fact)
    → of_room place (bare own facts) ≡ map rooms.unpriced (of_room place facts)
unfolding bare of_room
room_left own place [] = refl
room_left own place (InRoom room fact ∷ facts) =
    let same = is_same_room room place in
    let later = room_left own place facts in
    elim (cases_Bool same) [ inl is ↦ rw (is, later) | inr is ↦ rw (is, later) ]
room_left own place (AtDealer dealer (Sent message) ∷ facts) = room_left own place facts
room_left own place (AtInvestor investor (SentToInvestor message) ∷ facts) =
    room_left own place facts
room_left own place (AtInvestor investor (Happened event) ∷ facts) = room_left own place facts
room_left own place (fact ∷ facts) = room_left own place facts

market_left : (own number : ℕ) (facts : List Fact)
    → investor_trail.facts_of (of_investor number (bare own facts))
    ≡ map investors.unpriced (investor_trail.facts_of (of_investor number facts))
unfolding bare of_investor
market_left own number [] = refl
market_left own number (AtInvestor investor (AtInvestorsDesk fact) ∷ facts) =
    let later = market_left own number facts in
    elim (cases_Bool (investor == number)) [ inl is ↦ rw (is, later) | inr is ↦ rw (is, later) ]
market_left own number (AtInvestor investor (SentToInvestor message) ∷ facts) =
    let later = market_left own number facts in
    elim (cases_Bool (investor == number)) [ inl is ↦ rw (is, later) | inr is ↦ rw (is, later) ]
market_left own number (AtInvestor investor (Happened event) ∷ facts) =
    let later = market_left own number facts in
    elim (cases_Bool (investor == number)) [ inl is ↦ rw (is, later) | inr is ↦ rw (is, later) ]
market_left own number (AtDealer dealer (Sent message) ∷ facts) = market_left own number facts
market_left own number (fact ∷ facts) = market_left own number facts

-- What is read of a dealer's trail.

module _ (stay : Bool) where
  facts_left : (trail : List DealerEntry) → facts_of (filter_map (erase_entry stay) trail)
      ≡ map (dealers.unpriced stay) (facts_of trail)
  facts_left [] = refl
  facts_left (Sent message ∷ trail) = facts_left trail
  facts_left (entry ∷ trail) = rw (facts_left trail)

  rooms_same : (trail : List DealerEntry)
      → rooms_by (filter_map (erase_entry stay) trail) ≡ rooms_by trail
  rooms_same [] = refl
  rooms_same (Sent message ∷ trail) = rooms_same trail
  rooms_same (entry ∷ trail) = rw (rooms_same trail)

  lifted_same : (quote : ℕ) (trail : List DealerEntry)
      → was_lifted (filter_map (erase_entry stay) trail) quote ≡ was_lifted trail quote
  lifted_same quote [] = refl
  lifted_same quote (Sent message ∷ trail) = lifted_same quote trail
  lifted_same quote (entry ∷ trail) = rw (lifted_same quote trail)

-- What is known of a dealer.
module _ (own : ℕ) (facts : List Fact) (number : ℕ) where
  -- the dealer's trail
  abbrev trail : List DealerEntry
  trail = of_dealer number facts

  -- what is left of it
  abbrev known : List DealerEntry
  known = of_dealer number (bare own facts)

  pub facts_known : facts_of known ≡ map (dealers.unpriced (number == own)) (facts_of trail)
  facts_known = rw (trail_left own number facts) (facts_left (number == own) trail)

  pub rooms_known : rooms_by known ≡ rooms_by trail
  rooms_known = rw (trail_left own number facts) (rooms_same (number == own) trail)

  lifted_known : (quote : ℕ) → was_lifted known quote ≡ was_lifted trail quote
  lifted_known quote = rw (trail_left own number facts) (lifted_same (number == own) quote trail)

  pub withdrawn_known : (quote : ℕ) → was_withdrawn known quote ≡ was_withdrawn trail quote
  withdrawn_known quote = rw facts_known (withdrawn_same (number == own) quote (facts_of trail))

  pub book_known : book_by known ≡ dealers.unpriced_book (book_by trail)
  book_known = rw facts_known (book_same (number == own) (facts_of trail))

  pub number_known : (last : ℕ)
      → number_to_drop (book_by known) last ≡ number_to_drop (book_by trail) last
  number_known last = rw book_known (number_same (book_by trail) last)

  pub closable_known : (request : ℕ)
      → closable (book_by known) request ≡ closable (book_by trail) request
  closable_known request = rw book_known (closable_same (book_by trail) request)

  pub verdict_known : (date : List ℕ) (row : DealerRow) (moment : ℕ) (bytes : List ℕ)
      → dealer_verdict date row (book_by known) moment bytes
      ≡ dealer_verdict date row (book_by trail) moment bytes
  verdict_known date row moment bytes =
      rw book_known (verdict_same (book_by trail) date row moment bytes)

  -- the answer to the word that the dealer asks, where it asks one
  pub answer_known : (asked : Option ℕ)
      → option_map (answer_to_dealer known) asked ≡ option_map (answer_to_dealer trail) asked
  answer_known None = refl
  answer_known (Some quote) = rw (lifted_known quote)

pub ruleset known_at_desks = (rooms_known, number_known, closable_known, answer_known)

pub desk_kept : (more : DealerEvent) (own : ℕ) (facts : List Fact) (number : ℕ) (date : List ℕ)
    (row : DealerRow)
    → map (dealers.unpriced (number == own)) (event_facts date row
    (book_by (of_dealer number (bare own facts))) (dealers.unpriced_event more))
    ≡ map (dealers.unpriced (number == own))
    (event_facts date row (book_by (of_dealer number facts)) more)
desk_kept more own facts number date row =
    rw (book_known own facts number)
    (kept_same date row (number == own) (book_by (of_dealer number facts)) more)

-- What is known of an investor.
module _ (own : ℕ) (facts : List Fact) (number : ℕ) where
  -- the investor's book
  abbrev market_book : InvestorBook
  market_book = investor_trail.book_by (of_investor number facts)

  -- what is left of it
  abbrev known_book : InvestorBook
  known_book = investor_trail.book_by (of_investor number (bare own facts))

  market_known : known_book ≡ investors.unpriced_book market_book
  market_known =
      rw (market_left own number facts)
      (investors_same.book_same (investor_trail.facts_of (of_investor number facts)))

  pub knows_known : (request : ℕ) (quote : Option ℕ)
      → knows known_book request quote ≡ knows market_book request quote
  knows_known request quote = rw market_known (investors_same.knows_same market_book request quote)

  pub said_known : (market : InvestorMarket) (moment : ℕ) (bytes : List ℕ)
      → investor_verdict market known_book moment bytes
      ≡ investor_verdict market market_book moment bytes
  said_known market moment bytes =
      rw market_known (investors_same.verdict_same market market_book moment bytes)

pub ruleset known_at_markets = (knows_known, said_known)

pub market_kept : (more : InvestorEvent) (own : ℕ) (facts : List Fact) (number : ℕ)
    (market : InvestorMarket)
    → map investors.unpriced (investor_output.event_facts market
    (investor_trail.book_by (of_investor number (bare own facts))) (investors.unpriced_event more))
    ≡ map investors.unpriced (investor_output.event_facts market
    (investor_trail.book_by (of_investor number facts)) more)
market_kept more own facts number market =
    rw (market_known own facts number) (investors_same.kept_same market
    (investor_trail.book_by (of_investor number facts)) more)
