-- What is left at each place of a day, and what is left of what is added there.
use Rattle.std.proofs.Common.{◌≡◌, ℕ, ◌==◌, true, false, List, [], ◌∷◌, ◌++◌, map, filter_map}
use Rattle.std.proofs.Common.{refl, sym, ap, ◌∙◌, append-nil, inl, inr, ◌+◌, length}
use Rattle.std.specs.Option.{option_to_list}
use Rattle.std.proofs.lemmas.Bool.{cases_Bool, eqb-true}
use Rattle.std.proofs.lemmas.List.{map-append}
use mathlib.Core.List.{map-map}
use Rattle.market_terms.specs.declared.rooms.RoomRef.{RoomRef}
use Rattle.venue_rows.specs.declared.dealer_rows.DealerRow.{DealerRow}
use Rattle.dealer_desk.specs.DealerFacts.{DealerFact}
use Rattle.dealer_desk.specs.DealerOutput.{event_facts, is_same_room, shown_room}
use Rattle.dealer_desk.specs.Unpriced as dealers
use Rattle.dealer_desk.specs.declared.events.DealerEvent.{DealerEvent}
use Rattle.investor_desk.specs.InvestorFacts.{InvestorFact, Asked, Came, Closed, Gone, Offered}
use Rattle.investor_desk.specs.InvestorOutput as investor_output
use Rattle.investor_desk.specs.InvestorRules.{InvestorMarket}
use Rattle.investor_desk.specs.declared.events.InvestorEvent.{InvestorEvent}
use Rattle.investor_desk.specs.declared.standing.RequestClose.TheVariants as close
use Rattle.request_room.specs.Book.{expired}
use Rattle.request_room.specs.RoomFacts.{RoomFact, Ended, Noted, Opened, Posted, Readied, Unposted}
use Rattle.step_replay.specs.DealerTrail.{AtDesk, DealerEntry, Sent, ShownIn, book_by, entries_of}
use Rattle.step_replay.specs.InvestorTrail as investor_trail
use Rattle.step_replay.specs.InvestorTrail.{InvestorEntry}
use Rattle.step_replay.specs.PlaceLemmas.{nothing_of}
use Rattle.step_replay.specs.VenueFacts.{AtDealer, AtInvestor, Fact, InRoom, of_dealer}
use Rattle.step_replay.specs.VenueFacts.{of_investor, of_room}
use Rattle.laws_isolation.proofs.Left.{left, left_append, left_at_dealer, left_in_room, left_of}
use Rattle.laws_isolation.proofs.Left.{left_of_desk}

-- The facts of a room, and of an investor's desk, that are left.

abbrev pub left_room : ℕ → List RoomFact → List RoomFact
left_room own facts = filter_map (left_in_room own) facts

abbrev pub left_desk : List InvestorFact → List InvestorFact
left_desk facts = filter_map left_of_desk facts

-- What is added.

-- of a dealer
left_entries : (own number : ℕ) → (number == own) ≡ true → (facts : List DealerFact)
    (rooms : List RoomRef)
    → left own (map (λ fact. AtDealer number (AtDesk fact)) facts
    ++ map (λ room. AtDealer number (ShownIn room)) rooms)
    ≡ map (λ fact. AtDealer number (AtDesk (dealers.unpriced true fact))) facts
    ++ map (λ room. AtDealer number (ShownIn room)) rooms
unfolding left
left_entries own number mine [] [] = refl
left_entries own number mine [] (room ∷ rooms) =
    rw (mine, left_entries own number mine [] rooms) refl
left_entries own number mine (fact ∷ facts) rooms =
    rw (mine, left_entries own number mine facts rooms) refl

left_sent : (own number : ℕ) (messages : List (List ℕ))
    → left own (map (λ message. AtDealer number (Sent message)) messages) ≡ []
unfolding left
left_sent own number [] = refl
left_sent own number (message ∷ messages) = elim (cases_Bool (number == own)) [
  | inl is ↦ rw is (left_sent own number messages)
  | inr is ↦ rw is (left_sent own number messages)
]

pub dealer_added : (own number : ℕ) → (number == own) ≡ true → (date : List ℕ) (row : DealerRow)
    (trail : List DealerEntry) (event : DealerEvent)
    → left own (map (AtDealer number) (entries_of date row trail event))
    ≡ map (λ fact. AtDealer number (AtDesk fact))
    (map (dealers.unpriced true) (event_facts date row (book_by trail) event))
    ++ map (λ room. AtDealer number (ShownIn room)) (option_to_list (shown_room event))
unfolding entries_of
dealer_added own number mine date row trail event =
    simp (
      map-append,
      map-map,
      left_append,
      left_sent own number,
      append-nil,
    ) (sym (left_append own _ _) ∙ left_entries own number mine _ _)

-- of another one
pub other_added : (own number : ℕ) → (number == own) ≡ false → (entries : List DealerEntry)
    → left own (map (AtDealer number) entries) ≡ []
unfolding left
other_added own number another [] = refl
other_added own number another (entry ∷ entries) =
    rw another (other_added own number another entries)

pub room_added : (own : ℕ) (room : RoomRef) (facts : List RoomFact)
    → left own (map (InRoom room) facts) ≡ map (InRoom room) (left_room own facts)
unfolding left
room_added own room [] = refl
room_added own room (Posted quote ∷ facts) = elim (cases_Bool (quote.dealer == own)) [
  | inl is ↦ rw is (ap (λ l. InRoom room (Posted quote) ∷ l) (room_added own room facts))
  | inr is ↦ rw is (room_added own room facts)
]
room_added own room (Unposted dealer word ∷ facts) = elim (cases_Bool (dealer == own)) [
  | inl is ↦ rw is (ap (λ l. InRoom room (Unposted dealer word) ∷ l) (room_added own room facts))
  | inr is ↦ rw is (room_added own room facts)
]
room_added own room (Noted dealer ∷ facts) = elim (cases_Bool (dealer == own)) [
  | inl is ↦ rw is (ap (λ l. InRoom room (Noted dealer) ∷ l) (room_added own room facts))
  | inr is ↦ rw is (room_added own room facts)
]
room_added own room (Opened request ∷ facts) =
    ap (λ l. InRoom room (Opened request) ∷ l) (room_added own room facts)
room_added own room (Readied ∷ facts) =
    ap (λ l. InRoom room Readied ∷ l) (room_added own room facts)
room_added own room (Ended end moment ∷ facts) =
    ap (λ l. InRoom room (Ended expired 0) ∷ l) (room_added own room facts)

-- the facts of an investor's desk
abbrev pub at_investor : ℕ → InvestorFact → Fact
at_investor number fact = AtInvestor number (investor_trail.AtDesk fact)

investor_facts_added : (own number : ℕ) (facts : List InvestorFact)
    → left own (map (at_investor number) facts) ≡ map (at_investor number) (left_desk facts)
unfolding left
investor_facts_added own number [] = refl
investor_facts_added own number (Offered shown ∷ facts) = investor_facts_added own number facts
investor_facts_added own number (Gone request quote ∷ facts) =
    investor_facts_added own number facts
investor_facts_added own number (Came moment bytes used ∷ facts) =
    ap (λ l. at_investor number (Came moment [] used) ∷ l) (investor_facts_added own number facts)
investor_facts_added own number (Asked request ∷ facts) =
    ap (λ l. at_investor number (Asked request) ∷ l) (investor_facts_added own number facts)
investor_facts_added own number (Closed request how ∷ facts) =
    ap (λ l. at_investor number (Closed request close.Passed) ∷ l)
    (investor_facts_added own number facts)

none_sent : (own number : ℕ) (messages : List (List ℕ))
    → left own (map (λ message. AtInvestor number (investor_trail.Sent message)) messages) ≡ []
unfolding left
none_sent own number messages =
    nothing_of (left_of own) (λ message. AtInvestor number (investor_trail.Sent message))
    (λ message. refl) messages

entries_added : (own number : ℕ) (facts : List InvestorFact) (messages : List (List ℕ))
    → left own (map (AtInvestor number)
    (map investor_trail.AtDesk facts ++ map investor_trail.Sent messages))
    ≡ map (at_investor number) (left_desk facts)
entries_added own number facts messages =
    simp (
      map-append,
      map-map,
      left_append,
      investor_facts_added own number,
      none_sent own number,
      append-nil,
    )

pub investor_added : (own number : ℕ) (market : InvestorMarket) (trail : List InvestorEntry)
    (event : InvestorEvent)
    → left own (map (AtInvestor number) (investor_trail.entries_of market trail event))
    ≡ map (at_investor number)
    (left_desk (investor_output.event_facts market (investor_trail.book_by trail) event))
unfolding left investor_trail.entries_of
investor_added own number market trail event =
    entries_added own number
    (investor_output.event_facts market (investor_trail.book_by trail) event)
    (investor_output.written_from market (length (investor_trail.sent_by trail) + 1)
    (investor_output.moment_of event)
    (investor_output.event_messages market (investor_trail.book_by trail) event))

-- What is left at a place.

pub trail_left : (own number : ℕ) → (number == own) ≡ true → (facts : List Fact)
    → of_dealer number (left own facts) ≡ filter_map left_at_dealer (of_dealer number facts)
unfolding left of_dealer
trail_left own number mine [] = refl
trail_left own number mine (AtDealer dealer (Sent message) ∷ facts) =
    let later = trail_left own number mine facts in
    elim (cases_Bool (dealer == own)) [
      | inl is ↦ elim (cases_Bool (dealer == number)) [
        | inl here ↦ rw (is, here) later
        | inr there ↦ rw (is, there) later
      ]
      | inr is ↦ elim (cases_Bool (dealer == number)) [
        | inl here ↦ rw (is, here) later
        | inr there ↦ rw (is, there) later
      ]
    ]
trail_left own number mine (AtDealer dealer entry ∷ facts) =
    let later = trail_left own number mine facts in
    elim (cases_Bool (dealer == number)) [
      | inl here ↦
          let same : dealer ≡ number = eqb-true dealer number here in
          let is : (dealer == own) ≡ true = ap (λ (n : ℕ). n == own) same ∙ mine in
          rw (is, here, later) refl
      | inr there ↦ elim (cases_Bool (dealer == own)) [
        | inl is ↦ rw (is, there) later
        | inr is ↦ rw (is, there) later
      ]
    ]
trail_left own number mine (AtInvestor investor (investor_trail.Sent message) ∷ facts) =
    trail_left own number mine facts
trail_left own number mine (AtInvestor investor (investor_trail.Happened event) ∷ facts) =
    trail_left own number mine facts
trail_left own number mine (AtInvestor investor (investor_trail.AtDesk (Offered shown)) ∷ facts) =
    trail_left own number mine facts
trail_left own number mine (AtInvestor investor (investor_trail.AtDesk
    (Gone request quote)) ∷ facts) =
    trail_left own number mine facts
trail_left own number mine (AtInvestor investor (investor_trail.AtDesk fact) ∷ facts) =
    trail_left own number mine facts
trail_left own number mine (InRoom room (Posted quote) ∷ facts) =
    let later = trail_left own number mine facts in
    elim (cases_Bool (quote.dealer == own)) [ inl is ↦ rw is later | inr is ↦ rw is later ]
trail_left own number mine (InRoom room (Unposted dealer word) ∷ facts) =
    let later = trail_left own number mine facts in
    elim (cases_Bool (dealer == own)) [ inl is ↦ rw is later | inr is ↦ rw is later ]
trail_left own number mine (InRoom room (Noted dealer) ∷ facts) =
    let later = trail_left own number mine facts in
    elim (cases_Bool (dealer == own)) [ inl is ↦ rw is later | inr is ↦ rw is later ]
trail_left own number mine (InRoom room fact ∷ facts) = trail_left own number mine facts

pub room_left : (own : ℕ) (place : RoomRef) (facts : List Fact)
    → of_room place (left own facts) ≡ left_room own (of_room place facts)
unfolding left of_room
room_left own place [] = refl
room_left own place (InRoom room (Posted quote) ∷ facts) =
    let later = room_left own place facts in
    elim (cases_Bool (quote.dealer == own)) [
      | inl is ↦ elim (cases_Bool (is_same_room room place)) [
        | inl here ↦ rw (is, here) (rw is (ap (λ l. Posted quote ∷ l) later))
        | inr there ↦ rw (is, there) later
      ]
      | inr is ↦ elim (cases_Bool (is_same_room room place)) [
        | inl here ↦ rw (is, here) (rw is later)
        | inr there ↦ rw (is, there) later
      ]
    ]
room_left own place (InRoom room (Unposted dealer word) ∷ facts) =
    let later = room_left own place facts in
    elim (cases_Bool (dealer == own)) [
      | inl is ↦ elim (cases_Bool (is_same_room room place)) [
        | inl here ↦ rw (is, here) (rw is (ap (λ l. Unposted dealer word ∷ l) later))
        | inr there ↦ rw (is, there) later
      ]
      | inr is ↦ elim (cases_Bool (is_same_room room place)) [
        | inl here ↦ rw (is, here) (rw is later)
        | inr there ↦ rw (is, there) later
      ]
    ]
room_left own place (InRoom room (Noted dealer) ∷ facts) =
    let later = room_left own place facts in
    elim (cases_Bool (dealer == own)) [
      | inl is ↦ elim (cases_Bool (is_same_room room place)) [
        | inl here ↦ rw (is, here) (rw is (ap (λ l. Noted dealer ∷ l) later))
        | inr there ↦ rw (is, there) later
      ]
      | inr is ↦ elim (cases_Bool (is_same_room room place)) [
        | inl here ↦ rw (is, here) (rw is later)
        | inr there ↦ rw (is, there) later
      ]
    ]
room_left own place (InRoom room fact ∷ facts) =
    let later = room_left own place facts in
    elim (cases_Bool (is_same_room room place)) [
      | inl here ↦ rw (here, later) refl
      | inr there ↦ rw there later
    ]
room_left own place (AtDealer dealer (Sent message) ∷ facts) =
    let later = room_left own place facts in
    elim (cases_Bool (dealer == own)) [ inl is ↦ rw is later | inr is ↦ rw is later ]
room_left own place (AtDealer dealer entry ∷ facts) =
    let later = room_left own place facts in
    elim (cases_Bool (dealer == own)) [ inl is ↦ rw is later | inr is ↦ rw is later ]
room_left own place (AtInvestor investor (investor_trail.Sent message) ∷ facts) =
    room_left own place facts
room_left own place (AtInvestor investor (investor_trail.Happened event) ∷ facts) =
    room_left own place facts
room_left own place (AtInvestor investor (investor_trail.AtDesk (Offered shown)) ∷ facts) =
    room_left own place facts
room_left own place (AtInvestor investor (investor_trail.AtDesk (Gone request quote)) ∷ facts) =
    room_left own place facts
room_left own place (AtInvestor investor (investor_trail.AtDesk fact) ∷ facts) =
    room_left own place facts

pub desk_left : (own number : ℕ) (facts : List Fact)
    → investor_trail.facts_of (of_investor number (left own facts))
    ≡ left_desk (investor_trail.facts_of (of_investor number facts))
unfolding left of_investor
desk_left own number [] = refl
desk_left own number (AtInvestor investor (investor_trail.Sent message) ∷ facts) =
    let later = desk_left own number facts in
    elim (cases_Bool (investor == number)) [ inl is ↦ rw is later | inr is ↦ rw is later ]
desk_left own number (AtInvestor investor (investor_trail.Happened event) ∷ facts) =
    let later = desk_left own number facts in
    elim (cases_Bool (investor == number)) [ inl is ↦ rw is later | inr is ↦ rw is later ]
desk_left own number (AtInvestor investor (investor_trail.AtDesk (Offered shown)) ∷ facts) =
    let later = desk_left own number facts in
    elim (cases_Bool (investor == number)) [ inl is ↦ rw is later | inr is ↦ rw is later ]
desk_left own number (AtInvestor investor (investor_trail.AtDesk (Gone request quote)) ∷ facts) =
    let later = desk_left own number facts in
    elim (cases_Bool (investor == number)) [ inl is ↦ rw is later | inr is ↦ rw is later ]
desk_left own number (AtInvestor investor (investor_trail.AtDesk fact) ∷ facts) =
    let later = desk_left own number facts in
    elim (cases_Bool (investor == number)) [
      | inl is ↦ rw (is, later) refl
      | inr is ↦ rw is later
    ]
desk_left own number (AtDealer dealer (Sent message) ∷ facts) =
    let later = desk_left own number facts in
    elim (cases_Bool (dealer == own)) [ inl is ↦ rw is later | inr is ↦ rw is later ]
desk_left own number (AtDealer dealer entry ∷ facts) =
    let later = desk_left own number facts in
    elim (cases_Bool (dealer == own)) [ inl is ↦ rw is later | inr is ↦ rw is later ]
desk_left own number (InRoom room (Posted quote) ∷ facts) =
    let later = desk_left own number facts in
    elim (cases_Bool (quote.dealer == own)) [ inl is ↦ rw is later | inr is ↦ rw is later ]
desk_left own number (InRoom room (Unposted dealer word) ∷ facts) =
    let later = desk_left own number facts in
    elim (cases_Bool (dealer == own)) [ inl is ↦ rw is later | inr is ↦ rw is later ]
desk_left own number (InRoom room (Noted dealer) ∷ facts) =
    let later = desk_left own number facts in
    elim (cases_Bool (dealer == own)) [ inl is ↦ rw is later | inr is ↦ rw is later ]
desk_left own number (InRoom room fact ∷ facts) = desk_left own number facts
