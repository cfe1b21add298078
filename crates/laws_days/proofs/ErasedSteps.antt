-- What a duty, a message or a sweep adds and leaves in a day without prices is what it adds and
-- leaves in the day, but for prices.
use Rattle.laws_days.proofs.Common.{◌≡◌, ℕ, ◌==◌, Bool, true, false, List, ◌++◌, map, Option, Some}
use Rattle.laws_days.proofs.Common.{inl, inr, None, option_map, option_to_list, refl}
use Rattle.laws_days.proofs.Common.{if◌then◌else◌, is_some, [], cases_Bool, map-append, map-map}
use Rattle.laws_days.proofs.Common.{uncovered, unpriced_duty, Close, Duty, ResponseRef, RoomRef}
use Rattle.laws_days.proofs.Common.{Settled, Configuration, dealer_numbered, DealerFact}
use Rattle.laws_days.proofs.Common.{event_facts, number_in, settled_facts, unpriced_verdict}
use Rattle.laws_days.proofs.Common.{book_same, InvestorMarket, hit_refusal, RoomFact}
use Rattle.laws_days.proofs.Common.{where_follows, facts_grown, DealerEntry, book_by, entries_of}
use Rattle.laws_days.proofs.Common.{facts_of, rooms_by, was_withdrawn, Fact, of_dealer, of_room}
use Rattle.laws_days.proofs.Common.{Effect, Dealer, done_by, done_for, drop_at, dropped_by}
use Rattle.laws_days.proofs.Common.{quote_with_word, told_to, acting_dealer, dealer_at}
use Rattle.laws_days.proofs.Common.{received_by_dealer, settlement_of, DealerVerdict, Actor}
use Rattle.laws_days.proofs.Common.{duty_effect, message_effect, sweep_effect}
use Rattle.market_terms.specs.declared.closes.Close.TheVariants as closes
use Rattle.market_terms.specs.declared.duties.Duty.TheVariants as duty
use Rattle.quote_word.specs.declared.settled.Settled.TheVariants as settled
use Rattle.dealer_desk.specs.DealerFacts.{book_of}
use Rattle.dealer_desk.specs.Unpriced.{unpriced, unpriced_event}
use Rattle.dealer_desk.specs.declared.events.DealerEvent.TheVariants as at_desk
use Rattle.dealer_desk.specs.declared.standing.Withdrawal.TheVariants as by
use Rattle.dealer_desk.proofs.UnpricedVerdicts.{some_to_drop, unposted_same, asked_alike}
use Rattle.dealer_desk.proofs.UnpricedVerdicts.{came_alike, duty_alike}
use Rattle.request_room.specs.Book.{event_facts as room_facts}
use Rattle.request_room.specs.Unpriced.{unpriced as unpriced_in_room, unpriced_event as unpriced_there}
use Rattle.request_room.specs.declared.events.RoomEvent.{RoomEvent}
use Rattle.request_room.specs.declared.events.RoomEvent.TheVariants as at_room
use Rattle.request_room.proofs.UnpricedRooms.{asked_of_book, kept_same}
use Rattle.step_replay.specs.Actions.{hit_in, verdict_on}
use Rattle.laws_days.proofs.Erasing.{added, answer_known, bare, bare_append, book_known, desk_kept}
use Rattle.laws_days.proofs.Erasing.{facts_known, known_at_desks, known_at_markets, number_known}
use Rattle.laws_days.proofs.Erasing.{market_kept, room_left, rooms_known, verdict_known}
use Rattle.laws_days.proofs.Erasing.{withdrawn_known}
use Rattle.laws_days.proofs.ListLemmas.{cases_some}
use Rattle.investor_desk.specs.InvestorOutput.{event_facts as market_facts}
use Rattle.investor_desk.specs.Unpriced as investors
use Rattle.investor_desk.specs.declared.events.InvestorEvent.{InvestorEvent}
use Rattle.investor_desk.specs.declared.events.InvestorEvent.TheVariants as at_investor
use Rattle.step_replay.specs.InvestorTrail.{book_by as market_book}
use Rattle.step_replay.specs.VenueFacts.{of_investor}

-- Effects.

-- what is left of what an action adds, and of what it leaves
unfoldable pub left : ℕ → Effect → Effect
left own effect =
    record { facts = bare own effect.facts; duties = map unpriced_duty effect.duties }

left_of : (own : ℕ) (facts : List Fact) (duties : List Duty)
    → left own (record { facts = facts; duties = duties })
    ≡ record { facts = bare own facts; duties = map unpriced_duty duties }
unfolding left
left_of own facts duties = refl

left_if : (own : ℕ) (b : Bool) (one other : Effect)
    → left own (if b then one else other) ≡ (if b then left own one else left own other)
left_if own true one other = refl
left_if own false one other = refl

left_done : (own : ℕ) (found : Option Dealer) (action : Dealer → Effect)
    → left own (done_by found action) ≡ done_by found (λ dealer. left own (action dealer))
unfolding left bare
left_done own None action = refl
left_done own (Some dealer) action = refl

left_for : (own : ℕ) (found : Option InvestorMarket) (action : InvestorMarket → Effect)
    → left own (done_for found action) ≡ done_for found (λ market. left own (action market))
unfolding left bare
left_for own None action = refl
left_for own (Some market) action = refl

follows : (b : Bool) (duty : Duty)
    → map unpriced_duty (where_follows b duty) ≡ where_follows b (unpriced_duty duty)
follows true duty = refl
follows false duty = refl

list_left : (duty : Option Duty)
    → map unpriced_duty (option_to_list duty) ≡ option_to_list (option_map unpriced_duty duty)
list_left None = refl
list_left (Some duty) = refl

told_each : (at : RoomRef) (close : ℕ → Close) (moment : ℕ) (dealers : List ℕ)
    → map unpriced_duty (map (λ dealer. duty.Tell dealer at (close dealer) moment) dealers)
    ≡ map (λ dealer. duty.Tell dealer at (uncovered (close dealer)) moment) dealers
told_each at close moment dealers = simp map-map

-- how an award ended for a dealer, whoever was the cover
covered : (won cover : Bool)
    → uncovered (if won then closes.Hit else if cover then closes.Cover else closes.DoneAway)
    ≡ (if won then closes.Hit else closes.DoneAway)
covered true cover = refl
covered false true = refl
covered false false = refl

-- what is left of an action, and what it asks of its desk or its room
ruleset effects = (left_if, left_done, left_for, left_of, follows)

ruleset at_desks = (effects, added, known_at_desks, known_at_markets)

ruleset in_rooms = (effects, added, bare_append, room_left, told_each, covered, asked_of_book)

-- What a drop adds bears no price.
settled_bare : (stay : Bool) (asked : Option ℕ) (settlement : Option Settled)
    → map (unpriced stay) (settled_facts asked by.Cancel settlement)
    ≡ settled_facts asked by.Cancel settlement
settled_bare stay None settlement = refl
settled_bare stay (Some quote) (Some settled.Lifted) = refl
settled_bare stay (Some quote) settlement = refl

-- An event without a price is the same in a day without prices.

room_plain : (before : List RoomFact) (more : RoomEvent) → unpriced_there more ≡ more
    → map unpriced_in_room (room_facts (map unpriced_in_room before) more)
    ≡ map unpriced_in_room (room_facts before more)
room_plain before more plain = rw plain at (kept_same before more)

market_plain : (more : InvestorEvent) (own : ℕ) (facts : List Fact) (number : ℕ) (market : InvestorMarket)
    → investors.unpriced_event more ≡ more
    → map investors.unpriced (market_facts market
    (market_book (of_investor number (bare own facts))) more)
    ≡ map investors.unpriced (market_facts market (market_book (of_investor number facts)) more)
market_plain more own facts number market plain = rw plain at (market_kept more own facts number market)

ruleset plain = (in_rooms, at_desks, room_plain, market_plain)

module _ (config : Configuration) (own : ℕ) (facts : List Fact) where
  -- the facts without prices
  abbrev known : List Fact
  known = bare own facts

  -- what is known of a room, and of a dealer
  abbrev here : RoomRef → List RoomFact
  here room = of_room room facts

  abbrev trail : Dealer → List DealerEntry
  trail dealer = of_dealer dealer.number facts

  abbrev known_trail : Dealer → List DealerEntry
  known_trail dealer = of_dealer dealer.number known

  -- A dealer is told how a request ended.

  told_left : (room : RoomRef) (dealer : Dealer) (close : Close) (moment : ℕ)
      → left own (told_to config known room (uncovered close) moment dealer)
      ≡ left own (told_to config facts room close moment dealer)
  told_left room dealer close moment =
      elim (cases_some (number_in (rooms_by (trail dealer)) room)) [
        | inl none ↦ rw (rooms_known, none)
        | inr some ↦ rw (rooms_known, some.1)
            (simp (at_desks, desk_kept (at_desk.Told some.0 close moment)))
      ]

  -- A drop.

  module _ (dealer : Dealer) (last moment : ℕ) where
    -- the facts of the desk after it
    abbrev after : List DealerEntry → List DealerFact
    after entries = facts_of (entries
        ++ entries_of config.date dealer.row entries (drop_at entries last moment))

    after_known : after (known_trail dealer)
        ≡ map (unpriced (dealer.number == own)) (after (trail dealer))
    unfolding event_facts
    after_known =
        rw (facts_grown, facts_grown, number_known own facts dealer.number last)
        (simp (answer_known, facts_known, map-append, settled_bare))

    dropped_left : left own (dropped_by config known last moment dealer)
        ≡ left own (dropped_by config facts last moment dealer)
    dropped_left =
        rw (after_known, book_same, some_to_drop (book_of (after (trail dealer))))
        (rw (number_known, answer_known, rooms_known, book_known)
        (rw (unposted_same (book_by (trail dealer)))
        (simp (at_desks, desk_kept (drop_at (trail dealer) last moment)))))

  -- A hit: it is refused, the venue has no such quote, or the quote was withdrawn or is lifted.

  refusal_same : (room : RoomRef) (word moment : ℕ)
      → hit_refusal (map unpriced_in_room (here room)) word moment
      ≡ hit_refusal (here room) word moment
  unfolding hit_refusal
  refusal_same room word moment = simp asked_of_book

  hit_left : (room : RoomRef) (response : ResponseRef) (word moment : ℕ)
      → left own (hit_in config known room response word moment)
      ≡ left own (hit_in config facts room response word moment)
  hit_left room response word moment =
      let kept = λ (how : Option Settled). kept_same (here room) (at_room.Hit word moment how) in
      rw (room_left, refusal_same) (elim (cases_some (hit_refusal (here room) word moment)) [
        | inl none ↦ rw none (elim (cases_some (quote_with_word config word)) [
          | inl lost ↦ rw lost (simp (in_rooms, kept))
          | inr found ↦
              let gone = was_withdrawn (of_dealer found.0.dealer facts) found.0.quote in
              rw (found.1, withdrawn_known) (elim (cases_Bool gone) [
                | inl is ↦ rw is (simp (in_rooms, kept))
                | inr is ↦ rw is (simp (in_rooms, kept))
              ])
        ])
        | inr some ↦ rw some.1 (simp (in_rooms, kept))
      ])

  -- Every duty and sweep.

  pub duty_left : (by : Actor) (more : Duty)
      → left own (duty_effect config known by (unpriced_duty more))
      ≡ left own (duty_effect config facts by more)
  unfolding duty_effect
  duty_left by (duty.Show dealer room ask moment) =
      simp (at_desks, desk_kept (at_desk.Shown room ask moment))
  duty_left by (duty.Post room quote price until moment) =
      simp (in_rooms, λ (n word : ℕ). kept_same (here room) (at_room.Post n word price until))
  duty_left by (duty.Relay room offer moment) =
      simp (at_desks, market_kept (at_investor.QuoteCame room.n offer moment))
  duty_left by (duty.Hit room response word moment) =
      hit_left room response word moment
  duty_left by (duty.Tell dealer room close moment) =
      simp left_done (λ i. done_by (dealer_at config dealer)
      (λ desk. told_left room desk close moment i))
  duty_left by (duty.Drop last moment) =
      simp left_done (λ i. done_by (acting_dealer config by)
      (λ desk. dropped_left desk last moment i))
  duty_left by other = simp plain

  pub sweep_left : (room : RoomRef) (moment : ℕ)
      → left own (sweep_effect config known room moment)
      ≡ left own (sweep_effect config facts room moment)
  unfolding sweep_effect
  sweep_left room moment = simp plain

  -- A message of a dealer: another message may stand in its place, where the verdicts on both are
  -- one but for the price.

  module _ (moment : ℕ) (bytes others : List ℕ) (dealer : Dealer)
      (alike : unpriced_verdict (verdict_on config facts moment bytes dealer)
      ≡ unpriced_verdict (verdict_on config facts moment others dealer))
      (kept : (if dealer.number == own then bytes else [])
      ≡ (if dealer.number == own then others else [])) where
    -- the verdicts
    abbrev v : DealerVerdict
    v = verdict_on config facts moment bytes dealer

    abbrev w : DealerVerdict
    w = verdict_on config facts moment others dealer

    -- the facts of a message at the dealer's desk, with this trail
    abbrev came_at : List DealerEntry → List ℕ → List DealerFact
    came_at entries said = event_facts config.date dealer.row (book_by entries)
        (at_desk.Received moment said (settlement_of (trail dealer) w))

    kept_known : map (unpriced (dealer.number == own)) (came_at (known_trail dealer) bytes)
        ≡ map (unpriced (dealer.number == own)) (came_at (trail dealer) others)
    unfolding event_facts
    kept_known =
        rw verdict_known (came_alike v w alike (dealer.number == own) moment bytes others
        (settlement_of (trail dealer) w) kept)

    pub said_left : left own (received_by_dealer config known moment bytes dealer)
        ≡ left own (received_by_dealer config facts moment others dealer)
    said_left =
        let settlement = settlement_of (trail dealer) w in
        let leaves = duty_alike v w alike (rooms_by (trail dealer)) moment settlement in
        rw (verdict_known, asked_alike v w alike) (simp (at_desks, kept_known, list_left, leaves))

  -- the same message
  pub message_left : (firm moment : ℕ) (bytes : List ℕ)
      → left own (message_effect config known firm moment bytes)
      ≡ left own (message_effect config facts firm moment bytes)
  unfolding message_effect
  message_left firm moment bytes = elim (cases_Bool (is_some (dealer_numbered config firm))) [
    | inl is ↦ rw is (simp left_done (λ i. done_by (dealer_at config firm)
        (λ dealer. said_left moment bytes bytes dealer refl refl i)))
    | inr is ↦ rw is (simp (at_desks, market_kept (at_investor.Received moment bytes)))
  ]
