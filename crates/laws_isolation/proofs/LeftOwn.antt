-- At the desk of a dealer: its own does with what is left of the day what it does with the day,
-- and of another one nothing is left.
use Rattle.std.proofs.Common.{subst}
use Rattle.step_replay.specs.Actions.{at_dealer}
use Rattle.std.proofs.Common.{◌≡◌, ℕ, ◌==◌, true, false, List, [], map, Option, Some, None, refl}
use Rattle.std.proofs.Common.{sym, ap, ◌∙◌, ◌++◌, is_some, option_map, inl, inr}
use Rattle.std.proofs.lemmas.Bool.{cases_Bool}
use Rattle.std.proofs.lemmas.List.{map-append}
use Rattle.market_terms.specs.Unpriced.{uncovered}
use Rattle.market_terms.specs.declared.asks.Ask.{Ask}
use Rattle.market_terms.specs.declared.closes.Close.{Close}
use Rattle.market_terms.specs.declared.rooms.RoomRef.{RoomRef}
use Rattle.venue_rows.specs.Rows.{Configuration}
use Rattle.dealer_desk.specs.DealerFacts.{DealerFact, number_to_drop, quote_to_drop}
use Rattle.dealer_desk.specs.DealerFacts.{book_of as dealer_book}
use Rattle.dealer_desk.specs.DealerOutput.{event_facts, further_drop, number_in, settled_facts}
use Rattle.dealer_desk.specs.DealerOutput.{unpost_dropped, word_asked}
use Rattle.dealer_desk.specs.declared.standing.Withdrawal.TheVariants as by
use Rattle.quote_word.specs.declared.settled.Settled.{Settled}
use Rattle.quote_word.specs.declared.settled.Settled.TheVariants as settled
use Rattle.dealer_desk.specs.Unpriced as dealers
use Rattle.dealer_desk.specs.declared.events.DealerEvent.TheVariants as at_desk
use Rattle.dealer_desk.proofs.UnpricedBooks.{book_same as dealer_book_same}
use Rattle.dealer_desk.proofs.UnpricedVerdicts.{some_to_drop, unposted_same}
use Rattle.venue_steps.specs.Words.{has_word}
use Rattle.step_replay.specs.Actions.{Dealer, Effect, word_for, shown_to, told_of, told_to}
use Rattle.step_replay.specs.Actions.{dropped_by, received_by_dealer, drop_at, verdict_on}
use Rattle.step_replay.specs.Actions.{answer_to_drop, left_by_drop, left_by, settlement_of}
use Rattle.step_replay.specs.Actions.{words_of}
use Rattle.step_replay.specs.DealerGrowth.{facts_grown}
use Rattle.step_replay.specs.DealerTrail.{DealerEntry, answer_to_dealer, book_by, entries_of}
use Rattle.step_replay.specs.DealerTrail.{facts_of, rooms_by}
use Rattle.step_replay.specs.VenueFacts.{Fact, of_dealer}
use Rattle.laws_days.specs.ActionCases.{if_both, told_does, unless_does}
use Rattle.laws_isolation.proofs.Left.{AreAlike, IsHushed, hushed_alike, left_duty}
use Rattle.laws_isolation.proofs.Left.{nothing_alike, nothing_hushed}
use Rattle.laws_isolation.proofs.LeftActions.{desk_alike, desk_hushed, known}
use Rattle.laws_isolation.proofs.LeftDealer as dealer_left

module _ (config : Configuration) (own : ℕ) (facts : List Fact) where
  -- what is left of the day
  abbrev after : List Fact
  after = known own facts

  -- At a dealer's desk: its own, or another one, of which nothing is left.

  either_alike : (dealer : Dealer) (one other : List Fact → Effect)
      → ((dealer.number == own) ≡ true → AreAlike own (one facts) (other after))
      → ((dealer.number == own) ≡ false → (now : List Fact) → IsHushed own (one now))
      → ((dealer.number == own) ≡ false → (now : List Fact) → IsHushed own (other now))
      → AreAlike own (one facts) (other after)
  either_alike dealer one other same hushed hushed_too =
      elim (cases_Bool (dealer.number == own)) [
        | inl mine ↦ same mine
        | inr another ↦ hushed_alike own (one facts) (other after) (hushed another facts)
            (hushed_too another after)
      ]

  shown_own : (room : RoomRef) (ask : Ask) (moment : ℕ) (dealer : Dealer)
      → (dealer.number == own) ≡ true
      → AreAlike own (shown_to config facts room ask moment dealer)
      (shown_to config after room ask moment dealer)
  shown_own room ask moment dealer mine =
      rw (dealer_left.rooms_known own facts dealer.number mine)
      (elim (cases_Bool (is_some (number_in (rooms_by (of_dealer dealer.number facts)) room))) [
        | inl is ↦ rw is (nothing_alike own)
        | inr isnt ↦ rw isnt
            (desk_alike own facts config dealer (at_desk.Shown room ask moment) [] [] mine refl)
      ])

  pub shown_alike : (room : RoomRef) (ask : Ask) (moment : ℕ) (dealer : Dealer)
      → AreAlike own (shown_to config facts room ask moment dealer)
      (shown_to config after room ask moment dealer)
  shown_alike room ask moment dealer =
      either_alike dealer (λ now. shown_to config now room ask moment dealer)
      (λ now. shown_to config now room ask moment dealer)
      (shown_own room ask moment dealer) hushed hushed
    where
      hushed : (dealer.number == own) ≡ false → (now : List Fact)
          → IsHushed own (shown_to config now room ask moment dealer)
      hushed another now =
          unless_does (IsHushed own) (nothing_hushed own) _ _
          (desk_hushed own now config dealer (at_desk.Shown room ask moment) another)

  told_own : (close : Close) (moment : ℕ) (dealer : Dealer) (request : Option ℕ)
      → (dealer.number == own) ≡ true
      → AreAlike own (told_of config facts dealer close moment request)
      (told_of config after dealer (uncovered close) moment request)
  told_own close moment dealer None mine = nothing_alike own
  told_own close moment dealer (Some request) mine =
      rw (dealer_left.closable_known own facts dealer.number mine request)
      (if_both (AreAlike own) (nothing_alike own) _ _ _ _ refl
      (desk_alike own facts config dealer (at_desk.Told request close moment) [] [] mine refl))

  pub told_alike : (room : RoomRef) (close : Close) (moment : ℕ) (dealer : Dealer)
      → AreAlike own (told_to config facts room close moment dealer)
      (told_to config after room (uncovered close) moment dealer)
  told_alike room close moment dealer =
      either_alike dealer (λ now. told_to config now room close moment dealer)
      (λ now. told_to config now room (uncovered close) moment dealer)
      (λ mine. rw (dealer_left.rooms_known own facts dealer.number mine)
      (told_own close moment dealer
      (number_in (rooms_by (of_dealer dealer.number facts)) room) mine))
      (hushed close) (hushed (uncovered close))
    where
      hushed : (how : Close) → (dealer.number == own) ≡ false → (now : List Fact)
          → IsHushed own (told_to config now room how moment dealer)
      hushed how another now =
          told_does (IsHushed own) (nothing_hushed own) config now dealer how moment
          (number_in (rooms_by (of_dealer dealer.number now)) room)
          (λ number. desk_hushed own now config dealer (at_desk.Told number how moment) another)

  -- A drop of its own, and a message.

  module _ (dealer : Dealer) (mine : (dealer.number == own) ≡ true) where
    -- its trail, and what is left of it
    abbrev trail : List DealerEntry
    trail = of_dealer dealer.number facts

    abbrev trail_left : List DealerEntry
    trail_left = of_dealer dealer.number after

    -- the facts of the desk after a drop
    abbrev dropped : ℕ → ℕ → List DealerEntry → List DealerFact
    dropped last moment entries = facts_of (entries
        ++ entries_of config.date dealer.row entries (drop_at entries last moment))

    asked_same : (last : ℕ)
        → number_to_drop (book_by trail_left) last ≡ number_to_drop (book_by trail) last
    asked_same last = dealer_left.number_known own facts dealer.number mine last

    settlement_same : (last : ℕ) → answer_to_drop trail_left last ≡ answer_to_drop trail last
    settlement_same last =
        ap (option_map (answer_to_dealer trail_left)) (asked_same last)
        ∙ dealer_left.answer_known own facts dealer.number mine (number_to_drop
        (book_by trail) last)

    settled_bare : (asked : Option ℕ) (settlement : Option Settled)
        → map (dealers.unpriced true) (settled_facts asked by.Cancel settlement)
        ≡ settled_facts asked by.Cancel settlement
    settled_bare None settlement = refl
    settled_bare (Some quote) (Some settled.Lifted) = refl
    settled_bare (Some quote) settlement = refl

    dropped_known : (last moment : ℕ)
        → dropped last moment trail_left ≡ map (dealers.unpriced true) (dropped last moment trail)
    unfolding event_facts
    dropped_known last moment =
        rw (facts_grown, facts_grown, settlement_same last, asked_same last)
        (simp (dealer_left.facts_known own facts dealer.number mine, map-append, settled_bare))

    further_same : (last moment : ℕ)
        → further_drop (dealer_book (dropped last moment trail_left)) last moment
        ≡ further_drop (dealer_book (dropped last moment trail)) last moment
    further_same last moment =
        rw (
          dropped_known last moment,
          dealer_book_same true (dropped last moment trail),
          some_to_drop (dealer_book (dropped last moment trail)) last,
        ) refl

    unposted_left : (last moment : ℕ)
        → unpost_dropped (rooms_by trail_left) moment (answer_to_drop trail_left last)
        (quote_to_drop (book_by trail_left) last)
        ≡ unpost_dropped (rooms_by trail) moment (answer_to_drop trail last)
        (quote_to_drop (book_by trail) last)
    unposted_left last moment =
        rw (
          dealer_left.rooms_known own facts dealer.number mine,
          settlement_same last,
          dealer_left.book_known own facts dealer.number mine,
        ) (unposted_same (book_by trail) (rooms_by trail) last moment (answer_to_drop trail last))

    left_same : (last moment : ℕ)
        → left_by_drop config facts last moment dealer
        ≡ left_by_drop config after last moment dealer
    left_same last moment = rw (unposted_left last moment, further_same last moment) refl

    pub dropped_alike : (last moment : ℕ)
        → AreAlike own (dropped_by config facts last moment dealer)
        (dropped_by config after last moment dealer)
    dropped_alike last moment =
        if_both (AreAlike own) (nothing_alike own) _ _ _ _
        (sym (ap (λ (o : Option ℕ). has_word (words_of config) (option_map
        (word_for config dealer) o))
        (asked_same last)))
        (subst (λ (e : Option Settled). AreAlike own
        (at_dealer config facts dealer (drop_at trail last moment)
        (left_by_drop config facts last moment dealer))
        (at_dealer config after dealer (at_desk.Drop last moment e)
        (left_by_drop config after last moment dealer))) (sym (settlement_same last))
        (desk_alike own facts config dealer (drop_at trail last moment)
        (left_by_drop config facts last moment dealer)
        (left_by_drop config after last moment dealer) mine
        (ap (map left_duty) (left_same last moment))))

    pub said_alike : (moment : ℕ) (bytes : List ℕ)
        → AreAlike own (received_by_dealer config facts moment bytes dealer)
        (received_by_dealer config after moment bytes dealer)
    said_alike moment bytes =
        let v = verdict_on config facts moment bytes dealer in
        rw (
          dealer_left.verdict_known own facts dealer.number mine config.date dealer.row moment
              bytes,
          dealer_left.answer_known own facts dealer.number mine (word_asked v),
          dealer_left.rooms_known own facts dealer.number mine,
        ) (if_both (AreAlike own) (nothing_alike own) _ _ _ _ refl
        (desk_alike own facts config dealer
        (at_desk.Received moment bytes (settlement_of trail v)) (left_by trail moment v)
        (left_by trail moment v) mine refl))
