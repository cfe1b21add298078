-- An event at a dealer's desk that asks the word of a quote: the word, the desk and the facts.
use Rattle.step_replay.proofs.Common.{◌≡◌, ◌<◌, ◌≤◌, ℕ, nat_le, nat_lt, Bool, true, false, ◌&&◌}
use Rattle.step_replay.proofs.Common.{if◌then◌else◌, List, [], ◌++◌, length, Option, Some, None}
use Rattle.step_replay.proofs.Common.{IfSome, option_map, refl, sym, ap, ◌∙◌, subst, arith}
use Rattle.step_replay.proofs.Common.{list_any, with_item, nat_tests, entry_in, Exchanges}
use Rattle.step_replay.proofs.Common.{exchange_keeps_count, Settled, Configuration, Duty}
use Rattle.step_replay.proofs.Common.{DeskEvents, with_event, event_facts, withdraws, DealerEvent}
use Rattle.step_replay.proofs.Common.{AsksAtMost, SettlesSo, settlement_in, has_word, word_to_ask}
use Rattle.step_replay.proofs.Common.{DealerEntry, book_by, answer_to_dealer, entries_of, Fact}
use Rattle.step_replay.proofs.Common.{of_dealer, Effect, Dealer, dealer_of, at_dealer, nothing}
use Rattle.step_replay.proofs.Common.{word_for, words_of, Stands, Does, DealerPlace, Floor}
use Rattle.quote_word.specs.declared.settled.Settled.TheVariants as settled
use Rattle.step_replay.proofs.FloorLemmas.{event_stands, at_dealer_stands}
use Rattle.step_replay.proofs.FoundDealers.{Found}
use Rattle.step_replay.proofs.DealerActionLemmas.{idle_stands, unasked_stands}
use Rattle.step_replay.proofs.LiftingLemmas.{IsDueSo}
use Rattle.step_replay.proofs.AskedWords.{IsWord, withdraws_by, answer_is, words_asked}

-- An event that asks a word where there is one, by what the desk, the words and the duties are.

-- a quote of the day, by its tests
in_day : (quote count : ℕ) → 1 ≤ quote → quote ≤ count → (nat_le 1 quote && nat_le quote count) ≡ true
in_day quote count least most = grind (arith, nat_tests)

module _ (config : Configuration) (facts : List Fact) (floor : Floor) (number : ℕ)
    (place : DealerPlace) (before : Stands config facts floor)
    (found : Found config facts number place)
    (event : Option Settled → DealerEvent) (left : Option Settled → List Duty) where
  abbrev trail : List DealerEntry
  trail = of_dealer number facts

  abbrev dealer : Dealer
  dealer = dealer_of number found.row

  -- the word of a quote that is asked
  abbrev asked_word : Option ℕ → Option ℕ
  asked_word asked = option_map (word_for config dealer) asked

  -- the effect of an event that asks
  abbrev pub effect_of : Option ℕ → Effect
  effect_of asked =
      if has_word (words_of config) (asked_word asked)
      then at_dealer config facts dealer (event (option_map (answer_to_dealer trail) asked))
      (left (option_map (answer_to_dealer trail) asked))
      else nothing

  -- the floor afterwards
  abbrev pub floor_with : DeskEvents → List (Option Settled) → Floor
  floor_with desk words = record floor {
    dealers = with_item floor.dealers number (record place { desk = desk });
    words = words;
  }

  -- what the code has done: by the word that is asked
  pub asks_does : (asked : Option ℕ) (desk : DeskEvents) (words : List (Option Settled))
      → ((settlement : Option Settled) (quote : ℕ) → list_any (withdraws quote)
      (event_facts config.date found.row (book_by trail) (event settlement))
      ≡ withdraws_by asked settlement quote)
      → ((settlement : Option Settled) → IsDueSo config.date found.row trail (event settlement))
      → IfSome asked (λ quote. (1 ≤ quote) × (quote ≤ found.row.quotes))
      → AsksAtMost Exchanges entry_in floor.words
      (word_to_ask (length floor.words) (asked_word asked)) settled.Withdrawn words
      → desk ≡ (if has_word (length floor.words) (asked_word asked)
      then with_event place.desk (event (settlement_in (entry_in words) (asked_word asked)))
      else place.desk)
      → Does config facts (effect_of asked) (floor_with desk words)
      (if has_word (length floor.words) (asked_word asked)
      then left (settlement_in (entry_in words) (asked_word asked)) else [])
  asks_does None desk words withdraws_so due_so inside exchange is = record {
    stands = subst (λ (w : List (Option Settled)).
        Stands config (facts ++ (effect_of None).facts) (floor_with desk w)) (sym exchange)
        (unasked_stands before found desk (event None)
        (record { withdraws_none = λ quote. withdraws_so None quote; due_so = due_so None }) is);
    leaves = refl;
  }
  asks_does (Some asked) desk words withdraws_so due_so inside exchange is =
      by_test (nat_lt (word_for config dealer asked) (length floor.words)) refl exchange is
    where
      word : ℕ
      word = word_for config dealer asked

      by_test : (b : Bool) → nat_lt word (length floor.words) ≡ b
          → AsksAtMost Exchanges entry_in floor.words (if b then Some word else None)
          settled.Withdrawn words
          → desk ≡ (if b then with_event place.desk (event (entry_in words word)) else place.desk)
          → Does config facts (effect_of (Some asked)) (floor_with desk words)
          (if nat_lt word (length floor.words) then left (entry_in words word) else [])
      by_test false test exchanged now_is =
          let none : nat_lt word (words_of config) ≡ false = ap (nat_lt word) (sym before.word_count) ∙ test in
          rw (none, test) (record {
            stands = subst (λ (w : List (Option Settled)). Stands config (facts ++ []) (floor_with desk w))
                (sym exchanged)
                (idle_stands before found desk now_is);
            leaves = refl;
          })
      by_test true test exchanged now_is =
          let there : nat_lt word (words_of config) ≡ true = ap (nat_lt word) (sym before.word_count) ∙ test in
          rw (there, test) (by_entry (entry_in words word) exchanged now_is)
        where
          by_entry : (entry : Option Settled)
              → SettlesSo Exchanges floor.words word settled.Withdrawn entry words
              → desk ≡ with_event place.desk (event entry)
              → Does config facts
              (at_dealer config facts dealer (event (Some (answer_to_dealer trail asked)))
              (left (Some (answer_to_dealer trail asked))))
              (floor_with desk words) (left entry)
          by_entry None settles now_is = absurd settles
          by_entry (Some settlement) settles now_is =
              let more = event (Some (answer_to_dealer trail asked)) in
              let of : IsWord config word number found.row asked = record {
                is = found.row_is;
                within = in_day asked found.row.quotes inside.0 inside.1;
                word_is = refl;
              } in
              let in_row : word < length floor.words = grind (arith, nat_tests) in
              let so = λ (quote : ℕ). withdraws_so (Some (answer_to_dealer trail asked)) quote in
              let same : settlement ≡ answer_to_dealer trail asked =
              answer_is facts more of so before.words_are settles in_row in
              record {
                stands = at_dealer_stands (entries_of config.date found.row trail more) words before
                    found.row_is
                    (event_stands config number found.row trail place desk more found.stands
                    (now_is ∙ ap (λ (a : Settled). with_event place.desk (event (Some a))) same)
                    (due_so (Some (answer_to_dealer trail asked))))
                    (exchange_keeps_count floor.words words word settled.Withdrawn settlement settles)
                    (words_asked facts more of so before.words_are settles in_row);
                leaves = ap (λ (a : Settled). left (Some a)) same;
              }
