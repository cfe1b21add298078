-- What one event more adds at a dealer's desk and to its trail: the facts, what the dealer is sent,
-- and what is due to it.
use Rattle.std.proofs.Common.{◌≡◌, ℕ, Bool, true, false, ◌||◌, List, [], ◌∷◌, ◌++◌, filter_map}
use Rattle.std.proofs.Common.{Option, Some, None, option_map, if◌then◌else◌, refl, sym, ap, ◌∙◌}
use Rattle.std.specs.Option.{option_to_list}
use Rattle.std.proofs.lemmas.List.{append-nil}
use Rattle.std.proofs.lemmas.List.Elements.{filter_map-append}
use Rattle.std.proofs.lemmas.List.Folds.{list_any-append}
use Rattle.std.proofs.lemmas.List.Sums.{fold-append}
use Rattle.std.proofs.Math.Bool.{or-false}
use Rattle.quote_word.specs.declared.settled.Settled.{Settled}
use Rattle.quote_word.specs.declared.settled.Settled.TheVariants as settled
use Rattle.venue_rows.specs.declared.dealer_rows.DealerRow.{DealerRow}
use Rattle.quote_messages.specs.declared.out_messages.OutMessage.{OutMessage}
use Rattle.dealer_desk.specs.DealerFacts.{DealerFact, Quoted}
use Rattle.dealer_desk.specs.declared.accepted.AcceptedQuote.{AcceptedQuote}
use Rattle.dealer_desk.specs.DealerOutput.{DeskState, desk_after, after_event, event_facts}
use Rattle.dealer_desk.specs.DealerOutput.{shown_room, sent_with, no_facts, next_message}
use Rattle.dealer_desk.specs.DealerOutput.{verdict_facts, settled_facts, answer_facts, goes_through}
use Rattle.dealer_desk.specs.declared.standing.Withdrawal.{Withdrawal}
use Rattle.dealer_desk.specs.declared.standing.Withdrawal.TheVariants as by
use Rattle.dealer_desk.specs.declared.verdicts.DealerVerdict.{DealerVerdict}
use Rattle.dealer_desk.specs.declared.verdicts.DealerVerdict.TheVariants as verdict
use Rattle.dealer_desk.specs.declared.events.DealerEvent.{DealerEvent}
use Rattle.step_replay.specs.DealerTrail.{DealerEntry, facts_of, book_by, sent_by, was_lifted}
use Rattle.step_replay.specs.DealerTrail.{lifts, entries_of, message_by, fact_in, message_in}
use Rattle.step_replay.specs.DealerTrail.{room_in, rooms_by}
use Rattle.step_replay.specs.DueList.{due_by, due_by_fact, due_list}
use Rattle.step_replay.specs.declared.dues.Due.{Due}
use Rattle.step_replay.specs.TrailLemmas.{rooms_added, facts_added, sent_added, due_added}
use Rattle.step_replay.specs.TrailLemmas.{lifts_none}

-- a desk with these facts, whose dealer was sent these messages
abbrev pub desk_with : List DealerFact → List (List ℕ) → DeskState
desk_with facts sent = record { facts = facts; sent = sent }

-- a desk after one event more
pub desk_push : (date : List ℕ) (row : DealerRow) (events : List DealerEvent) (more : DealerEvent)
    → desk_after date row (events ++ more ∷ [])
    ≡ after_event date row (desk_after date row events) more
unfolding desk_after
desk_push date row events more = fold-append (after_event date row) no_facts events (more ∷ [])

-- what is sent with a message is the next of the list
pub sent_is : (date : List ℕ) (row : DealerRow) (sent : List (List ℕ)) (moment : ℕ)
    (message : Option OutMessage)
    → sent_with date row sent moment message
    ≡ sent ++ option_to_list (option_map (next_message date row sent moment) message)
sent_is date row sent moment None = sym (append-nil sent)
sent_is date row sent moment (Some message) = refl

-- Nothing of what a message decides is due by itself.

answers_undue : (quote : ℕ) (how : Withdrawal) (settlement : Option Settled)
    → filter_map due_by_fact (answer_facts quote how settlement) ≡ []
answers_undue quote how None = refl
answers_undue quote how (Some settled.Withdrawn) = refl
answers_undue quote how (Some settled.Lifted) = refl

pub settled_undue : (asked : Option ℕ) (how : Withdrawal) (settlement : Option Settled)
    → filter_map due_by_fact (settled_facts asked how settlement) ≡ []
settled_undue None how settlement = refl
settled_undue (Some quote) how settlement = answers_undue quote how settlement

kept_undue : (b : Bool) (quote : AcceptedQuote)
    → filter_map due_by_fact (if b then Quoted quote ∷ [] else []) ≡ []
kept_undue true quote = refl
kept_undue false quote = refl

pub verdict_undue : (v : DealerVerdict) (settlement : Option Settled)
    → filter_map due_by_fact (verdict_facts v settlement) ≡ []
verdict_undue (verdict.QuoteAccepted request id quote replaced) settlement =
    filter_map-append due_by_fact (settled_facts replaced by.Replacement settlement)
    (if goes_through replaced settlement then Quoted quote ∷ [] else [])
    ∙ rw (settled_undue replaced by.Replacement settlement)
    (kept_undue (goes_through replaced settlement) quote)
verdict_undue (verdict.CancelAccepted id quote request) settlement =
    answers_undue quote by.Cancel settlement
verdict_undue (verdict.DeclineAccepted request number) settlement = refl
verdict_undue other settlement = refl

-- One event more.

module _ (date : List ℕ) (row : DealerRow) (trail : List DealerEntry) (more : DealerEvent) where
  -- the trail with the event
  abbrev grown : List DealerEntry
  grown = trail ++ entries_of date row trail more

  pub facts_grown : facts_of grown ≡ facts_of trail ++ event_facts date row (book_by trail) more
  unfolding entries_of
  facts_grown =
      filter_map-append fact_in trail (entries_of date row trail more)
      ∙ ap (λ l. facts_of trail ++ l) (facts_added (event_facts date row (book_by trail) more)
      (option_to_list (shown_room more))
      (option_to_list (message_by date row trail more)))

  pub sent_grown : sent_by grown ≡ sent_by trail ++ option_to_list (message_by date row trail more)
  unfolding entries_of
  sent_grown =
      filter_map-append message_in trail (entries_of date row trail more)
      ∙ ap (λ l. sent_by trail ++ l) (sent_added (event_facts date row (book_by trail) more)
      (option_to_list (shown_room more))
      (option_to_list (message_by date row trail more)))

  pub rooms_grown : rooms_by grown ≡ rooms_by trail ++ option_to_list (shown_room more)
  unfolding entries_of
  rooms_grown =
      filter_map-append room_in trail (entries_of date row trail more)
      ∙ ap (λ l. rooms_by trail ++ l) (rooms_added (event_facts date row (book_by trail) more)
      (option_to_list (shown_room more))
      (option_to_list (message_by date row trail more)))

  pub due_grown : (item : Due)
      → filter_map due_by_fact (event_facts date row (book_by trail) more) ≡ item ∷ []
      → due_list grown ≡ due_list trail ++ item ∷ []
  unfolding entries_of
  due_grown item is =
      filter_map-append due_by trail (entries_of date row trail more)
      ∙ ap (λ l. due_list trail ++ l) (due_added (event_facts date row (book_by trail) more)
      (option_to_list (shown_room more))
      (option_to_list (message_by date row trail more)) ∙ is)

  pub lifted_grown : (quote : ℕ) → was_lifted grown quote ≡ was_lifted trail quote
  unfolding entries_of
  lifted_grown quote =
      list_any-append (lifts quote) trail (entries_of date row trail more)
      ∙ ap (λ b. was_lifted trail quote || b) (lifts_none (event_facts date row (book_by trail) more)
      (option_to_list (shown_room more))
      (option_to_list (message_by date row trail more)) quote)
      ∙ or-false (was_lifted trail quote)
