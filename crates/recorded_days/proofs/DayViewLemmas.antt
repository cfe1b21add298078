-- The dealer view of what was due on a recorded day has the facts and the messages of its desk.
use Rattle.std.proofs.Common.{◌≡◌, ℕ, List, [], ◌∷◌, ◌++◌, Option, Some, option_map, IfSome, All}
use Rattle.std.proofs.Common.{sym, ap, subst, ◌∙◌}
use Rattle.quote_word.specs.declared.settled.Settled.{Settled}
use Rattle.venue_rows.specs.declared.dealer_rows.DealerRow.{DealerRow}
use Rattle.dealer_desk.specs.DealerFacts.{book_of, number_to_drop}
use Rattle.dealer_desk.specs.DealerRules.{dealer_verdict}
use Rattle.dealer_desk.specs.DealerDesk.{DeskEvents, book_at, verdict_at}
use Rattle.dealer_desk.specs.DealerOutput.{DeskState, desk_after, word_asked}
use Rattle.dealer_desk.specs.SettledWords.{settled_words, asked_by}
use Rattle.dealer_desk.specs.declared.events.DealerEvent.{DealerEvent}
use Rattle.dealer_desk.specs.declared.events.DealerEvent.TheVariants as event
use Rattle.step_replay.specs.DealerView.{ViewState, after_due, answer_to, dealer_view, sent_at}
use Rattle.step_replay.specs.declared.dues.Due.TheVariants as due
use Rattle.recorded_days.specs.DayDues.{AreAnsweredFrom, DayDues, after_drop, after_own}
use Rattle.recorded_days.specs.DayDues.{after_recorded, dues_after}
use Rattle.recorded_days.proofs.DayDueLemmas.{AreOne, all_behind, all_front, answered_before}
use Rattle.recorded_days.proofs.DayDueLemmas.{answered_last, kept_by_more}
use Rattle.recorded_days.proofs.DeskLemmas.{view_of}
use Rattle.recorded_days.proofs.DaySeenLemmas.{WordsGrow, WithdrawnIsSaid, IsOfDay, walk_of}
use Rattle.recorded_days.proofs.DaySeenLemmas.{DaySeen, start_is_seen}
use Rattle.recorded_days.proofs.AskingSeen.{asking_seen}
use Rattle.recorded_days.proofs.NoticeSeen.{shown_is_seen, told_is_seen}

module _ (date : List ℕ) (row : DealerRow) where
  -- Any event.

  -- what is known of the events of a desk
  pub record Known (word_of : ℕ → Option Settled) (events : List DealerEvent) : Type 0 where
    pub answered : AreAnsweredFrom (record { date = date; row = row; events = [] }) events
    pub one : AreOne word_of (settled_words (desk_after date row events).facts)

  -- what a desk that an event comes to asks
  abbrev pub AskedOfDay : Type 0
  AskedOfDay = (desk : DeskEvents) → ((moment : ℕ) (bytes : List ℕ)
      → IfSome (word_asked (verdict_at desk moment bytes)) (IsOfDay desk.row))
      × ((last : ℕ) → IfSome (number_to_drop (book_at desk) last) (IsOfDay desk.row))

  module _ (grows : WordsGrow) (said : WithdrawnIsSaid) (of_day : AskedOfDay)
      (word_of : ℕ → Option Settled) (events : List DealerEvent) where
    abbrev desk : DeskEvents
    desk = record { date = date; row = row; events = events }

    abbrev word_says : (ℕ × Settled) → Type 0
    word_says asked = word_of asked.0 ≡ Some asked.1

    -- what is known before an event
    pub known_before : (now : DealerEvent) → Known word_of (events ++ now ∷ [])
        → Known word_of events
    known_before now known = record {
      answered = answered_before (record { date = date; row = row; events = [] }) events now
          known.answered;
      one = all_front word_says (settled_words (desk_after date row events).facts)
          (asked_by date row (book_of (desk_after date row events).facts) now)
          (subst (λ (words : List (ℕ × Settled)). All word_says words)
          (grows date row events now) known.one);
    }

    -- what its answer says
    last_one : (now : DealerEvent) → Known word_of (events ++ now ∷ [])
        → All word_says (asked_by date row (book_of (desk_after date row events).facts) now)
    last_one now known =
        all_behind word_says (settled_words (desk_after date row events).facts)
        (asked_by date row (book_of (desk_after date row events).facts) now)
        (subst (λ (words : List (ℕ × Settled)). All word_says words)
        (grows date row events now) known.one)

    pub event_is_seen : (now : DealerEvent) → Known word_of (events ++ now ∷ [])
        → DaySeen date row events → DaySeen date row (events ++ now ∷ [])
    unfolding after_recorded after_due
    event_is_seen (event.Received moment bytes settlement) known before =
        asking_seen date row said events before (event.Received moment bytes) (due.Own moment bytes)
        word_of
        (word_asked (verdict_at desk moment bytes)) settlement
        (answered_last (record { date = date; row = row; events = [] }) events
        (event.Received moment bytes settlement) known.answered)
        ((of_day desk).0 moment bytes)
        (ap (λ (asked : Option ℕ).
        after_own (walk_of date row before.walked before.dues) moment bytes settlement asked)
        (ap asked_in before.walked_is))
        (λ lifted. ap (λ (asked : Option ℕ). view_of date row
        (before.seen ++ event.Received moment bytes
        (option_map (answer_to (view_of date row before.seen lifted)) asked) ∷ []) lifted)
        (ap asked_in before.seen_is))
        (grows date row events (event.Received moment bytes settlement))
        (known_before (event.Received moment bytes settlement) known).one
        (last_one (event.Received moment bytes settlement) known)
      where
        asked_in : DeskState → Option ℕ
        asked_in state = word_asked (dealer_verdict date row (book_of state.facts) moment bytes)
    event_is_seen (event.Shown room ask moment) known before =
        shown_is_seen date row events before grows room ask moment
    event_is_seen (event.Told request close moment) known before =
        told_is_seen date row events before request close moment grows
    event_is_seen (event.Drop last moment settlement) known before =
        asking_seen date row said events before (event.Drop last moment) (due.Drop last moment)
        word_of
        (number_to_drop (book_at desk) last) settlement
        (answered_last (record { date = date; row = row; events = [] }) events
        (event.Drop last moment settlement) known.answered)
        ((of_day desk).1 last)
        (ap (λ (asked : Option ℕ).
        after_drop (walk_of date row before.walked before.dues) last moment settlement asked)
        (ap dropped_in before.walked_is))
        (λ lifted. ap (λ (asked : Option ℕ). view_of date row
        (before.seen ++ event.Drop last moment
        (option_map (answer_to (view_of date row before.seen lifted)) asked) ∷ []) lifted)
        (ap dropped_in before.seen_is))
        (grows date row events (event.Drop last moment settlement))
        (known_before (event.Drop last moment settlement) known).one
        (last_one (event.Drop last moment settlement) known)
      where
        dropped_in : DeskState → Option ℕ
        dropped_in state = number_to_drop (book_of state.facts) last

  -- The law.

  pub day_is_seen : WordsGrow → WithdrawnIsSaid → AskedOfDay → (word_of : ℕ → Option Settled)
      → (events : List DealerEvent) → Known word_of events → DaySeen date row events
  day_is_seen grows said of_day word_of events =
      kept_by_more (λ (so_far : List DealerEvent). Known word_of so_far → DaySeen date row so_far)
      (λ so_far now seen known. event_is_seen grows said of_day word_of so_far now known
      (seen (known_before grows said of_day word_of so_far now known)))
      [] events (λ known. start_is_seen date row)

  pub view_is_sent : (events : List DealerEvent) → DaySeen date row events
      → (desk_after date row events).sent
      ≡ dealer_view date row (dues_after date row events).dues
  view_is_sent events seen =
      ap (λ (state : DeskState). state.sent) (sym seen.seen_is)
      ∙ sym (ap (λ (day : DayDues). dealer_view date row day.dues) seen.walk_is
      ∙ ap (λ (view : ViewState). sent_at view.desk) seen.view_is)
