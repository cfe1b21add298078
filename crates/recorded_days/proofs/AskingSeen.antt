-- A message or a drop at a dealer's desk, in the dealer view of what was due.
use Rattle.std.proofs.Common.{◌≡◌, ℕ, ◌==◌, Bool, true, false, ◌||◌, List, [], ◌∷◌, ◌++◌, Option}
use Rattle.std.proofs.Common.{Some, None, option_map, is_some, IfSome, if◌then◌else◌, refl, sym, ap}
use Rattle.std.proofs.Common.{◌∙◌, ◌⊎◌, eq-eqb, inl, inr}
use Rattle.std.specs.List.{list_any}
use Rattle.std.proofs.lemmas.List.{append-nil}
use Rattle.std.proofs.lemmas.List.Elements.{All-head}
use Rattle.std.proofs.lemmas.List.Folds.{list_any-append}
use Rattle.std.proofs.Math.Bool.{or-false}
use Rattle.quote_word.specs.declared.settled.Settled.{Settled}
use Rattle.quote_word.specs.declared.settled.Settled.TheVariants.{Withdrawn, Lifted}
use Rattle.venue_rows.specs.declared.dealer_rows.DealerRow.{DealerRow}
use Rattle.dealer_desk.specs.DealerOutput.{DeskState, desk_after}
use Rattle.dealer_desk.specs.SettledWords.{settled_words, asked_word}
use Rattle.dealer_desk.specs.DeskLaws.{is_lifted, is_taken_back, says_lifted, says_withdrawn}
use Rattle.dealer_desk.specs.declared.events.DealerEvent.{DealerEvent}
use Rattle.step_replay.specs.DealerView.{ViewState, after_due, answer_to, view_after}
use Rattle.step_replay.specs.declared.dues.Due.{Due}
use Rattle.step_replay.specs.declared.dues.Due.TheVariants as due
use Rattle.recorded_days.specs.DayDues.{after_recorded, settlement_taken, lifting_learned}
use Rattle.recorded_days.proofs.DayDueLemmas.{AreOne, none_says}
use Rattle.recorded_days.proofs.DeskLemmas.{view_of}
use Rattle.recorded_days.proofs.DaySeenLemmas.{WithdrawnIsSaid, IsOfDay, walk_of, DaySeen, or_true}
use Rattle.recorded_days.proofs.DaySeenLemmas.{pushed, walk_pushed, view_pushed, lifting_seen}

module _ (date : List ℕ) (row : DealerRow) where
  -- A message or a drop.

  module _ (said : WithdrawnIsSaid) (events : List DealerEvent) (before : DaySeen date row events)
      (put : Option Settled → DealerEvent) (item : Due) (word_of : ℕ → Option Settled) where
    abbrev words : List (ℕ × Settled)
    words = settled_words (desk_after date row events).facts

    abbrev view_with : List ℕ → ViewState
    view_with lifted = view_of date row before.seen lifted

    abbrev told : List ℕ → Option Settled → ViewState
    told lifted settlement = view_of date row (before.seen ++ put settlement ∷ []) lifted

    not_lifted : (quote : ℕ) → word_of quote ≡ Some Withdrawn → AreOne word_of words
        → list_any (λ (one : ℕ). one == quote) before.lifted ≡ false
    not_lifted quote is one =
        before.lifted_are quote
        ∙ none_says word_of quote Withdrawn is_lifted is kinds words one
      where
        kinds : (other : Settled) → (is_lifted other ≡ false) ⊎ (other ≡ Withdrawn → ⊥)
        kinds Withdrawn = inl refl
        kinds Lifted = inr (λ same. cc)

    not_withdrawn : (quote : ℕ) → word_of quote ≡ Some Lifted → AreOne word_of words
        → list_any (says_withdrawn quote) (settled_words (desk_after date row before.seen).facts)
        ≡ false
    not_withdrawn quote is one =
        ap (λ (state : DeskState). list_any (says_withdrawn quote) (settled_words state.facts))
        before.seen_is
        ∙ none_says word_of quote Lifted is_taken_back is kinds words one
      where
        kinds : (other : Settled) → (is_taken_back other ≡ false) ⊎ (other ≡ Lifted → ⊥)
        kinds Withdrawn = inr (λ same. cc)
        kinds Lifted = inl refl

    pub asking_seen : (asked : Option ℕ) (settlement : Option Settled)
        → is_some settlement ≡ is_some asked → IfSome asked (IsOfDay row)
        → after_recorded (walk_of date row before.walked before.dues) (put settlement)
        ≡ walk_of date row (before.walked ++ put (settlement_taken asked settlement) ∷ [])
        (before.dues ++ lifting_learned asked settlement ++ item ∷ [])
        → ((lifted : List ℕ) → after_due (view_with lifted) item
        ≡ told lifted (option_map (answer_to (view_with lifted)) asked))
        → settled_words (desk_after date row (events ++ put settlement ∷ [])).facts
        ≡ words ++ asked_word asked settlement
        → AreOne word_of words → AreOne word_of (asked_word asked settlement)
        → DaySeen date row (events ++ put settlement ∷ [])
    asking_seen None None both_are of_day recorded due_is said_now one last = record {
      seen = before.seen ++ put None ∷ [];
      walked = before.walked ++ put None ∷ [];
      dues = before.dues ++ [] ++ item ∷ [];
      lifted = before.lifted;
      walk_is = walk_pushed date row events (put None) before.walked before.dues _ before.walk_is
          recorded;
      view_is = view_pushed date row (before.dues ++ []) item (view_with before.lifted) _
          (ap (view_after date row) (append-nil before.dues) ∙ before.view_is)
          (due_is before.lifted);
      walked_is = pushed date row before.walked events (put None) before.walked_is;
      seen_is = pushed date row before.seen events (put None) before.seen_is;
      lifted_are = λ quote. before.lifted_are quote
          ∙ sym (ap (list_any (says_lifted quote)) (said_now ∙ append-nil words));
    }
    asking_seen None (Some settlement) both_are of_day recorded due_is said_now one last = absurd cc
    asking_seen (Some quote) None both_are of_day recorded due_is said_now one last = absurd cc
    asking_seen (Some quote) (Some Withdrawn) both_are of_day recorded due_is said_now one last =
        let is : word_of quote ≡ Some Withdrawn =
        All-head (λ (asked : ℕ × Settled). word_of asked.0 ≡ Some asked.1) (quote, Withdrawn) []
        last in
        let answered : answer_to (view_with before.lifted) quote ≡ Withdrawn =
        ap (λ (b : Bool). if b then Lifted else Withdrawn) (not_lifted quote is one) in
        record {
          seen = before.seen ++ put (Some Withdrawn) ∷ [];
          walked = before.walked ++ put (Some Withdrawn) ∷ [];
          dues = before.dues ++ [] ++ item ∷ [];
          lifted = before.lifted;
          walk_is = walk_pushed date row events (put (Some Withdrawn)) before.walked before.dues _
              before.walk_is recorded;
          view_is = view_pushed date row (before.dues ++ []) item (view_with before.lifted) _
              (ap (view_after date row) (append-nil before.dues) ∙ before.view_is)
              (due_is before.lifted
              ∙ ap (λ (a : Settled). told before.lifted (Some a)) answered);
          walked_is = pushed date row before.walked events (put (Some Withdrawn)) before.walked_is;
          seen_is = pushed date row before.seen events (put (Some Withdrawn)) before.seen_is;
          lifted_are = λ other. before.lifted_are other
              ∙ sym (ap (list_any (says_lifted other)) said_now
              ∙ list_any-append (says_lifted other) words ((quote, Withdrawn) ∷ [])
              ∙ or-false (list_any (says_lifted other) words));
        }
    asking_seen (Some quote) (Some Lifted) both_are of_day recorded due_is said_now one last =
        let is : word_of quote ≡ Some Lifted =
        All-head (λ (asked : ℕ × Settled). word_of asked.0 ≡ Some asked.1) (quote, Lifted) []
        last in
        let more = before.lifted ++ quote ∷ [] in
        let here : list_any (λ (one_of : ℕ). one_of == quote) more ≡ true =
        list_any-append (λ (one_of : ℕ). one_of == quote) before.lifted (quote ∷ [])
        ∙ ap (λ (b : Bool). list_any (λ (one_of : ℕ). one_of == quote) before.lifted || (b || false))
        (eq-eqb quote quote refl)
        ∙ or_true (list_any (λ (one_of : ℕ). one_of == quote) before.lifted) in
        let answered : answer_to (view_with more) quote ≡ Lifted =
        ap (λ (b : Bool). if b then Lifted else Withdrawn) here in
        record {
          seen = before.seen ++ put (Some Lifted) ∷ [];
          walked = before.walked ++ put (Some Lifted) ∷ [];
          dues = before.dues ++ (due.Lifted quote ∷ []) ++ item ∷ [];
          lifted = more;
          walk_is = walk_pushed date row events (put (Some Lifted)) before.walked before.dues _
              before.walk_is recorded;
          view_is = view_pushed date row (before.dues ++ due.Lifted quote ∷ []) item (view_with
              more) _
              (view_pushed date row before.dues (due.Lifted quote) (view_with before.lifted)
              (view_with more)
              before.view_is
              (lifting_seen date row said before.seen before.lifted quote of_day
              (not_withdrawn quote is one)))
              (due_is more ∙ ap (λ (a : Settled). told more (Some a)) answered);
          walked_is = pushed date row before.walked events (put (Some Lifted)) before.walked_is;
          seen_is = pushed date row before.seen events (put (Some Lifted)) before.seen_is;
          lifted_are = λ other.
              list_any-append (λ (one_of : ℕ). one_of == other) before.lifted (quote ∷ [])
              ∙ ap (λ (b : Bool). b || ((quote == other) || false)) (before.lifted_are other)
              ∙ sym (ap (list_any (says_lifted other)) said_now
              ∙ list_any-append (says_lifted other) words ((quote, Lifted) ∷ []));
        }
