-- Every word that a dealer asks is answered as the dealer view says.
use Rattle.laws_days.proofs.Common.{List, None, Option, Some, ℕ, [], filter_map, map, option_map}
use Rattle.laws_days.proofs.Common.{option_to_list, refl, ◌++◌, ◌∙◌, ◌∷◌, ◌≡◌, append-nil}
use Rattle.laws_days.proofs.Common.{filter_map-append, Settled, Configuration, dealer_numbered}
use Rattle.laws_days.proofs.Common.{DealerRow, Came, DealerFact, Dropped, Shown, Told, Withdrawn}
use Rattle.laws_days.proofs.Common.{number_to_drop, desk_after, event_facts, settled_facts}
use Rattle.laws_days.proofs.Common.{shown_room, uses_number, verdict_facts, dealer_verdict}
use Rattle.laws_days.proofs.Common.{DealerEvent, answer_to_drop, drop_at, settlement_of}
use Rattle.laws_days.proofs.Common.{audit_trail, settled_undue, verdict_undue, AtDesk, DealerEntry}
use Rattle.laws_days.proofs.Common.{Sent, ShownIn, answer_to_dealer, book_by, entries_of, facts_of}
use Rattle.laws_days.proofs.Common.{message_by, due_by_fact, due_list, Each, Every, Stays}
use Rattle.laws_days.proofs.Common.{each_append, every_both, seen_is_kept, Seen, start_seen}
use Rattle.laws_days.proofs.Common.{kept_by_all, IsKept, of_dealer, Step}
use Rattle.std.proofs.lemmas.List.{append_cancel_left}
use Rattle.std.proofs.lemmas.List.Sums.{fold-append}
use Rattle.dealer_desk.specs.DealerFacts.{Late, book_of}
use Rattle.dealer_desk.specs.SettledWords.{asked_by, asked_word, settled_word, settled_words}
use Rattle.dealer_desk.specs.declared.events.DealerEvent.TheVariants as event
use Rattle.dealer_desk.specs.declared.standing.Withdrawal.TheVariants as by
use Rattle.step_replay.specs.DealerGrowth.{desk_push}
use Rattle.step_replay.specs.DealerView.{ViewState, after_due, answer_to, view_after}
use Rattle.step_replay.specs.DueList.{due_by}
use Rattle.laws_days.proofs.ListLemmas.{every_map, first_grown}
use Rattle.laws_days.specs.Answers.{asked_at, next_settlement, settlement_by_view, settlement_in}

-- what one event more asks at a desk
abbrev pub WordsAsked : Type 0
WordsAsked = (date : List ℕ) (row : DealerRow) (events : List DealerEvent) (more : DealerEvent)
    → settled_words (desk_after date row (events ++ more ∷ [])).facts
    ≡ settled_words (desk_after date row events).facts
    ++ asked_by date row (book_of (desk_after date row events).facts) more

-- a word with its answer by a view
abbrev IsAnswer : ViewState → ℕ × Settled → Type 0
IsAnswer view word = word.1 ≡ answer_to view word.0

-- an entry of which nothing is due, and that answers a word by this view, if one
abbrev IsQuiet : ViewState → DealerEntry → Type 0
IsQuiet view entry =
    (due_by entry ≡ None) × Every (IsAnswer view) (option_to_list (settlement_in entry))

quiet_facts : (view : ViewState) (facts : List DealerFact) → filter_map due_by_fact facts ≡ []
    → Every (IsAnswer view) (settled_words facts) → Every (IsQuiet view) (map AtDesk facts)
quiet_facts view [] undue words = tt
quiet_facts view (Came moment bytes used ∷ facts) undue words = cc
quiet_facts view (Shown ask moment ∷ facts) undue words = cc
quiet_facts view (Told request close moment ∷ facts) undue words = cc
quiet_facts view (Dropped last moment ∷ facts) undue words = cc
quiet_facts view (Withdrawn quote how ∷ facts) undue words =
    ((refl, (words.0, tt)), quiet_facts view facts undue words.1)
quiet_facts view (Late quote ∷ facts) undue words =
    ((refl, (words.0, tt)), quiet_facts view facts undue words.1)
quiet_facts view (fact ∷ facts) undue words = ((refl, tt), quiet_facts view facts undue words)

-- the first word that some facts settle is settled next
next_stays : (word : ℕ × Settled) (entries more : List DealerEntry)
    → next_settlement entries ≡ Some word → next_settlement (entries ++ more) ≡ Some word
next_stays word entries more is =
    first_grown next_settlement settlement_in (λ entry later. refl) refl word entries more is

next_settled : (facts : List DealerFact) (word : ℕ × Settled) → settled_words facts ≡ word ∷ []
    → next_settlement (map AtDesk facts) ≡ Some word
next_settled [] word is = cc
next_settled (Withdrawn quote how ∷ facts) word is = cc
next_settled (Late quote ∷ facts) word is = cc
next_settled (fact ∷ facts) word is = next_settled facts word is

module _ (date : List ℕ) (row : DealerRow) where
  -- the words that an entry asks are answered behind it as the view says, and so is the word that
  -- it answers
  pub record IsAnswered (before : List DealerEntry) (entry : DealerEntry) (after : List DealerEntry)
      : Type 0 where
    pub asked : (quote : ℕ) → asked_at date row before entry ≡ Some quote
        → next_settlement after ≡ Some (quote, settlement_by_view date row before quote)
    pub answered : (quote : ℕ) (settlement : Settled)
        → settlement_in entry ≡ Some (quote, settlement)
        → settlement ≡ settlement_by_view date row before quote

  answered_stays : Stays IsAnswered
  answered_stays before entry after more holds = record {
    asked = λ quote asks. next_stays _ after more (holds.asked quote asks);
    answered = holds.answered;
  }

  -- the view of a trail so far
  abbrev view_at : List DealerEntry → ViewState
  view_at before = view_after date row (due_list before)

  -- an event at the desk lifts no quote
  fact_keeps : (before : List DealerEntry) (fact : DealerFact)
      → (view_at (before ++ AtDesk fact ∷ [])).lifted ≡ (view_at before).lifted
  unfolding after_due
  fact_keeps before (Came moment bytes used) = rw (filter_map-append, fold-append) refl
  fact_keeps before fact = rw (filter_map-append, fold-append) refl

  asks_none : (before : List DealerEntry) (entry : DealerEntry) → due_by entry ≡ None
      → asked_at date row before entry ≡ None
  asks_none before (AtDesk (Came moment bytes used)) none = cc
  asks_none before (AtDesk (Dropped last moment)) none = cc
  asks_none before entry none = refl

  each_quiet : (before entries : List DealerEntry) → Every (IsQuiet (view_at before)) entries
      → Each IsAnswered before entries
  each_quiet before [] quiet = tt
  each_quiet before (entry ∷ entries) quiet = (
    record {
      asked = λ quote asks. cc (asks_none before entry quiet.0.0);
      answered = λ quote settlement says. (rw says at quiet.0.1).0;
    },
    each_quiet (before ++ entry ∷ []) entries
        (rw (filter_map-append due_by before (entry ∷ []), quiet.0.0, append-nil) quiet.1),
  )

  -- what is kept
  abbrev Kept : List DealerEntry → Type 0
  Kept trail = Seen date row trail × Each IsAnswered [] trail

  module _ (law : WordsAsked) (trail : List DealerEntry) (before : Kept trail) where
    -- the word that is asked, if one, with its answer
    abbrev answers : Option ℕ → List (ℕ × Settled)
    answers asked = asked_word asked (option_map (answer_to_dealer trail) asked)

    word_answered : (first : DealerFact) (asked : Option ℕ)
        → Every (IsAnswer (view_at (trail ++ AtDesk first ∷ []))) (answers asked)
    word_answered first None = tt
    word_answered first (Some quote) =
        (rw (fact_keeps trail first, before.0.view_is, before.0.lifted_are quote) refl, tt)

    -- after an event that adds a fact that may ask a word, and others of which nothing is due
    event_kept : (more : DealerEvent) (first : DealerFact) (rest : List DealerFact)
        → Seen date row (trail ++ entries_of date row trail more)
        → event_facts date row (book_by trail) more ≡ first ∷ rest
        → filter_map due_by_fact rest ≡ [] → settled_word first ≡ None
        → asked_by date row (book_by trail) more ≡ answers (asked_at date row trail (AtDesk first))
        → Kept (trail ++ entries_of date row trail more)
    unfolding entries_of
    event_kept more first rest seen is undue still words = (
      seen,
      each_append IsAnswered answered_stays [] trail _ before.1 (rw is (
        record {
          asked = λ quote so. next_stays _ (map AtDesk rest ++ rooms) sent
              (next_stays _ (map AtDesk rest) rooms (next quote so));
          answered = λ quote settlement says. cc;
        },
        each_quiet (trail ++ AtDesk first ∷ []) (map AtDesk rest ++ rooms ++ sent)
            (every_both Quiet (map AtDesk rest ++ rooms) sent
            (every_both Quiet (map AtDesk rest) rooms
            (quiet_facts (view_at (trail ++ AtDesk first ∷ [])) rest undue
            (rw settles (word_answered first _)))
            (every_map Quiet ShownIn _ (λ room among. (refl, tt))))
            (every_map Quiet Sent _ (λ message among. (refl, tt)))),
      )),
    )
      where
        Quiet : DealerEntry → Type 0
        Quiet entry = IsQuiet (view_at (trail ++ AtDesk first ∷ [])) entry

        rooms : List DealerEntry
        rooms = map ShownIn (option_to_list (shown_room more))

        sent : List DealerEntry
        sent = map Sent (option_to_list (message_by date row trail more))

        settles : settled_words rest ≡ answers (asked_at date row trail (AtDesk first))
        settles =
            let grown = rw (desk_push, before.0.state_is, filter_map-append) at
            (law date row before.0.events more) in
            let added = append_cancel_left (settled_words (facts_of trail)) _ _ grown in
            (rw (is, still) at added) ∙ words

        next : (quote : ℕ) → asked_at date row trail (AtDesk first) ≡ Some quote
            → next_settlement (map AtDesk rest)
            ≡ Some (quote, settlement_by_view date row trail quote)
        next quote so =
            rw (before.0.view_is, before.0.lifted_are quote)
            (next_settled rest (quote, answer_to_dealer trail quote) (rw so at settles))

  answers_are_kept : WordsAsked → IsKept date row Kept
  unfolding event_facts
  answers_are_kept law = record {
    own = λ trail moment bytes before.
        let v = dealer_verdict date row (book_by trail) moment bytes in
        event_kept law trail before (event.Received moment bytes (settlement_of trail v))
        (Came moment bytes (uses_number v)) (verdict_facts v (settlement_of trail v))
        (views.own trail moment bytes before.0) refl (verdict_undue v (settlement_of trail v)) refl
        refl;
    drop = λ trail last moment before.
        event_kept law trail before (drop_at trail last moment) (Dropped last moment)
        (settled_facts (number_to_drop (book_by trail) last) by.Cancel (answer_to_drop trail last))
        (views.drop trail last moment before.0) refl (settled_undue _ by.Cancel _) refl refl;
    shown = λ trail room ask moment before.
        event_kept law trail before (event.Shown room ask moment) (Shown ask moment) []
        (views.shown trail room ask moment before.0) refl refl refl refl;
    told = λ trail request close moment may before.
        event_kept law trail before (event.Told request close moment) (Told request close moment) []
        (views.told trail request close moment may before.0) (rw may refl) refl refl refl;
    lifted = λ trail quote within still before. (
      views.lifted trail quote within still before.0,
      each_append IsAnswered answered_stays [] trail _ before.1
          (record { asked = λ other asks. cc; answered = λ other settlement says. cc }, tt),
    );
  }
    where
      views : IsKept date row (Seen date row)
      views = seen_is_kept date row

-- at each place of a dealer's trail
pub are_answered : WordsAsked → (config : Configuration) (steps : List Step) (dealer : ℕ)
    (row : DealerRow) → dealer_numbered config dealer ≡ Some row
    → Each (IsAnswered config.date row) [] (of_dealer dealer (audit_trail config steps).facts)
are_answered law config steps dealer row is =
    (kept_by_all config dealer row is (Kept config.date row)
    (answers_are_kept config.date row law) (start_seen config.date row, tt) steps).1
