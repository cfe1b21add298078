-- The dealer view of what was due to a dealer by its trail has the trail's facts and messages.
use Rattle.std.proofs.Common.{◌≡◌, ℕ, ◌==◌, Bool, true, false, ◌||◌, ◌&&◌, not, nat_le, List, []}
use Rattle.std.proofs.Common.{◌∷◌, ◌++◌, filter_map, Option, Some, None, option_map, is_some}
use Rattle.std.proofs.Common.{if◌then◌else◌, refl, sym, ap, ◌∙◌, ap₂}
use Rattle.std.specs.Option.{option_to_list}
use Rattle.std.specs.List.{list_any}
use Rattle.std.proofs.lemmas.List.{append-nil}
use Rattle.std.proofs.lemmas.List.Elements.{filter_map-append}
use Rattle.std.proofs.lemmas.List.Folds.{list_any-append}
use Rattle.std.proofs.lemmas.List.Sums.{fold-append}
use Rattle.quote_word.specs.declared.settled.Settled.{Settled}
use Rattle.quote_word.specs.declared.settled.Settled.TheVariants as settled
use Rattle.venue_rows.specs.declared.dealer_rows.DealerRow.{DealerRow}
use Rattle.market_terms.specs.declared.asks.Ask.{Ask}
use Rattle.market_terms.specs.declared.closes.Close.{Close}
use Rattle.market_terms.specs.declared.rooms.RoomRef.{RoomRef}
use Rattle.dealer_desk.specs.DealerFacts.{DealerBook, Told, book_of, number_to_drop}
use Rattle.dealer_desk.specs.DealerRules.{dealer_verdict}
use Rattle.dealer_desk.specs.DealerOutput.{DeskState, desk_after, after_event, event_facts}
use Rattle.dealer_desk.specs.DealerOutput.{event_message, moment_of, next_message, word_asked}
use Rattle.dealer_desk.specs.DealerOutput.{closable}
use Rattle.dealer_desk.specs.DeskLaws.{withdraws}
use Rattle.dealer_desk.specs.declared.standing.Withdrawal.TheVariants as by
use Rattle.dealer_desk.specs.declared.events.DealerEvent.{DealerEvent}
use Rattle.dealer_desk.specs.declared.events.DealerEvent.TheVariants as event
use Rattle.step_replay.specs.DealerTrail.{DealerEntry, Lifted, facts_of, book_by, sent_by}
use Rattle.step_replay.specs.DealerTrail.{was_lifted, was_withdrawn, answer_to_dealer, lifts}
use Rattle.step_replay.specs.DealerTrail.{entries_of, fact_in, message_in}
use Rattle.step_replay.specs.DueList.{due_by, due_by_fact, due_list}
use Rattle.step_replay.specs.DealerView.{ViewState, after_due, view_after, view_at_start}
use Rattle.step_replay.specs.DealerView.{answer_to, no_room}
use Rattle.step_replay.specs.declared.dues.Due.{Due}
use Rattle.step_replay.specs.declared.dues.Due.TheVariants as due
use Rattle.step_replay.specs.DealerGrowth.{desk_with, desk_push, sent_is, settled_undue}
use Rattle.step_replay.specs.DealerGrowth.{verdict_undue, facts_grown, sent_grown, due_grown}
use Rattle.step_replay.specs.DealerGrowth.{lifted_grown}

-- the view at a desk with these events, where these quotes are lifted
abbrev pub view_of : List ℕ → DealerRow → List DealerEvent → List ℕ → ViewState
view_of date row events lifted = record {
  desk = record { date = date; row = row; events = events };
  lifted = lifted;
}

-- The view of what was due to a dealer stands at the desk of its trail.
pub record Seen (date : List ℕ) (row : DealerRow) (trail : List DealerEntry) : Type 0 where
  pub events : List DealerEvent
  pub lifted : List ℕ
  pub view_is : view_after date row (due_list trail) ≡ view_of date row events lifted
  pub state_is : desk_after date row events
      ≡ record { facts = facts_of trail; sent = sent_by trail }
  pub lifted_are : (quote : ℕ)
      → list_any (λ (one : ℕ). one == quote) lifted ≡ was_lifted trail quote

map_same : {A B : Type 0} (f g : A → B) → ((x : A) → f x ≡ g x) → (o : Option A)
    → option_map f o ≡ option_map g o
map_same f g same None = refl
map_same f g same (Some x) = ap (λ y. Some y) (same x)

module _ (date : List ℕ) (row : DealerRow) (trail : List DealerEntry) (more : DealerEvent) where
  -- the trail with the event
  abbrev grown : List DealerEntry
  grown = trail ++ entries_of date row trail more

  -- The view has the event with another room at most.
  pub event_seen : (seen : DealerEvent) (item : Due)
      → filter_map due_by_fact (event_facts date row (book_by trail) more) ≡ item ∷ []
      → event_facts date row (book_by trail) seen ≡ event_facts date row (book_by trail) more
      → event_message date row (book_by trail) seen ≡ event_message date row (book_by trail) more
      → moment_of seen ≡ moment_of more
      → (before : Seen date row trail)
      → after_due (view_of date row before.events before.lifted) item
      ≡ view_of date row (before.events ++ seen ∷ []) before.lifted
      → Seen date row grown
  event_seen seen item is same_facts same_message same_moment before view = record {
    events = before.events ++ seen ∷ [];
    lifted = before.lifted;
    view_is = ap (view_after date row) (due_grown date row trail more item is)
        ∙ fold-append after_due (view_at_start date row) (due_list trail) (item ∷ [])
        ∙ ap (λ v. after_due v item) before.view_is
        ∙ view;
    state_is = desk_push date row before.events seen
        ∙ ap (λ state. after_event date row state seen) before.state_is
        ∙ ap₂ desk_with (ap (λ l. facts_of trail ++ l) same_facts ∙ sym (facts_grown date row trail
        more))
        (sent_is date row (sent_by trail) (moment_of seen)
        (event_message date row (book_by trail) seen)
        ∙ ap (λ m. sent_by trail ++ option_to_list
        (option_map (next_message date row (sent_by trail) (moment_of seen)) m)) same_message
        ∙ ap (λ m. sent_by trail ++ option_to_list
        (option_map (next_message date row (sent_by trail) m)
        (event_message date row (book_by trail) more))) same_moment
        ∙ sym (sent_grown date row trail more));
    lifted_are = λ quote. before.lifted_are quote ∙ sym (lifted_grown date row trail more quote);
  }

-- The five kinds of what is due.

module _ (date : List ℕ) (row : DealerRow) (trail : List DealerEntry) (before : Seen date row trail)
  where
    -- the view as it stands
    abbrev view : ViewState
    view = view_of date row before.events before.lifted

    -- the book is that of the trail
    book_is : book_of (desk_after date row before.events).facts ≡ book_by trail
    book_is = ap (λ (state : DeskState). book_of state.facts) before.state_is

    answer_is : (quote : ℕ) → answer_to view quote ≡ answer_to_dealer trail quote
    answer_is quote =
        ap (λ (b : Bool). if b then settled.Lifted else settled.Withdrawn) (before.lifted_are quote)

    -- the answer to the word that a message or a drop asks
    answered : (asked : DealerBook → Option ℕ)
        → option_map (answer_to view) (asked (book_of (desk_after date row before.events).facts))
        ≡ option_map (answer_to_dealer trail) (asked (book_by trail))
    answered asked =
        ap (λ (b : DealerBook). option_map (answer_to view) (asked b)) book_is
        ∙ map_same (answer_to view) (answer_to_dealer trail) answer_is (asked (book_by trail))

    -- the word that a message asks
    abbrev asked_by_message : ℕ → List ℕ → DealerBook → Option ℕ
    asked_by_message moment bytes book = word_asked (dealer_verdict date row book moment bytes)

    pub own_seen : (moment : ℕ) (bytes : List ℕ) (settlement : Option Settled)
        → settlement ≡ option_map (answer_to_dealer trail)
        (asked_by_message moment bytes (book_by trail))
        → Seen date row (trail ++ entries_of date row trail
        (event.Received moment bytes settlement))
    unfolding event_facts after_due
    own_seen moment bytes settlement is =
        event_seen date row trail (event.Received moment bytes settlement)
        (event.Received moment bytes settlement)
        (due.Own moment bytes)
        (ap (λ l. due.Own moment bytes ∷ l)
        (verdict_undue (dealer_verdict date row (book_by trail) moment bytes) settlement))
        refl refl refl before
        (ap (λ (a : Option Settled).
        view_of date row (before.events ++ event.Received moment bytes a ∷ []) before.lifted)
        (answered (asked_by_message moment bytes) ∙ sym is))

    pub drop_seen : (last moment : ℕ) (settlement : Option Settled)
        → settlement ≡ option_map (answer_to_dealer trail) (number_to_drop (book_by trail) last)
        → Seen date row (trail ++ entries_of date row trail (event.Drop last moment settlement))
    unfolding event_facts after_due
    drop_seen last moment settlement is =
        event_seen date row trail (event.Drop last moment settlement)
        (event.Drop last moment settlement)
        (due.Drop last moment)
        (ap (λ l. due.Drop last moment ∷ l)
        (settled_undue (number_to_drop (book_by trail) last) by.Cancel settlement))
        refl refl refl before
        (ap (λ (a : Option Settled).
        view_of date row (before.events ++ event.Drop last moment a ∷ []) before.lifted)
        (answered (λ book. number_to_drop book last) ∙ sym is))

    pub shown_seen : (room : RoomRef) (ask : Ask) (moment : ℕ)
        → Seen date row (trail ++ entries_of date row trail (event.Shown room ask moment))
    unfolding event_facts event_message after_due
    shown_seen room ask moment =
        event_seen date row trail (event.Shown room ask moment) (event.Shown no_room ask moment)
        (due.Shown ask moment) refl refl refl refl before refl

    pub told_seen : (request : ℕ) (close : Close) (moment : ℕ)
        → is_some (closable (book_by trail) request) ≡ true
        → Seen date row (trail ++ entries_of date row trail (event.Told request close moment))
    unfolding event_facts after_due
    told_seen request close moment is =
        event_seen date row trail (event.Told request close moment) (event.Told request close moment)
        (due.Closed request close moment)
        (ap (λ (b : Bool). filter_map due_by_fact
        (if b then Told request close moment ∷ [] else [])) is)
        refl refl refl before
        (ap (λ (b : Bool). view_if b (event.Told request close moment))
        (ap (λ (book : DealerBook). is_some (closable book request)) book_is ∙ is))
      where
        view_if : Bool → DealerEvent → ViewState
        view_if b more = record view {
          desk = if b then record view.desk { events = before.events ++ more ∷ [] } else view.desk;
        }

    -- a quote that the dealer can have in its day, and that was not withdrawn, is lifted
    pub lifted_seen : (quote : ℕ) → (nat_le 1 quote && nat_le quote row.quotes) ≡ true
        → was_withdrawn trail quote ≡ false
        → Seen date row (trail ++ Lifted quote ∷ [])
    unfolding after_due
    lifted_seen quote within still = record {
      events = before.events;
      lifted = before.lifted ++ quote ∷ [];
      view_is = ap (view_after date row) (filter_map-append due_by trail (Lifted quote ∷ []))
          ∙ fold-append after_due (view_at_start date row) (due_list trail) (due.Lifted quote ∷ [])
          ∙ ap (λ v. after_due v (due.Lifted quote)) before.view_is
          ∙ ap view_if counts;
      state_is = before.state_is
          ∙ ap₂ desk_with
          (sym (filter_map-append fact_in trail (Lifted quote ∷ []) ∙ append-nil (facts_of trail)))
          (sym (filter_map-append message_in trail (Lifted quote ∷ []) ∙ append-nil (sent_by trail)));
      lifted_are = λ other.
          list_any-append (λ (one : ℕ). one == other) before.lifted (quote ∷ [])
          ∙ ap (λ b. b || ((quote == other) || false)) (before.lifted_are other)
          ∙ sym (list_any-append (lifts other) trail (Lifted quote ∷ []));
    }
      where
        counts : (nat_le 1 quote && nat_le quote row.quotes
            && not (list_any (withdraws quote) (desk_after date row before.events).facts)) ≡ true
        counts =
            ap (λ (state : DeskState). nat_le 1 quote && nat_le quote row.quotes
            && not (list_any (withdraws quote) state.facts)) before.state_is
            ∙ rw (within, still) refl

        view_if : Bool → ViewState
        view_if b = if b then record view { lifted = before.lifted ++ quote ∷ [] } else view

-- at the start of the day nothing stands
pub start_seen : (date : List ℕ) (row : DealerRow) → Seen date row []
unfolding desk_after
start_seen date row = record {
  events = [];
  lifted = [];
  view_is = refl;
  state_is = refl;
  lifted_are = λ quote. refl;
}
