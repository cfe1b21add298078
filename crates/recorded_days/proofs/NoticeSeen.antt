-- A request that is shown and a notice, in the dealer view of what was due.
use Rattle.std.proofs.Common.{◌≡◌, ℕ, Bool, true, false, List, [], ◌∷◌, ◌++◌, Option, Some, None}
use Rattle.std.proofs.Common.{option_map, is_some, if◌then◌else◌, refl, sym, ap, ◌∙◌}
use Rattle.std.specs.List.{list_any}
use Rattle.std.proofs.lemmas.List.{append-nil}
use Rattle.venue_rows.specs.declared.dealer_rows.DealerRow.{DealerRow}
use Rattle.market_terms.specs.declared.asks.Ask.{Ask}
use Rattle.market_terms.specs.declared.closes.Close.{Close}
use Rattle.market_terms.specs.declared.rooms.RoomRef.{RoomRef}
use Rattle.dealer_desk.specs.DealerFacts.{Told, book_of}
use Rattle.dealer_desk.specs.DealerDesk.{DeskEvents}
use Rattle.dealer_desk.specs.DealerOutput.{DeskState, after_event, closable, desk_after}
use Rattle.dealer_desk.specs.DealerOutput.{event_facts, event_message, notice_of, sent_with}
use Rattle.dealer_desk.specs.SettledWords.{settled_words}
use Rattle.dealer_desk.specs.DeskLaws.{says_lifted}
use Rattle.dealer_desk.specs.declared.standing.StandingRequest.{StandingRequest}
use Rattle.dealer_desk.specs.declared.events.DealerEvent.{DealerEvent}
use Rattle.dealer_desk.specs.declared.events.DealerEvent.TheVariants as event
use Rattle.step_replay.specs.DealerView.{ViewState, after_due, no_room}
use Rattle.step_replay.specs.declared.dues.Due.TheVariants as due
use Rattle.recorded_days.specs.DayDues.{DayDues, after_recorded}
use Rattle.recorded_days.proofs.DeskLemmas.{both, view_of}
use Rattle.recorded_days.proofs.DaySeenLemmas.{WordsGrow, DaySeen, pushed, walk_pushed, view_pushed}
use Rattle.step_replay.specs.DealerGrowth.{desk_push}

module _ (date : List ℕ) (row : DealerRow) where
  -- A request is shown.

  pub shown_is_seen : (events : List DealerEvent) → DaySeen date row events → WordsGrow
      → (room : RoomRef) (ask : Ask) (moment : ℕ)
      → DaySeen date row (events ++ event.Shown room ask moment ∷ [])
  unfolding after_recorded after_due event_facts event_message
  shown_is_seen events before grows room ask moment = record {
    seen = before.seen ++ event.Shown no_room ask moment ∷ [];
    walked = before.walked ++ event.Shown room ask moment ∷ [];
    dues = before.dues ++ due.Shown ask moment ∷ [];
    lifted = before.lifted;
    walk_is = walk_pushed date row events (event.Shown room ask moment) before.walked before.dues _
        before.walk_is refl;
    view_is = view_pushed date row before.dues (due.Shown ask moment)
        (view_of date row before.seen before.lifted) _ before.view_is refl;
    walked_is = pushed date row before.walked events (event.Shown room ask moment) before.walked_is;
    seen_is = pushed date row before.seen events (event.Shown no_room ask moment) before.seen_is
        ∙ desk_push date row events (event.Shown no_room ask moment)
        ∙ sym (desk_push date row events (event.Shown room ask moment));
    lifted_are = λ quote. before.lifted_are quote
        ∙ sym (ap (list_any (says_lifted quote))
        (grows date row events (event.Shown room ask moment)
        ∙ append-nil (settled_words (desk_after date row events).facts)));
  }

  -- A notice.

  none_of : {A : Type 0} (o : Option A) → is_some o ≡ false → o ≡ None
  none_of None is = refl
  none_of (Some x) is = absurd cc

  -- a notice that is not due changes nothing
  untold_is_nothing : (state : DeskState) (request : ℕ) (close : Close) (moment : ℕ)
      → is_some (closable (book_of state.facts) request) ≡ false
      → after_event date row state (event.Told request close moment) ≡ state
  unfolding event_facts event_message
  untold_is_nothing state request close moment is =
      both _ _ _ _
      (ap (λ (b : Bool).
      state.facts ++ (if b then Told request close moment ∷ [] else [])) is
      ∙ append-nil state.facts)
      (ap (λ (o : Option StandingRequest). sent_with date row state.sent moment
      (option_map (notice_of (book_of state.facts) close) o))
      (none_of (closable (book_of state.facts) request) is))

  -- a list with an event more, or without it
  abbrev with_if : Bool → List DealerEvent → DealerEvent → List DealerEvent
  with_if true events now = events ++ now ∷ []
  with_if false events now = events

  told_state : (b : Bool) (others events : List DealerEvent) (request : ℕ) (close : Close)
      (moment : ℕ) → is_some (closable (book_of (desk_after date row events).facts) request) ≡ b
      → desk_after date row others ≡ desk_after date row events
      → desk_after date row (with_if b others (event.Told request close moment))
      ≡ desk_after date row (events ++ event.Told request close moment ∷ [])
  told_state true others events request close moment is same =
      pushed date row others events (event.Told request close moment) same
  told_state false others events request close moment is same =
      same ∙ sym (desk_push date row events (event.Told request close moment)
      ∙ untold_is_nothing (desk_after date row events) request close moment is)

  abbrev desk_if : Bool → List DealerEvent → DealerEvent → DeskEvents
  desk_if b events now =
      if b
      then record { date = date; row = row; events = events ++ now ∷ [] }
      else record { date = date; row = row; events = events }

  desk_with_if : (b : Bool) (events : List DealerEvent) (now : DealerEvent)
      → desk_if b events now ≡ record { date = date; row = row; events = with_if b events now }
  desk_with_if true events now = refl
  desk_with_if false events now = refl

  module _ (events : List DealerEvent) (before : DaySeen date row events) (request : ℕ)
      (close : Close) (moment : ℕ) where
    abbrev pub now : DealerEvent
    now = event.Told request close moment

    abbrev due_now : Bool
    due_now = is_some (closable (book_of (desk_after date row events).facts) request)

    same : (others : List DealerEvent)
        → desk_after date row others ≡ desk_after date row events
        → is_some (closable (book_of (desk_after date row others).facts) request) ≡ due_now
    same others is =
        ap (λ (state : DeskState). is_some (closable (book_of state.facts) request)) is

    abbrev day_with : DeskEvents → DayDues
    day_with desk =
        record { desk = desk; dues = before.dues ++ due.Closed request close moment ∷ [] }

    abbrev view_at : DeskEvents → ViewState
    view_at desk = record { desk = desk; lifted = before.lifted }

    pub told_is_seen : WordsGrow → DaySeen date row (events ++ now ∷ [])
    unfolding after_recorded after_due
    told_is_seen grows = record {
      seen = with_if due_now before.seen now;
      walked = with_if due_now before.walked now;
      dues = before.dues ++ due.Closed request close moment ∷ [];
      lifted = before.lifted;
      walk_is = walk_pushed date row events now before.walked before.dues _ before.walk_is
          (ap (λ (b : Bool). day_with (desk_if b before.walked now))
          (same before.walked before.walked_is)
          ∙ ap day_with (desk_with_if due_now before.walked now));
      view_is = view_pushed date row before.dues (due.Closed request close moment)
          (view_of date row before.seen before.lifted) _ before.view_is
          (ap (λ (b : Bool). view_at (desk_if b before.seen now)) (same before.seen before.seen_is)
          ∙ ap view_at (desk_with_if due_now before.seen now));
      walked_is = told_state due_now before.walked events request close moment refl before.walked_is;
      seen_is = told_state due_now before.seen events request close moment refl before.seen_is;
      lifted_are = λ quote. before.lifted_are quote
          ∙ sym (ap (list_any (says_lifted quote))
          (grows date row events now
          ∙ append-nil (settled_words (desk_after date row events).facts)));
    }
