-- What a dealer is sent for what was due to it can be carried.
use Rattle.std.proofs.Common.{◌≡◌, ℕ, ◌+◌, ◌<◌, List, [], ◌∷◌, ◌++◌, fold, length}
use Rattle.std.proofs.Common.{Option, Some, None, refl, sym, subst, arith, option_map}
use Rattle.std.proofs.lemmas.Bool.{cond_both}
use Rattle.std.proofs.lemmas.List.{append-nil, append_assoc}
use Rattle.fix_fields.specs.declared.limits.TheConstants.{A_DAY}
use Rattle.quote_messages.specs.declared.out_messages.OutMessage.{OutMessage}
use Rattle.venue_rows.specs.declared.dealer_rows.DealerRow.{DealerRow}
use Rattle.dealer_desk.specs.DealerDesk.{DeskEvents, book_at, may_close, verdict_at, with_event}
use Rattle.dealer_desk.specs.DealerFacts.{book_of, number_to_drop}
use Rattle.dealer_desk.specs.DealerNotes.{dealer_notes, event_note, notes_from, notes_with}
use Rattle.dealer_desk.specs.DealerOutput.{DeskState, after_event, dealer_output, desk_after}
use Rattle.dealer_desk.specs.DealerOutput.{event_facts, event_message, moment_of, no_facts}
use Rattle.dealer_desk.specs.DealerOutput.{next_message, sent_with, word_asked}
use Rattle.dealer_desk.specs.declared.events.DealerEvent.{DealerEvent}
use Rattle.dealer_desk.specs.declared.events.DealerEvent.TheVariants as event
use Rattle.dealer_desk.specs.declared.notes.DealerNote.{DealerNote}
use Rattle.step_replay.specs.DealerView.{ViewState, after_due, answer_to, dealer_view}
use Rattle.step_replay.specs.DealerView.{lifting_counts, no_room, view_after, view_at_start}
use Rattle.step_replay.specs.EachLemmas.{every_both}
use Rattle.step_replay.specs.Lists.{Every}
use Rattle.step_replay.specs.NoteViews.{dealer_note_view}
use Rattle.step_replay.specs.declared.dues.Due.{Due}
use Rattle.step_replay.specs.declared.dues.Due.TheVariants as due
use Rattle.laws_wire.proofs.DealerTexts.{EventGiven, FactGiven, IfThere, MaySend, event_adds}
use Rattle.laws_wire.proofs.DealerTexts.{event_sends}
use Rattle.laws_wire.proofs.FieldValues.{IsGiven}
use Rattle.laws_wire.proofs.MessageFields.{AskGiven}
use Rattle.laws_wire.proofs.SaidMessages.{AreSaid, said_more}

-- what was due
abbrev pub DueGiven : (ℕ → Type 0) → Due → Type 0
DueGiven D (due.Own moment message) = D moment
DueGiven D (due.Shown ask moment) = AskGiven D ask × D moment
DueGiven D (due.Lifted quote) = Unit {0}
DueGiven D (due.Closed request close moment) = D moment
DueGiven D (due.Drop last moment) = D moment

-- a desk of this day and row
pub record DeskGiven (D : ℕ → Type 0) (date : List ℕ) (row : DealerRow) (desk : DeskEvents)
    : Type 0 where
  pub date_is : desk.date ≡ date
  pub row_is : desk.row ≡ row
  pub events : Every (EventGiven D) desk.events

module _ (D : ℕ → Type 0) (of_day : (n : ℕ) → n < A_DAY → D n) (date : List ℕ) (row : DealerRow)
    (named : IsGiven row.name) where
  -- Events.

  message_said : (sent : List (List ℕ)) (notes : List (Option DealerNote)) (moment : ℕ)
      (said : Option OutMessage) (its_note : Option DealerNote) → D moment
      → IfThere (MaySend D) said → AreSaid D date 1 sent notes
      → AreSaid D date 1 (sent_with date row sent moment said) (notes ++ notes_with said its_note)
  message_said sent notes moment None its_note day may before =
      subst (AreSaid D date 1 sent) (sym (append-nil notes)) before
  message_said sent notes moment (Some message) its_note day may before =
      said_more D date 1 sent (next_message date row sent moment message ∷ []) notes (its_note ∷ [])
      before (
        record {
          head = record { date = date; firm = row.name; number = length sent + 1; moment = moment };
          message = message;
          is = refl;
          date_is = refl;
          number_is = omega arith;
          named = named;
          of_day = day;
          given = may.0;
          free = λ noted. may.1;
        },
        tt,
      )

  moment_given : (more : DealerEvent) → EventGiven D more → D (moment_of more)
  moment_given (event.Received moment bytes settlement) given = given
  moment_given (event.Shown room ask moment) given = given.1
  moment_given (event.Told request close moment) given = given
  moment_given (event.Drop last moment settlement) given = given

  events_said : (events : List DealerEvent) (desk : DeskState) (notes : List (Option DealerNote))
      → Every (FactGiven D) desk.facts → AreSaid D date 1 desk.sent notes
      → Every (EventGiven D) events
      → AreSaid D date 1 (fold (after_event date row) desk events).sent
      (notes ++ notes_from date row desk events)
  events_said [] desk notes facts said given =
      subst (AreSaid D date 1 desk.sent) (sym (append-nil notes)) said
  events_said (more ∷ events) desk notes facts said given =
      let book = book_of desk.facts in
      let message = event_message date row book more in
      let its_note = event_note date row book more in
      let after = after_event date row desk more in
      subst (AreSaid D date 1 (fold (after_event date row) after events).sent)
      (append_assoc notes (notes_with message its_note) (notes_from date row after events))
      (events_said events after (notes ++ notes_with message its_note)
      (every_both (FactGiven D) desk.facts (event_facts date row book more) facts
      (event_adds D of_day date row book more given.0))
      (message_said desk.sent notes (moment_of more) message its_note (moment_given more given.0)
      (event_sends D desk.facts facts of_day date row more given.0) said) given.1)

  desk_said : (events : List DealerEvent) → Every (EventGiven D) events
      → AreSaid D date 1 (dealer_output date row events) (dealer_notes date row events)
  unfolding desk_after
  desk_said events given = events_said events no_facts [] tt tt given

  -- What was due.

  desk_with : (desk : DeskEvents) (more : DealerEvent) → DeskGiven D date row desk
      → EventGiven D more → DeskGiven D date row (with_event desk more)
  desk_with desk more is given = record {
    date_is = is.date_is;
    row_is = is.row_is;
    events = every_both (EventGiven D) desk.events (more ∷ []) is.events (given, tt);
  }

  due_given : (view : ViewState) (item : Due) → DeskGiven D date row view.desk → DueGiven D item
      → DeskGiven D date row (after_due view item).desk
  unfolding after_due
  due_given view (due.Own moment message) is given =
      desk_with view.desk (event.Received moment message
      (option_map (answer_to view) (word_asked (verdict_at view.desk moment message)))) is given
  due_given view (due.Shown ask moment) is given =
      desk_with view.desk (event.Shown no_room ask moment) is given
  due_given view (due.Lifted quote) is given =
      cond_both (lifting_counts view quote) (record view {
        lifted =
            view.lifted ++ quote ∷ [];
      }) view
      (λ (v : ViewState). DeskGiven D date row v.desk) (λ counts. is) (λ other. is)
  due_given view (due.Closed request close moment) is given =
      cond_both (may_close view.desk request)
      (with_event view.desk (event.Told request close moment)) view.desk (DeskGiven D date row)
      (λ may. desk_with view.desk (event.Told request close moment) is given) (λ no. is)
  due_given view (due.Drop last moment) is given =
      desk_with view.desk (event.Drop last moment
      (option_map (answer_to view) (number_to_drop (book_at view.desk) last))) is given

  dues_given : (dues : List Due) (view : ViewState) → DeskGiven D date row view.desk
      → Every (DueGiven D) dues → DeskGiven D date row (fold after_due view dues).desk
  dues_given [] view is given = is
  dues_given (item ∷ dues) view is given =
      dues_given dues (after_due view item) (due_given view item is given.0) given.1

  pub view_said : (dues : List Due) → Every (DueGiven D) dues
      → AreSaid D date 1 (dealer_view date row dues) (dealer_note_view date row dues)
  view_said dues given =
      let desk = (view_after date row dues).desk in
      let is = dues_given dues (view_at_start date row)
      (record { date_is = refl; row_is = refl; events = tt }) given in
      subst (λ (d : List ℕ). AreSaid D date 1 (dealer_output d desk.row desk.events)
      (dealer_notes d desk.row desk.events)) (sym is.date_is)
      (subst (λ (r : DealerRow). AreSaid D date 1 (dealer_output date r desk.events)
      (dealer_notes date r desk.events)) (sym is.row_is) (desk_said desk.events is.events))
