-- What an investor is sent for what was due to it can be carried.
use Rattle.std.proofs.Common.{◌≡◌, ℕ, ◌+◌, ◌<◌, List, [], ◌∷◌, ◌++◌, fold, length}
use Rattle.std.proofs.Common.{Option, refl, sym, subst, arith, is_some}
use Rattle.std.proofs.lemmas.Bool.{cond_both}
use Rattle.std.proofs.lemmas.List.{append-nil, append_assoc}
use Rattle.fix_fields.specs.declared.limits.TheConstants.{A_DAY}
use Rattle.quote_messages.specs.declared.out_messages.OutMessage.{OutMessage}
use Rattle.investor_desk.specs.InvestorDesk.{DeskEvents, book_at, no_events, with_event}
use Rattle.investor_desk.specs.InvestorFacts.{book_of}
use Rattle.investor_desk.specs.InvestorOutput.{DeskState, after_event, beside_each, desk_after}
use Rattle.investor_desk.specs.InvestorOutput.{event_facts, event_messages, event_note, head_of}
use Rattle.investor_desk.specs.InvestorOutput.{investor_notes, investor_output, moment_of, no_facts}
use Rattle.investor_desk.specs.InvestorOutput.{notes_from, written_from}
use Rattle.investor_desk.specs.InvestorRules.{InvestorMarket}
use Rattle.investor_desk.specs.declared.events.InvestorEvent.{InvestorEvent}
use Rattle.investor_desk.specs.declared.events.InvestorEvent.TheVariants as event
use Rattle.investor_desk.specs.declared.notes.InvestorNote.{InvestorNote}
use Rattle.investor_views.specs.InvestorView.{SeenMarket, after_due, event_by, investor_view}
use Rattle.investor_views.specs.InvestorView.{market_seen, where_it_fits}
use Rattle.investor_views.specs.NoteView.{note_view}
use Rattle.investor_views.specs.declared.dues.InvestorDue.{InvestorDue}
use Rattle.investor_views.specs.declared.dues.InvestorDue.TheVariants as due
use Rattle.step_replay.specs.EachLemmas.{every_both}
use Rattle.step_replay.specs.Fitting.{fits}
use Rattle.step_replay.specs.Lists.{Every}
use Rattle.laws_wire.proofs.FieldValues.{IsGiven}
use Rattle.laws_wire.proofs.InvestorTexts.{EventGiven, FactGiven, MaySend, event_adds}
use Rattle.laws_wire.proofs.InvestorTexts.{event_sends}
use Rattle.laws_wire.proofs.MessageFields.{IfMoment}
use Rattle.laws_wire.proofs.SaidMessages.{AreSaid, said_more}

-- what is due to an investor
abbrev pub DueGiven : (ℕ → Type 0) → InvestorDue → Type 0
DueGiven D (due.Own moment message) = D moment
DueGiven D (due.Offered request dealer price valid_until moment) =
    (IsGiven dealer × IfMoment D valid_until) × D moment
DueGiven D (due.Gone request quote moment) = D moment
DueGiven D (due.Declined request dealer moment) = IsGiven dealer × D moment
DueGiven D (due.Answered request response reply moment) = IsGiven response.id × D moment
DueGiven D (due.Expired request moment) = D moment

module _ (D : ℕ → Type 0) (of_day : (n : ℕ) → n < A_DAY → D n) (market : InvestorMarket)
    (named : IsGiven market.row.name) where
  -- Events.

  written_said : (number moment : ℕ) (messages : List OutMessage) (its_note : Option InvestorNote)
      → D moment → Every (MaySend D (is_some its_note)) messages
      → AreSaid D market.date number (written_from market number moment messages)
      (beside_each messages its_note)
  written_said number moment [] its_note day may = tt
  written_said number moment (message ∷ messages) its_note day may = (
    record {
      head = head_of market number moment;
      message = message;
      is = refl;
      date_is = refl;
      number_is = refl;
      named = named;
      of_day = day;
      given = may.0.0;
      free = may.0.1;
    },
    written_said (number + 1) moment messages its_note day may.1,
  )

  moment_given : (more : InvestorEvent) → EventGiven D more → D (moment_of more)
  moment_given (event.QuoteCame request offer moment) given = given.1
  moment_given (event.DealerDeclined request dealer moment) given = given.1
  moment_given (event.Answered request response reply moment) given = given.1
  moment_given other given = given

  events_said : (events : List InvestorEvent) (desk : DeskState)
      (notes : List (Option InvestorNote)) → Every (FactGiven D) desk.facts
      → AreSaid D market.date 1 desk.sent notes → Every (EventGiven D) events
      → AreSaid D market.date 1 (fold (after_event market) desk events).sent
      (notes ++ notes_from market desk events)
  events_said [] desk notes facts said given =
      subst (AreSaid D market.date 1 desk.sent) (sym (append-nil notes)) said
  events_said (more ∷ events) desk notes facts said given =
      let book = book_of desk.facts in
      let messages = event_messages market book more in
      let its_note = event_note market book more in
      let after = after_event market desk more in
      let moment = moment_of more in
      let next : length desk.sent + 1 ≡ 1 + length desk.sent = omega arith in
      let own = written_said (length desk.sent + 1) moment messages its_note (moment_given more given.0)
      (event_sends D of_day market named desk.facts facts more given.0) in
      subst (AreSaid D market.date 1 (fold (after_event market) after events).sent)
      (append_assoc notes (beside_each messages its_note) (notes_from market after events))
      (events_said events after (notes ++ beside_each messages its_note)
      (every_both (FactGiven D) desk.facts (event_facts market book more) facts
      (event_adds D of_day market named book more))
      (said_more D market.date 1 desk.sent
      (written_from market (length desk.sent + 1) moment messages) notes (beside_each messages its_note)
      said
      (subst (λ (n : ℕ). AreSaid D market.date n
      (written_from market (length desk.sent + 1) moment messages) (beside_each messages its_note)) next
      own))
      given.1)

  desk_said : (events : List InvestorEvent) → Every (EventGiven D) events
      → AreSaid D market.date 1 (investor_output market events) (investor_notes market events)
  unfolding desk_after
  desk_said events given = events_said events no_facts [] tt tt given

  -- What was due.

  -- a desk of this market
  record DeskGiven (desk : DeskEvents) : Type 0 where
    market_is : desk.market ≡ market
    events : Every (EventGiven D) desk.events

  desk_with : (desk : DeskEvents) (more : InvestorEvent) → DeskGiven desk → EventGiven D more
      → DeskGiven (with_event desk more)
  desk_with desk more is given = record {
    market_is = is.market_is;
    events = every_both (EventGiven D) desk.events (more ∷ []) is.events (given, tt);
  }

  where_fits : (desk : DeskEvents) (more : InvestorEvent) → DeskGiven desk → EventGiven D more
      → DeskGiven (where_it_fits desk more)
  where_fits desk more is given =
      cond_both (fits (book_at desk) more) (with_event desk more) desk DeskGiven
      (λ may. desk_with desk more is given) (λ no. is)

  due_given : (desk : DeskEvents) (item : InvestorDue) → DeskGiven desk → DueGiven D item
      → DeskGiven (after_due desk item)
  unfolding after_due event_by
  due_given desk (due.Own moment message) is given =
      where_fits desk (event.Received moment message) is given
  due_given desk other is given = where_fits desk (event_by (book_at desk) other) is given

  dues_given : (dues : List InvestorDue) (desk : DeskEvents) → DeskGiven desk
      → Every (DueGiven D) dues → DeskGiven (fold after_due desk dues)
  dues_given [] desk is given = is
  dues_given (item ∷ dues) desk is given =
      dues_given dues (after_due desk item) (due_given desk item is given.0) given.1

  pub dues_said : (dues : List InvestorDue) → Every (DueGiven D) dues
      → AreSaid D market.date 1
      (investor_output (fold after_due (no_events market) dues).market
      (fold after_due (no_events market) dues).events)
      (investor_notes (fold after_due (no_events market) dues).market
      (fold after_due (no_events market) dues).events)
  dues_said dues given =
      let desk = fold after_due (no_events market) dues in
      let is = dues_given dues (no_events market) (record { market_is = refl; events = tt }) given
      in
      subst (λ (m : InvestorMarket). AreSaid D market.date 1 (investor_output m desk.events)
      (investor_notes m desk.events)) (sym is.market_is) (desk_said desk.events is.events)

pub view_said : (D : ℕ → Type 0) → ((n : ℕ) → n < A_DAY → D n) → (seen : SeenMarket)
    → IsGiven seen.row.name → (dues : List InvestorDue) → Every (DueGiven D) dues
    → AreSaid D seen.date 1 (investor_view seen dues) (note_view seen dues)
view_said D of_day seen named dues given = dues_said D of_day (market_seen seen) named dues given
