-- What the desk of an investor sends for events is the desk view of what is due by them, and where all
-- fit the investor view.
use Rattle.std.proofs.Common.{◌≡◌, ℕ, ◌+◌, Bool, true, false, List, [], ◌∷◌, ◌++◌, map, fold}
use Rattle.std.proofs.Common.{length, refl, ap, ap₂, sym, subst, ◌∙◌, arith, ◌&&◌, Option, None}
use Rattle.std.proofs.lemmas.Bool.{and_parts}
use Rattle.std.proofs.lemmas.List.{append-nil, append_assoc, map-append}
use Rattle.quote_messages.specs.declared.out_messages.OutMessage.{OutMessage}
use Rattle.investor_desk.specs.InvestorFacts.{InvestorFact, InvestorBook, book_of, offers_of}
use Rattle.investor_desk.specs.InvestorRules.{InvestorMarket}
use Rattle.investor_desk.specs.InvestorDesk.{DeskEvents, book_at, no_events, with_event}
use Rattle.investor_desk.specs.InvestorOutput.{DeskState, after_event, desk_after, event_facts}
use Rattle.investor_desk.specs.InvestorOutput.{beside_each, event_messages, event_note, head_of}
use Rattle.investor_desk.specs.InvestorOutput.{investor_notes, investor_output, moment_of, no_facts}
use Rattle.investor_desk.specs.InvestorOutput.{sent_with, written_from}
use Rattle.investor_desk.specs.declared.notes.InvestorNote.{InvestorNote}
use Rattle.investor_desk.specs.declared.events.InvestorEvent.{InvestorEvent}
use Rattle.investor_desk.specs.declared.events.InvestorEvent.TheVariants as event
use Rattle.quote_messages.specs.Written.{written}
use Rattle.venue_steps.specs.InvestorSteps.{replies_to, with_event_if}
use Rattle.investor_views.specs.DeskView.{all_fit, fitting_dues_from, with_item}
use Rattle.investor_views.specs.InvestorDues.{due_by, event_dues, event_dues_from, number_of}
use Rattle.investor_views.specs.InvestorDues.{quote_meant}
use Rattle.investor_views.specs.InvestorView.{after_due, event_by, offer_due, sent_at}
use Rattle.investor_views.specs.InvestorView.{where_it_fits}
use Rattle.step_replay.specs.Fitting.{fits}
use Rattle.step_replay.specs.InvestorGrowth.{desk_push}
use Rattle.step_replay.specs.NotedGrowth.{notes_more}
use Rattle.investor_views.specs.NoteView.{notes_at}
use Rattle.investor_views.proofs.ClosingItems.{answered_answers, declined_answers, expired_answers}
use Rattle.investor_views.proofs.ItemLemmas.{Answers, came_answers, gone_answers, own_answers}
use Rattle.investor_views.proofs.NumberedBook.{book_same, knows_same}
use Rattle.investor_views.proofs.NumberLemmas.{NumberedFrom, numbered_both}
use Rattle.investor_views.proofs.Renamed.{renamed_book, renamed_fact, unnumbered}

module _ (market : InvestorMarket) where
  -- a message does not bear the investor's number among the firms
  written_same : (number moment : ℕ) (messages : List OutMessage)
      → written_from (unnumbered market) number moment messages
      ≡ written_from market number moment messages
  written_same number moment [] = refl
  written_same number moment (message ∷ messages) =
      ap (λ l. written (head_of market number moment) message ∷ l)
      (written_same (number + 1) moment messages)

  -- The view's desk stands where the desk of the day does: it has the same facts, with own numbers
  -- in the place of words, sent the same and noted the same.
  pub record Sees (desk view : DeskEvents) : Type 0 where
    pub own_market : desk.market ≡ market
    pub view_market : view.market ≡ unnumbered market
    pub facts_are : (desk_after (unnumbered market) view.events).facts
        ≡ map renamed_fact (desk_after market desk.events).facts
    pub sent_are : (desk_after (unnumbered market) view.events).sent
        ≡ (desk_after market desk.events).sent
    pub notes_are : investor_notes (unnumbered market) view.events
        ≡ investor_notes market desk.events
    pub numbered_are : NumberedFrom 0 (desk_after market desk.events).facts

  start_sees : Sees (no_events market) (no_events (unnumbered market))
  unfolding desk_after
  start_sees = record {
    own_market = refl;
    view_market = refl;
    facts_are = refl;
    sent_are = refl;
    notes_are = refl;
    numbered_are = tt;
  }

  module _ (desk view : DeskEvents) (before : Sees desk view) where
    -- the facts that stand at the desk, and its book
    abbrev stood : List InvestorFact
    stood = (desk_after market desk.events).facts

    abbrev book : InvestorBook
    book = book_of stood

    book_here : book ≡ book_at desk
    book_here =
        ap (λ (m : InvestorMarket). book_of (desk_after m desk.events).facts)
        (sym before.own_market)

    book_there : renamed_book book ≡ book_at view
    book_there =
        sym (ap book_of before.facts_are ∙ book_same stood)
        ∙ ap (λ (m : InvestorMarket). book_of (desk_after m view.events).facts)
        (sym before.view_market)

    -- the same of the books that the desks have
    by_books : (P : InvestorBook → InvestorBook → Type 0) → P book (renamed_book book)
        → P (book_at desk) (book_at view)
    by_books P is =
        subst (λ (b : InvestorBook). P b (book_at view)) book_here
        (subst (λ (b : InvestorBook). P book b) book_there is)

    -- one event more at each
    module _ (one other : InvestorEvent) (same_moment : moment_of other ≡ moment_of one)
        (same : Answers market stood one other) where
      -- the desk of the day, and that of the view, before and after
      abbrev here : DeskState
      here = desk_after market desk.events

      abbrev there : DeskState
      there = desk_after (unnumbered market) view.events

      facts_there : (after_event (unnumbered market) there other).facts
          ≡ map renamed_fact (after_event market here one).facts
      facts_there =
          ap (λ (facts : List InvestorFact). facts
          ++ event_facts (unnumbered market) (book_of facts) other) before.facts_are
          ∙ ap (λ (b : InvestorBook). map renamed_fact stood
          ++ event_facts (unnumbered market) b other) (book_same stood)
          ∙ ap (λ l. map renamed_fact stood ++ l) same.facts_are
          ∙ sym (map-append renamed_fact stood (event_facts market book one))

      sent_there : (after_event (unnumbered market) there other).sent
          ≡ (after_event market here one).sent
      sent_there =
          ap (λ (sent : List (List ℕ)). sent_with (unnumbered market) sent (moment_of other)
          (event_messages (unnumbered market) (book_of there.facts) other)) before.sent_are
          ∙ ap (λ (b : InvestorBook). sent_with (unnumbered market) here.sent (moment_of other)
          (event_messages (unnumbered market) b other))
          (ap book_of before.facts_are ∙ book_same stood)
          ∙ ap (λ (l : List OutMessage).
          sent_with (unnumbered market) here.sent (moment_of other) l)
          same.messages_are
          ∙ ap (λ (n : ℕ). sent_with (unnumbered market) here.sent n
          (event_messages market book one)) same_moment
          ∙ ap (λ l. here.sent ++ l) (written_same (length here.sent + 1) (moment_of one)
          (event_messages market book one))

      -- what is noted beside the messages of each, by the book as it stands there
      noted_there : beside_each (event_messages (unnumbered market) (book_of there.facts) other)
          (event_note (unnumbered market) (book_of there.facts) other)
          ≡ beside_each (event_messages market book one) (event_note market book one)
      noted_there =
          ap (λ (b : InvestorBook). beside_each (event_messages (unnumbered market) b other)
          (event_note (unnumbered market) b other))
          (ap book_of before.facts_are ∙ book_same stood)
          ∙ ap₂ beside_each same.messages_are same.note_is

      notes_there : investor_notes (unnumbered market) (view.events ++ other ∷ [])
          ≡ investor_notes market (desk.events ++ one ∷ [])
      unfolding desk_after
      notes_there =
          notes_more (unnumbered market) no_facts view.events other
          ∙ ap₂ (λ (l more : List (Option InvestorNote)). l ++ more) before.notes_are noted_there
          ∙ sym (notes_more market no_facts desk.events one)

      numbered_here : NumberedFrom 0 (after_event market here one).facts
      numbered_here =
          let all : length (offers_of stood) ≡ 0 + length (offers_of stood) = omega arith in
          numbered_both 0 (length (offers_of stood)) stood (event_facts market book one) all
          before.numbered_are same.numbered_on

      one_more : Sees (with_event desk one) (with_event view other)
      one_more =
          let pushed = desk_push market desk.events one in
          let pushed_there = desk_push (unnumbered market) view.events other in
          record {
            own_market = before.own_market;
            view_market = before.view_market;
            facts_are = ap (λ (s : DeskState). s.facts) pushed_there ∙ facts_there
                ∙ ap (λ (s : DeskState). map renamed_fact s.facts) (sym pushed);
            sent_are = ap (λ (s : DeskState). s.sent) pushed_there ∙ sent_there
                ∙ ap (λ (s : DeskState). s.sent) (sym pushed);
            notes_are = notes_there;
            numbered_are = subst (λ (s : DeskState). NumberedFrom 0 s.facts) (sym pushed)
                numbered_here;
          }

    -- an event that came, and the item in its place, each as it stands
    event_sees : (more : InvestorEvent)
        → Sees (with_event desk more) (with_item view (due_by (book_at desk) more))
    unfolding with_item due_by event_by
    event_sees (event.Received moment bytes) =
        one_more (event.Received moment bytes) (event.Received moment bytes) refl
        (own_answers market stood moment bytes)
    event_sees (event.QuoteCame request offer moment) =
        by_books (λ here there. Sees (with_event desk (event.QuoteCame request offer moment))
        (with_event view (event.QuoteCame request
        (offer_due there offer.dealer offer.price offer.valid_until) moment)))
        (one_more (event.QuoteCame request offer moment)
        (event.QuoteCame request
        (offer_due (renamed_book book) offer.dealer offer.price offer.valid_until) moment) refl
        (came_answers market stood request offer moment))
    event_sees (event.QuoteGone request word moment) =
        by_books (λ here there. Sees (with_event desk (event.QuoteGone request word moment))
        (with_event view (event.QuoteGone request
        (number_of (quote_meant here request word)) moment)))
        (one_more (event.QuoteGone request word moment)
        (event.QuoteGone request (number_of (quote_meant book request word)) moment) refl
        (gone_answers market stood request word before.numbered_are moment))
    event_sees (event.DealerDeclined request dealer moment) =
        one_more (event.DealerDeclined request dealer moment)
        (event.DealerDeclined request dealer moment) refl
        (declined_answers market stood request dealer moment)
    event_sees (event.Answered request response reply moment) =
        one_more (event.Answered request response reply moment)
        (event.Answered request response reply moment) refl
        (answered_answers market stood request response reply moment)
    event_sees (event.Closed request moment) =
        one_more (event.Closed request moment) (event.Closed request moment) refl
        (expired_answers market stood request moment)

  -- Whether an item fits the view as its event does the desk.

  module _ (desk view : DeskEvents) (before : Sees desk view) (more : InvestorEvent) where
    -- the book that stands at the desk
    abbrev stands : InvestorBook
    stands = book_of (desk_after market desk.events).facts

    fits_renamed : (one : InvestorEvent)
        → fits (renamed_book stands) (event_by (renamed_book stands) (due_by stands one))
        ≡ fits stands one
    unfolding due_by event_by
    fits_renamed (event.Received moment bytes) = refl
    fits_renamed (event.QuoteCame request offer moment) = knows_same stands request None
    fits_renamed (event.QuoteGone request word moment) = knows_same stands request None
    fits_renamed (event.DealerDeclined request dealer moment) = knows_same stands request None
    fits_renamed (event.Answered request response reply moment) =
        ap (λ (b : Bool). b && replies_to response.k reply) (knows_same stands request response.k)
    fits_renamed (event.Closed request moment) = knows_same stands request None

    -- the item of the event, as the view's desk has it
    abbrev item_there : InvestorEvent
    item_there = event_by (book_at view) (due_by (book_at desk) more)

    asks_the_same : fits (book_at view) item_there ≡ fits (book_at desk) more
    asks_the_same =
        by_books desk view before
        (λ here there. fits there (event_by there (due_by here more)) ≡ fits here more)
        (fits_renamed more)

    -- each desk takes it, or neither
    both_take : (b : Bool) → Sees (with_event_if b desk more) (with_event_if b view item_there)
    unfolding with_item
    both_take true = event_sees desk view before more
    both_take false = before

    taken_sees : Sees (where_it_fits desk more) (after_due view (due_by (book_at desk) more))
    unfolding after_due
    taken_sees =
        subst (λ (b : Bool). Sees (where_it_fits desk more) (with_event_if b view item_there))
        (sym asks_the_same) (both_take (fits (book_at desk) more))

    -- an item that fits is taken as it stands
    item_taken : fits (book_at desk) more ≡ true
        → after_due view (due_by (book_at desk) more) ≡ with_item view (due_by (book_at desk) more)
    unfolding after_due with_item
    item_taken fit =
        ap (λ (b : Bool). with_event_if b view item_there) (asks_the_same ∙ fit)

  those_see : (desk view : DeskEvents) (events : List InvestorEvent) → Sees desk view
      → Sees (fold where_it_fits desk events) (fold after_due view (fitting_dues_from desk events))
  those_see desk view [] before = before
  those_see desk view (first ∷ later) before =
      those_see (where_it_fits desk first) (after_due view (due_by (book_at desk) first)) later
      (taken_sees desk view before first)

  -- what a desk sends that takes the events that fit is the investor view of what was due by them
  pub taken_send : (events : List InvestorEvent)
      → investor_output market (fold where_it_fits (no_events market) events).events
      ≡ sent_at (fold after_due (no_events (unnumbered market))
      (fitting_dues_from (no_events market) events))
  taken_send events =
      let view = fold after_due (no_events (unnumbered market))
      (fitting_dues_from (no_events market) events) in
      let seen = those_see (no_events market) (no_events (unnumbered market)) events start_sees in
      sym seen.sent_are
      ∙ ap (λ (m : InvestorMarket). investor_output m view.events) (sym seen.view_market)

  all_taken : (desk view : DeskEvents) (events : List InvestorEvent) → Sees desk view
      → all_fit desk events ≡ true
      → fold after_due view (event_dues_from desk events)
      ≡ fold with_item view (event_dues_from desk events)
  all_taken desk view [] before fit = refl
  all_taken desk view (first ∷ later) before fit =
      let both = and_parts (fits (book_at desk) first) (all_fit (with_event desk first) later) fit in
      ap (λ (d : DeskEvents). fold after_due d (event_dues_from (with_event desk first) later))
      (item_taken desk view before first both.0)
      ∙ all_taken (with_event desk first) (with_item view (due_by (book_at desk) first)) later
      (event_sees desk view before first) both.1

  -- All events.

  events_see : (desk view : DeskEvents) (events : List InvestorEvent) → Sees desk view
      → Sees (fold with_event desk events) (fold with_item view (event_dues_from desk events))
  events_see desk view [] before = before
  events_see desk view (first ∷ later) before =
      events_see (with_event desk first)
      (with_item view (due_by (book_at desk) first)) later
      (event_sees desk view before first)

  -- the desk to which these events came
  abbrev desk_with : List InvestorEvent → DeskEvents
  desk_with events = record { market = market; events = events }

  all_events : (before events : List InvestorEvent)
      → fold with_event (desk_with before) events ≡ desk_with (before ++ events)
  all_events before [] = ap desk_with (sym (append-nil before))
  all_events before (first ∷ later) =
      all_events (before ++ first ∷ []) later
      ∙ ap desk_with (append_assoc before (first ∷ []) later)

  -- the view's desk after what was due by events
  abbrev viewed : List InvestorEvent → DeskEvents
  viewed events = fold with_item (no_events (unnumbered market)) (event_dues market events)

  all_see : (events : List InvestorEvent) → Sees (desk_with events) (viewed events)
  all_see events =
      subst (λ (desk : DeskEvents). Sees desk (viewed events)) (all_events [] events)
      (events_see (no_events market) (no_events (unnumbered market)) events start_sees)

  -- so what a desk sends for events is the desk view of what was due by them
  pub events_send : (events : List InvestorEvent)
      → investor_output market events ≡ sent_at (viewed events)
  events_send events =
      let seen = all_see events in
      sym seen.sent_are
      ∙ ap (λ (m : InvestorMarket). investor_output m (viewed events).events) (sym seen.view_market)

  -- and what is noted of it is what is noted in the view
  events_note : (events : List InvestorEvent)
      → investor_notes market events ≡ notes_at (viewed events)
  events_note events =
      let seen = all_see events in
      sym seen.notes_are
      ∙ ap (λ (m : InvestorMarket). investor_notes m (viewed events).events) (sym seen.view_market)

  -- where all events fit, that is the investor view
  module _ (events : List InvestorEvent) (fit : all_fit (no_events market) events ≡ true) where
    -- the view's desk after the same, item by item that fits
    abbrev pub view : DeskEvents
    view = fold after_due (no_events (unnumbered market)) (event_dues market events)

    view_is : viewed events ≡ view
    view_is = sym (all_taken (no_events market) (no_events (unnumbered market)) events start_sees fit)

    pub fitting_send : investor_output market events ≡ sent_at view
    fitting_send = events_send events ∙ ap (λ (desk : DeskEvents). sent_at desk) view_is

    pub fitting_note : investor_notes market events ≡ notes_at view
    fitting_note = events_note events ∙ ap (λ (desk : DeskEvents). notes_at desk) view_is
