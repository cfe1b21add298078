-- What is kept of a dealer's trail: each of its notices 694=1 on requests of an investor is printed to
-- it under its place among them.
use Rattle.std.proofs.Common.{◌≡◌, ℕ, ◌+◌, ◌-◌, ◌<◌, true, List, [], ◌∷◌, ◌++◌, filter, filter_map}
use Rattle.std.proofs.Common.{length, Option, Some, None, refl, sym, ap, ap₂, ◌∙◌, subst, slice_get}
use Rattle.std.proofs.Common.{arith, option_map}
use Rattle.std.specs.Option.{option_to_list}
use Rattle.std.proofs.lemmas.List.{append-nil, length-append}
use Rattle.std.proofs.lemmas.List.Elements.{filter-append, filter_map-append}
use Rattle.std.proofs.lemmas.Option.{slice_get_within}
use Rattle.market_terms.specs.declared.asks.Ask.{Ask}
use Rattle.market_terms.specs.declared.closes.Close.TheVariants as closes
use Rattle.market_terms.specs.declared.rooms.RoomRef.{RoomRef}
use Rattle.quote_messages.specs.declared.out_messages.OutMessage.{OutMessage}
use Rattle.venue_rows.specs.declared.dealer_rows.DealerRow.{DealerRow}
use Rattle.note_lines.specs.NoteLines.{trades_with_investor}
use Rattle.dealer_desk.specs.DealerFacts.{DealerFact, Told, book_of}
use Rattle.dealer_desk.specs.DealerNotes.{dealer_notes, event_note, notes_with}
use Rattle.dealer_desk.specs.DealerOutput.{DeskState, after_event, desk_after, event_facts}
use Rattle.dealer_desk.specs.DealerOutput.{event_message, moment_of, next_message, no_facts}
use Rattle.dealer_desk.specs.DealerOutput.{room_of, shown_room}
use Rattle.dealer_desk.specs.declared.events.DealerEvent.{DealerEvent}
use Rattle.dealer_desk.specs.declared.notes.DealerNote.{DealerNote}
use Rattle.dealer_desk.specs.declared.notes.DealerNote.TheVariants as note
use Rattle.step_replay.specs.DealerGrowth.{desk_push, desk_with, facts_grown, rooms_grown}
use Rattle.step_replay.specs.DealerGrowth.{sent_grown, sent_is}
use Rattle.step_replay.specs.DealerTrail.{AtDesk, DealerEntry, Lifted, Sent, book_by, entries_of}
use Rattle.step_replay.specs.DealerTrail.{fact_in, facts_of, message_by, message_in, room_in}
use Rattle.step_replay.specs.DealerTrail.{rooms_by, sent_by}
use Rattle.step_replay.specs.EachLemmas.{Each, each_append, each_weaker, every_both}
use Rattle.step_replay.specs.EachLemmas.{every_weaker}
use Rattle.step_replay.specs.Lists.{Every}
use Rattle.laws_trades.specs.TradeNames.{is_asked_by, notice_in, notices_to, was_asked_by}
use Rattle.laws_trades.proofs.NoticedLemmas.{IsWithin, Notes, Says, asks, event_says, found_item}
use Rattle.laws_trades.proofs.NoticedLemmas.{from_push, get_grown, more_within, none_told, nothing}
use Rattle.laws_trades.proofs.NoticedLemmas.{one}
use Rattle.laws_trades.proofs.NoticedTrades.{Grows, IsTold, asks_grown, one_counted, one_notice}
use Rattle.laws_trades.proofs.NoticedTrades.{room_grown, same_notices, told_later, told_now}

module _ (date : List ℕ) (row : DealerRow) (investor : List ℕ) where
  -- What is kept.
  pub record Noticed (trail : List DealerEntry) : Type 0 where
    pub events : List DealerEvent
    pub state : desk_after date row events ≡ desk_with (facts_of trail) (sent_by trail)
    pub long : length (dealer_notes date row events) ≡ length (sent_by trail)
    pub many : length (asks (facts_of trail)) ≡ length (rooms_by trail)
    pub within : Every (IsWithin (length (asks (facts_of trail)))) (facts_of trail)
    pub count : length (filter (trades_with_investor investor) (dealer_notes date row events))
        ≡ length (notices_to investor trail)
    pub each : Each (λ before room later.
        IsTold investor trail (dealer_notes date row events) before room)
        [] (notices_to investor trail)

  module _ (trail : List DealerEntry) (more : DealerEvent) (was : Noticed trail) where
    abbrev notes : Notes
    notes = dealer_notes date row was.events

    abbrev message : Option OutMessage
    message = event_message date row (book_by trail) more

    abbrev said : Option DealerNote
    said = event_note date row (book_by trail) more

    abbrev added : Notes
    added = notes_with message said

    abbrev facts : List DealerFact
    facts = event_facts date row (book_by trail) more

    abbrev then_trail : List DealerEntry
    then_trail = trail ++ entries_of date row trail more

    abbrev then_events : List DealerEvent
    then_events = was.events ++ more ∷ []

    abbrev Then : Notes → List RoomRef → RoomRef → List RoomRef → Type 0
    Then all before room later = IsTold investor then_trail all before room

    grows : Grows trail then_trail
    grows = record {
      facts_more = facts;
      rooms_more = option_to_list (shown_room more);
      facts_are = facts_grown date row trail more;
      rooms_are = rooms_grown date row trail more;
    }

    notes_are : dealer_notes date row then_events ≡ notes ++ added
    unfolding desk_after
    notes_are =
        from_push date row no_facts was.events more
        ∙ ap (λ (state : DeskState). notes
        ++ notes_with (event_message date row (book_of state.facts) more)
        (event_note date row (book_of state.facts) more)) was.state

    state_is : desk_after date row then_events ≡ desk_with (facts_of then_trail) (sent_by then_trail)
    state_is =
        desk_push date row was.events more
        ∙ ap (λ (state : DeskState). after_event date row state more) was.state
        ∙ ap₂ desk_with (sym (facts_grown date row trail more))
        (sent_is date row (sent_by trail) (moment_of more) message
        ∙ sym (sent_grown date row trail more))

    message_length : (told : Option OutMessage)
        → length (notes_with told said)
        ≡ length (option_to_list (option_map (next_message date row (sent_by trail) (moment_of more)) told))
    message_length None = refl
    message_length (Some out) = refl

    long_is : length (notes ++ added) ≡ length (sent_by then_trail)
    long_is =
        length-append notes added
        ∙ ap (λ (n : ℕ). n + length added) was.long
        ∙ ap (λ (n : ℕ). length (sent_by trail) + n) (message_length message)
        ∙ sym (length-append (sent_by trail) (option_to_list (message_by date row trail more)))
        ∙ ap length (sym (sent_grown date row trail more))

    both : length (filter (trades_with_investor investor) (notes ++ added))
        ≡ length (notices_to investor trail) + length (filter (trades_with_investor investor) added)
    both =
        ap length (filter-append (trades_with_investor investor) notes added)
        ∙ length-append (filter (trades_with_investor investor) notes)
        (filter (trades_with_investor investor) added)
        ∙ ap (λ (n : ℕ). n + length (filter (trades_with_investor investor) added)) was.count

    notices_are : notices_to investor then_trail
        ≡ notices_to investor trail ++ filter_map (notice_in investor then_trail) facts
    notices_are =
        ap (filter_map (notice_in investor then_trail)) (facts_grown date row trail more)
        ∙ filter_map-append (notice_in investor then_trail) (facts_of trail) facts
        ∙ ap (λ (l : List RoomRef). l ++ filter_map (notice_in investor then_trail) facts)
        (same_notices investor trail then_trail grows was.many (facts_of trail) was.within)

    earlier : Each (Then (notes ++ added)) [] (notices_to investor trail)
    earlier =
        each_weaker (λ before room later. IsTold investor trail notes before room)
        (Then (notes ++ added)) (λ before room later is.
        told_later investor trail (entries_of date row trail more) notes added before room grows is)
        [] (notices_to investor trail) was.each

    asks_are : asks (facts_of then_trail) ≡ asks (facts_of trail) ++ asks facts
    unfolding grows
    asks_are = asks_grown investor trail then_trail grows

    -- with these rooms more
    with_rooms : (fresh : List RoomRef) → filter_map (notice_in investor then_trail) facts ≡ fresh
        → length (asks facts) ≡ length (option_to_list (shown_room more))
        → Every (IsWithin (length (asks (facts_of trail)))) facts
        → length (filter (trades_with_investor investor) added) ≡ length fresh
        → Each (Then (notes ++ added)) (notices_to investor trail) fresh → Noticed then_trail
    with_rooms fresh are shown within same each =
        let all : notices_to investor then_trail ≡ notices_to investor trail ++ fresh =
        notices_are ∙ ap (λ (l : List RoomRef). notices_to investor trail ++ l) are in
        let asked : length (asks (facts_of then_trail))
        ≡ length (asks (facts_of trail)) + length (asks facts) =
        ap length asks_are ∙ length-append (asks (facts_of trail)) (asks facts) in
        record {
          events = then_events;
          state = state_is;
          long = ap length notes_are ∙ long_is;
          many = asked ∙ ap (λ (n : ℕ). n + length (asks facts)) was.many
              ∙ ap (λ (n : ℕ). length (rooms_by trail) + n) shown
              ∙ sym (length-append (rooms_by trail) (option_to_list (shown_room more)))
              ∙ ap length (sym (rooms_grown date row trail more));
          within = subst (λ (n : ℕ). Every (IsWithin n) (facts_of then_trail)) (sym asked)
              (subst (Every (IsWithin (length (asks (facts_of trail)) + length (asks facts))))
              (sym (facts_grown date row trail more))
              (every_weaker (IsWithin (length (asks (facts_of trail))))
              (IsWithin (length (asks (facts_of trail)) + length (asks facts)))
              (more_within (length (asks (facts_of trail))) (length (asks facts)))
              (facts_of trail ++ facts)
              (every_both (IsWithin (length (asks (facts_of trail)))) (facts_of trail) facts
              was.within within)));
          count = ap (λ (l : Notes). length (filter (trades_with_investor investor) l)) notes_are
              ∙ both ∙ ap (λ (n : ℕ). length (notices_to investor trail) + n) same
              ∙ sym (length-append (notices_to investor trail) fresh) ∙ ap length (sym all);
          each = subst (λ (l : Notes). Each (Then l) [] (notices_to investor then_trail)) (sym notes_are)
              (subst (Each (Then (notes ++ added)) []) (sym all)
              (each_append (Then (notes ++ added)) (λ before room later further is. is) []
              (notices_to investor trail) fresh earlier each));
        }

    entries_are : (fact : DealerFact) (out : OutMessage) → facts ≡ fact ∷ [] → shown_room more ≡ None
        → message ≡ Some out → entries_of date row trail more
        ≡ AtDesk fact ∷ Sent (next_message date row (sent_by trail) (moment_of more) out) ∷ []
    unfolding entries_of
    entries_are fact out facts_are none message_is = rw (facts_are, none, message_is) refl

    pub one_more : Noticed then_trail
    one_more = by_says (event_says investor date row (facts_of trail) more)
      where
        by_says : Says investor facts (shown_room more) message said (asks (facts_of trail))
            → Noticed then_trail
        by_says (nothing silent shown within quiet) =
            with_rooms [] (silent then_trail asks_are) shown within
            (ap length (none_told investor message said quiet)) tt
        by_says (one request moment ask out facts_are none message_is said_is there same) =
            let bytes = next_message date row (sent_by trail) (moment_of more) out in
            let entries = entries_are (Told request closes.Hit moment) out facts_are none message_is in
            let fresh : added ≡ Some (note.Trade investor) ∷ [] =
            ap (λ (m : Option OutMessage). notes_with m said) message_is
            ∙ ap (λ (n : Option DealerNote). n ∷ []) said_is in
            let asked_by : was_asked_by investor then_trail request ≡ true =
            ap (λ (l : List Ask). is_asked_by investor (slice_get l (request - 1))) asks_are
            ∙ ap (is_asked_by investor)
            (get_grown (asks (facts_of trail)) (asks facts) (request - 1) ask there) ∙ same in
            let within = slice_get_within (asks (facts_of trail)) (request - 1) ask there in
            let many = was.many in
            let place : (request - 1) < length (rooms_by trail) = omega (arith, many, within) in
            let room = found_item (rooms_by trail) (request - 1) place in
            let in_room = room_grown investor trail then_trail grows request room.0 room.1 in
            with_rooms (room.0 ∷ [])
            (ap (filter_map (notice_in investor then_trail)) facts_are
            ∙ one_notice investor then_trail request moment room.0 asked_by in_room)
            (ap (λ (f : List DealerFact). length (asks f)) facts_are
            ∙ ap (λ (r : Option RoomRef). length (option_to_list r)) (sym none))
            (subst (Every (IsWithin (length (asks (facts_of trail))))) (sym facts_are) (within, tt))
            (ap (λ (l : Notes). length (filter (trades_with_investor investor) l)) fresh
            ∙ one_counted investor) (
              subst (λ (l : Notes). IsTold investor then_trail (notes ++ l) (notices_to investor trail) room.0)
                  (sym fresh)
                  (subst (λ (l : List DealerEntry). IsTold investor (trail ++ l)
                  (notes ++ Some (note.Trade investor) ∷ []) (notices_to investor trail) room.0)
                  (sym entries)
                  (told_now investor trail notes request moment bytes room.0 was.long was.count
                  (subst (λ (l : List DealerEntry). was_asked_by investor (trail ++ l) request ≡ true)
                  entries asked_by)
                  (subst (λ (l : List DealerEntry). room_of (rooms_by (trail ++ l)) request ≡ Some room.0)
                  entries in_room))),
              tt,
            )

  -- a quote that is lifted
  pub lifted_more : (trail : List DealerEntry) (quote : ℕ) → Noticed trail
      → Noticed (trail ++ Lifted quote ∷ [])
  lifted_more trail quote was =
      let more : List DealerEntry = Lifted quote ∷ [] in
      let facts : facts_of (trail ++ more) ≡ facts_of trail =
      filter_map-append fact_in trail more ∙ append-nil (facts_of trail) in
      let sent : sent_by (trail ++ more) ≡ sent_by trail =
      filter_map-append message_in trail more ∙ append-nil (sent_by trail) in
      let rooms : rooms_by (trail ++ more) ≡ rooms_by trail =
      filter_map-append room_in trail more ∙ append-nil (rooms_by trail) in
      let grows : Grows trail (trail ++ more) = record {
        facts_more = [];
        rooms_more = [];
        facts_are = facts ∙ sym (append-nil (facts_of trail));
        rooms_are = rooms ∙ sym (append-nil (rooms_by trail));
      } in
      let notices : notices_to investor (trail ++ more) ≡ notices_to investor trail =
      ap (filter_map (notice_in investor (trail ++ more))) facts
      ∙ same_notices investor trail (trail ++ more) grows was.many (facts_of trail) was.within in
      let notes = dealer_notes date row was.events in
      record {
        events = was.events;
        state = was.state ∙ ap₂ desk_with (sym facts) (sym sent);
        long = was.long ∙ ap length (sym sent);
        many = ap (λ (l : List DealerFact). length (asks l)) facts ∙ was.many ∙ ap length (sym rooms);
        within = subst (λ (l : List DealerFact). Every (IsWithin (length (asks l))) l) (sym facts)
            was.within;
        count = was.count ∙ ap length (sym notices);
        each = subst (λ (l : List RoomRef). Each (λ before room later.
            IsTold investor (trail ++ more) notes before room) [] l) (sym notices)
            (each_weaker (λ before room later. IsTold investor trail notes before room)
            (λ before room later. IsTold investor (trail ++ more) notes before room)
            (λ before room later is. subst (λ (l : Notes). IsTold investor (trail ++ more) l before room)
            (append-nil notes) (told_later investor trail more notes [] before room grows is))
            [] (notices_to investor trail) was.each);
      }

  -- at the start
  pub none_noticed : Noticed []
  unfolding desk_after
  none_noticed = record {
    events = [];
    state = refl;
    long = refl;
    many = refl;
    within = tt;
    count = refl;
    each = tt;
  }
