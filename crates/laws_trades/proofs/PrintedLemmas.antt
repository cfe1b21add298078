-- What an event at an investor's desk prints of its trades with a dealer: nothing, or one under the
-- next number.
use Rattle.std.proofs.Common.{◌≡◌, ℕ, ◌+◌, ◌-◌, ◌≤◌, true, false, List, [], ◌∷◌, ◌++◌, map, length}
use Rattle.std.proofs.Common.{filter, filter_map, count_by, Option, Some, None}
use Rattle.std.proofs.Common.{refl, sym, ap, ◌∙◌, subst, inl, inr, slice_get, arith, zero, suc}
use Rattle.std.proofs.lemmas.Bool.{cases_Bool}
use Rattle.std.proofs.lemmas.List.{append_assoc, append-nil, length-append, take_all, take-append-le}
use Rattle.std.proofs.lemmas.List.Elements.{filter-append, filter_map-append}
use Rattle.std.proofs.lemmas.List.Sums.{length-filter}
use Rattle.std.proofs.lemmas.Slice.Eq.{bytes_eq-Decides}
use Rattle.market_terms.specs.declared.closes.Reply.{Reply}
use Rattle.market_terms.specs.declared.rooms.ResponseRef.{ResponseRef}
use Rattle.market_terms.specs.declared.rooms.RoomRef.{RoomRef}
use Rattle.quote_messages.specs.declared.out_messages.OutMessage.{OutMessage}
use Rattle.venue_rows.specs.Texts.{same_text}
use Rattle.note_lines.specs.NoteLines.{count_to, trades_with_dealer}
use Rattle.investor_desk.specs.InvestorFacts.{InvestorBook, InvestorFact, Closed, StandingRequest}
use Rattle.investor_desk.specs.InvestorFacts.{book_of, open_request}
use Rattle.investor_desk.specs.InvestorFacts.{request_numbered}
use Rattle.investor_desk.specs.InvestorOutput.{DeskState, after_event, answer_facts, answer_messages}
use Rattle.investor_desk.specs.InvestorOutput.{answer_note, award_note, beside_each, close_by_answer}
use Rattle.investor_desk.specs.InvestorOutput.{closed_facts, desk_after, event_facts, event_messages}
use Rattle.investor_desk.specs.InvestorOutput.{event_note, investor_notes}
use Rattle.investor_desk.specs.InvestorOutput.{moment_of, no_facts, own_facts}
use Rattle.investor_desk.specs.InvestorOutput.{refusal_of, response_message, verdict_note}
use Rattle.investor_desk.specs.InvestorOutput.{written_from}
use Rattle.investor_desk.specs.InvestorRules.{InvestorMarket, investor_verdict}
use Rattle.investor_desk.specs.declared.events.InvestorEvent.{InvestorEvent}
use Rattle.investor_desk.specs.declared.events.InvestorEvent.TheVariants as event
use Rattle.investor_desk.specs.declared.notes.InvestorNote.{InvestorNote}
use Rattle.investor_desk.specs.declared.notes.InvestorNote.TheVariants as note
use Rattle.investor_desk.specs.declared.standing.RequestClose.{RequestClose}
use Rattle.investor_desk.specs.declared.standing.RequestClose.TheVariants as close
use Rattle.investor_desk.specs.declared.verdicts.InvestorVerdict.{InvestorVerdict}
use Rattle.investor_desk.specs.declared.verdicts.InvestorVerdict.TheVariants as verdict
use Rattle.step_replay.specs.EachLemmas.{Each, each_append, each_weaker}
use Rattle.step_replay.specs.InvestorGrowth.{desk_of, desk_push, facts_grown, trail_push}
use Rattle.step_replay.specs.InvestorTrail.{AtDesk, Happened, InvestorEntry, Sent, book_by}
use Rattle.step_replay.specs.InvestorTrail.{entries_of, fact_in, facts_of, message_in, sent_by}
use Rattle.step_replay.specs.NotedGrowth.{noted_push, notes_more}
use Rattle.step_replay.specs.NotedTrail.{NotedAs}
use Rattle.laws_days.proofs.NewsWalk.{news_adds, none_given, offer_adds}
use Rattle.laws_trades.specs.TradeNames.{hit_in}
use Rattle.laws_trades.specs.Trades.{room_of}
use Rattle.laws_trades.specs.PrintedTrades.{TellsOfTrade}

-- Lists.

get_grown : {A : Type 0} (xs more : List A) (place : ℕ) (x : A) → slice_get xs place ≡ Some x
    → slice_get (xs ++ more) place ≡ Some x
get_grown [] more place x is = cc
get_grown (y ∷ xs) more zero x is = is
get_grown (y ∷ xs) more (suc place) x is = get_grown xs more place x is

get_next : {A : Type 0} (xs more : List A) (x : A)
    → slice_get (xs ++ x ∷ more) (length xs) ≡ Some x
get_next [] more x = refl
get_next (y ∷ xs) more x = get_next xs more x

text_same : (a b : List ℕ) → same_text a b ≡ true → a ≡ b
text_same a b test = (bytes_eq-Decides a b).0 test

pub text_self : (a : List ℕ) → same_text a a ≡ true
text_self a = (bytes_eq-Decides a a).1 refl

written_length : (market : InvestorMarket) (number moment : ℕ) (messages : List OutMessage)
    (said : Option InvestorNote)
    → length (written_from market number moment messages) ≡ length (beside_each messages said)
written_length market number moment [] said = refl
written_length market number moment (message ∷ messages) said =
    ap suc (written_length market (number + 1) moment messages said)

module _ (market : InvestorMarket) (investor : ℕ) (dealer : List ℕ) where
  abbrev pub rooms : List InvestorEntry → List RoomRef
  rooms trail = filter_map (hit_in investor dealer) (facts_of trail)

  -- What an event says of the trades with this dealer: nothing, or one.
  data Says (facts : List InvestorFact) (messages : List OutMessage) (said : Option InvestorNote)
      : Type 0 where
    nothing : filter_map (hit_in investor dealer) facts ≡ []
        → trades_with_dealer dealer said ≡ false → Says facts messages said
    one : (request quote price : ℕ) (message : OutMessage)
        → facts ≡ Closed request (close.Awarded quote dealer price) ∷ []
        → messages ≡ message ∷ [] → said ≡ Some (note.Trade dealer) → Says facts messages said

  closing : (number : ℕ) (how : Option RequestClose) (message : OutMessage)
      → Says (closed_facts number how) (message ∷ []) (award_note how)
  closing number None message = nothing refl refl
  closing number (Some close.Passed) message = nothing refl refl
  closing number (Some close.Expired) message = nothing refl refl
  closing number (Some (close.Awarded quote name price)) message =
      elim (cases_Bool (same_text name dealer)) [
        | inl same ↦
            let named : name ≡ dealer = text_same name dealer same in
            one number quote price message
            (ap (λ (n : List ℕ). Closed number (close.Awarded quote n price) ∷ []) named) refl
            (ap (λ (n : List ℕ). Some (note.Trade n)) named)
        | inr other ↦ nothing (rw other refl) other
      ]

  answered : (book : InvestorBook) (number : ℕ) (response : ResponseRef) (reply : Reply)
      (found : Option StandingRequest)
      → Says (answer_facts book number response reply found) (answer_messages response reply found)
      (answer_note book response reply found)
  answered book number response reply None = nothing refl refl
  answered book number response reply (Some own) =
      closing number (close_by_answer book response (refusal_of reply))
      (response_message own response.id response.k (refusal_of reply))

  received : (moment : ℕ) (bytes : List ℕ) (v : InvestorVerdict) (messages : List OutMessage)
      → Says (own_facts moment bytes v) messages (verdict_note v)
  received moment bytes (verdict.RequestAccepted id request) messages = nothing refl refl
  received moment bytes other messages = nothing refl refl

  -- a fact that is no trade with this dealer
  abbrev NoTrade : InvestorFact → Type 0
  NoTrade fact = hit_in investor dealer fact ≡ None

  event_says : (book : InvestorBook) (more : InvestorEvent)
      → Says (event_facts market book more) (event_messages market book more)
      (event_note market book more)
  unfolding event_facts event_messages event_note
  event_says book (event.Received moment bytes) =
      received moment bytes (investor_verdict market book moment bytes) _
  event_says book (event.QuoteCame request offer moment) =
      nothing (none_given (hit_in investor dealer) _ (offer_adds NoTrade book request offer
      (λ quote. refl) refl (open_request book request))) refl
  event_says book (event.Answered request response reply moment) =
      answered book request response reply (request_numbered book request)
  event_says book other =
      nothing (none_given (hit_in investor dealer) (event_facts market book other)
      (news_adds NoTrade market book other tt (λ request word moment is quote. refl)
      (λ request. refl))) refl

  room_there : (request quote price : ℕ)
      → filter_map (hit_in investor dealer) (Closed request (close.Awarded quote dealer price) ∷ [])
      ≡ room_of investor request ∷ []
  room_there request quote price = rw (text_self dealer) refl

  -- A trade that was told.
  pub record IsTold (trail : List InvestorEntry) (notes : List (Option InvestorNote))
      (before : List RoomRef) (room : RoomRef) : Type 0 where
    pub number : ℕ
    pub tells : TellsOfTrade trail dealer room number
    pub before_is : before ≡ rooms tells.stood
    pub said : slice_get notes (number - 1) ≡ Some (Some (note.Trade dealer))
    pub counted : count_to (trades_with_dealer dealer) notes number ≡ length before + 1
    pub most : number ≤ length notes

  told_later : (trail more : List InvestorEntry) (notes added : List (Option InvestorNote))
      (before : List RoomRef) (room : RoomRef) → IsTold trail notes before room
      → IsTold (trail ++ more) (notes ++ added) before room
  told_later trail more notes added before room is =
      let tells = is.tells in
      let pair : List InvestorEntry =
      AtDesk (Closed room.n (close.Awarded tells.quote dealer tells.price)) ∷ Sent tells.message ∷ [] in
      let long : length (notes ++ added) ≡ length notes + length added = length-append notes added in
      let most = is.most in
      record {
        number = is.number;
        tells = record {
          stood = tells.stood;
          quote = tells.quote;
          price = tells.price;
          message = tells.message;
          after = tells.after ++ more;
          trail_is = ap (λ (l : List InvestorEntry). l ++ more) tells.trail_is
              ∙ append_assoc (tells.stood ++ pair) tells.after more;
          number_is = tells.number_is;
        };
        before_is = is.before_is;
        said = get_grown notes added (is.number - 1) (Some (note.Trade dealer)) is.said;
        counted = ap (count_by (trades_with_dealer dealer)) (take-append-le is.number notes added is.most)
            ∙ is.counted;
        most = omega (arith, most, long);
      }

  -- a trail that has come to an event
  abbrev come : List InvestorEntry → InvestorEvent → List InvestorEntry
  come trail event = trail ++ Happened event ∷ []

  rooms_come : (trail : List InvestorEntry) (event : InvestorEvent)
      → rooms (come trail event) ≡ rooms trail
  rooms_come trail event =
      ap (filter_map (hit_in investor dealer))
      (filter_map-append fact_in trail (Happened event ∷ []) ∙ append-nil (facts_of trail))

  sent_come : (trail : List InvestorEntry) (event : InvestorEvent)
      → sent_by (come trail event) ≡ sent_by trail
  sent_come trail event =
      filter_map-append message_in trail (Happened event ∷ []) ∙ append-nil (sent_by trail)

  told_now : (trail : List InvestorEntry) (event : InvestorEvent)
      (notes : List (Option InvestorNote)) (request quote price : ℕ) (message : List ℕ)
      → length notes ≡ length (sent_by trail)
      → length (filter (trades_with_dealer dealer) notes) ≡ length (rooms trail)
      → IsTold (trail ++ (Happened event
      ∷ AtDesk (Closed request (close.Awarded quote dealer price)) ∷ Sent message ∷ []))
      (notes ++ Some (note.Trade dealer) ∷ []) (rooms trail) (room_of investor request)
  told_now trail event notes request quote price message long count =
      let added : List (Option InvestorNote) = Some (note.Trade dealer) ∷ [] in
      let next : length (notes ++ added) ≡ length notes + 1 = length-append notes added in
      let place : length (notes ++ added) - 1 ≡ length notes = omega (arith, next) in
      let passes : length (filter (trades_with_dealer dealer) added) ≡ 1 = rw (text_self dealer) refl in
      let all : length (filter (trades_with_dealer dealer) (notes ++ added))
      ≡ length (filter (trades_with_dealer dealer) notes)
      + length (filter (trades_with_dealer dealer) added) =
      ap length (filter-append (trades_with_dealer dealer) notes added)
      ∙ length-append (filter (trades_with_dealer dealer) notes)
      (filter (trades_with_dealer dealer) added) in
      record {
        number = length (notes ++ added);
        tells = record {
          stood = come trail event;
          quote = quote;
          price = price;
          message = message;
          after = [];
          trail_is = sym (append_assoc trail (Happened event ∷ [])
              (AtDesk (Closed request (close.Awarded quote dealer price)) ∷ Sent message ∷ []))
              ∙ sym (append-nil (come trail event
              ++ (AtDesk (Closed request (close.Awarded quote dealer price)) ∷ Sent message ∷ [])));
          number_is = next ∙ ap (λ (n : ℕ). n + 1) (long ∙ ap length (sym (sent_come trail event)));
        };
        before_is = sym (rooms_come trail event);
        said = ap (slice_get (notes ++ added)) place ∙ get_next notes [] (Some (note.Trade dealer));
        counted = ap (count_by (trades_with_dealer dealer))
            (take_all (length (notes ++ added)) (notes ++ added) (omega arith))
            ∙ sym (length-filter (trades_with_dealer dealer) (notes ++ added))
            ∙ (omega (arith, all, passes, count));
        most = omega arith;
      }

  -- What is kept.
  pub record Printed (trail : List InvestorEntry) : Type 0 where
    pub events : List InvestorEvent
    pub state : desk_after market events ≡ desk_of trail
    pub noted : NotedAs market events trail
    pub long : length (investor_notes market events) ≡ length (sent_by trail)
    pub count : length (filter (trades_with_dealer dealer) (investor_notes market events))
        ≡ length (rooms trail)
    pub each : Each (λ before room later. IsTold trail (investor_notes market events) before room)
        [] (rooms trail)

  none_said : (said : Option InvestorNote) → trades_with_dealer dealer said ≡ false
      → (messages : List OutMessage)
      → filter (trades_with_dealer dealer) (beside_each messages said) ≡ []
  none_said said none [] = refl
  none_said said none (message ∷ messages) = rw none (none_said said none messages)

  module _ (trail : List InvestorEntry) (more : InvestorEvent) (was : Printed trail) where
    abbrev book : InvestorBook
    book = book_by trail

    abbrev notes : List (Option InvestorNote)
    notes = investor_notes market was.events

    abbrev added : List (Option InvestorNote)
    added = beside_each (event_messages market book more) (event_note market book more)

    abbrev then_trail : List InvestorEntry
    then_trail = trail ++ entries_of market trail more

    abbrev then_events : List InvestorEvent
    then_events = was.events ++ more ∷ []

    abbrev Then : List (Option InvestorNote) → List RoomRef → RoomRef → List RoomRef → Type 0
    Then all before room later = IsTold then_trail all before room

    notes_are : investor_notes market then_events ≡ notes ++ added
    unfolding desk_after
    notes_are =
        notes_more market no_facts was.events more
        ∙ ap (λ (state : DeskState). notes
        ++ beside_each (event_messages market (book_of state.facts) more)
        (event_note market (book_of state.facts) more)) was.state

    state_is : desk_after market then_events ≡ desk_of then_trail
    state_is =
        desk_push market was.events more
        ∙ ap (λ (state : DeskState). after_event market state more) was.state
        ∙ trail_push market trail more

    rooms_are : rooms then_trail
        ≡ rooms trail ++ filter_map (hit_in investor dealer) (event_facts market book more)
    rooms_are =
        ap (filter_map (hit_in investor dealer)) (facts_grown market trail more)
        ∙ filter_map-append (hit_in investor dealer) (facts_of trail) (event_facts market book more)

    long_is : length (notes ++ added) ≡ length (sent_by then_trail)
    long_is =
        let messages = written_from market (length (sent_by trail) + 1) (moment_of more)
        (event_messages market book more) in
        let sent : sent_by trail ++ messages ≡ sent_by then_trail =
        ap (λ (state : DeskState). state.sent) (trail_push market trail more) in
        length-append notes added
        ∙ ap (λ (n : ℕ). n + length added) was.long
        ∙ ap (λ (n : ℕ). length (sent_by trail) + n)
        (sym (written_length market (length (sent_by trail) + 1) (moment_of more)
        (event_messages market book more) (event_note market book more)))
        ∙ sym (length-append (sent_by trail) messages) ∙ ap length sent

    both : length (filter (trades_with_dealer dealer) (notes ++ added))
        ≡ length (rooms trail) + length (filter (trades_with_dealer dealer) added)
    both =
        ap length (filter-append (trades_with_dealer dealer) notes added)
        ∙ length-append (filter (trades_with_dealer dealer) notes)
        (filter (trades_with_dealer dealer) added)
        ∙ ap (λ (n : ℕ). n + length (filter (trades_with_dealer dealer) added)) was.count

    earlier : Each (Then (notes ++ added)) [] (rooms trail)
    earlier =
        each_weaker (λ before room later. IsTold trail notes before room) (Then (notes ++ added))
        (λ before room later is.
        told_later trail (entries_of market trail more) notes added before room is)
        [] (rooms trail) was.each

    -- with these rooms more
    with_rooms : (fresh : List RoomRef) → rooms then_trail ≡ rooms trail ++ fresh
        → length (filter (trades_with_dealer dealer) added) ≡ length fresh
        → Each (Then (notes ++ added)) (rooms trail) fresh → Printed then_trail
    with_rooms fresh are same each = record {
      events = then_events;
      state = state_is;
      noted = noted_push market was.events trail more was.state was.noted;
      long = ap length notes_are ∙ long_is;
      count = ap (λ (l : List (Option InvestorNote)). length (filter (trades_with_dealer dealer) l)) notes_are
          ∙ both ∙ ap (λ (n : ℕ). length (rooms trail) + n) same
          ∙ sym (length-append (rooms trail) fresh) ∙ ap length (sym are);
      each = subst (λ (l : List (Option InvestorNote)). Each (Then l) [] (rooms then_trail)) (sym notes_are)
          (subst (Each (Then (notes ++ added)) []) (sym are)
          (each_append (Then (notes ++ added)) (λ before room later further is. is) []
          (rooms trail) fresh earlier each));
    }

    pub one_more : Printed then_trail
    unfolding entries_of
    one_more = by_says (event_says book more)
      where
        by_says : Says (event_facts market book more) (event_messages market book more)
            (event_note market book more) → Printed then_trail
        by_says (nothing none quiet) =
            with_rooms [] (rooms_are ∙ ap (λ (l : List RoomRef). rooms trail ++ l) none)
            (ap length (none_said (event_note market book more) quiet (event_messages market book more)))
            tt
        by_says (one request quote price message facts_are messages_are said_is) =
            let bytes = written_from market (length (sent_by trail) + 1) (moment_of more)
            (message ∷ []) in
            let entries : entries_of market trail more
            ≡ Happened more
            ∷ AtDesk (Closed request (close.Awarded quote dealer price)) ∷ map Sent bytes =
            ap (λ (f : List InvestorFact). Happened more ∷ map AtDesk f ++ map Sent (written_from market
            (length (sent_by trail) + 1) (moment_of more) (event_messages market book more))) facts_are
            ∙ ap (λ (m : List OutMessage). Happened more
            ∷ AtDesk (Closed request (close.Awarded quote dealer price))
            ∷ map Sent (written_from market (length (sent_by trail) + 1) (moment_of more) m)) messages_are in
            let fresh : added ≡ Some (note.Trade dealer) ∷ [] =
            ap (λ (m : List OutMessage). beside_each m (event_note market book more)) messages_are
            ∙ ap (λ (n : Option InvestorNote). n ∷ []) said_is in
            with_rooms (room_of investor request ∷ [])
            (rooms_are ∙ ap (λ (f : List InvestorFact). rooms trail ++ filter_map (hit_in investor dealer) f) facts_are
            ∙ ap (λ (l : List RoomRef). rooms trail ++ l) (room_there request quote price))
            (ap (λ (l : List (Option InvestorNote)). length (filter (trades_with_dealer dealer) l)) fresh
            ∙ rw (text_self dealer) refl) (
              subst (λ (l : List InvestorEntry). IsTold (trail ++ l) (notes ++ added) (rooms trail) (room_of investor request))
                  (sym entries)
                  (subst (λ (l : List (Option InvestorNote)). IsTold (trail ++ Happened more ∷ AtDesk (Closed request (close.Awarded quote dealer price)) ∷ map Sent bytes) (notes ++ l) (rooms trail) (room_of investor request))
                  (sym fresh)
                  (told_now trail more notes request quote price _ was.long was.count)),
              tt,
            )
