-- What a desk keeps beside its events, after one event more.
use Rattle.std.proofs.Common.{◌≡◌, ◌<◌, ◌≤◌, ℕ, ◌+◌, ◌^◌, Bool, cond, List, [], ◌∷◌, ◌++◌, length}
use Rattle.std.proofs.Common.{fold, Option, Some, None, is_some, IfSome, option_map, refl, sym, ap}
use Rattle.std.proofs.Common.{subst, ◌∙◌, arith}
use Rattle.std.specs.Option.{option_to_list}
use Rattle.std.proofs.lemmas.List.{append-nil}
use Rattle.std.proofs.lemmas.List.Elements.{filter_map-append}
use Rattle.venue_rows.specs.declared.dealer_rows.DealerRow.{DealerRow}
use Rattle.market_terms.specs.declared.asks.Ask.{Ask}
use Rattle.market_terms.specs.declared.closes.Close.{Close}
use Rattle.market_terms.specs.declared.rooms.RoomRef.{RoomRef}
use Rattle.quote_messages.specs.declared.out_messages.OutMessage.{OutMessage}
use Rattle.quote_word.specs.declared.settled.Settled.{Settled}
use Rattle.quote_word.specs.declared.settled.Settled.TheVariants as settled
use Rattle.dealer_desk.specs.DealerFacts.{DealerFact, Came, Shown, Told, DealerBook, book_of}
use Rattle.dealer_desk.specs.DealerFacts.{exposure_of, number_to_drop, quote_to_drop}
use Rattle.dealer_desk.specs.DealerRules.{dealer_verdict}
use Rattle.dealer_desk.specs.DealerDesk.{DeskEvents, verdict_at}
use Rattle.dealer_desk.specs.DealerOutput.{DeskState, desk_after, event_facts, event_message}
use Rattle.dealer_desk.specs.DealerOutput.{verdict_facts, verdict_message, settled_facts}
use Rattle.dealer_desk.specs.DealerOutput.{uses_number, closable, rooms_of, shown_room, sent_with}
use Rattle.dealer_desk.specs.DealerOutput.{moment_of, next_message, next_request, notice_of}
use Rattle.dealer_desk.specs.DealerOutput.{drop_message, word_asked}
use Rattle.dealer_desk.specs.DealerNotes.{notes_with, verdict_note, drop_note, notice_note}
use Rattle.dealer_desk.specs.DealerNotes.{trade_of, event_note}
use Rattle.dealer_desk.specs.BookChanges.{book_after, IsSound}
use Rattle.dealer_desk.specs.DealerTable.{IndexView, with_fact, with_request}
use Rattle.dealer_desk.specs.RuleCuts.{IsDesk, IsLawfulNote, note_of, note_uses, note_facts}
use Rattle.dealer_desk.specs.RuleCuts.{with_facts}
use Rattle.dealer_desk.specs.declared.notes.DealerNote.{DealerNote}
use Rattle.dealer_desk.specs.declared.outcomes.Note.{Note}
use Rattle.dealer_desk.specs.declared.standing.StandingRequest.{StandingRequest}
use Rattle.dealer_desk.specs.declared.standing.Withdrawal.TheVariants as by
use Rattle.dealer_desk.specs.declared.events.DealerEvent.{DealerEvent}
use Rattle.dealer_desk.specs.declared.events.DealerEvent.TheVariants as event
use Rattle.dealer_desk.specs.declared.verdicts.DealerVerdict.{DealerVerdict}
use Rattle.dealer_desk.specs.declared.verdicts.DealerVerdict.TheVariants as verdict
use Rattle.dealer_desk.proofs.BookLemmas.{dropped_book}
use Rattle.dealer_desk.proofs.BookPush.{books_push}
use Rattle.dealer_desk.proofs.VerdictLemmas.{verdict_holds, lawful_note, asked_within}
use Rattle.dealer_desk.proofs.DeskLemmas.{Stood, desk_sound, desk_after_push}
use Rattle.dealer_desk.proofs.DutyLemmas.{drop_asks}
use Rattle.dealer_desk.proofs.NotedFacts.{notes_push}

-- what holds of the book of an index

pub index_stands : (date : List ℕ) (row : DealerRow) (events : List DealerEvent) (sent : List (List ℕ)) (notes : List (Option DealerNote)) (index : IndexView) → IsDesk date row events sent notes index → Stood row index.book (length events) (length index.rooms)
index_stands date row events sent notes index kept =
    subst (λ (b : DealerBook). Stood row b (length events) (length index.rooms)) (sym kept.book_is)
    (subst (λ (rs : List RoomRef). Stood row (book_of (desk_after date row events).facts) (length events) (length rs)) (sym kept.rooms_are) (desk_sound date row events))

-- so the book is sound, and the exposure within the limit
pub index_sound : (date : List ℕ) (row : DealerRow) (events : List DealerEvent) (sent : List (List ℕ)) (notes : List (Option DealerNote)) (index : IndexView)
    → IsDesk date row events sent notes index → IsSound index.book.requests index.book.quotes
index_sound date row events sent notes index kept = (index_stands date row events sent notes index kept).stands.sound

pub exposure_within : (date : List ℕ) (row : DealerRow) (events : List DealerEvent) (sent : List (List ℕ)) (notes : List (Option DealerNote)) (index : IndexView)
    → IsDesk date row events sent notes index → exposure_of index.book ≤ row.exposure
unfolding exposure_of
exposure_within date row events sent notes index kept = (index_stands date row events sent notes index kept).stands.within

-- What a contract sees of a desk, and of the book and the rooms of its index.

abbrev pub seen : List ℕ → DealerRow → List DealerEvent → DeskEvents
seen date row events = record { date = date; row = row; events = events }

pub verdict_seen : (date : List ℕ) (row : DealerRow) (events : List DealerEvent) (sent : List (List ℕ)) (notes : List (Option DealerNote)) (index : IndexView) (self : DeskEvents) (moment : ℕ) (bytes : List ℕ)
    → IsDesk date row events sent notes index → seen date row events ≡ self
    → dealer_verdict date row index.book moment bytes ≡ verdict_at self moment bytes
verdict_seen date row events sent notes index self moment bytes kept is =
    ap (λ (b : DealerBook). dealer_verdict date row b moment bytes) kept.book_is ∙ ap (λ (d : DeskEvents). verdict_at d moment bytes) is

-- any event
pub kept_event : (date : List ℕ) (row : DealerRow) (events : List DealerEvent) (sent sent2 : List (List ℕ)) (notes notes2 : List (Option DealerNote)) (index index2 : IndexView) (more : DealerEvent)
    → IsDesk date row events sent notes index
    → sent2 ≡ sent_with date row sent (moment_of more) (event_message date row index.book more)
    → notes2 ≡ notes ++ notes_with (event_message date row index.book more) (event_note date row index.book more)
    → index2.book ≡ fold book_after index.book (event_facts date row index.book more)
    → index2.rooms ≡ index.rooms ++ rooms_of (more ∷ [])
    → IsDesk date row (events ++ more ∷ []) sent2 notes2 index2
kept_event date row events sent sent2 notes notes2 index index2 more kept sends says books rooms =
    let d = desk_after date row events in
    let push = desk_after_push date row events more in
    record {
      sent_are = sends
          ∙ ap (λ (b : DealerBook). sent_with date row sent (moment_of more) (event_message date row b more)) kept.book_is
          ∙ ap (λ (s : List (List ℕ)). sent_with date row s (moment_of more) (event_message date row (book_of d.facts) more)) kept.sent_are
          ∙ ap (λ (s : DeskState). s.sent) (sym push);
      notes_are = says
          ∙ ap (λ (b : DealerBook). notes ++ notes_with (event_message date row b more) (event_note date row b more)) kept.book_is
          ∙ ap (λ (ns : List (Option DealerNote)). ns ++ notes_with (event_message date row (book_of d.facts) more) (event_note date row (book_of d.facts) more)) kept.notes_are
          ∙ sym (notes_push date row events more);
      book_is = books
          ∙ ap (λ (b : DealerBook). fold book_after b (event_facts date row b more)) kept.book_is
          ∙ sym (books_push d.facts (event_facts date row (book_of d.facts) more))
          ∙ ap (λ (s : DeskState). book_of s.facts) (sym push);
      rooms_are = rooms ∙ ap (λ (rs : List RoomRef). rs ++ rooms_of (more ∷ [])) kept.rooms_are ∙ sym (filter_map-append shown_room events (more ∷ []));
    }

books_of : (index : IndexView) (facts : List DealerFact) → (with_facts index facts).book ≡ fold book_after index.book facts
books_of index [] = refl
books_of index (fact ∷ facts) = books_of (with_fact index fact) facts

rooms_stay : (index : IndexView) (facts : List DealerFact) → (with_facts index facts).rooms ≡ index.rooms
rooms_stay index [] = refl
rooms_stay index (fact ∷ facts) = rooms_stay (with_fact index fact) facts

-- a desk at the start of the day
pub kept_empty : (date : List ℕ) (row : DealerRow) → IsDesk date row [] [] [] (record { book = book_of []; rooms = [] })
unfolding desk_after
kept_empty date row = record { sent_are = refl; notes_are = refl; book_is = refl; rooms_are = refl }

-- what is noted with a message, where there is one
noted_behind : (notes : List (Option DealerNote)) (reply : Option OutMessage) (note : Option DealerNote)
    → notes ++ option_to_list (option_map (λ (message : OutMessage). note) reply) ≡ notes ++ notes_with reply note
noted_behind notes None beside = refl
noted_behind notes (Some message) beside = refl

-- A message of the dealer's own.

noted : (given : DealerVerdict) (settlement : Option Settled) → note_facts (note_of given settlement) ≡ verdict_facts given settlement
noted (verdict.QuoteAccepted request id quote None) settlement = refl
noted (verdict.QuoteAccepted request id quote (Some replaced)) (Some settled.Withdrawn) = refl
noted (verdict.QuoteAccepted request id quote (Some replaced)) (Some settled.Lifted) = refl
noted (verdict.QuoteAccepted request id quote (Some replaced)) None = refl
noted (verdict.CancelAccepted id quote request) (Some settled.Withdrawn) = refl
noted (verdict.CancelAccepted id quote request) (Some settled.Lifted) = refl
noted (verdict.CancelAccepted id quote request) None = refl
noted (verdict.DeclineAccepted request number) settlement = refl
noted verdict.Dropped settlement = refl
noted (verdict.OutOfSequence reject) settlement = refl
noted other settlement = refl

used_up : (given : DealerVerdict) (settlement : Option Settled) → note_uses (note_of given settlement) ≡ uses_number given
used_up (verdict.QuoteAccepted request id quote None) settlement = refl
used_up (verdict.QuoteAccepted request id quote (Some replaced)) (Some settled.Withdrawn) = refl
used_up (verdict.QuoteAccepted request id quote (Some replaced)) (Some settled.Lifted) = refl
used_up (verdict.QuoteAccepted request id quote (Some replaced)) None = refl
used_up (verdict.CancelAccepted id quote request) (Some settled.Withdrawn) = refl
used_up (verdict.CancelAccepted id quote request) (Some settled.Lifted) = refl
used_up (verdict.CancelAccepted id quote request) None = refl
used_up (verdict.DeclineAccepted request number) settlement = refl
used_up verdict.Dropped settlement = refl
used_up (verdict.OutOfSequence reject) settlement = refl
used_up other settlement = refl

pub kept_own : (date : List ℕ) (row : DealerRow) (events : List DealerEvent) (sent : List (List ℕ)) (notes : List (Option DealerNote)) (index index2 : IndexView) (moment : ℕ) (bytes : List ℕ) (settlement : Option Settled)
    (given : DealerVerdict) (note : Note) (reply : Option OutMessage) (beside : Option DealerNote) (message : Option (List ℕ))
    → IsDesk date row events sent notes index
    → given ≡ dealer_verdict date row index.book moment bytes
    → note ≡ note_of given settlement
    → reply ≡ verdict_message given settlement
    → beside ≡ verdict_note given settlement
    → sent_with date row sent moment reply ≡ sent ++ option_to_list message
    → index2 ≡ with_facts index (Came moment bytes (note_uses note) ∷ note_facts note)
    → IsDesk date row (events ++ event.Received moment bytes settlement ∷ []) (sent ++ option_to_list message)
    (notes ++ option_to_list (option_map (λ (m : OutMessage). beside) reply)) index2
unfolding event_facts event_message event_note
kept_own date row events sent notes index index2 moment bytes settlement given note reply beside message kept is is_note replies says written changed =
    let facts : List DealerFact = Came moment bytes (note_uses note) ∷ note_facts note in
    let same : facts ≡ event_facts date row index.book (event.Received moment bytes settlement) =
    ap (λ (n : Note). Came moment bytes (note_uses n) ∷ note_facts n) is_note
    ∙ ap (λ (b : Bool). Came moment bytes b ∷ note_facts (note_of given settlement)) (used_up given settlement)
    ∙ ap (λ (fs : List DealerFact). Came moment bytes (uses_number given) ∷ fs) (noted given settlement)
    ∙ ap (λ (v : DealerVerdict). Came moment bytes (uses_number v) ∷ verdict_facts v settlement) is in
    kept_event date row events sent (sent ++ option_to_list message) notes _ index index2 (event.Received moment bytes settlement) kept
    (sym written ∙ ap (sent_with date row sent moment) (replies ∙ ap (λ (v : DealerVerdict). verdict_message v settlement) is))
    (noted_behind notes reply beside
    ∙ ap (λ (m : Option OutMessage). notes ++ notes_with m beside) replies
    ∙ ap (λ (n : Option DealerNote). notes ++ notes_with (verdict_message given settlement) n) says
    ∙ ap (λ (v : DealerVerdict). notes ++ notes_with (verdict_message v settlement) (verdict_note v settlement)) is)
    (ap (λ (i : IndexView). i.book) changed ∙ books_of index facts ∙ ap (fold book_after index.book) same)
    (ap (λ (i : IndexView). i.rooms) changed ∙ rooms_stay index facts ∙ sym (append-nil index.rooms))

-- what the index takes note of is lawful
pub own_lawful : (date : List ℕ) (row : DealerRow) (events : List DealerEvent) (sent : List (List ℕ)) (notes : List (Option DealerNote)) (index : IndexView) (moment : ℕ) (bytes : List ℕ) (settlement : Option Settled) (given : DealerVerdict) (note : Note)
    → IsDesk date row events sent notes index → given ≡ dealer_verdict date row index.book moment bytes → note ≡ note_of given settlement → IsLawfulNote index.book note
own_lawful date row events sent notes index moment bytes settlement given note kept is is_note =
    let s = index_stands date row events sent notes index kept in
    subst (λ (n : Note). IsLawfulNote index.book n) (sym (is_note ∙ ap (λ (v : DealerVerdict). note_of v settlement) is))
    (lawful_note row index.book (dealer_verdict date row index.book moment bytes) settlement s.stands (verdict_holds date row index.book moment bytes s.stands))

-- the numbers that are counted stay below the number of events
pub used_below : (date : List ℕ) (row : DealerRow) (events : List DealerEvent) (sent : List (List ℕ)) (notes : List (Option DealerNote)) (index : IndexView) → IsDesk date row events sent notes index → length events + 1 < 2 ^ 63 → index.book.used + 1 < 2 ^ 63
used_below date row events sent notes index kept few = let s = (index_stands date row events sent notes index kept).counts in omega arith

pub notices_below : (date : List ℕ) (row : DealerRow) (events : List DealerEvent) (sent : List (List ℕ)) (notes : List (Option DealerNote)) (index : IndexView) → IsDesk date row events sent notes index → length events + 1 < 2 ^ 63 → index.book.notices + 1 < 2 ^ 63
notices_below date row events sent notes index kept few = let s = (index_stands date row events sent notes index kept).counts in omega arith

-- the word that a message asks is that of a quote of the day
pub asked_own : (date : List ℕ) (row : DealerRow) (events : List DealerEvent) (sent : List (List ℕ)) (notes : List (Option DealerNote)) (index : IndexView) (moment : ℕ) (bytes : List ℕ) → IsDesk date row events sent notes index
    → IfSome (word_asked (dealer_verdict date row index.book moment bytes)) (λ quote. (1 ≤ quote) × (quote ≤ row.quotes))
asked_own date row events sent notes index moment bytes kept =
    let s = index_stands date row events sent notes index kept in
    asked_within row index.book (dealer_verdict date row index.book moment bytes) s.stands (verdict_holds date row index.book moment bytes s.stands)

-- the same of a drop
pub asked_drop : (date : List ℕ) (row : DealerRow) (events : List DealerEvent) (sent : List (List ℕ)) (notes : List (Option DealerNote)) (index : IndexView) (last : ℕ) → IsDesk date row events sent notes index
    → IfSome (number_to_drop index.book last) (λ quote. (1 ≤ quote) × (quote ≤ row.quotes))
asked_drop date row events sent notes index last kept =
    let s = index_stands date row events sent notes index kept in
    drop_asks row index.book last (quote_to_drop index.book last) s.stands refl

-- A request that is shown.

pub kept_shown : (date : List ℕ) (row : DealerRow) (events : List DealerEvent) (sent : List (List ℕ)) (notes : List (Option DealerNote)) (index index2 : IndexView) (room : RoomRef) (ask : Ask) (moment : ℕ)
    → IsDesk date row events sent notes index
    → index2 ≡ with_request index room (Shown ask moment)
    → IsDesk date row (events ++ event.Shown room ask moment ∷ []) (sent ++ next_message date row sent moment (next_request index.book ask) ∷ []) (notes ++ None ∷ []) index2
unfolding event_facts event_message event_note
kept_shown date row events sent notes index index2 room ask moment kept changed =
    kept_event date row events sent (sent ++ next_message date row sent moment (next_request index.book ask) ∷ []) notes (notes ++ None ∷ []) index index2 (event.Shown room ask moment) kept
    refl refl (ap (λ (i : IndexView). i.book) changed) (ap (λ (i : IndexView). i.rooms) changed)

-- A notice that is due.

pub kept_told : (date : List ℕ) (row : DealerRow) (events : List DealerEvent) (sent : List (List ℕ)) (notes : List (Option DealerNote)) (index index2 : IndexView) (number : ℕ) (request : StandingRequest) (close : Close) (moment : ℕ)
    → IsDesk date row events sent notes index
    → closable index.book number ≡ Some request
    → index2 ≡ with_fact index (Told number close moment)
    → IsDesk date row (events ++ event.Told number close moment ∷ []) (sent ++ next_message date row sent moment (notice_of index.book close request) ∷ []) (notes ++ trade_of close request ∷ []) index2
unfolding event_facts event_message event_note
kept_told date row events sent notes index index2 number request close moment kept due changed =
    kept_event date row events sent (sent ++ next_message date row sent moment (notice_of index.book close request) ∷ []) notes (notes ++ trade_of close request ∷ []) index index2 (event.Told number close moment) kept
    (ap (λ (o : Option StandingRequest). sent_with date row sent moment (option_map (notice_of index.book close) o)) (sym due))
    (ap (λ (o : Option StandingRequest). notes ++ notes_with (option_map (notice_of index.book close) o) (notice_note close o)) (sym due))
    (ap (λ (i : IndexView). i.book) changed ∙ ap (λ (o : Option StandingRequest). fold book_after index.book (cond (is_some o) (Told number close moment ∷ []) [])) (sym due))
    (ap (λ (i : IndexView). i.rooms) changed ∙ sym (append-nil index.rooms))

-- A drop.

pub kept_drop : (date : List ℕ) (row : DealerRow) (events : List DealerEvent) (sent : List (List ℕ)) (notes : List (Option DealerNote)) (index index2 : IndexView) (last moment : ℕ) (settlement : Option Settled) (reply : Option OutMessage) (beside : Option DealerNote) (message : Option (List ℕ))
    → IsDesk date row events sent notes index
    → reply ≡ option_map (drop_message settlement) (quote_to_drop index.book last)
    → beside ≡ drop_note settlement (quote_to_drop index.book last)
    → sent_with date row sent moment reply ≡ sent ++ option_to_list message
    → index2 ≡ with_facts index (settled_facts (number_to_drop index.book last) by.Cancel settlement)
    → IsDesk date row (events ++ event.Drop last moment settlement ∷ []) (sent ++ option_to_list message)
    (notes ++ option_to_list (option_map (λ (m : OutMessage). beside) reply)) index2
unfolding event_facts event_message event_note
kept_drop date row events sent notes index index2 last moment settlement reply beside message kept replies says written changed =
    let facts : List DealerFact = settled_facts (number_to_drop index.book last) by.Cancel settlement in
    kept_event date row events sent (sent ++ option_to_list message) notes _ index index2 (event.Drop last moment settlement) kept
    (sym written ∙ ap (sent_with date row sent moment) replies)
    (noted_behind notes reply beside
    ∙ ap (λ (m : Option OutMessage). notes ++ notes_with m beside) replies
    ∙ ap (λ (n : Option DealerNote). notes ++ notes_with (option_map (drop_message settlement) (quote_to_drop index.book last)) n) says)
    (ap (λ (i : IndexView). i.book) changed ∙ books_of index facts ∙ ap (λ (b : DealerBook). fold book_after b facts) (sym (dropped_book index.book last moment)))
    (ap (λ (i : IndexView). i.rooms) changed ∙ rooms_stay index facts ∙ sym (append-nil index.rooms))
