-- One event more at a desk, and what holds of a desk after any events.
use Rattle.std.proofs.Common.{◌≡◌, ◌≤◌, ℕ, ◌+◌, Bool, true, false, cond, List, [], ◌∷◌, ◌++◌}
use Rattle.std.proofs.Common.{length, map, fold, Option, Some, None, is_some, refl, sym, ap, subst}
use Rattle.std.proofs.Common.{◌∙◌, arith}
use Rattle.std.specs.List.{sum_by}
use Rattle.std.proofs.lemmas.List.{length-append, length-map}
use Rattle.std.proofs.lemmas.List.Sums.{sum_by-cons, fold-append}
use Rattle.venue_rows.specs.declared.dealer_rows.DealerRow.{DealerRow}
use Rattle.market_terms.specs.declared.closes.Close.{Close}
use Rattle.quote_word.specs.declared.settled.Settled.{Settled}
use Rattle.quote_word.specs.declared.settled.Settled.TheVariants as settled
use Rattle.dealer_desk.specs.DealerFacts.{DealerFact, Came, Shown, Dropped, Told, DealerBook}
use Rattle.dealer_desk.specs.DealerFacts.{book_of, number_to_drop, exposure_of}
use Rattle.dealer_desk.specs.BookChanges.{book_after, request_after, request_added, counted}
use Rattle.dealer_desk.specs.DealerRules.{dealer_verdict}
use Rattle.dealer_desk.specs.DealerOutput.{DeskState, no_facts, after_event, desk_after}
use Rattle.dealer_desk.specs.DealerOutput.{event_facts, verdict_facts, settled_facts, uses_number}
use Rattle.dealer_desk.specs.DealerOutput.{closable, rooms_of}
use Rattle.dealer_desk.specs.declared.standing.Withdrawal.{Withdrawal}
use Rattle.dealer_desk.specs.declared.standing.Withdrawal.TheVariants as by
use Rattle.dealer_desk.specs.declared.events.DealerEvent.{DealerEvent}
use Rattle.dealer_desk.specs.declared.events.DealerEvent.TheVariants as event
use Rattle.dealer_desk.specs.declared.verdicts.DealerVerdict.{DealerVerdict}
use Rattle.dealer_desk.specs.declared.verdicts.DealerVerdict.TheVariants as verdict
use Rattle.dealer_desk.proofs.BookLemmas.{came_book}
use Rattle.dealer_desk.proofs.BookPush.{books_push}
use Rattle.dealer_desk.proofs.StandLemmas.{StandsIn, stands_empty, dropped_stands, shown_stands}
use Rattle.dealer_desk.proofs.StandLemmas.{withdrawn_stands, late_stands, declined_stands}
use Rattle.dealer_desk.proofs.StandLemmas.{told_stands, accepted_stands, replaced_stands}
use Rattle.dealer_desk.proofs.VerdictLemmas.{Holds, verdict_holds}

-- a desk after one event more is that after the others, and then after this one
pub desk_after_push : (date : List ℕ) (row : DealerRow) (events : List DealerEvent) (event : DealerEvent) → desk_after date row (events ++ event ∷ []) ≡ after_event date row (desk_after date row events) event
unfolding desk_after
desk_after_push date row events event = fold-append (after_event date row) no_facts events (event ∷ [])

-- so are its facts
pub facts_push : (date : List ℕ) (row : DealerRow) (events : List DealerEvent) (event : DealerEvent)
    → (desk_after date row (events ++ event ∷ [])).facts ≡ (desk_after date row events).facts ++ event_facts date row (book_of (desk_after date row events).facts) event
facts_push date row events event = ap (λ (d : DeskState). d.facts) (desk_after_push date row events event)

-- What the facts of an event keep.

verdict_stands : (row : DealerRow) (book : DealerBook) (given : DealerVerdict) (settlement : Option Settled) → StandsIn row book → Holds row book given → StandsIn row (fold book_after book (verdict_facts given settlement))
verdict_stands row book (verdict.QuoteAccepted request id quote None) settlement stands holds = accepted_stands row book quote holds stands
verdict_stands row book (verdict.QuoteAccepted request id quote (Some replaced)) (Some settled.Withdrawn) stands holds = replaced_stands row book quote replaced by.Replacement holds stands
verdict_stands row book (verdict.QuoteAccepted request id quote (Some replaced)) (Some settled.Lifted) stands holds = late_stands row book replaced stands
verdict_stands row book (verdict.QuoteAccepted request id quote (Some replaced)) None stands holds = stands
verdict_stands row book (verdict.CancelAccepted id quote request) (Some settled.Withdrawn) stands holds = withdrawn_stands row book quote by.Cancel stands
verdict_stands row book (verdict.CancelAccepted id quote request) (Some settled.Lifted) stands holds = late_stands row book quote stands
verdict_stands row book (verdict.CancelAccepted id quote request) None stands holds = stands
verdict_stands row book (verdict.DeclineAccepted request number) settlement stands holds = declined_stands row book number stands
verdict_stands row book other settlement stands holds = stands

-- a verdict holds of a book whatever the number of messages that came
pub holds_used : (row : DealerRow) (book : DealerBook) (used : ℕ) (given : DealerVerdict) → Holds row book given → Holds row (record book { used = used }) given
holds_used row book used (verdict.QuoteAccepted request id quote replaced) holds = holds
holds_used row book used (verdict.CancelAccepted id quote request) holds = holds
holds_used row book used (verdict.DeclineAccepted request number) holds = holds
holds_used row book used other holds = tt

own_stands : (row : DealerRow) (book : DealerBook) (moment : ℕ) (bytes : List ℕ) (used : Bool) (given : DealerVerdict) (settlement : Option Settled) → StandsIn row book → Holds row book given
    → StandsIn row (fold book_after (book_after book (Came moment bytes used)) (verdict_facts given settlement))
own_stands row book moment bytes used given settlement stands holds =
    subst (λ (b : DealerBook). StandsIn row (fold book_after b (verdict_facts given settlement))) (sym (came_book book moment bytes used))
    (verdict_stands row (record book { used = cond used (book.used + 1) book.used }) given settlement stands (holds_used row book (cond used (book.used + 1) book.used) given holds))

told_if : (row : DealerRow) (book : DealerBook) (b : Bool) (request : ℕ) (close : Close) (moment : ℕ) → StandsIn row book → StandsIn row (fold book_after book (cond b (Told request close moment ∷ []) []))
told_if row book true request close moment stands = told_stands row book request close moment stands
told_if row book false request close moment stands = stands

settled_stands : (row : DealerRow) (book : DealerBook) (asked : Option ℕ) (how : Withdrawal) (settlement : Option Settled) → StandsIn row book → StandsIn row (fold book_after book (settled_facts asked how settlement))
settled_stands row book None how settlement stands = stands
settled_stands row book (Some quote) how (Some settled.Withdrawn) stands = withdrawn_stands row book quote how stands
settled_stands row book (Some quote) how (Some settled.Lifted) stands = late_stands row book quote stands
settled_stands row book (Some quote) how None stands = stands

pub event_stands : (date : List ℕ) (row : DealerRow) (book : DealerBook) (came : DealerEvent) → StandsIn row book → StandsIn row (fold book_after book (event_facts date row book came))
unfolding event_facts
event_stands date row book (event.Received moment bytes settlement) stands =
    let given = dealer_verdict date row book moment bytes in
    own_stands row book moment bytes (uses_number given) given settlement stands (verdict_holds date row book moment bytes stands)
event_stands date row book (event.Shown room ask moment) stands = shown_stands row book ask moment stands
event_stands date row book (event.Told request close moment) stands = told_if row book (is_some (closable book request)) request close moment stands
event_stands date row book (event.Drop last moment settlement) stands =
    settled_stands row (book_after book (Dropped last moment)) (number_to_drop book last) by.Cancel settlement (dropped_stands row book last moment stands)

-- How many messages used up a number and how many notices were sent: at most one an event.

abbrev weight : DealerFact → ℕ
weight (Came moment bytes used) = 1
weight (Told request close moment) = 1
weight fact = 0

counted_more : (b : Bool) (n : ℕ) → counted b n ≤ n + 1
counted_more true n = omega arith
counted_more false n = omega arith

fact_counts : (book : DealerBook) (fact : DealerFact) → (book_after book fact).used + (book_after book fact).notices ≤ book.used + book.notices + weight fact
unfolding book_after
fact_counts book (Came moment bytes used) = let more = counted_more used book.used in omega arith
fact_counts book (Told request close moment) = omega arith
fact_counts book fact = omega arith

facts_count : (book : DealerBook) (facts : List DealerFact) → (fold book_after book facts).used + (fold book_after book facts).notices ≤ book.used + book.notices + sum_by weight facts
facts_count book [] = omega arith
facts_count book (fact ∷ facts) =
    let here = fact_counts book fact in
    let rest = facts_count (book_after book fact) facts in
    rw (sum_by-cons weight fact facts) (omega arith)

verdict_weight : (given : DealerVerdict) (settlement : Option Settled) → sum_by weight (verdict_facts given settlement) ≡ 0
verdict_weight (verdict.QuoteAccepted request id quote None) settlement = refl
verdict_weight (verdict.QuoteAccepted request id quote (Some replaced)) (Some settled.Withdrawn) = refl
verdict_weight (verdict.QuoteAccepted request id quote (Some replaced)) (Some settled.Lifted) = refl
verdict_weight (verdict.QuoteAccepted request id quote (Some replaced)) None = refl
verdict_weight (verdict.CancelAccepted id quote request) (Some settled.Withdrawn) = refl
verdict_weight (verdict.CancelAccepted id quote request) (Some settled.Lifted) = refl
verdict_weight (verdict.CancelAccepted id quote request) None = refl
verdict_weight (verdict.DeclineAccepted request number) settlement = refl
verdict_weight other settlement = refl

told_weight : (b : Bool) (request : ℕ) (close : Close) (moment : ℕ) → sum_by weight (cond b (Told request close moment ∷ []) []) ≤ 1
told_weight true request close moment = omega arith
told_weight false request close moment = omega arith

settled_weight : (asked : Option ℕ) (how : Withdrawal) (settlement : Option Settled) → sum_by weight (settled_facts asked how settlement) ≡ 0
settled_weight None how settlement = refl
settled_weight (Some quote) how (Some settled.Withdrawn) = refl
settled_weight (Some quote) how (Some settled.Lifted) = refl
settled_weight (Some quote) how None = refl

event_weight : (date : List ℕ) (row : DealerRow) (book : DealerBook) (came : DealerEvent) → sum_by weight (event_facts date row book came) ≤ 1
unfolding event_facts
event_weight date row book (event.Received moment bytes settlement) =
    let given = dealer_verdict date row book moment bytes in
    let none = verdict_weight given settlement in
    rw (sum_by-cons weight (Came moment bytes (uses_number given)) (verdict_facts given settlement)) (omega arith)
event_weight date row book (event.Shown room ask moment) = omega arith
event_weight date row book (event.Told request close moment) = told_weight (is_some (closable book request)) request close moment
event_weight date row book (event.Drop last moment settlement) =
    let none = settled_weight (number_to_drop book last) by.Cancel settlement in
    rw (sum_by-cons weight (Dropped last moment) (settled_facts (number_to_drop book last) by.Cancel settlement)) (omega arith)

-- As many rooms as requests.

abbrev shows : DealerFact → ℕ
shows (Shown ask moment) = 1
shows fact = 0

added_many : (number : ℕ) (fact : DealerFact) → length (request_added number fact) ≡ shows fact
added_many number (Shown ask moment) = omega arith
added_many number fact = refl

fact_shows : (book : DealerBook) (fact : DealerFact) → length (book_after book fact).requests ≡ length book.requests + shows fact
unfolding book_after
fact_shows book fact =
    length-append (map (request_after fact) book.requests) (request_added (length book.requests + 1) fact)
    ∙ ap (λ (n : ℕ). n + length (request_added (length book.requests + 1) fact)) (length-map book.requests (request_after fact))
    ∙ ap (λ (n : ℕ). length book.requests + n) (added_many (length book.requests + 1) fact)

facts_show : (book : DealerBook) (facts : List DealerFact) → length (fold book_after book facts).requests ≡ length book.requests + sum_by shows facts
facts_show book [] = omega arith
facts_show book (fact ∷ facts) =
    let here = fact_shows book fact in
    let rest = facts_show (book_after book fact) facts in
    rw (sum_by-cons shows fact facts) (omega arith)

verdict_shows : (given : DealerVerdict) (settlement : Option Settled) → sum_by shows (verdict_facts given settlement) ≡ 0
verdict_shows (verdict.QuoteAccepted request id quote None) settlement = refl
verdict_shows (verdict.QuoteAccepted request id quote (Some replaced)) (Some settled.Withdrawn) = refl
verdict_shows (verdict.QuoteAccepted request id quote (Some replaced)) (Some settled.Lifted) = refl
verdict_shows (verdict.QuoteAccepted request id quote (Some replaced)) None = refl
verdict_shows (verdict.CancelAccepted id quote request) (Some settled.Withdrawn) = refl
verdict_shows (verdict.CancelAccepted id quote request) (Some settled.Lifted) = refl
verdict_shows (verdict.CancelAccepted id quote request) None = refl
verdict_shows (verdict.DeclineAccepted request number) settlement = refl
verdict_shows other settlement = refl

told_shows : (b : Bool) (request : ℕ) (close : Close) (moment : ℕ) → sum_by shows (cond b (Told request close moment ∷ []) []) ≡ 0
told_shows true request close moment = refl
told_shows false request close moment = refl

settled_shows : (asked : Option ℕ) (how : Withdrawal) (settlement : Option Settled) → sum_by shows (settled_facts asked how settlement) ≡ 0
settled_shows None how settlement = refl
settled_shows (Some quote) how (Some settled.Withdrawn) = refl
settled_shows (Some quote) how (Some settled.Lifted) = refl
settled_shows (Some quote) how None = refl

event_shows : (date : List ℕ) (row : DealerRow) (book : DealerBook) (came : DealerEvent) → sum_by shows (event_facts date row book came) ≡ length (rooms_of (came ∷ []))
unfolding event_facts
event_shows date row book (event.Received moment bytes settlement) =
    let given = dealer_verdict date row book moment bytes in
    sum_by-cons shows (Came moment bytes (uses_number given)) (verdict_facts given settlement) ∙ ap (λ (n : ℕ). 0 + n) (verdict_shows given settlement)
event_shows date row book (event.Shown room ask moment) = omega arith
event_shows date row book (event.Told request close moment) = told_shows (is_some (closable book request)) request close moment
event_shows date row book (event.Drop last moment settlement) =
    sum_by-cons shows (Dropped last moment) (settled_facts (number_to_drop book last) by.Cancel settlement) ∙ ap (λ (n : ℕ). 0 + n) (settled_shows (number_to_drop book last) by.Cancel settlement)

rooms_more : (came : DealerEvent) (events : List DealerEvent) → length (rooms_of (came ∷ events)) ≡ length (rooms_of (came ∷ [])) + length (rooms_of events)
rooms_more (event.Shown room ask moment) events = omega arith
rooms_more other events = omega arith

-- What holds of a desk.

pub record Stood (row : DealerRow) (book : DealerBook) (events rooms : ℕ) : Type 0 where
  pub stands : StandsIn row book
  pub counts : book.used + book.notices ≤ events
  pub as_many : length book.requests ≡ rooms

stood_event : (date : List ℕ) (row : DealerRow) (book : DealerBook) (came : DealerEvent) (events rooms : ℕ) → Stood row book events rooms
    → Stood row (fold book_after book (event_facts date row book came)) (events + 1) (rooms + length (rooms_of (came ∷ [])))
stood_event date row book came events rooms stood =
    let count = facts_count book (event_facts date row book came) in
    let one = event_weight date row book came in
    let was = stood.counts in
    record {
      stands = event_stands date row book came stood.stands;
      counts = omega arith;
      as_many = facts_show book (event_facts date row book came) ∙ ap (λ (n : ℕ). n + sum_by shows (event_facts date row book came)) stood.as_many ∙ ap (λ (n : ℕ). rooms + n) (event_shows date row book came);
    }

stood_events : (date : List ℕ) (row : DealerRow) (desk : DeskState) (events : List DealerEvent) (before rooms after shown : ℕ) → before + length events ≡ after → rooms + length (rooms_of events) ≡ shown
    → Stood row (book_of desk.facts) before rooms → Stood row (book_of (fold (after_event date row) desk events).facts) after shown
stood_events date row desk [] before rooms after shown many as_many stood = record {
  stands = stood.stands;
  counts = let was = stood.counts in omega arith;
  as_many = let was = stood.as_many in omega arith;
}
stood_events date row desk (came ∷ events) before rooms after shown many as_many stood =
    let more = rooms_more came events in
    let next : before + 1 + length events ≡ after = omega arith in
    let next_rooms : rooms + length (rooms_of (came ∷ [])) + length (rooms_of events) ≡ shown = omega arith in
    stood_events date row (after_event date row desk came) events (before + 1) (rooms + length (rooms_of (came ∷ []))) after shown next next_rooms
    (subst (λ (b : DealerBook). Stood row b (before + 1) (rooms + length (rooms_of (came ∷ [])))) (sym (books_push desk.facts (event_facts date row (book_of desk.facts) came)))
    (stood_event date row (book_of desk.facts) came before rooms stood))

pub desk_sound : (date : List ℕ) (row : DealerRow) (events : List DealerEvent) → Stood row (book_of (desk_after date row events).facts) (length events) (length (rooms_of events))
unfolding desk_after
desk_sound date row events =
    let many : 0 + length events ≡ length events = omega arith in
    let as_many : 0 + length (rooms_of events) ≡ length (rooms_of events) = omega arith in
    stood_events date row no_facts events 0 0 (length events) (length (rooms_of events)) many as_many
    (record { stands = stands_empty row; counts = omega arith; as_many = omega arith })

-- so the exposure is within the limit of the row
pub within_limit : (date : List ℕ) (row : DealerRow) (events : List DealerEvent) → exposure_of (book_of (desk_after date row events).facts) ≤ row.exposure
unfolding exposure_of
within_limit date row events = (desk_sound date row events).stands.within
