-- What a message or a drop leaves to be done: its quote is one of the day's, and its request has a
-- room.
use Rattle.std.proofs.Common.{◌≡◌, ◌<◌, ◌≤◌, ℕ, ◌+◌, ◌-◌, Bool, true, false, ◌&&◌, nat_le, cond}
use Rattle.std.proofs.Common.{List, length, Option, Some, None, is_some, IfSome, option_map}
use Rattle.std.proofs.Common.{slice_get, refl, ap, arith}
use Rattle.venue_rows.specs.declared.dealer_rows.DealerRow.{DealerRow}
use Rattle.market_terms.specs.declared.rooms.RoomRef.{RoomRef}
use Rattle.market_terms.specs.declared.duties.Duty.{Duty}
use Rattle.market_terms.specs.declared.duties.Duty.TheVariants as duty
use Rattle.quote_word.specs.declared.settled.Settled.{Settled}
use Rattle.dealer_desk.specs.DealerFacts.{DealerBook, quote_to_drop, is_droppable, is_live}
use Rattle.dealer_desk.specs.DealerFacts.{number_to_drop}
use Rattle.dealer_desk.specs.DealerDesk.{DeskEvents, rooms_at, book_at, verdict_at}
use Rattle.dealer_desk.specs.DealerOutput.{room_of, verdict_duty, unpost_dropped, goes_through}
use Rattle.dealer_desk.specs.DealerOutput.{is_withdrawn, post_of, word_asked}
use Rattle.dealer_desk.specs.DeskLaws.{IsOfDay, request_meant}
use Rattle.dealer_desk.specs.BookChanges.{IsLiveNumber}
use Rattle.dealer_desk.specs.declared.standing.StandingQuote.{StandingQuote}
use Rattle.dealer_desk.specs.declared.verdicts.DealerVerdict.{DealerVerdict}
use Rattle.dealer_desk.specs.declared.verdicts.DealerVerdict.TheVariants as verdict
use Rattle.dealer_desk.proofs.ListLemmas.{find_stands, stands_within}
use Rattle.dealer_desk.proofs.StandLemmas.{StandsIn}
use Rattle.dealer_desk.proofs.VerdictLemmas.{Holds, IsShown, verdict_holds, live_within}
use Rattle.dealer_desk.proofs.VerdictLemmas.{asked_within}
use Rattle.dealer_desk.proofs.DeskLemmas.{Stood, desk_sound}

room_there : (rooms : List RoomRef) (book : DealerBook) (number : ℕ) → length book.requests ≡ length rooms → IsShown book number → is_some (room_of rooms number) ≡ true
room_there rooms book number as_many shown =
    let first : 1 ≤ number = shown.0 in
    let last : number ≤ length book.requests = shown.1 in
    let inside : number - 1 < length rooms = omega arith in
    ap is_some (stands_within rooms (number - 1) inside).1

of_day_if : (row : DealerRow) (b : Bool) (room : Option RoomRef) (make : RoomRef → Duty) → ((r : RoomRef) → IsOfDay row (make r)) → IfSome (cond b (option_map make room) None) (IsOfDay row)
of_day_if row true (Some r) make lawful = lawful r
of_day_if row true None make lawful = tt
of_day_if row false room make lawful = tt

duty_of_day : (row : DealerRow) (book : DealerBook) (rooms : List RoomRef) (moment : ℕ) (given : DealerVerdict) (settlement : Option Settled) → StandsIn row book → Holds row book given
    → IfSome (verdict_duty rooms moment given settlement) (IsOfDay row)
duty_of_day row book rooms moment (verdict.QuoteAccepted request id quote replaced) settlement stands holds =
    of_day_if row (goes_through replaced settlement) (room_of rooms quote.request) (post_of quote) (λ r.
    let is : quote.number ≡ length book.quotes + 1 = holds.number_is in
    let room : length book.quotes < row.quotes = holds.room in
    let first : 1 ≤ quote.number = omega arith in
    let last : quote.number ≤ row.quotes = omega arith in
    (first, last))
duty_of_day row book rooms moment (verdict.CancelAccepted id quote request) settlement stands holds =
    of_day_if row (is_withdrawn settlement) (room_of rooms request) (λ room. duty.Unpost room quote moment) (λ r. live_within row book.requests book.quotes quote stands holds.0)
duty_of_day row book rooms moment (verdict.DropsFollow last) settlement stands holds = tt
duty_of_day row book rooms moment (verdict.DeclineAccepted request number) settlement stands holds =
    of_day_if row true (room_of rooms number) (λ room. duty.Decline room moment) (λ r. tt)
duty_of_day row book rooms moment other settlement stands holds = tt

request_has_room : (row : DealerRow) (book : DealerBook) (rooms : List RoomRef) (given : DealerVerdict) → length book.requests ≡ length rooms → Holds row book given
    → IfSome (request_meant given) (λ request. is_some (room_of rooms request) ≡ true)
request_has_room row book rooms (verdict.QuoteAccepted request id quote replaced) as_many holds = room_there rooms book quote.request as_many (holds.from_first, holds.to_last)
request_has_room row book rooms (verdict.CancelAccepted id quote request) as_many holds = room_there rooms book request as_many holds.1
request_has_room row book rooms (verdict.DeclineAccepted request number) as_many holds = room_there rooms book number as_many holds
request_has_room row book rooms other as_many holds = tt

-- The quote that a drop takes.

first_so : (b c : Bool) → (b && c) ≡ true → b ≡ true
first_so true c h = refl
first_so false c h = h

pub dropped_live : (book : DealerBook) (last : ℕ) (own : StandingQuote) → ((k : ℕ) (other : StandingQuote) → slice_get book.quotes k ≡ Some other → other.quote.number ≡ k + 1)
    → quote_to_drop book last ≡ Some own → IsLiveNumber book.quotes own.quote.number
unfolding quote_to_drop
dropped_live book last own numbered is =
    let here = find_stands (λ (other : StandingQuote). is_droppable other && nat_le other.quote.number last) book.quotes own is in
    record {
      own = own;
      place = here.0;
      number_is = numbered here.0 own here.1;
      stands = here.1;
      live = first_so (is_live own) _ (first_so (is_droppable own) (nat_le own.quote.number last) here.2);
    }

drop_of_day : (row : DealerRow) (book : DealerBook) (rooms : List RoomRef) (last moment : ℕ) (settlement : Option Settled) (found : Option StandingQuote) → StandsIn row book → quote_to_drop book last ≡ found
    → IfSome (unpost_dropped rooms moment settlement found) (IsOfDay row)
drop_of_day row book rooms last moment settlement None stands is = tt
drop_of_day row book rooms last moment settlement (Some own) stands is =
    of_day_if row (is_withdrawn settlement) (room_of rooms own.quote.request) (λ room. duty.Unpost room own.quote.number moment)
    (λ r. live_within row book.requests book.quotes own.quote.number stands (dropped_live book last own stands.sound.quotes_numbered is))

drop_has_room : (row : DealerRow) (book : DealerBook) (rooms : List RoomRef) (last : ℕ) (found : Option StandingQuote) → StandsIn row book → length book.requests ≡ length rooms → quote_to_drop book last ≡ found
    → IfSome found (λ own. is_some (room_of rooms own.quote.request) ≡ true)
unfolding quote_to_drop
drop_has_room row book rooms last None stands as_many is = tt
drop_has_room row book rooms last (Some own) stands as_many is =
    let here = find_stands (λ (other : StandingQuote). is_droppable other && nat_le other.quote.number last) book.quotes own is in
    room_there rooms book own.quote.request as_many (stands.sound.from_first here.0 own here.1, stands.sound.to_last here.0 own here.1)

-- the number that a drop asks is one of the day's
pub drop_asks : (row : DealerRow) (book : DealerBook) (last : ℕ) (found : Option StandingQuote) → StandsIn row book → quote_to_drop book last ≡ found
    → IfSome (option_map (λ (own : StandingQuote). own.quote.number) found) (λ quote. (1 ≤ quote) × (quote ≤ row.quotes))
drop_asks row book last None stands is = tt
drop_asks row book last (Some own) stands is = live_within row book.requests book.quotes own.quote.number stands (dropped_live book last own stands.sound.quotes_numbered is)

-- Of a desk after any events.

pub stood_at : (desk : DeskEvents) → Stood desk.row (book_at desk) (length desk.events) (length (rooms_at desk))
stood_at desk = desk_sound desk.date desk.row desk.events

pub message_duty : (desk : DeskEvents) (moment : ℕ) (bytes : List ℕ) (settlement : Option Settled) → IfSome (verdict_duty (rooms_at desk) moment (verdict_at desk moment bytes) settlement) (IsOfDay desk.row)
message_duty desk moment bytes settlement = let s = stood_at desk in
    duty_of_day desk.row (book_at desk) (rooms_at desk) moment (verdict_at desk moment bytes) settlement s.stands (verdict_holds desk.date desk.row (book_at desk) moment bytes s.stands)

pub message_room : (desk : DeskEvents) (moment : ℕ) (bytes : List ℕ) → IfSome (request_meant (verdict_at desk moment bytes)) (λ request. is_some (room_of (rooms_at desk) request) ≡ true)
message_room desk moment bytes = let s = stood_at desk in
    request_has_room desk.row (book_at desk) (rooms_at desk) (verdict_at desk moment bytes) s.as_many (verdict_holds desk.date desk.row (book_at desk) moment bytes s.stands)

pub drop_duty : (desk : DeskEvents) (last moment : ℕ) (settlement : Option Settled) → IfSome (unpost_dropped (rooms_at desk) moment settlement (quote_to_drop (book_at desk) last)) (IsOfDay desk.row)
drop_duty desk last moment settlement = let s = stood_at desk in
    drop_of_day desk.row (book_at desk) (rooms_at desk) last moment settlement (quote_to_drop (book_at desk) last) s.stands refl

pub drop_room : (desk : DeskEvents) (last : ℕ) → IfSome (quote_to_drop (book_at desk) last) (λ own. is_some (room_of (rooms_at desk) own.quote.request) ≡ true)
drop_room desk last = let s = stood_at desk in
    drop_has_room desk.row (book_at desk) (rooms_at desk) last (quote_to_drop (book_at desk) last) s.stands s.as_many refl

-- the words that are asked
pub message_asks : (desk : DeskEvents) (moment : ℕ) (bytes : List ℕ)
    → IfSome (word_asked (verdict_at desk moment bytes))
    (λ quote. (1 ≤ quote) × (quote ≤ desk.row.quotes))
message_asks desk moment bytes =
    let s = stood_at desk in
    asked_within desk.row (book_at desk) (verdict_at desk moment bytes) s.stands
    (verdict_holds desk.date desk.row (book_at desk) moment bytes s.stands)

pub drop_at_asks : (desk : DeskEvents) (last : ℕ)
    → IfSome (number_to_drop (book_at desk) last)
    (λ quote. (1 ≤ quote) × (quote ≤ desk.row.quotes))
drop_at_asks desk last =
    drop_asks desk.row (book_at desk) last (quote_to_drop (book_at desk) last)
    (stood_at desk).stands refl
