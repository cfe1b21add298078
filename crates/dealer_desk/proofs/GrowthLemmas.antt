-- What an index keeps when a quote takes another's place, and when a request more is shown in a
-- room.
use Rattle.std.proofs.Common.{◌≡◌, ℕ, ◌+◌, cond, List, [], ◌∷◌, ◌++◌, length, map, find, Some, None}
use Rattle.std.proofs.Common.{option_map, sym, ap, subst, ◌∙◌, arith}
use Rattle.std.specs.Option.{option_or}
use Rattle.std.specs.BTreeMap.{BTreeMap, get}
use Rattle.std.proofs.lemmas.List.{length-append, length-map}
use Rattle.venue_rows.specs.Texts.{same_text}
use Rattle.market_terms.specs.declared.lines.QuoteLine.{QuoteLine}
use Rattle.market_terms.specs.declared.rooms.RoomRef.{RoomRef}
use Rattle.dealer_desk.specs.DealerFacts.{DealerFact, DealerBook}
use Rattle.dealer_desk.specs.BookChanges.{book_after}
use Rattle.dealer_desk.specs.DealerOutput.{is_same_room}
use Rattle.dealer_desk.specs.declared.id_keys.IdKey.{IdKey}
use Rattle.dealer_desk.specs.DealerTable.{IsIndex, IsIdMap, IsRoomMap, IsTable, IndexView, room_cmp}
use Rattle.dealer_desk.specs.DealerTable.{with_request, requests_in}
use Rattle.dealer_desk.specs.declared.accepted.AcceptedQuote.{AcceptedQuote}
use Rattle.dealer_desk.specs.declared.standing.StandingRequest.{StandingRequest}
use Rattle.dealer_desk.specs.declared.standing.StandingQuote.{StandingQuote}
use Rattle.dealer_desk.specs.declared.table.RequestRow.{RequestRow}
use Rattle.dealer_desk.proofs.ListLemmas.{find_mapped}
use Rattle.dealer_desk.proofs.MapLemmas.{rooms_pushed}
use Rattle.dealer_desk.proofs.ReaderLemmas.{no_number}

-- a QuoteID that no quote has is new also once a quote changed
pub id_stays_new : (quotes : List StandingQuote) (f : StandingQuote → StandingQuote) (id : List ℕ) → ((own : StandingQuote) → (f own).quote ≡ own.quote)
    → find (λ (q : StandingQuote). same_text q.quote.id id) quotes ≡ None → find (λ (q : StandingQuote). same_text q.quote.id id) (map f quotes) ≡ None
id_stays_new quotes f id keeps none =
    no_number (find (λ (q : StandingQuote). same_text q.quote.id id) (map f quotes))
    (find_mapped (λ (q : StandingQuote). q.quote.number) (λ (q : StandingQuote). same_text q.quote.id id) f quotes
    (λ y. ap (λ (q : AcceptedQuote). q.number) (keeps y)) (λ k y at. ap (λ (q : AcceptedQuote). same_text q.id id) (keeps y))
    ∙ ap (option_map (λ (q : StandingQuote). q.quote.number)) none)

-- A request more.

pub index_shown : (used notices : ℕ) (rows rows2 : List RequestRow) (quotes quotes2 : List StandingQuote) (lines lines2 : List QuoteLine) (exposure exposure2 first first2 : ℕ)
    (rooms rooms2 : List RoomRef) (by_id : BTreeMap IdKey ℕ) (by_room by_room2 : BTreeMap RoomRef ℕ) (room : RoomRef) (number : ℕ) (request : StandingRequest)
    → IsIndex used notices rows quotes lines exposure first rooms by_id by_room → IsTable rows2 quotes2 lines2 exposure2 first2 → quotes2 ≡ quotes
    → requests_in rows2 ≡ requests_in rows ++ request ∷ [] → rooms2 ≡ rooms ++ room ∷ [] → number ≡ length rows + 1
    → ((q : RoomRef) → get room_cmp by_room2 q ≡ option_or (get room_cmp by_room q) (cond (is_same_room room q) (Some number) None))
    → IsIndex used notices rows2 quotes2 lines2 exposure2 first2 rooms2 by_id by_room2
index_shown used notices rows rows2 quotes quotes2 lines lines2 exposure exposure2 first first2 rooms rooms2 by_id by_room by_room2 room number request index table same shown in_rooms is put =
    let many : length (requests_in rows2) ≡ length (requests_in rows) + 1 = ap (λ (rs : List StandingRequest). length rs) shown ∙ length-append (requests_in rows) (request ∷ []) in
    let rows_are : length (requests_in rows) ≡ length rows = length-map rows (λ (r : RequestRow). r.request) in
    let rows2_are : length (requests_in rows2) ≡ length rows2 = length-map rows2 (λ (r : RequestRow). r.request) in
    let rooms_are : length rooms2 ≡ length rooms + 1 = ap (λ (rs : List RoomRef). length rs) in_rooms ∙ length-append rooms (room ∷ []) in
    let was : length rooms ≡ length rows = index.as_many in
    record {
      used_fits = index.used_fits;
      notices_fit = index.notices_fit;
      table = table;
      ids = subst (λ (qs : List StandingQuote). IsIdMap qs by_id) (sym same) index.ids;
      room_map = subst (λ (rs : List RoomRef). IsRoomMap rs by_room2) (sym in_rooms) (rooms_pushed rooms by_room by_room2 room number index.room_map (is ∙ ap (λ (n : ℕ). n + 1) (sym was)) put);
      as_many = omega arith;
    }

-- what a contract sees of it
pub view_shown : (now : IndexView) (book after : DealerBook) (rooms rooms2 : List RoomRef) (room : RoomRef) (fact : DealerFact) → record { book = book; rooms = rooms } ≡ now
    → after ≡ book_after book fact → rooms2 ≡ rooms ++ room ∷ [] → record { book = after; rooms = rooms2 } ≡ with_request now room fact
view_shown now book after rooms rooms2 room fact is changed in_rooms =
    ap (λ (b : DealerBook). record { book = b; rooms = rooms2 }) changed
    ∙ ap (λ (rs : List RoomRef). record { book = book_after book fact; rooms = rs }) in_rooms
    ∙ ap (λ (i : IndexView). with_request i room fact) is
