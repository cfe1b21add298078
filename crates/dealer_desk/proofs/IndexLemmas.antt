-- What an index keeps when its table changes.
use Rattle.std.proofs.Common.{◌≡◌, ◌<◌, ◌≤◌, ℕ, ◌+◌, ◌^◌, ◌==◌, Bool, cond, true, false, List, []}
use Rattle.std.proofs.Common.{◌∷◌, ◌++◌, length, map, Option, Some, None, find, refl, sym, ap}
use Rattle.std.proofs.Common.{subst, ◌∙◌, arith}
use Rattle.std.specs.List.{sum_by}
use Rattle.std.specs.Option.{option_or}
use Rattle.std.specs.BTreeMap.{BTreeMap, get, is_at}
use Rattle.std.proofs.lemmas.List.{length-map}
use Rattle.venue_rows.specs.Texts.{same_text}
use Rattle.venue_rows.specs.declared.dealer_rows.TheConstants.DealerRow.{MOST_EXPOSURE}
use Rattle.market_terms.specs.declared.closes.Close.{Close}
use Rattle.market_terms.specs.declared.lines.QuoteLine.{QuoteLine}
use Rattle.market_terms.specs.declared.rooms.RoomRef.{RoomRef}
use Rattle.dealer_desk.specs.DealerFacts.{DealerFact, DealerBook, live_quote_on, quote_with_id}
use Rattle.dealer_desk.specs.DealerFacts.{exposure_beside, quantity_beside, live_quantity}
use Rattle.dealer_desk.specs.DealerFacts.{standing_quote}
use Rattle.dealer_desk.specs.BookChanges.{FitsBook, book_after, closed_on, ended_at}
use Rattle.dealer_desk.specs.declared.id_keys.IdKey.{IdKey}
use Rattle.dealer_desk.specs.DealerTable.{IsIndex, IsIdMap, key_cmp, key_of, IsTable, IndexView}
use Rattle.dealer_desk.specs.DealerTable.{live_number_among, requests_in, with_fact}
use Rattle.dealer_desk.specs.declared.accepted.AcceptedQuote.{AcceptedQuote}
use Rattle.dealer_desk.specs.declared.standing.StandingRequest.{StandingRequest}
use Rattle.dealer_desk.specs.declared.standing.StandingQuote.{StandingQuote}
use Rattle.dealer_desk.specs.declared.standing.QuoteEnd.{QuoteEnd}
use Rattle.dealer_desk.specs.declared.standing.QuoteEnd.TheVariants as end
use Rattle.dealer_desk.specs.declared.table.RequestRow.{RequestRow}
use Rattle.dealer_desk.proofs.MapLemmas.{ids_kept, ids_pushed}
use Rattle.dealer_desk.proofs.TableGrowth.{sum_beside}

-- a book by its parts
abbrev pub book_with : ℕ → ℕ → List StandingRequest → List StandingQuote → DealerBook
book_with used notices requests quotes = record { used = used; notices = notices; requests = requests; quotes = quotes }

-- two books of the same parts
pub same_book : (used notices : ℕ) (requests requests2 : List StandingRequest) (quotes quotes2 : List StandingQuote) → requests ≡ requests2 → quotes ≡ quotes2
    → book_with used notices requests quotes ≡ book_with used notices requests2 quotes2
same_book used notices requests requests2 quotes quotes2 r q =
    ap (λ (rs : List StandingRequest). book_with used notices rs quotes) r ∙ ap (book_with used notices requests2) q

-- an index after a fact, from its book
pub view_after : (now : IndexView) (book after : DealerBook) (rooms : List RoomRef) (fact : DealerFact) → record { book = book; rooms = rooms } ≡ now → after ≡ book_after book fact
    → record { book = after; rooms = rooms } ≡ with_fact now fact
view_after now book after rooms fact is changed =
    ap (λ (b : DealerBook). record { book = b; rooms = rooms }) changed ∙ ap (λ (i : IndexView). with_fact i fact) is

-- an index after a change of its quotes that keeps what was accepted, and of its requests
pub index_changed : (used notices used2 notices2 : ℕ) (rows rows2 : List RequestRow) (quotes quotes2 : List StandingQuote) (lines lines2 : List QuoteLine) (exposure exposure2 first first2 : ℕ)
    (rooms : List RoomRef) (by_id : BTreeMap IdKey ℕ) (by_room : BTreeMap RoomRef ℕ) (f : StandingQuote → StandingQuote)
    → IsIndex used notices rows quotes lines exposure first rooms by_id by_room
    → used2 < 2 ^ 63 → notices2 < 2 ^ 63 → IsTable rows2 quotes2 lines2 exposure2 first2
    → quotes2 ≡ map f quotes → ((own : StandingQuote) → (f own).quote ≡ own.quote)
    → length (requests_in rows2) ≡ length (requests_in rows)
    → IsIndex used2 notices2 rows2 quotes2 lines2 exposure2 first2 rooms by_id by_room
index_changed used notices used2 notices2 rows rows2 quotes quotes2 lines lines2 exposure exposure2 first first2 rooms by_id by_room f index used_fits notices_fit table changed keeps many = record {
  used_fits = used_fits;
  notices_fit = notices_fit;
  table = table;
  ids = subst (λ (qs : List StandingQuote). IsIdMap qs by_id) (sym changed) (ids_kept quotes by_id f keeps index.ids);
  room_map = index.room_map;
  as_many = index.as_many ∙ sym (length-map rows (λ (r : RequestRow). r.request)) ∙ sym many ∙ length-map rows2 (λ (r : RequestRow). r.request);
}

closed_by : (b : Bool) (close : Close) (own : StandingQuote) → (cond b (record own { end = option_or own.end (Some (end.Closed close)) }) own).quote ≡ own.quote
closed_by true close own = refl
closed_by false close own = refl

pub closed_keeps : (number : ℕ) (close : Close) (own : StandingQuote) → (closed_on number close own).quote ≡ own.quote
closed_keeps number close own = closed_by (number == own.quote.request) close own

-- no change of quotes
pub unchanged : (quotes : List StandingQuote) → quotes ≡ map (λ (q : StandingQuote). q) quotes
unchanged [] = refl
unchanged (quote ∷ quotes) = ap (λ (qs : List StandingQuote). quote ∷ qs) (unchanged quotes)

-- a request's number is within the rows
pub most_rows : (now : IndexView) (used notices : ℕ) (rows : List RequestRow) (quotes : List StandingQuote) (rooms : List RoomRef) (number : ℕ)
    → record { book = book_with used notices (requests_in rows) quotes; rooms = rooms } ≡ now → number ≤ length now.book.requests → number ≤ length rows
most_rows now used notices rows quotes rooms number is last =
    subst (λ (n : ℕ). number ≤ n) (length-map rows (λ (r : RequestRow). r.request)) (subst (λ (i : IndexView). number ≤ length i.book.requests) (sym is) last)

-- An accepted quote.

pub fits_alone : (used notices : ℕ) (requests : List StandingRequest) (quotes : List StandingQuote) (quote : AcceptedQuote) → FitsBook (book_with used notices requests quotes) quote None
    → live_number_among quotes quote.request ≡ None
unfolding live_quote_on
fits_alone used notices requests quotes quote fits = fits.replaced_is

pub fits_live : (used notices : ℕ) (requests : List StandingRequest) (quotes : List StandingQuote) (quote : AcceptedQuote) (replaced : ℕ) → FitsBook (book_with used notices requests quotes) quote (Some replaced)
    → live_number_among quotes quote.request ≡ Some replaced
unfolding live_quote_on
fits_live used notices requests quotes quote replaced fits = fits.replaced_is

pub fits_exposure : (used notices : ℕ) (rows : List RequestRow) (quotes : List StandingQuote) (lines : List QuoteLine) (exposure first : ℕ) (quote : AcceptedQuote) → IsTable rows quotes lines exposure first
    → FitsBook (book_with used notices (requests_in rows) quotes) quote None → exposure + quote.quantity ≤ MOST_EXPOSURE
unfolding exposure_beside
fits_exposure used notices rows quotes lines exposure first quote table fits =
    let is = table.exposure_is in
    let within : quote.quantity + sum_by (quantity_beside None) quotes ≤ MOST_EXPOSURE = fits.exposure_fits in
    let same : sum_by (quantity_beside None) quotes ≡ sum_by live_quantity quotes = refl in
    omega arith

-- the same once the live quote on its request ended
pub fits_beside : (used notices : ℕ) (requests : List StandingRequest) (quotes quotes2 : List StandingQuote) (rows2 : List RequestRow) (lines2 : List QuoteLine) (exposure2 first2 : ℕ) (quote : AcceptedQuote) (replaced : ℕ) (how : QuoteEnd)
    → IsTable rows2 quotes2 lines2 exposure2 first2 → quotes2 ≡ map (ended_at replaced how) quotes
    → FitsBook (book_with used notices requests quotes) quote (Some replaced) → exposure2 + quote.quantity ≤ MOST_EXPOSURE
unfolding exposure_beside
fits_beside used notices requests quotes quotes2 rows2 lines2 exposure2 first2 quote replaced how table changed fits =
    let is : exposure2 ≡ sum_by (quantity_beside (Some replaced)) quotes = table.exposure_is ∙ ap (sum_by live_quantity) changed ∙ sum_beside quotes replaced how in
    let within : quote.quantity + sum_by (quantity_beside (Some replaced)) quotes ≤ MOST_EXPOSURE = fits.exposure_fits in
    omega arith

pub fits_id : (used notices : ℕ) (requests : List StandingRequest) (quotes : List StandingQuote) (quote : AcceptedQuote) (replaced : Option ℕ) → FitsBook (book_with used notices requests quotes) quote replaced
    → find (λ (q : StandingQuote). same_text q.quote.id quote.id) quotes ≡ None
unfolding quote_with_id
fits_id used notices requests quotes quote replaced fits = fits.id_is_new

pub index_pushed : (used notices : ℕ) (rows rows2 : List RequestRow) (quotes quotes2 : List StandingQuote) (lines lines2 : List QuoteLine) (exposure exposure2 first first2 : ℕ)
    (rooms : List RoomRef) (by_id by_id2 : BTreeMap IdKey ℕ) (by_room : BTreeMap RoomRef ℕ) (quote : AcceptedQuote) (key : IdKey)
    → IsIndex used notices rows quotes lines exposure first rooms by_id by_room → IsTable rows2 quotes2 lines2 exposure2 first2
    → quotes2 ≡ quotes ++ standing_quote quote [] ∷ [] → key ≡ key_of quote.id
    → find (λ (q : StandingQuote). same_text q.quote.id quote.id) quotes ≡ None
    → ((q : IdKey) → get key_cmp by_id2 q ≡ cond (is_at (key_cmp key) q) (Some quote.number) (get key_cmp by_id q))
    → length (requests_in rows2) ≡ length (requests_in rows)
    → IsIndex used notices rows2 quotes2 lines2 exposure2 first2 rooms by_id2 by_room
index_pushed used notices rows rows2 quotes quotes2 lines lines2 exposure exposure2 first first2 rooms by_id by_id2 by_room quote key index table changed same unused updates many = record {
  used_fits = index.used_fits;
  notices_fit = index.notices_fit;
  table = table;
  ids = subst (λ (qs : List StandingQuote). IsIdMap qs by_id2) (sym changed)
      (ids_pushed quotes by_id by_id2 quote index.ids unused (λ q. updates q ∙ ap (λ (k : IdKey). cond (is_at (key_cmp k) q) (Some quote.number) (get key_cmp by_id q)) same));
  room_map = index.room_map;
  as_many = index.as_many ∙ sym (length-map rows (λ (r : RequestRow). r.request)) ∙ sym many ∙ length-map rows2 (λ (r : RequestRow). r.request);
}
