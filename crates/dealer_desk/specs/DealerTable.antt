-- What the index of a desk keeps beside the requests and the quotes of its book. Only private
-- functions and invariants say this.
use Rattle.std.specs.Prelude.{◌≡◌, ◌≤◌, ◌<◌, ℕ, ◌+◌, ◌-◌, ◌*◌, ◌%◌, ◌^◌, Option, Some, List, []}
use Rattle.std.specs.Prelude.{◌∷◌, ◌++◌, length, map, fold, find, slice_get}
use Rattle.std.specs.List.{list_any, sum_by, position_or_len}
use Rattle.std.specs.Option.{option_map}
use Rattle.std.specs.BTreeMap.{BTreeMap, get}
use Rattle.std.specs.Cmp.Lexicographic.{slice_cmp}
use Rattle.std.specs.Ordering.{nat_cmp, ordering_then}
use Rattle.std.specs.declared.cmp.Ordering.{Ordering}
use Rattle.venue_rows.specs.Texts.{same_text}
use Rattle.venue_rows.specs.declared.dealer_rows.TheConstants.DealerRow.{MOST_QUOTES, MOST_EXPOSURE}
pub use Rattle.market_terms.specs.Rooms.{room_cmp}
use Rattle.market_terms.specs.declared.lines.QuoteLine.{QuoteLine}
use Rattle.market_terms.specs.declared.rooms.RoomRef.{RoomRef}
use Rattle.dealer_desk.specs.DealerFacts.{DealerFact, DealerBook, is_live_on, is_lifted_on}
use Rattle.dealer_desk.specs.DealerFacts.{is_droppable, live_quantity}
use Rattle.dealer_desk.specs.DealerOutput.{number_in}
use Rattle.dealer_desk.specs.QuoteLines.{line_of}
use Rattle.dealer_desk.specs.BookChanges.{IsSound, book_after}
use Rattle.dealer_desk.specs.declared.id_keys.IdKey.{IdKey}
use Rattle.dealer_desk.specs.declared.standing.StandingQuote.{StandingQuote}
use Rattle.dealer_desk.specs.declared.standing.StandingRequest.{StandingRequest}
use Rattle.dealer_desk.specs.declared.table.RequestRow.{RequestRow}
use Rattle.dealer_desk.specs.declared.table.Table.{Table}

-- the requests of rows
abbrev pub requests_in : List RequestRow → List StandingRequest
requests_in rows = map (λ row. row.request) rows

-- the own number of the live quote on a request, among these
abbrev pub live_number_among : List StandingQuote → ℕ → Option ℕ
live_number_among quotes request =
    option_map (λ own. own.quote.number) (find (is_live_on request) quotes)

-- a row of a request with this number: it has the number of the live quote on the request, and
-- whether one on it is known to be lifted
pub record IsRow (quotes : List StandingQuote) (number : ℕ) (row : RequestRow) : Type 0 where
  pub live_is : row.live ≡ live_number_among quotes number
  pub lifted_is : row.has_lifted ≡ list_any (is_lifted_on number) quotes

-- the rows of requests, the quotes with their lines, the exposure, and the place of the first
-- droppable quote
pub record IsTable (rows : List RequestRow) (quotes : List StandingQuote) (lines : List QuoteLine)
    (exposure first_droppable : ℕ) : Type 0 where
  pub sound : IsSound (requests_in rows) quotes
  pub rows_are : (k : ℕ) (row : RequestRow) → slice_get rows k ≡ Some row → IsRow quotes (k + 1) row
  pub lines_are : lines ≡ map line_of quotes
  pub exposure_is : exposure ≡ sum_by live_quantity quotes
  pub exposure_fits : exposure ≤ MOST_EXPOSURE
  pub first_is : first_droppable ≡ position_or_len is_droppable quotes
  pub few : length quotes ≤ MOST_QUOTES

-- the same of a table
abbrev pub IsSoundTable : Table → Type 0
IsSoundTable table =
    IsTable table.rows.items table.quotes.items table.lines.items table.exposure
    table.first_droppable

-- the number of a text's last eight characters, with a character more
abbrev pub tail_with : ℕ → ℕ → ℕ
tail_with tail c = (tail * 256 % 2 ^ 64 + c) % 2 ^ 64

-- the last eight characters of a text as one number
abbrev pub tail_of : List ℕ → ℕ
tail_of text = fold tail_with 0 text

-- the place of a text among others by that number, the greatest first
abbrev pub rank_of : List ℕ → ℕ
rank_of text = 18446744073709551615 - tail_of text

-- a QuoteID as a key of the map
abbrev pub key_of : List ℕ → IdKey
key_of id = record { rank = rank_of id; id = id }

-- how keys are ordered: by the last eight characters first
abbrev pub key_cmp : IdKey → IdKey → Ordering
key_cmp one other = ordering_then (nat_cmp one.rank other.rank) (slice_cmp nat_cmp one.id other.id)

-- the map from QuoteIDs has the own numbers of these quotes
pub record IsIdMap (quotes : List StandingQuote) (by_id : BTreeMap IdKey ℕ) : Type 0 where
  pub ids_are : (id : List ℕ) → get key_cmp by_id (key_of id)
      ≡ option_map (λ own. own.quote.number) (find (λ own. same_text own.quote.id id) quotes)

-- the map from rooms has the numbers of the requests that were first shown there
pub record IsRoomMap (rooms : List RoomRef) (by_room : BTreeMap RoomRef ℕ) : Type 0 where
  pub rooms_are : (room : RoomRef) → get room_cmp by_room room ≡ number_in rooms room

-- what a contract sees of an index: the book, and the rooms of its requests
pub record IndexView : Type 0 where
  pub book : DealerBook
  pub rooms : List RoomRef

-- an index after one fact more, which shows no request
abbrev pub with_fact : IndexView → DealerFact → IndexView
with_fact index fact = record index { book = book_after index.book fact }

-- an index after a request more, which was shown in this room
abbrev pub with_request : IndexView → RoomRef → DealerFact → IndexView
with_request index room fact =
    record { book = book_after index.book fact; rooms = index.rooms ++ room ∷ [] }

-- what an index keeps beside its book
pub record IsIndex (used notices : ℕ) (rows : List RequestRow) (quotes : List StandingQuote)
    (lines : List QuoteLine) (exposure first_droppable : ℕ) (rooms : List RoomRef)
    (by_id : BTreeMap IdKey ℕ) (by_room : BTreeMap RoomRef ℕ) : Type 0 where
  pub used_fits : used < 2 ^ 63
  pub notices_fit : notices < 2 ^ 63
  pub table : IsTable rows quotes lines exposure first_droppable
  pub ids : IsIdMap quotes by_id
  pub room_map : IsRoomMap rooms by_room
  pub as_many : length rooms ≡ length rows
