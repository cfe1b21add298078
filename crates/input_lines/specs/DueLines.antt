-- The lines of due text: what each spells.
use Rattle.std.specs.Prelude.{ℕ, ◌+◌, ◌-◌, ◌==◌, Bool, ◌&&◌, not, List, [], ◌∷◌, ◌++◌, length}
use Rattle.std.specs.Prelude.{slice_index, nat_le, nat_lt, codes, Option, Some, None, if◌then◌else◌}
use Rattle.std.specs.Result.{result_ok}
use Rattle.bond_prices.specs.Band.{whole_band}
use Rattle.bond_prices.specs.Grid.{finest_grid, grid_of}
use Rattle.bond_prices.specs.Price.{price_of}
use Rattle.bond_prices.specs.declared.band.Band.{Band}
use Rattle.fix_fields.specs.UtcTimestamp.{is_date}
use Rattle.venue_rows.specs.Rows.{DealerValues}
use Rattle.venue_rows.specs.Texts.{is_name, is_firm_name, is_bond_id}
use Rattle.venue_rows.specs.Texts.{is_among, same_text, text_if}
use Rattle.market_terms.specs.Texts.{is_quantity}
use Rattle.market_terms.specs.declared.asks.Ask.{Ask}
use Rattle.market_terms.specs.declared.closes.Close.{Close}
use Rattle.market_terms.specs.declared.closes.Close.TheVariants.{Hit, Expired, Cover}
use Rattle.market_terms.specs.declared.closes.Close.TheVariants.{DoneAway, Pass}
use Rattle.quote_messages.specs.Texts.{number_of, number_up_to}
use Rattle.step_replay.specs.declared.dues.Due.{Due}
use Rattle.step_replay.specs.declared.dues.Due.TheVariants as due
use Rattle.input_lines.specs.Lines.{parts_of, first_part, behind_part, has_part_behind}
use Rattle.input_lines.specs.Lines.{side_of, time_of}
use Rattle.input_lines.specs.OptionSteps.{◌>>=◌}
use Rattle.input_lines.specs.SayLine.{SayLine, said_of, said_message, received_of, hexed_of}
use Rattle.input_lines.specs.SayLine.{has_tag}

-- `date YYYYMMDD`
abbrev pub date_of : List ℕ → Option (List ℕ)
date_of line =
    if same_text (first_part line) (codes "date") then text_if is_date (behind_part line) else None

-- a number from 1 to a greatest
abbrev pub within : ℕ → ℕ → Option ℕ
within most n = if nat_le 1 n && nat_le n most then Some n else None

-- how many quotes a dealer may have in a day: up to 4,096, in 1 to 9 digits
abbrev pub quotes_of : List ℕ → Option ℕ
quotes_of text = number_up_to 9 text >>= within 4096

-- the exposure of a dealer: up to 1,000,000,000,000,000, in 1 to 16 digits
abbrev pub exposure_of : List ℕ → Option ℕ
exposure_of text = number_up_to 16 text >>= within 1000000000000000

-- one trader more: a name that is not among those before it, of which there are at most 15
abbrev pub may_join : List (List ℕ) → List ℕ → Bool
may_join traders name = is_name name && nat_lt (length traders) 16 && not (is_among traders name)

-- traders behind others, each a name that may join those before it
abbrev pub traders_with : List (List ℕ) → List (List ℕ) → Option (List (List ℕ))
traders_with traders [] = Some traders
traders_with traders (name ∷ names) =
    if may_join traders name then traders_with (traders ++ name ∷ []) names else None

-- an empty last part: a space at the end of the text
abbrev pub ends_with_space : List ℕ → Bool
ends_with_space text = slice_index text (length text - 1) == 32

-- the traders of a dealer: 1 to 16 names, none twice, divided by one space each
abbrev pub traders_of : List ℕ → Option (List (List ℕ))
traders_of text =
    if (length text == 0) then None
    else if ends_with_space text then None
    else traders_with [] (parts_of 32 text)

-- NAME QUOTES EXPOSURE TRADER ..
abbrev pub row_values : List ℕ → Option DealerValues
row_values text = do
  let behind_name = behind_part text
  let behind_quotes = behind_part behind_name
  name ← text_if is_firm_name (first_part text)
  quotes ← quotes_of (first_part behind_name)
  exposure ← exposure_of (first_part behind_quotes)
  traders ← traders_of (behind_part behind_quotes)
  Some (record { name = name; traders = traders; quotes = quotes; exposure = exposure })

-- `dealer NAME QUOTES EXPOSURE TRADER ..`
abbrev pub row_of : List ℕ → Option DealerValues
row_of line =
    if same_text (first_part line) (codes "dealer") then row_values (behind_part line) else None

-- QUANTITY: 1 to 1,000,000,000,000, in 1 to 16 digits
abbrev pub asked_quantity : List ℕ → Option ℕ
asked_quantity text = do
  n ← number_up_to 16 text
  if is_quantity n then Some n else None

-- GRID, where it stands behind TIME: one of the grids that bonds are quoted on, and else the finest
abbrev pub grid_behind : List ℕ → Option ℕ
grid_behind text =
    if has_part_behind text
    then number_of (first_part (behind_part text)) >>= grid_of
    else Some finest_grid

-- LOW HIGH: any two prices
abbrev pub ends_of : List ℕ → Option Band
ends_of text = do
  low ← result_ok (price_of (first_part text))
  high ← result_ok (price_of (behind_part text))
  Some (record { low = low; high = high })

-- LOW HIGH, where they stand behind GRID, and else the band of every price
abbrev pub band_behind : List ℕ → Option Band
band_behind text = if has_part_behind text then ends_of (behind_part text) else Some whole_band

-- behind `shown`: INVESTOR BOND SIDE QUANTITY DEADLINE TIME, GRID where it is given, and LOW HIGH
-- where they are
unfoldable pub shown_of : List ℕ → List ℕ → Option Due
shown_of date text = do
  let behind_investor = behind_part text
  let behind_bond = behind_part behind_investor
  let behind_side = behind_part behind_bond
  let behind_quantity = behind_part behind_side
  let behind_deadline = behind_part behind_quantity
  investor ← text_if is_firm_name (first_part text)
  bond ← text_if is_bond_id (first_part behind_investor)
  side ← side_of (first_part behind_bond)
  quantity ← asked_quantity (first_part behind_side)
  deadline ← time_of date (first_part behind_quantity)
  moment ← time_of date (first_part behind_deadline)
  grid ← grid_behind behind_deadline
  band ← band_behind (behind_part behind_deadline)
  let ask : Ask = record {
    investor = investor;
    bond = bond;
    side = side;
    quantity = quantity;
    deadline = deadline;
    grid = grid;
    band = band;
  }
  Some (due.Shown ask moment)

-- The MsgSeqNum (34) that is written into the next message whose BODY has none: 1 more than before
-- where one was written into this.
abbrev pub next_number : ℕ → SayLine → ℕ
next_number number said = if has_tag said.fields 34 then number else number + 1

-- behind `say`: TRADER TIME TYPE BODY, and the number of the next such line
abbrev pub said_due : List ℕ → List ℕ → ℕ → List ℕ → Option (Due × ℕ)
said_due date firm number text = do
  said ← said_of date text
  message ← said_message date firm number said
  Some (due.Own said.moment message, next_number number said)

-- behind `own`: TIME FRAME
abbrev pub own_of : List ℕ → List ℕ → Option Due
own_of date text = do
  received ← received_of date text
  Some (due.Own received.0 received.1)

-- behind `hex`: TIME HEX
abbrev pub hex_of : List ℕ → List ℕ → Option Due
hex_of date text = do
  received ← hexed_of date text
  Some (due.Own received.0 received.1)

-- behind `lifted`: the number of a quote
abbrev pub lifted_of : List ℕ → Option Due
lifted_of text = do
  quote ← number_of text
  Some (due.Lifted quote)

-- KIND, how a request ended: the digit of QuoteRespType (694)
abbrev pub close_of : List ℕ → Option Close
close_of text =
    if same_text text (codes "1") then Some Hit
    else if same_text text (codes "3") then Some Expired
    else if same_text text (codes "4") then Some Cover
    else if same_text text (codes "5") then Some DoneAway
    else if same_text text (codes "6") then Some Pass
    else None

-- behind `closed`: N KIND TIME
unfoldable pub closed_of : List ℕ → List ℕ → Option Due
closed_of date text = do
  let behind_number = behind_part text
  number ← number_of (first_part text)
  close ← close_of (first_part behind_number)
  moment ← time_of date (behind_part behind_number)
  Some (due.Closed number close moment)

-- behind `drop`: LAST TIME, LAST the number of a quote
unfoldable pub drop_of : List ℕ → List ℕ → Option Due
drop_of date text = do
  last ← number_of (first_part text)
  moment ← time_of date (behind_part text)
  Some (due.Drop last moment)

-- what a line other than `say` makes due, by its keyword
abbrev pub due_by_keyword : List ℕ → List ℕ → List ℕ → Option Due
due_by_keyword date keyword text =
    if same_text keyword (codes "shown") then shown_of date text
    else if same_text keyword (codes "own") then own_of date text
    else if same_text keyword (codes "hex") then hex_of date text
    else if same_text keyword (codes "lifted") then lifted_of text
    else if same_text keyword (codes "closed") then closed_of date text
    else if same_text keyword (codes "drop") then drop_of date text
    else None

-- what a line makes due, and the number of the next `say` line
abbrev pub due_of : List ℕ → List ℕ → ℕ → List ℕ → Option (Due × ℕ)
due_of date firm number line =
    if same_text (first_part line) (codes "say") then said_due date firm number (behind_part line)
    else do
      item ← due_by_keyword date (first_part line) (behind_part line)
      Some (item, number)
