-- The lines of an investor's due text: what each spells.
use Rattle.std.specs.Prelude.{ℕ, Bool, ◌&&◌, not, List, length, nat_lt, codes}
use Rattle.std.specs.Prelude.{Option, Some, None, if◌then◌else◌}
use Rattle.std.specs.Option.{option_map}
use Rattle.std.specs.Result.{result_ok}
use Rattle.bond_prices.specs.Grid.{grid_of}
use Rattle.bond_prices.specs.Price.{price_of}
use Rattle.venue_rows.specs.Rows.{InvestorValues, bond_ids}
use Rattle.venue_rows.specs.Texts.{is_among, is_bond_id, is_firm_name, same_text, text_if}
use Rattle.venue_rows.specs.declared.bond_rows.BondRow.{BondRow}
use Rattle.venue_rows.specs.declared.config.TheConstants.VenueConfig.{MOST_BONDS, MOST_DEALERS}
use Rattle.market_terms.specs.Texts.{is_id}
use Rattle.market_terms.specs.declared.closes.HitRefusal.TheVariants as refusal
use Rattle.market_terms.specs.declared.closes.Reply.{Reply}
use Rattle.market_terms.specs.declared.closes.Reply.TheVariants as reply
use Rattle.market_terms.specs.declared.rooms.ResponseRef.{ResponseRef}
use Rattle.quote_messages.specs.Texts.{number_of, number_up_to}
use Rattle.input_lines.specs.DueLines.{band_behind, next_number, traders_of, within}
use Rattle.input_lines.specs.Lines.{first_part, behind_part, has_part_behind, time_of}
use Rattle.input_lines.specs.OptionSteps.{◌>>=◌}
use Rattle.input_lines.specs.SayLine.{hexed_of, received_of, said_message, said_of}
use Rattle.investor_views.specs.declared.dues.InvestorDue.{InvestorDue}
use Rattle.investor_views.specs.declared.dues.InvestorDue.TheVariants as due

-- What the investor sees.

-- how many requests, in a day or at one time: up to 1,024, in 1 to 9 digits
abbrev pub limit_of : List ℕ → Option ℕ
limit_of text = number_of text >>= within 1024

-- the greatest quantity of one request: up to 1,000,000,000,000, in 1 to 16 digits
abbrev pub greatest_of : List ℕ → Option ℕ
greatest_of text = number_up_to 16 text >>= within 1000000000000

-- NAME REQUESTS OPEN QUANTITY TRADER ..
unfoldable pub row_values : List ℕ → Option InvestorValues
row_values text = do
  let behind_name = behind_part text
  let behind_requests = behind_part behind_name
  let behind_open = behind_part behind_requests
  name ← text_if is_firm_name (first_part text)
  requests ← limit_of (first_part behind_name)
  open_limit ← limit_of (first_part behind_requests)
  quantity ← greatest_of (first_part behind_open)
  traders ← traders_of (behind_part behind_open)
  Some (record {
    name = name;
    traders = traders;
    requests = requests;
    open_limit = open_limit;
    quantity = quantity;
  })

-- `investor NAME REQUESTS OPEN QUANTITY TRADER ..`
abbrev pub row_of : List ℕ → Option InvestorValues
row_of line =
    if same_text (first_part line) (codes "investor") then row_values (behind_part line) else None

-- behind `bond`: BOND GRID, and LOW HIGH where they are given
unfoldable pub bond_of : List ℕ → Option BondRow
bond_of text = do
  let behind_id = behind_part text
  id ← text_if is_bond_id (first_part text)
  steps ← number_of (first_part behind_id)
  grid ← grid_of steps
  band ← band_behind behind_id
  Some (record { id = id; grid = grid; band = band })

-- whether there is room for a bond behind these, none of which it is
abbrev pub may_join : List BondRow → BondRow → Bool
may_join bonds bond =
    nat_lt (length bonds) MOST_BONDS && not (is_among (bond_ids bonds) bond.id)

-- whether there is room for a dealer behind these: no firm has its name, nor has the investor
abbrev pub may_deal : List ℕ → List (List ℕ) → List ℕ → Bool
may_deal own dealers name =
    nat_lt (length dealers) MOST_DEALERS && (not (same_text own name)
    && not (is_among dealers name))

-- Items.

-- UNTIL, where it stands behind TIME
abbrev pub until_behind : List ℕ → List ℕ → Option (Option ℕ)
until_behind date text =
    if has_part_behind text then option_map (λ until. Some until) (time_of date (behind_part text))
    else Some None

-- K, where it stands behind TIME
abbrev pub quote_behind : List ℕ → Option (Option ℕ)
quote_behind text =
    if has_part_behind text then option_map (λ quote. Some quote) (number_of (behind_part text))
    else Some None

-- behind `quoted`: N DEALER PRICE TIME, and UNTIL where it is given
unfoldable pub quoted_of : List ℕ → List ℕ → Option InvestorDue
quoted_of date text = do
  let behind_request = behind_part text
  let behind_dealer = behind_part behind_request
  let behind_price = behind_part behind_dealer
  request ← number_of (first_part text)
  dealer ← text_if is_firm_name (first_part behind_request)
  price ← result_ok (price_of (first_part behind_dealer))
  moment ← time_of date (first_part behind_price)
  valid_until ← until_behind date behind_price
  Some (due.Offered request dealer price valid_until moment)

-- behind `gone`: N K TIME
unfoldable pub gone_of : List ℕ → List ℕ → Option InvestorDue
gone_of date text = do
  let behind_request = behind_part text
  request ← number_of (first_part text)
  quote ← number_of (first_part behind_request)
  moment ← time_of date (behind_part behind_request)
  Some (due.Gone request quote moment)

-- behind `declined`: N DEALER TIME
unfoldable pub declined_of : List ℕ → List ℕ → Option InvestorDue
declined_of date text = do
  let behind_request = behind_part text
  request ← number_of (first_part text)
  dealer ← text_if is_firm_name (first_part behind_request)
  moment ← time_of date (behind_part behind_request)
  Some (due.Declined request dealer moment)

-- REPLY: how a response is answered
abbrev pub reply_of : List ℕ → Option Reply
reply_of text =
    if same_text text (codes "Awarded") then Some reply.Awarded
    else if same_text text (codes "Passed") then Some reply.Passed
    else if same_text text (codes "NotOpen") then Some (reply.Refused refusal.NotOpen)
    else if same_text text (codes "Deadline") then Some (reply.Refused refusal.Deadline)
    else if same_text text (codes "Gone") then Some (reply.Refused refusal.Gone)
    else if same_text text (codes "Expired") then Some (reply.Refused refusal.Expired)
    else if same_text text (codes "Withdrawn") then Some (reply.Refused refusal.Withdrawn)
    else None

-- behind `answered`: N ID REPLY TIME, and K where the response is a hit
unfoldable pub answered_of : List ℕ → List ℕ → Option InvestorDue
answered_of date text = do
  let behind_request = behind_part text
  let behind_id = behind_part behind_request
  let behind_reply = behind_part behind_id
  request ← number_of (first_part text)
  id ← text_if is_id (first_part behind_request)
  reply ← reply_of (first_part behind_id)
  moment ← time_of date (first_part behind_reply)
  quote ← quote_behind behind_reply
  let response : ResponseRef = record { id = id; k = quote }
  Some (due.Answered request response reply moment)

-- behind `expired`: N TIME
unfoldable pub expired_of : List ℕ → List ℕ → Option InvestorDue
expired_of date text = do
  request ← number_of (first_part text)
  moment ← time_of date (behind_part text)
  Some (due.Expired request moment)

-- behind `own`: TIME FRAME
abbrev pub own_of : List ℕ → List ℕ → Option InvestorDue
own_of date text = do
  received ← received_of date text
  Some (due.Own received.0 received.1)

-- behind `hex`: TIME HEX
abbrev pub hex_of : List ℕ → List ℕ → Option InvestorDue
hex_of date text = do
  received ← hexed_of date text
  Some (due.Own received.0 received.1)

-- what a line other than `say` makes due, by its keyword
abbrev pub item_by_keyword : List ℕ → List ℕ → List ℕ → Option InvestorDue
item_by_keyword date keyword text =
    if same_text keyword (codes "own") then own_of date text
    else if same_text keyword (codes "hex") then hex_of date text
    else if same_text keyword (codes "quoted") then quoted_of date text
    else if same_text keyword (codes "gone") then gone_of date text
    else if same_text keyword (codes "declined") then declined_of date text
    else if same_text keyword (codes "answered") then answered_of date text
    else if same_text keyword (codes "expired") then expired_of date text
    else None

-- behind `say`: TRADER TIME TYPE BODY, and the number of the next such line
abbrev pub said_item : List ℕ → List ℕ → ℕ → List ℕ → Option (InvestorDue × ℕ)
said_item date firm number text = do
  said ← said_of date text
  message ← said_message date firm number said
  Some (due.Own said.moment message, next_number number said)

-- what a line makes due, and the number of the next `say` line
abbrev pub item_of : List ℕ → List ℕ → ℕ → List ℕ → Option (InvestorDue × ℕ)
item_of date firm number line =
    if same_text (first_part line) (codes "say") then said_item date firm number (behind_part line)
    else do
      item ← item_by_keyword date (first_part line) (behind_part line)
      Some (item, number)
