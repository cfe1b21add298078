-- A blotter, line by line: what its columns hold, and how wide they are. A space is the byte 32 and
-- a line feed 10.
use Rattle.std.specs.Prelude.{ℕ, ◌-◌, List, [], ◌∷◌, ◌++◌, length, codes, decimal, replicate}
use Rattle.std.specs.List.{flat_map, join_with_byte}
use Rattle.bond_prices.specs.ThirtySeconds.{thirty_seconds}
use Rattle.fix_fields.specs.TimeOfDay.{time_text}
use Rattle.market_terms.specs.declared.asks.Side.{Side}
use Rattle.market_terms.specs.declared.asks.Side.TheVariants.{Buy, Sell}
use Rattle.market_terms.specs.DayLines.{DayLines, OfDealer, OfInvestor}
use Rattle.market_terms.specs.declared.lines.QuoteLine.{QuoteLine}
use Rattle.market_terms.specs.declared.lines.QuoteState.{QuoteState}
use Rattle.market_terms.specs.declared.lines.QuoteState.TheVariants as quote
use Rattle.market_terms.specs.declared.lines.RequestLine.{RequestLine}
use Rattle.market_terms.specs.declared.lines.RequestState.{RequestState}
use Rattle.market_terms.specs.declared.lines.RequestState.TheVariants as request

-- the spaces that a text leaves of a column's width: none where it fills the column or is wider
abbrev pub spaces_left : ℕ → List ℕ → List ℕ
spaces_left width text = replicate (width - length text) 32

-- a text at the right of its column; one that is wider than the column stands whole
abbrev pub right_in : ℕ → List ℕ → List ℕ
right_in width text = spaces_left width text ++ text

-- a text at the left of its column; one that is wider than the column stands whole
abbrev pub left_in : ℕ → List ℕ → List ℕ
left_in width text = text ++ spaces_left width text

-- texts, with one space between each two
abbrev pub spaced : List (List ℕ) → List ℕ
spaced texts = join_with_byte 32 texts

-- a line: its columns, with one space between each two, and a line feed
abbrev pub line_of : List (List ℕ) → List ℕ
line_of columns = spaced columns ++ 10 ∷ []

-- the letter of a side: the investor buys (`B`) or sells (`S`)
abbrev pub side_letter : Side → List ℕ
side_letter Buy = codes "B"
side_letter Sell = codes "S"

-- what became of a quote
abbrev pub quote_state : QuoteState → List ℕ
quote_state quote.Withdrawn = codes "withdrawn"
quote_state quote.Replaced = codes "replaced"
quote_state quote.Lifted = codes "lifted"
quote_state quote.Ended = codes "ended"
quote_state quote.Live = codes "live"

-- the line of a quote: its number, the moment, the trader, the number of its request behind `R`, the
-- bond, the investor's side, the quantity, the price in 32nds, and what became of it
unfoldable pub quote_line : QuoteLine → List ℕ
quote_line line = line_of
    (right_in 4 (decimal line.q) ∷ time_text line.moment ∷ left_in 8 line.trader
    ∷ left_in 5 (codes "R" ++ decimal line.request) ∷ line.bond ∷ side_letter line.side
    ∷ right_in 13 (decimal line.quantity) ∷ right_in 7 (thirty_seconds line.price)
    ∷ quote_state line.state ∷ [])

-- an award: the dealer, and the price in 32nds
abbrev pub award_text : List ℕ → ℕ → List ℕ
award_text dealer price = spaced (codes "won" ∷ dealer ∷ thirty_seconds price ∷ [])

-- what became of a request
abbrev pub request_state : RequestState → List ℕ
request_state request.Open = codes "open"
request_state request.Passed = codes "passed"
request_state request.Expired = codes "expired"
request_state (request.Won dealer price) = award_text dealer price

-- the line of a request: its number, the moment, the trader, the bond, the investor's side, the
-- quantity, and what became of it
unfoldable pub request_line : RequestLine → List ℕ
request_line line = line_of
    (right_in 4 (decimal line.n) ∷ time_text line.moment ∷ left_in 8 line.trader ∷ line.bond
    ∷ side_letter line.side ∷ right_in 13 (decimal line.quantity) ∷ request_state line.state ∷ [])

-- the blotter of a firm: a line for each of a dealer's quotes, or of an investor's requests
abbrev pub blotter_text : DayLines → List ℕ
blotter_text (OfDealer quotes) = flat_map quote_line quotes
blotter_text (OfInvestor requests) = flat_map request_line requests
