-- What a desk notes beside a message, as a line behind it: `why FIRM N NAME`, or
-- `trade FIRM N DATE-INVESTOR-DEALER-K`.
use Rattle.std.specs.Prelude.{ℕ, ◌-◌, Bool, false, List, [], ◌∷◌, ◌++◌, codes, decimal}
use Rattle.std.specs.Prelude.{count_by, slice_get, take, unwrap_or, Option, Some, None}
use Rattle.fix_fields.specs.Frame.{Field, frame_of}
use Rattle.quote_messages.specs.SessionLines.{number_at}
use Rattle.venue_rows.specs.Texts.{same_text}
use Rattle.dealer_desk.specs.Refusals as dealer_refusals
use Rattle.dealer_desk.specs.declared.notes.DealerNote.{DealerNote}
use Rattle.dealer_desk.specs.declared.notes.DealerNote.TheVariants as to_dealer
use Rattle.investor_desk.specs.Refusals as investor_refusals
use Rattle.investor_desk.specs.declared.notes.InvestorNote.{InvestorNote}
use Rattle.investor_desk.specs.declared.notes.InvestorNote.TheVariants as to_investor

-- MsgSeqNum (34) of these fields
abbrev pub number_in : List Field → ℕ
number_in fields = unwrap_or (number_at 34 fields) 0

-- the same of a message, whose bytes are a frame
abbrev pub message_number : List ℕ → ℕ
message_number message = number_in (unwrap_or (frame_of message) [])

-- the note beside the message with this number, if there is one
abbrev pub note_at : {Note : Type 0} → List (Option Note) → ℕ → Option Note
note_at notes number = unwrap_or (slice_get notes (number - 1)) None

-- how many of the notes up to this message say so
abbrev pub count_to : {Note : Type 0} → (Option Note → Bool) → List (Option Note) → ℕ → ℕ
count_to says notes number = count_by says (take number notes)

-- `WORD FIRM N TEXT`: what is noted beside the message of a firm with this number
abbrev pub line_about : List ℕ → List ℕ → ℕ → List ℕ → List ℕ
line_about word firm number text =
    word ++ 32 ∷ firm ++ 32 ∷ decimal number ++ 32 ∷ text ++ 10 ∷ []

-- the name of the line that refuses
abbrev pub why_line : List ℕ → ℕ → List ℕ → List ℕ
why_line firm number name = line_about (codes "why") firm number name

-- the name of a trade: the day, the two firms, and which of their trades it is
abbrev pub trade_name : List ℕ → List ℕ → List ℕ → ℕ → List ℕ
trade_name date investor dealer k =
    date ++ 45 ∷ investor ++ 45 ∷ dealer ++ 45 ∷ decimal k

abbrev pub trade_line : List ℕ → ℕ → List ℕ → List ℕ
trade_line firm number trade = line_about (codes "trade") firm number trade

-- A dealer's.

-- whether a note tells of a trade with this investor
abbrev pub trades_with_investor : List ℕ → Option DealerNote → Bool
trades_with_investor investor (Some (to_dealer.Trade other)) = same_text other investor
trades_with_investor investor other = false

-- the line of a note beside the message with this number
abbrev pub dealer_line : List ℕ → List ℕ → List (Option DealerNote) → ℕ → Option DealerNote
    → List ℕ
dealer_line date dealer notes number None = []
dealer_line date dealer notes number (Some (to_dealer.Refused refusal)) =
    why_line dealer number (dealer_refusals.dealer_refusal_name refusal)
dealer_line date dealer notes number (Some (to_dealer.Trade investor)) =
    trade_line dealer number (trade_name date investor dealer
    (count_to (trades_with_investor investor) notes number))

-- the line behind the message with this number, if there is one
abbrev pub dealer_note_line : List ℕ → List ℕ → List (Option DealerNote) → ℕ → List ℕ
dealer_note_line date dealer notes number =
    dealer_line date dealer notes number (note_at notes number)

-- An investor's.

abbrev pub trades_with_dealer : List ℕ → Option InvestorNote → Bool
trades_with_dealer dealer (Some (to_investor.Trade other)) = same_text other dealer
trades_with_dealer dealer other = false

abbrev pub investor_line : List ℕ → List ℕ → List (Option InvestorNote) → ℕ
    → Option InvestorNote → List ℕ
investor_line date investor notes number None = []
investor_line date investor notes number (Some (to_investor.Refused refusal)) =
    why_line investor number (investor_refusals.refusal_name refusal)
investor_line date investor notes number (Some (to_investor.Trade dealer)) =
    trade_line investor number (trade_name date investor dealer
    (count_to (trades_with_dealer dealer) notes number))

abbrev pub investor_note_line : List ℕ → List ℕ → List (Option InvestorNote) → ℕ → List ℕ
investor_note_line date investor notes number =
    investor_line date investor notes number (note_at notes number)
