-- The session checks: the first fault (RefTagID 371, SessionRejectReason 373) of a message that
-- came in sequence, or the message as its fields read. What a firm of either role may send is a
-- list of tables, one for each type.
use Rattle.std.specs.Prelude.{ℕ, ◌==◌, List, [], ◌∷◌, map, codes, Option, unwrap_or, Result, Ok}
use Rattle.std.specs.Prelude.{Err, if◌then◌else◌, option_and_then, option_map}
use Rattle.std.specs.Result.{result_ok}
use Rattle.bond_prices.specs.Price.{price_of}
use Rattle.fix_fields.specs.Frame.{Field, value_of}
use Rattle.fix_fields.specs.UtcTimestamp.{moment_of}
use Rattle.venue_rows.specs.Texts.{same_text}
use Rattle.venue_rows.specs.declared.dealer_rows.DealerRow.{DealerRow}
use Rattle.venue_rows.specs.declared.investor_rows.InvestorRow.{InvestorRow}
use Rattle.market_terms.specs.declared.asks.Side.{Side}
use Rattle.market_terms.specs.declared.asks.Side.TheVariants.{Buy, Sell}
use Rattle.quote_messages.specs.ValueForms.{AnId, ANumber, APrice, AQuantity, AMoment, OneOf}
use Rattle.quote_messages.specs.ValueForms.{NumberIs, quantity_of}
use Rattle.quote_messages.specs.SessionLines.{Line, required, optional, required_where, text_at}
use Rattle.quote_messages.specs.SessionLines.{number_at, has_number, first_fault, unless_fault}
use Rattle.quote_messages.specs.PartyGroup.{party_group, named_dealers}
use Rattle.quote_messages.specs.declared.session_faults.SessionRejectReason.TheVariants.{ValueIncorrect}
use Rattle.quote_messages.specs.declared.session_faults.SessionRejectReason.TheVariants.{CompIdProblem}
use Rattle.quote_messages.specs.declared.session_faults.SessionRejectReason.TheVariants.{InvalidMsgType}
use Rattle.quote_messages.specs.declared.session_faults.SessionFault.{SessionFault}
use Rattle.quote_messages.specs.declared.quotes.Quote.{Quote}
use Rattle.quote_messages.specs.declared.quotes.QuoteCancel.{QuoteCancel}
use Rattle.quote_messages.specs.declared.quotes.CancelScope.{CancelScope}
use Rattle.quote_messages.specs.declared.quotes.CancelScope.TheVariants.{One, All, Other}
use Rattle.quote_messages.specs.declared.quotes.Decline.{Decline}
use Rattle.quote_messages.specs.declared.quotes.DealerMessage.{DealerMessage}
use Rattle.quote_messages.specs.declared.quotes.DealerMessage.TheVariants as dealer
use Rattle.quote_messages.specs.declared.requests.QuoteRequest.{QuoteRequest}
use Rattle.quote_messages.specs.declared.requests.QuoteHit.{QuoteHit}
use Rattle.quote_messages.specs.declared.requests.RequestPass.{RequestPass}
use Rattle.quote_messages.specs.declared.requests.InvestorMessage.{InvestorMessage}
use Rattle.quote_messages.specs.declared.requests.InvestorMessage.TheVariants as investor

-- A type of message: its MsgType (35), its table, and what the fields say where they keep the
-- table.
pub record MessageTable (Message : Type 0) : Type 0 where
  pub msg_type : List ℕ
  pub lines : List Line
  pub message : List ℕ → List Field → Message

-- the header of every message of a firm: who sends it to whom, when, which of the firm's traders,
-- and what it is, one of the types that the firm may send
abbrev pub header_lines : List ℕ → List (List ℕ) → List (List ℕ) → List Line
header_lines name traders types =
    required 49 (OneOf (name ∷ []) CompIdProblem)
    ∷ required 56 (OneOf (codes "VENUE" ∷ []) CompIdProblem)
    ∷ required 52 AMoment
    ∷ required 50 (OneOf traders ValueIncorrect)
    ∷ required 35 (OneOf types InvalidMsgType)
    ∷ []

-- the verdict by the table of the message's type; a type without a table is a fault
abbrev pub verdict_by : {Message : Type 0} → List (MessageTable Message) → List ℕ → List Field
    → Result Message SessionFault
verdict_by [] date fields = Err (record { tag = 35; reason = InvalidMsgType })
verdict_by (table ∷ tables) date fields =
    if same_text table.msg_type (text_at 35 fields)
    then unless_fault (first_fault table.lines date fields) (Ok (table.message date fields))
    else verdict_by tables date fields

-- the types of some tables
abbrev pub types_of : {Message : Type 0} → List (MessageTable Message) → List (List ℕ)
types_of tables = map (λ table. table.msg_type) tables

-- The verdict on a message of a firm with this name and these traders, which may send the types of
-- these tables: the header first, and then the table of the message's type.
abbrev pub session_verdict : {Message : Type 0} → List (MessageTable Message) → List ℕ
    → List (List ℕ) → List ℕ → List Field → Result Message SessionFault
session_verdict tables name traders date fields =
    unless_fault (first_fault (header_lines name traders (types_of tables)) date fields)
    (verdict_by tables date fields)

-- What a dealer sends.

-- Quote (35=S)
abbrev pub quote_lines : List Line
quote_lines =
    required 117 AnId
    ∷ required 131 AnId
    ∷ required 48 AnId
    ∷ required 22 (OneOf (codes "4" ∷ []) ValueIncorrect)
    ∷ optional 132 APrice
    ∷ optional 133 APrice
    ∷ optional 134 AQuantity
    ∷ optional 135 AQuantity
    ∷ optional 537 ANumber
    ∷ optional 62 AMoment
    ∷ []

abbrev pub quote_of : List ℕ → List Field → Quote
quote_of date fields = record {
  trader = text_at 50 fields;
  id = text_at 117 fields;
  request = text_at 131 fields;
  bond = text_at 48 fields;
  bid = option_map price_of (value_of 132 fields);
  offer = option_map price_of (value_of 133 fields);
  bid_size = option_and_then (λ text. result_ok (quantity_of text)) (value_of 134 fields);
  offer_size = option_and_then (λ text. result_ok (quantity_of text)) (value_of 135 fields);
  quote_type = number_at 537 fields;
  valid_until = option_and_then (λ text. result_ok (moment_of date text)) (value_of 62 fields);
}

-- QuoteCancel (35=Z): a cancel of one quote, whose QuoteCancelType (298) is 5, names it
abbrev pub cancel_lines : List Line
cancel_lines =
    required 298 ANumber
    ∷ required_where (has_number 298 5) 117 AnId
    ∷ []

-- which quotes a cancel of this type cancels: 5 is one quote, and 4 is all of them
abbrev pub cancel_scope : ℕ → Option (List ℕ) → CancelScope
cancel_scope cancel_type id =
    if cancel_type == 5 then One (unwrap_or id [])
    else if cancel_type == 4 then All id
    else Other cancel_type id

abbrev pub cancel_of : List ℕ → List Field → QuoteCancel
cancel_of date fields = record {
  trader = text_at 50 fields;
  scope = cancel_scope (unwrap_or (number_at 298 fields) 0) (value_of 117 fields);
}

-- QuoteRequestReject (35=AG), by which a dealer declines a request
abbrev pub decline_lines : List Line
decline_lines =
    required 131 AnId
    ∷ required 658 (NumberIs (10 ∷ []) ValueIncorrect)
    ∷ []

abbrev pub decline_of : List ℕ → List Field → Decline
decline_of date fields = record { trader = text_at 50 fields; request = text_at 131 fields }

-- the types that a dealer sends
abbrev pub dealer_tables : List (MessageTable DealerMessage)
dealer_tables =
    record {
      msg_type = codes "S";
      lines = quote_lines;
      message = λ date fields. dealer.Quote (quote_of date fields);
    }
    ∷ record {
      msg_type = codes "Z";
      lines = cancel_lines;
      message = λ date fields. dealer.Cancel (cancel_of date fields);
    }
    ∷ record {
      msg_type = codes "AG";
      lines = decline_lines;
      message = λ date fields. dealer.Decline (decline_of date fields);
    }
    ∷ []

-- the first fault of a dealer's message, or what it says
unfoldable pub dealer_session_verdict : List ℕ → DealerRow → List Field
    → Result DealerMessage SessionFault
dealer_session_verdict date row fields =
    session_verdict dealer_tables row.name row.traders date fields

-- What an investor sends.

-- QuoteRequest (35=R)
abbrev pub request_lines : List Line
request_lines =
    required 131 AnId
    ∷ required 146 (NumberIs (1 ∷ []) ValueIncorrect)
    ∷ required 48 AnId
    ∷ required 22 (OneOf (codes "4" ∷ []) ValueIncorrect)
    ∷ required 54 (OneOf (codes "1" ∷ codes "2" ∷ []) ValueIncorrect)
    ∷ required 38 AQuantity
    ∷ required 126 AMoment
    ∷ required 453 ANumber
    ∷ party_group
    ∷ []

-- the side that the text of Side (54) means
abbrev pub side_of : List ℕ → Side
side_of text = if same_text (codes "1") text then Buy else Sell

abbrev pub request_of : List ℕ → List Field → QuoteRequest
request_of date fields = record {
  trader = text_at 50 fields;
  id = text_at 131 fields;
  bond = text_at 48 fields;
  side = side_of (text_at 54 fields);
  quantity = unwrap_or (result_ok (quantity_of (text_at 38 fields))) 0;
  deadline = unwrap_or (result_ok (moment_of date (text_at 126 fields))) 0;
  dealers = named_dealers fields;
}

-- QuoteResponse (35=AJ): a hit, whose QuoteRespType (694) is 1, names its quote, and a pass, whose
-- is 6, its request
abbrev pub response_lines : List Line
response_lines =
    required 693 AnId
    ∷ required 694 (NumberIs (1 ∷ 6 ∷ []) ValueIncorrect)
    ∷ required_where (has_number 694 1) 117 AnId
    ∷ required_where (has_number 694 6) 131 AnId
    ∷ []

abbrev pub hit_of : List Field → QuoteHit
hit_of fields = record {
  trader = text_at 50 fields;
  id = text_at 693 fields;
  quote = text_at 117 fields;
  request = value_of 131 fields;
}

abbrev pub pass_of : List Field → RequestPass
pass_of fields = record {
  trader = text_at 50 fields;
  id = text_at 693 fields;
  request = text_at 131 fields;
  quote = value_of 117 fields;
}

abbrev pub response_of : List ℕ → List Field → InvestorMessage
response_of date fields =
    if has_number 694 1 fields then investor.Hit (hit_of fields) else investor.Pass (pass_of fields)

-- the types that an investor sends
abbrev pub investor_tables : List (MessageTable InvestorMessage)
investor_tables =
    record {
      msg_type = codes "R";
      lines = request_lines;
      message = λ date fields. investor.Request (request_of date fields);
    }
    ∷ record { msg_type = codes "AJ"; lines = response_lines; message = response_of }
    ∷ []

-- the first fault of an investor's message, or what it says
unfoldable pub investor_session_verdict : List ℕ → InvestorRow → List Field
    → Result InvestorMessage SessionFault
investor_session_verdict date row fields =
    session_verdict investor_tables row.name row.traders date fields
