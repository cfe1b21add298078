-- What the session makes of bytes that came from a firm: they are dropped, they are answered by a
-- Reject, or they say something to the market. Each firm's messages are numbered from 1 by
-- MsgSeqNum (34), and come in that order.
use Rattle.std.specs.Prelude.{ℕ, ◌+◌, ◌==◌, List, Option, Some, None, Result, Ok, Err}
use Rattle.std.specs.Prelude.{if◌then◌else◌, option_and_then}
use Rattle.std.specs.Str.Parse.{digits_value}
use Rattle.fix_fields.specs.Frame.{Field, frame_of, times_of, value_of}
use Rattle.venue_rows.specs.Texts.{text_if}
use Rattle.venue_rows.specs.declared.dealer_rows.DealerRow.{DealerRow}
use Rattle.venue_rows.specs.declared.investor_rows.InvestorRow.{InvestorRow}
use Rattle.quote_messages.specs.Texts.{is_msg_type, is_sequence_number}
use Rattle.quote_messages.specs.SessionLines.{text_at}
use Rattle.quote_messages.specs.SessionChecks.{dealer_session_verdict, investor_session_verdict}
use Rattle.quote_messages.specs.declared.session_faults.SessionRejectReason.TheVariants.{ValueIncorrect}
use Rattle.quote_messages.specs.declared.session_faults.SessionFault.{SessionFault}
use Rattle.quote_messages.specs.declared.out_messages.Reject.{Reject}
use Rattle.quote_messages.specs.declared.quotes.DealerMessage.{DealerMessage}
use Rattle.quote_messages.specs.declared.requests.InvestorMessage.{InvestorMessage}
use Rattle.quote_messages.specs.declared.arrivals.Arrival.{Arrival}
use Rattle.quote_messages.specs.declared.arrivals.Arrival.TheVariants.{Dropped, OutOfSequence}
use Rattle.quote_messages.specs.declared.arrivals.Arrival.TheVariants.{Rejected, Taken}

-- The MsgSeqNum (34) that is expected of a firm when so many of its messages have used up theirs.
-- After 999,999,999 it is 1,000,000,000, which no message can bear.

abbrev pub expected_number : ℕ → ℕ
expected_number used = used + 1

-- the text of MsgSeqNum (34), where it stands once and is readable
abbrev pub sequence_number : List Field → Option (List ℕ)
sequence_number fields =
    if times_of 34 fields == 1 then text_if is_sequence_number (text_at 34 fields) else None

-- what a Reject says of a message with this MsgSeqNum
abbrev pub reject_of : List Field → List ℕ → SessionFault → Reject
reject_of fields number fault = record {
  number = number;
  fault = fault;
  msg_type = option_and_then (text_if is_msg_type) (value_of 35 fields);
}

-- the fault of a message that is out of sequence
abbrev pub out_of_sequence : SessionFault
out_of_sequence = record { tag = 34; reason = ValueIncorrect }

-- a message that came in sequence: its session fault, or what it says
abbrev pub in_sequence : {Message : Type 0} → List Field → List ℕ → Result Message SessionFault
    → Arrival Message
in_sequence fields number (Err fault) = Rejected (reject_of fields number fault)
in_sequence fields number (Ok message) = Taken message

-- a frame with this MsgSeqNum, or without a readable one
abbrev pub numbered : {Message : Type 0} → ℕ → List Field → Option (List ℕ)
    → Result Message SessionFault → Arrival Message
numbered expected fields None verdict = Dropped
numbered expected fields (Some number) verdict =
    if digits_value 10 number == expected
    then in_sequence fields number verdict
    else OutOfSequence (reject_of fields number out_of_sequence)

-- bytes that are no frame are dropped
abbrev pub framed : {Message : Type 0} → (List Field → Result Message SessionFault) → ℕ
    → Option (List Field) → Arrival Message
framed verdict expected None = Dropped
framed verdict expected (Some fields) =
    numbered expected fields (sequence_number fields) (verdict fields)

-- what becomes of bytes that came from a dealer
unfoldable pub dealer_arrival : List ℕ → DealerRow → ℕ → List ℕ → Arrival DealerMessage
dealer_arrival date row expected bytes =
    framed (dealer_session_verdict date row) expected (frame_of bytes)

-- what becomes of bytes that came from an investor
unfoldable pub investor_arrival : List ℕ → InvestorRow → ℕ → List ℕ → Arrival InvestorMessage
investor_arrival date row expected bytes =
    framed (investor_session_verdict date row) expected (frame_of bytes)
