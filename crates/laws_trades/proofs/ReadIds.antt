-- The ids of an investor's message came in a frame, so they may stand in one.
use Rattle.std.proofs.Common.{◌≡◌, ℕ, ◌==◌, Bool, true, false, List, Option, Some, None, Result, Ok}
use Rattle.std.proofs.Common.{Err, refl, codes, if◌then◌else◌, []}
use Rattle.std.specs.Prelude.{unwrap_or}
use Rattle.std.specs.List.{AllByRecursion}
use Rattle.std.specs.Str.Parse.{digits_value}
use Rattle.std.proofs.lemmas.Bool.{cond_both}
use Rattle.fix_fields.specs.Frame.{Field, IsField, IsValue, frame_of, value_of}
use Rattle.fix_fields.proofs.FieldsText.{AreBody-lawful, value_in}
use Rattle.fix_fields.proofs.FrameParts.{is_frame_of}
use Rattle.venue_rows.specs.Texts.{same_text}
use Rattle.venue_rows.specs.declared.investor_rows.InvestorRow.{InvestorRow}
use Rattle.quote_messages.specs.Arrivals.{framed, in_sequence, investor_arrival, numbered}
use Rattle.quote_messages.specs.Arrivals.{out_of_sequence, reject_of, sequence_number}
use Rattle.quote_messages.specs.SessionChecks.{header_lines, hit_of, investor_session_verdict}
use Rattle.quote_messages.specs.SessionChecks.{investor_tables, pass_of, request_lines, request_of}
use Rattle.quote_messages.specs.SessionChecks.{response_lines, types_of}
use Rattle.quote_messages.specs.SessionLines.{first_fault, has_number, text_at, unless_fault}
use Rattle.quote_messages.specs.declared.arrivals.Arrival.{Arrival}
use Rattle.quote_messages.specs.declared.arrivals.Arrival.TheVariants as arrival
use Rattle.quote_messages.specs.declared.requests.InvestorMessage.{InvestorMessage}
use Rattle.quote_messages.specs.declared.requests.InvestorMessage.TheVariants as message
use Rattle.quote_messages.specs.declared.session_faults.SessionFault.{SessionFault}
use Rattle.quote_messages.specs.declared.session_faults.SessionRejectReason.TheVariants.{InvalidMsgType}

-- the ids by which the venue answers a message
abbrev pub IdsOf : InvestorMessage → Type 0
IdsOf (message.Request request) = IsValue request.id
IdsOf (message.Hit hit) = IsValue hit.id × IsValue hit.quote
IdsOf (message.Pass pass) = IsValue pass.id × IsValue pass.request

abbrev SaidIds : Result InvestorMessage SessionFault → Type 0
SaidIds (Ok said) = IdsOf said
SaidIds (Err fault) = Unit {0}

abbrev pub ArrivalIds : Arrival InvestorMessage → Type 0
ArrivalIds (arrival.Taken said) = IdsOf said
ArrivalIds other = Unit {0}

-- the text of a tag, or none
text_value : (tag : ℕ) (fields : List Field) (found : Option (List ℕ)) → value_of tag fields ≡ found
    → AllByRecursion IsField fields → IsValue (unwrap_or found [])
text_value tag fields None is lawful = tt
text_value tag fields (Some text) is lawful = (value_in tag fields text lawful is).0

module _ (date : List ℕ) (row : InvestorRow) where
  module _ (fields : List Field) (lawful : AllByRecursion IsField fields) where
    text_lawful : (tag : ℕ) → IsValue (text_at tag fields)
    text_lawful tag = text_value tag fields (value_of tag fields) refl lawful

    unless_ids : (fault : Option SessionFault) (said : Result InvestorMessage SessionFault)
        → SaidIds said → SaidIds (unless_fault fault said)
    unless_ids None said ids = ids
    unless_ids (Some fault) said ids = tt

    response_ids : (b : Bool)
        → SaidIds (Ok (if b then message.Hit (hit_of fields) else message.Pass (pass_of fields)))
    response_ids true = (text_lawful 693, text_lawful 117)
    response_ids false = (text_lawful 693, text_lawful 131)

    kinds_ids : (requests responds hits : Bool) (request response : Option SessionFault)
        (none : SessionFault)
        → SaidIds
        (if requests then unless_fault request (Ok (message.Request (request_of date fields)))
        else if responds
        then unless_fault response
        (Ok (if hits then message.Hit (hit_of fields) else message.Pass (pass_of fields)))
        else Err none)
    kinds_ids true responds hits request response none =
        unless_ids request (Ok (message.Request (request_of date fields))) (text_lawful 131)
    kinds_ids false true hits request response none =
        unless_ids response
        (Ok (if hits then message.Hit (hit_of fields) else message.Pass (pass_of fields)))
        (response_ids hits)
    kinds_ids false false hits request response none = tt

    said_ids : SaidIds (investor_session_verdict date row fields)
    unfolding investor_session_verdict
    said_ids =
        unless_ids
        (first_fault (header_lines row.name row.traders (types_of investor_tables)) date fields) _
        (kinds_ids (same_text (codes "R") (text_at 35 fields))
        (same_text (codes "AJ") (text_at 35 fields)) (has_number 694 1 fields)
        (first_fault request_lines date fields) (first_fault response_lines date fields)
        (record { tag = 35; reason = InvalidMsgType }))

    sequence_ids : (number : List ℕ) (said : Result InvestorMessage SessionFault) → SaidIds said
        → ArrivalIds (in_sequence fields number said)
    sequence_ids number (Ok said) ids = ids
    sequence_ids number (Err fault) ids = tt

    numbered_ids : (expected : ℕ) (number : Option (List ℕ))
        (said : Result InvestorMessage SessionFault) → SaidIds said
        → ArrivalIds (numbered expected fields number said)
    numbered_ids expected None said ids = tt
    numbered_ids expected (Some number) said ids =
        cond_both (digits_value 10 number == expected) (in_sequence fields number said)
        (arrival.OutOfSequence (reject_of fields number out_of_sequence)) ArrivalIds
        (λ right. sequence_ids number said ids) (λ wrong. tt)

  pub arrival_ids : (expected : ℕ) (bytes : List ℕ)
      → ArrivalIds (investor_arrival date row expected bytes)
  unfolding investor_arrival
  arrival_ids expected bytes = by_frame (frame_of bytes) refl
    where
      by_frame : (frame : Option (List Field)) → frame_of bytes ≡ frame
          → ArrivalIds (framed (investor_session_verdict date row) expected frame)
      by_frame None is = tt
      by_frame (Some fields) is =
          let lawful = AreBody-lawful fields (is_frame_of bytes fields is).body in
          numbered_ids fields lawful expected (sequence_number fields)
          (investor_session_verdict date row fields) (said_ids fields lawful)
