-- What the session reads of an investor's message where it takes it as a request.
use Rattle.std.proofs.Common.{◌≡◌, ℕ, ◌==◌, Bool, true, false, List, Option, Some, None, Result, Ok}
use Rattle.std.proofs.Common.{Err, refl, codes, if◌then◌else◌}
use Rattle.std.proofs.lemmas.Bool.{cond_both}
use Rattle.std.specs.Str.Parse.{digits_value}
use Rattle.fix_fields.specs.Frame.{Field, frame_of}
use Rattle.venue_rows.specs.Texts.{same_text}
use Rattle.venue_rows.specs.declared.investor_rows.InvestorRow.{InvestorRow}
use Rattle.quote_messages.specs.Arrivals.{framed, in_sequence, numbered, out_of_sequence, reject_of}
use Rattle.quote_messages.specs.Arrivals.{sequence_number}
use Rattle.quote_messages.specs.Arrivals.{investor_arrival}
use Rattle.quote_messages.specs.SessionChecks.{investor_tables, header_lines, request_lines, request_of}
use Rattle.quote_messages.specs.SessionChecks.{hit_of, pass_of, response_lines, types_of}
use Rattle.quote_messages.specs.SessionChecks.{verdict_by}
use Rattle.quote_messages.specs.SessionChecks.{investor_session_verdict}
use Rattle.quote_messages.specs.SessionLines.{first_fault, has_number, text_at, unless_fault}
use Rattle.quote_messages.specs.declared.arrivals.Arrival.{Arrival}
use Rattle.quote_messages.specs.declared.arrivals.Arrival.TheVariants as arrival
use Rattle.quote_messages.specs.declared.requests.InvestorMessage.{InvestorMessage}
use Rattle.quote_messages.specs.declared.requests.InvestorMessage.TheVariants as message
use Rattle.quote_messages.specs.declared.requests.QuoteRequest.{QuoteRequest}
use Rattle.quote_messages.specs.declared.session_faults.SessionFault.{SessionFault}
use Rattle.quote_messages.specs.declared.session_faults.SessionRejectReason.TheVariants.{InvalidMsgType}

module _ (date : List ℕ) (row : InvestorRow) where
  -- the fields of a message that is read as a request
  pub record ReadAs (fields : List Field) (request : QuoteRequest) : Type 0 where
    pub header : first_fault (header_lines row.name row.traders (types_of investor_tables)) date
        fields ≡ None
    pub type_is : same_text (codes "R") (text_at 35 fields) ≡ true
    pub lines : first_fault request_lines date fields ≡ None
    pub request_is : request ≡ request_of date fields

  abbrev ReadOk : List Field → Result InvestorMessage SessionFault → Type 0
  ReadOk fields (Ok (message.Request request)) = ReadAs fields request
  ReadOk fields other = Unit {0}

  unless_ok : (fields : List Field) (fault : Option SessionFault)
      (said : Result InvestorMessage SessionFault) → (fault ≡ None → ReadOk fields said)
      → ReadOk fields (unless_fault fault said)
  unless_ok fields None said is = is refl
  unless_ok fields (Some fault) said is = tt

  read_as : (fields : List Field)
      → first_fault (header_lines row.name row.traders (types_of investor_tables)) date fields ≡ None
      → same_text (codes "R") (text_at 35 fields) ≡ true → first_fault request_lines date fields ≡ None
      → ReadOk fields (Ok (message.Request (request_of date fields)))
  read_as fields header is lines =
      record { header = header; type_is = is; lines = lines; request_is = refl }

  response_ok : (fields : List Field) (b : Bool)
      → ReadOk fields (Ok (if b then message.Hit (hit_of fields) else message.Pass (pass_of fields)))
  response_ok fields true = tt
  response_ok fields false = tt

  -- by the type of the message, where its table is kept
  kinds_ok : (fields : List Field) (requests responds hits : Bool)
      (request response : Option SessionFault) (none : SessionFault)
      → (requests ≡ true → request ≡ None
      → ReadOk fields (Ok (message.Request (request_of date fields))))
      → ReadOk fields
      (if requests then unless_fault request (Ok (message.Request (request_of date fields)))
      else if responds
      then unless_fault response
      (Ok (if hits then message.Hit (hit_of fields) else message.Pass (pass_of fields)))
      else Err none)
  kinds_ok fields true responds hits None response none is = is refl refl
  kinds_ok fields true responds hits (Some fault) response none is = tt
  kinds_ok fields false true hits request None none is = response_ok fields hits
  kinds_ok fields false true hits request (Some fault) none is = tt
  kinds_ok fields false false hits request response none is = tt

  said_ok : (fields : List Field) → ReadOk fields (investor_session_verdict date row fields)
  unfolding investor_session_verdict
  said_ok fields =
      unless_ok fields (first_fault (header_lines row.name row.traders (types_of investor_tables))
      date fields) (verdict_by investor_tables date fields) (λ header.
      kinds_ok fields (same_text (codes "R") (text_at 35 fields))
      (same_text (codes "AJ") (text_at 35 fields)) (has_number 694 1 fields)
      (first_fault request_lines date fields) (first_fault response_lines date fields)
      (record { tag = 35; reason = InvalidMsgType })
      (λ is lines. read_as fields header is lines))

  -- What came.

  -- bytes that are read as a request
  pub record ReadFrom (bytes : List ℕ) (request : QuoteRequest) : Type 0 where
    pub fields : List Field
    pub frame : frame_of bytes ≡ Some fields
    pub read : ReadAs fields request

  abbrev pub ArrivalOk : List ℕ → Arrival InvestorMessage → Type 0
  ArrivalOk bytes (arrival.Taken (message.Request request)) = ReadFrom bytes request
  ArrivalOk bytes other = Unit {0}

  module _ (bytes : List ℕ) (fields : List Field) (frame : frame_of bytes ≡ Some fields) where
    sequence_ok : (number : List ℕ) (said : Result InvestorMessage SessionFault)
        → ReadOk fields said → ArrivalOk bytes (in_sequence fields number said)
    sequence_ok number (Ok (message.Request request)) is =
        record { fields = fields; frame = frame; read = is }
    sequence_ok number (Ok other) is = tt
    sequence_ok number (Err fault) is = tt

    numbered_ok : (expected : ℕ) (number : Option (List ℕ))
        (said : Result InvestorMessage SessionFault) → ReadOk fields said
        → ArrivalOk bytes (numbered expected fields number said)
    numbered_ok expected None said is = tt
    numbered_ok expected (Some number) said is =
        cond_both (digits_value 10 number == expected) (in_sequence fields number said)
        (arrival.OutOfSequence (reject_of fields number out_of_sequence)) (ArrivalOk bytes)
        (λ right. sequence_ok number said is) (λ wrong. tt)

  pub arrival_ok : (expected : ℕ) (bytes : List ℕ)
      → ArrivalOk bytes (investor_arrival date row expected bytes)
  unfolding investor_arrival
  arrival_ok expected bytes = by_frame (frame_of bytes) refl
    where
      by_frame : (frame : Option (List Field)) → frame_of bytes ≡ frame
          → ArrivalOk bytes (framed (investor_session_verdict date row) expected frame)
      by_frame None is = tt
      by_frame (Some fields) is =
          numbered_ok bytes fields is expected (sequence_number fields)
          (investor_session_verdict date row fields) (said_ok fields)
