-- What the session reads of a dealer's message where it takes it as a quote.
use Rattle.std.proofs.Common.{◌≡◌, ℕ, ◌==◌, Bool, true, false, List, Option, Some, None, Result, Ok}
use Rattle.std.proofs.Common.{Err, refl, codes, if◌then◌else◌}
use Rattle.std.proofs.lemmas.Bool.{cond_both}
use Rattle.std.specs.Str.Parse.{digits_value}
use Rattle.fix_fields.specs.Frame.{Field, frame_of}
use Rattle.venue_rows.specs.Texts.{same_text}
use Rattle.venue_rows.specs.declared.dealer_rows.DealerRow.{DealerRow}
use Rattle.quote_messages.specs.Arrivals.{framed, in_sequence, numbered, out_of_sequence, reject_of}
use Rattle.quote_messages.specs.Arrivals.{sequence_number}
use Rattle.quote_messages.specs.Arrivals.{dealer_arrival}
use Rattle.quote_messages.specs.SessionChecks.{dealer_tables, header_lines, quote_lines, quote_of}
use Rattle.quote_messages.specs.SessionChecks.{cancel_lines, cancel_of, decline_lines, decline_of, types_of}
use Rattle.quote_messages.specs.SessionChecks.{verdict_by}
use Rattle.quote_messages.specs.SessionChecks.{dealer_session_verdict}
use Rattle.quote_messages.specs.SessionLines.{first_fault, text_at, unless_fault}
use Rattle.quote_messages.specs.declared.arrivals.Arrival.{Arrival}
use Rattle.quote_messages.specs.declared.arrivals.Arrival.TheVariants as arrival
use Rattle.quote_messages.specs.declared.quotes.DealerMessage.{DealerMessage}
use Rattle.quote_messages.specs.declared.quotes.DealerMessage.TheVariants as message
use Rattle.quote_messages.specs.declared.quotes.Quote.{Quote}
use Rattle.quote_messages.specs.declared.session_faults.SessionFault.{SessionFault}
use Rattle.quote_messages.specs.declared.session_faults.SessionRejectReason.TheVariants.{InvalidMsgType}

module _ (date : List ℕ) (row : DealerRow) where
  -- the fields of a message that is read as a quote
  pub record ReadAs (fields : List Field) (quote : Quote) : Type 0 where
    pub header : first_fault (header_lines row.name row.traders (types_of dealer_tables)) date
        fields ≡ None
    pub type_is : same_text (codes "S") (text_at 35 fields) ≡ true
    pub lines : first_fault quote_lines date fields ≡ None
    pub quote_is : quote ≡ quote_of date fields

  abbrev ReadOk : List Field → Result DealerMessage SessionFault → Type 0
  ReadOk fields (Ok (message.Quote quote)) = ReadAs fields quote
  ReadOk fields other = Unit {0}

  unless_ok : (fields : List Field) (fault : Option SessionFault)
      (said : Result DealerMessage SessionFault) → (fault ≡ None → ReadOk fields said)
      → ReadOk fields (unless_fault fault said)
  unless_ok fields None said is = is refl
  unless_ok fields (Some fault) said is = tt

  read_as : (fields : List Field)
      → first_fault (header_lines row.name row.traders (types_of dealer_tables)) date fields ≡ None
      → same_text (codes "S") (text_at 35 fields) ≡ true → first_fault quote_lines date fields ≡ None
      → ReadOk fields (Ok (message.Quote (quote_of date fields)))
  read_as fields header is lines =
      record { header = header; type_is = is; lines = lines; quote_is = refl }

  -- by the type of the message, where its table is kept
  kinds_ok : (fields : List Field) (quotes cancels declines : Bool)
      (quote cancel decline : Option SessionFault) (none : SessionFault)
      → (quotes ≡ true → quote ≡ None → ReadOk fields (Ok (message.Quote (quote_of date fields))))
      → ReadOk fields (if quotes then unless_fault quote (Ok (message.Quote (quote_of date fields)))
      else if cancels then unless_fault cancel (Ok (message.Cancel (cancel_of date fields)))
      else if declines then unless_fault decline (Ok (message.Decline (decline_of date fields)))
      else Err none)
  kinds_ok fields true z ag None cancel decline none is = is refl refl
  kinds_ok fields true z ag (Some fault) cancel decline none is = tt
  kinds_ok fields false true ag quote None decline none is = tt
  kinds_ok fields false true ag quote (Some fault) decline none is = tt
  kinds_ok fields false false true quote cancel None none is = tt
  kinds_ok fields false false true quote cancel (Some fault) none is = tt
  kinds_ok fields false false false quote cancel decline none is = tt

  said_ok : (fields : List Field) → ReadOk fields (dealer_session_verdict date row fields)
  unfolding dealer_session_verdict
  said_ok fields =
      unless_ok fields (first_fault (header_lines row.name row.traders (types_of dealer_tables)) date
      fields) (verdict_by dealer_tables date fields) (λ header.
      kinds_ok fields (same_text (codes "S") (text_at 35 fields))
      (same_text (codes "Z") (text_at 35 fields)) (same_text (codes "AG") (text_at 35 fields))
      (first_fault quote_lines date fields) (first_fault cancel_lines date fields)
      (first_fault decline_lines date fields) (record { tag = 35; reason = InvalidMsgType })
      (λ is lines. read_as fields header is lines))

  -- What came.

  -- bytes that are read as a quote
  pub record ReadFrom (bytes : List ℕ) (quote : Quote) : Type 0 where
    pub fields : List Field
    pub frame : frame_of bytes ≡ Some fields
    pub read : ReadAs fields quote

  abbrev pub ArrivalOk : List ℕ → Arrival DealerMessage → Type 0
  ArrivalOk bytes (arrival.Taken (message.Quote quote)) = ReadFrom bytes quote
  ArrivalOk bytes other = Unit {0}

  module _ (bytes : List ℕ) (fields : List Field) (frame : frame_of bytes ≡ Some fields) where
    sequence_ok : (number : List ℕ) (said : Result DealerMessage SessionFault)
        → ReadOk fields said → ArrivalOk bytes (in_sequence fields number said)
    sequence_ok number (Ok (message.Quote quote)) is =
        record { fields = fields; frame = frame; read = is }
    sequence_ok number (Ok other) is = tt
    sequence_ok number (Err fault) is = tt

    numbered_ok : (expected : ℕ) (number : Option (List ℕ))
        (said : Result DealerMessage SessionFault) → ReadOk fields said
        → ArrivalOk bytes (numbered expected fields number said)
    numbered_ok expected None said is = tt
    numbered_ok expected (Some number) said is =
        cond_both (digits_value 10 number == expected) (in_sequence fields number said)
        (arrival.OutOfSequence (reject_of fields number out_of_sequence)) (ArrivalOk bytes)
        (λ right. sequence_ok number said is) (λ wrong. tt)

  pub arrival_ok : (expected : ℕ) (bytes : List ℕ)
      → ArrivalOk bytes (dealer_arrival date row expected bytes)
  unfolding dealer_arrival
  arrival_ok expected bytes = by_frame (frame_of bytes) refl
    where
      by_frame : (frame : Option (List Field)) → frame_of bytes ≡ frame
          → ArrivalOk bytes (framed (dealer_session_verdict date row) expected frame)
      by_frame None is = tt
      by_frame (Some fields) is =
          numbered_ok bytes fields is expected (sequence_number fields)
          (dealer_session_verdict date row fields) (said_ok fields)
