-- What the session takes of a firm's message, and what it rejects: its texts and moments may be
-- said.
use Rattle.std.proofs.Common.{◌≡◌, ℕ, ◌<◌, ◌==◌, Bool, true, false, List, [], Option, Some, None}
use Rattle.std.proofs.Common.{Result, Ok, Err, refl, codes, if◌then◌else◌, arith, inl, inr}
use Rattle.std.specs.Prelude.{option_and_then, unwrap_or}
use Rattle.std.specs.Result.{result_ok}
use Rattle.std.specs.Str.Parse.{digits_value}
use Rattle.std.proofs.lemmas.Bool.{cases_Bool, cond_both}
use Rattle.fix_fields.specs.Frame.{Field, frame_of, times_of, value_of}
use Rattle.fix_fields.specs.UtcTimestamp.{moment_of}
use Rattle.fix_fields.specs.declared.fault.MomentFault.{MomentFault}
use Rattle.fix_fields.specs.declared.limits.TheConstants.{A_DAY}
use Rattle.fix_fields.proofs.MomentLemmas.{is_own}
use Rattle.market_terms.specs.Texts.{is_id}
use Rattle.quote_messages.specs.Arrivals.{framed, in_sequence, numbered, out_of_sequence, reject_of}
use Rattle.quote_messages.specs.Arrivals.{dealer_arrival, investor_arrival, sequence_number}
use Rattle.quote_messages.specs.SessionChecks.{cancel_lines, cancel_of, cancel_scope}
use Rattle.quote_messages.specs.SessionChecks.{dealer_session_verdict, dealer_tables, decline_lines}
use Rattle.quote_messages.specs.SessionChecks.{decline_of, hit_of, investor_session_verdict}
use Rattle.quote_messages.specs.SessionChecks.{investor_tables, pass_of, quote_lines, quote_of}
use Rattle.quote_messages.specs.SessionChecks.{request_lines, request_of, response_lines}
use Rattle.quote_messages.specs.SessionChecks.{response_of, verdict_by}
use Rattle.quote_messages.specs.SessionLines.{first_fault, has_number, number_at, occurrence_of}
use Rattle.quote_messages.specs.SessionLines.{required, required_where, tag_fault}
use Rattle.quote_messages.specs.SessionLines.{text_at}
use Rattle.quote_messages.specs.SessionLines.{unless_fault}
use Rattle.quote_messages.specs.Texts.{is_msg_type, is_sequence_number}
use Rattle.quote_messages.specs.ValueForms.{AnId}
use Rattle.quote_messages.specs.declared.arrivals.Arrival.{Arrival}
use Rattle.quote_messages.specs.declared.arrivals.Arrival.TheVariants as arrival
use Rattle.quote_messages.specs.declared.quotes.CancelScope.{CancelScope}
use Rattle.quote_messages.specs.declared.quotes.CancelScope.TheVariants as cancels
use Rattle.quote_messages.specs.declared.quotes.DealerMessage.{DealerMessage}
use Rattle.quote_messages.specs.declared.quotes.DealerMessage.TheVariants as dealer
use Rattle.quote_messages.specs.declared.requests.InvestorMessage.{InvestorMessage}
use Rattle.quote_messages.specs.declared.requests.InvestorMessage.TheVariants as investor
use Rattle.quote_messages.specs.declared.session_faults.SessionFault.{SessionFault}
use Rattle.quote_messages.specs.declared.session_faults.SessionRejectReason.TheVariants.{InvalidMsgType}
use Rattle.venue_rows.specs.Texts.{same_text, text_if}
use Rattle.venue_rows.specs.declared.dealer_rows.DealerRow.{DealerRow}
use Rattle.venue_rows.specs.declared.investor_rows.InvestorRow.{InvestorRow}
use Rattle.laws_shown.proofs.ReadFields.{Stood, lines_kept, optional_kept, required_kept}
use Rattle.laws_wire.proofs.FieldValues.{IsGiven, MayBeGiven, id_given, sequence_given, type_given}
use Rattle.laws_wire.proofs.MessageFields.{IfMoment, RejectGiven}

-- Texts at a tag.

pub text_given : (found : Option (List ℕ)) → MayBeGiven found → IsGiven (unwrap_or found [])
text_given None given = refl
text_given (Some text) given = given

stood_given : (date : List ℕ) (b : Bool) (value : Option (List ℕ)) → Stood date b AnId value
    → MayBeGiven value
stood_given date b None stood = tt
stood_given date b (Some text) stood = elim (cases_Bool (is_id text)) [
  | inl is ↦ id_given text is
  | inr isnt ↦ cc (rw isnt at stood)
]

module _ (date : List ℕ) (fields : List Field) (tag : ℕ) where
  id_at : required tag AnId date fields ≡ None → MayBeGiven (value_of tag fields)
  id_at kept = stood_given date true (value_of tag fields) (required_kept date fields tag AnId kept)

  id_where : (test : List Field → Bool) → required_where test tag AnId date fields ≡ None
      → MayBeGiven (value_of tag fields)
  id_where test kept = by_test (test fields) kept
    where
      by_test : (b : Bool) → tag_fault date (record { tag = tag; is_required = b; value = AnId })
          (occurrence_of tag fields) ≡ None → MayBeGiven (value_of tag fields)
      by_test true is = id_at is
      by_test false is =
          stood_given date false (value_of tag fields) (optional_kept date fields tag AnId is)

-- What a Reject repeats.

tested_given : (test : List ℕ → Bool) → ((text : List ℕ) → test text ≡ true → IsGiven text)
    → (text : List ℕ) → MayBeGiven (text_if test text)
tested_given test given text =
    cond_both (test text) (Some text) None MayBeGiven (λ is. given text is) (λ isnt. tt)

number_given : (fields : List Field) → MayBeGiven (sequence_number fields)
number_given fields =
    cond_both (times_of 34 fields == 1) (text_if is_sequence_number (text_at 34 fields)) None
    MayBeGiven
    (λ once. tested_given is_sequence_number sequence_given (text_at 34 fields)) (λ other. tt)

kind_given : (found : Option (List ℕ)) → MayBeGiven (option_and_then (text_if is_msg_type) found)
kind_given None = tt
kind_given (Some text) = tested_given is_msg_type type_given text

-- What comes, of either role.

abbrev pub ArrivalGiven : {Message : Type 0} → (Message → Type 0) → Arrival Message → Type 0
ArrivalGiven P arrival.Dropped = Unit {0}
ArrivalGiven P (arrival.OutOfSequence reject) = RejectGiven reject
ArrivalGiven P (arrival.Rejected reject) = RejectGiven reject
ArrivalGiven P (arrival.Taken message) = P message

abbrev ResultGiven : {Message : Type 0} → (Message → Type 0) → Result Message SessionFault → Type 0
ResultGiven P (Ok message) = P message
ResultGiven P (Err fault) = Unit {0}

module _ {Message : Type 0} (P : Message → Type 0) where
  unless_given : (fault : Option SessionFault) (said : Result Message SessionFault)
      → (fault ≡ None → ResultGiven P said) → ResultGiven P (unless_fault fault said)
  unless_given None said is = is refl
  unless_given (Some fault) said is = tt

  sequence_said : (fields : List Field) (number : List ℕ) (said : Result Message SessionFault)
      → IsGiven number → ResultGiven P said → ArrivalGiven P (in_sequence fields number said)
  sequence_said fields number (Ok message) given is = is
  sequence_said fields number (Err fault) given is = (given, kind_given (value_of 35 fields))

  numbered_said : (fields : List Field) (expected : ℕ) (number : Option (List ℕ))
      (said : Result Message SessionFault) → MayBeGiven number → ResultGiven P said
      → ArrivalGiven P (numbered expected fields number said)
  numbered_said fields expected None said given is = tt
  numbered_said fields expected (Some number) said given is =
      cond_both (digits_value 10 number == expected) (in_sequence fields number said)
      (arrival.OutOfSequence (reject_of fields number out_of_sequence)) (ArrivalGiven P)
      (λ right. sequence_said fields number said given is)
      (λ wrong. (given, kind_given (value_of 35 fields)))

  framed_said : (verdict : List Field → Result Message SessionFault)
      → ((fields : List Field) → ResultGiven P (verdict fields)) → (expected : ℕ)
      → (frame : Option (List Field)) → ArrivalGiven P (framed verdict expected frame)
  framed_said verdict each expected None = tt
  framed_said verdict each expected (Some fields) =
      numbered_said fields expected (sequence_number fields) (verdict fields) (number_given fields)
      (each fields)

-- what the session takes of a dealer

abbrev pub ScopeGiven : CancelScope → Type 0
ScopeGiven (cancels.One id) = IsGiven id
ScopeGiven (cancels.All id) = MayBeGiven id
ScopeGiven (cancels.Other cancel_type id) = MayBeGiven id

abbrev pub DealerSaid : (ℕ → Type 0) → DealerMessage → Type 0
DealerSaid D (dealer.Quote quote) =
    IsGiven quote.id × IsGiven quote.request × IfMoment D quote.valid_until
DealerSaid D (dealer.Cancel cancel) = ScopeGiven cancel.scope
DealerSaid D (dealer.Decline decline) = IsGiven decline.request

-- and of an investor
abbrev pub InvestorSaid : (ℕ → Type 0) → InvestorMessage → Type 0
InvestorSaid D (investor.Request request) =
    IsGiven request.id × IsGiven request.bond × D request.deadline
InvestorSaid D (investor.Hit hit) = IsGiven hit.id × IsGiven hit.quote
InvestorSaid D (investor.Pass pass) = IsGiven pass.id × IsGiven pass.request

module _ (D : ℕ → Type 0) (of_day : (n : ℕ) → n < A_DAY → D n) where
  -- Moments.

  read_day : (date text : List ℕ) (read : Result ℕ MomentFault) → moment_of date text ≡ read
      → D (unwrap_or (result_ok read) 0)
  read_day date text (Ok moment) is = of_day moment (is_own date moment text is).moment
  read_day date text (Err fault) is = of_day 0 (omega arith)

  read_until : (date : List ℕ) (value : Option (List ℕ))
      → IfMoment D (option_and_then (λ (text : List ℕ). result_ok (moment_of date text)) value)
  read_until date None = tt
  read_until date (Some text) = by_read (moment_of date text) refl
    where
      by_read : (read : Result ℕ MomentFault) → moment_of date text ≡ read
          → IfMoment D (result_ok read)
      by_read (Ok moment) is = of_day moment (is_own date moment text is).moment
      by_read (Err fault) is = tt

  -- Of a dealer.

  scope_given : (cancel_type : ℕ) (id : Option (List ℕ)) → MayBeGiven id
      → ScopeGiven (cancel_scope cancel_type id)
  scope_given cancel_type id given =
      cond_both (cancel_type == 5) (cancels.One (unwrap_or id []))
      (if cancel_type == 4 then cancels.All id else cancels.Other cancel_type id) ScopeGiven
      (λ one. text_given id given)
      (λ more. cond_both (cancel_type == 4) (cancels.All id) (cancels.Other cancel_type id)
      ScopeGiven
      (λ all. given) (λ other. given))

  quote_said : (date : List ℕ) (fields : List Field) → first_fault quote_lines date fields ≡ None
      → DealerSaid D (dealer.Quote (quote_of date fields))
  quote_said date fields kept =
      let lines = lines_kept date fields quote_lines kept in (
        text_given (value_of 117 fields) (id_at date fields 117 lines.0),
        text_given (value_of 131 fields) (id_at date fields 131 lines.1.0),
        read_until date (value_of 62 fields),
      )

  cancel_said : (date : List ℕ) (fields : List Field) → first_fault cancel_lines date fields ≡ None
      → DealerSaid D (dealer.Cancel (cancel_of date fields))
  cancel_said date fields kept =
      let lines = lines_kept date fields cancel_lines kept in
      scope_given (unwrap_or (number_at 298 fields) 0) (value_of 117 fields)
      (id_where date fields 117 (has_number 298 5) lines.1.0)

  decline_said : (date : List ℕ) (fields : List Field)
      → first_fault decline_lines date fields ≡ None
      → DealerSaid D (dealer.Decline (decline_of date fields))
  decline_said date fields kept =
      let lines = lines_kept date fields decline_lines kept in
      text_given (value_of 131 fields) (id_at date fields 131 lines.0)

  dealer_said : (date : List ℕ) (row : DealerRow) (fields : List Field)
      → ResultGiven (DealerSaid D) (dealer_session_verdict date row fields)
  unfolding dealer_session_verdict
  dealer_said date row fields =
      unless_given (DealerSaid D) _ (verdict_by dealer_tables date fields) (λ header.
      by_kind (same_text (codes "S") (text_at 35 fields))
      (same_text (codes "Z") (text_at 35 fields))
      (same_text (codes "AG") (text_at 35 fields))
      (record { tag = 35; reason = InvalidMsgType }))
    where
      by_kind : (quotes cancels declines : Bool) (none : SessionFault) → ResultGiven (DealerSaid D)
          (if quotes
          then unless_fault (first_fault quote_lines date fields)
          (Ok (dealer.Quote (quote_of date fields)))
          else if cancels
          then unless_fault (first_fault cancel_lines date fields)
          (Ok (dealer.Cancel (cancel_of date fields)))
          else if declines
          then unless_fault (first_fault decline_lines date fields)
          (Ok (dealer.Decline (decline_of date fields)))
          else Err none)
      by_kind true z ag none =
          unless_given (DealerSaid D) (first_fault quote_lines date fields)
          (Ok (dealer.Quote (quote_of date fields))) (quote_said date fields)
      by_kind false true ag none =
          unless_given (DealerSaid D) (first_fault cancel_lines date fields)
          (Ok (dealer.Cancel (cancel_of date fields))) (cancel_said date fields)
      by_kind false false true none =
          unless_given (DealerSaid D) (first_fault decline_lines date fields)
          (Ok (dealer.Decline (decline_of date fields))) (decline_said date fields)
      by_kind false false false none = tt

  pub dealer_came : (date : List ℕ) (row : DealerRow) (expected : ℕ) (bytes : List ℕ)
      → ArrivalGiven (DealerSaid D) (dealer_arrival date row expected bytes)
  unfolding dealer_arrival
  dealer_came date row expected bytes =
      framed_said (DealerSaid D) (dealer_session_verdict date row) (dealer_said date row) expected
      (frame_of bytes)

  -- Of an investor.

  request_said : (date : List ℕ) (fields : List Field)
      → first_fault request_lines date fields ≡ None
      → InvestorSaid D (investor.Request (request_of date fields))
  request_said date fields kept =
      let lines = lines_kept date fields request_lines kept in (
        text_given (value_of 131 fields) (id_at date fields 131 lines.0),
        text_given (value_of 48 fields) (id_at date fields 48 lines.1.1.0),
        read_day date (text_at 126 fields) (moment_of date (text_at 126 fields)) refl,
      )

  response_said : (date : List ℕ) (fields : List Field)
      → first_fault response_lines date fields ≡ None
      → InvestorSaid D (response_of date fields)
  response_said date fields kept =
      let lines = lines_kept date fields response_lines kept in
      let id = text_given (value_of 693 fields) (id_at date fields 693 lines.0) in
      cond_both (has_number 694 1 fields) (investor.Hit (hit_of fields))
      (investor.Pass (pass_of fields))
      (InvestorSaid D)
      (λ hits. (
        id,
        text_given (value_of 117 fields)
            (id_where date fields 117 (has_number 694 1) lines.1.1.0),
      ))
      (λ passes. (
        id,
        text_given (value_of 131 fields) (id_where date fields 131 (has_number 694 6)
            lines.1.1.1.0),
      ))

  investor_said : (date : List ℕ) (row : InvestorRow) (fields : List Field)
      → ResultGiven (InvestorSaid D) (investor_session_verdict date row fields)
  unfolding investor_session_verdict
  investor_said date row fields =
      unless_given (InvestorSaid D) _ (verdict_by investor_tables date fields) (λ header.
      by_kind (same_text (codes "R") (text_at 35 fields))
      (same_text (codes "AJ") (text_at 35 fields))
      (record { tag = 35; reason = InvalidMsgType }))
    where
      by_kind : (requests responds : Bool) (none : SessionFault) → ResultGiven (InvestorSaid D)
          (if requests
          then unless_fault (first_fault request_lines date fields)
          (Ok (investor.Request (request_of date fields)))
          else if responds
          then unless_fault (first_fault response_lines date fields) (Ok (response_of date fields))
          else Err none)
      by_kind true responds none =
          unless_given (InvestorSaid D) (first_fault request_lines date fields)
          (Ok (investor.Request (request_of date fields))) (request_said date fields)
      by_kind false true none =
          unless_given (InvestorSaid D) (first_fault response_lines date fields)
          (Ok (response_of date fields))
          (response_said date fields)
      by_kind false false none = tt

  pub investor_came : (date : List ℕ) (row : InvestorRow) (expected : ℕ) (bytes : List ℕ)
      → ArrivalGiven (InvestorSaid D) (investor_arrival date row expected bytes)
  unfolding investor_arrival
  investor_came date row expected bytes =
      framed_said (InvestorSaid D) (investor_session_verdict date row)
      (investor_said date row) expected (frame_of bytes)
