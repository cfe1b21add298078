-- What a session takes is counted at its desk.
use Rattle.std.proofs.Common.{◌≡◌, ◌≤◌, ◌<◌, ◌+◌, ◌^◌, ◌==◌, ◌&&◌, ℕ, Bool, true, false, cond, nat_le}
use Rattle.std.proofs.Common.{List, [], ◌∷◌, length, Option, Some, None, is_none, Result, Ok, Err}
use Rattle.std.proofs.Common.{refl, sym, ◌∙◌, ap, ap₂, arith, rules, inl, inr}
use Rattle.std.specs.Prelude.{decimal}
use Rattle.std.specs.Char.{is_ascii_digit}
use Rattle.std.specs.List.{list_all}
use Rattle.std.specs.Option.{option_map}
use Rattle.std.specs.Str.Parse.{digits_value}
use Rattle.std.proofs.lemmas.Bool.{cases_Bool, eqb-true, eq-eqb, false≢true}
use Rattle.std.proofs.lemmas.Bool.Decides.{nat_tests}
use Rattle.std.proofs.lemmas.Fmt.{decimal_nonempty, digits_decimal, digits_value-decimal, length-decimal-le}
use Rattle.std.proofs.lemmas.List.Sums.{sum_by-cons}
use Rattle.std.proofs.lemmas.Str.Parse.{IsNumeralModel, numerals_by_value}
use Rattle.fix_fields.specs.Frame.{Field, fields_of, frame_of, times_of, value_of}
use Rattle.fix_fields.proofs.FieldsText.{text_of_fields}
use Rattle.fix_sessions.specs.Cuts.{body_of}
use Rattle.fix_sessions.specs.Flaws.{flaw_of, form_flaw}
use Rattle.fix_sessions.specs.Fields.{fields_in}
use Rattle.fix_sessions.specs.Heard.{from_one, number_once}
use Rattle.fix_sessions.specs.Texts as session_texts
use Rattle.std.specs.Prelude.{option_and_then}
use Rattle.quote_messages.specs.Arrivals.{dealer_arrival, framed, investor_arrival, sequence_number}
use Rattle.quote_messages.specs.Arrivals as arrivals
use Rattle.quote_messages.specs.SessionChecks.{dealer_session_verdict, investor_session_verdict}
use Rattle.quote_messages.specs.Texts.{is_sequence_number}
use Rattle.quote_messages.specs.declared.arrivals.Arrival.{Arrival}
use Rattle.quote_messages.specs.declared.quotes.CancelScope.{CancelScope}
use Rattle.quote_messages.specs.declared.quotes.CancelScope.TheVariants as cancels
use Rattle.quote_messages.specs.declared.quotes.DealerMessage.{DealerMessage}
use Rattle.quote_messages.specs.declared.quotes.DealerMessage.TheVariants as dealer_says
use Rattle.quote_messages.specs.declared.quotes.Quote.{Quote}
use Rattle.quote_messages.specs.declared.requests.InvestorMessage.{InvestorMessage}
use Rattle.quote_messages.specs.declared.requests.QuoteHit.{QuoteHit}
use Rattle.quote_messages.specs.declared.requests.QuoteRequest.{QuoteRequest}
use Rattle.quote_messages.specs.declared.requests.RequestPass.{RequestPass}
use Rattle.quote_messages.specs.declared.requests.InvestorMessage.TheVariants as investor_says
use Rattle.quote_messages.specs.declared.session_faults.SessionFault.{SessionFault}
use Rattle.market_terms.specs.Checks.{first_refusal}
use Rattle.venue_rows.specs.declared.bond_rows.BondRow.{BondRow}
use Rattle.venue_rows.specs.declared.dealer_rows.DealerRow.{DealerRow}
use Rattle.dealer_desk.specs.DealerFacts as at_dealer
use Rattle.dealer_desk.specs.DealerOutput as dealer_output
use Rattle.dealer_desk.specs.DealerRules as dealer_rules
use Rattle.dealer_desk.specs.DealerRules.{dealer_verdict}
use Rattle.dealer_desk.specs.declared.refusals.CancelRefusal.{CancelRefusal}
use Rattle.dealer_desk.specs.declared.refusals.DeclineRefusal.{DeclineRefusal}
use Rattle.dealer_desk.specs.declared.refusals.QuoteRefusal.{QuoteRefusal}
use Rattle.dealer_desk.specs.declared.standing.StandingQuote.{StandingQuote}
use Rattle.dealer_desk.specs.declared.standing.StandingRequest.{StandingRequest}
use Rattle.investor_desk.specs.InvestorFacts as at_investor
use Rattle.investor_desk.specs.InvestorOutput as investor_output
use Rattle.investor_desk.specs.InvestorRules as investor_rules
use Rattle.investor_desk.specs.InvestorRules.{InvestorMarket, investor_verdict}
use Rattle.investor_desk.specs.declared.refusals.RequestRefusal.{RequestRefusal}
use Rattle.investor_desk.specs.declared.standing.ShownOffer.{ShownOffer}
use Rattle.wire_messages.specs.ToVenue.{IsGiven, given_field, is_left_out, to_venue}
use Rattle.wire_messages.specs.ToVenue as wire
use Rattle.wire_messages.proofs.RestLemmas.{number_same}
use Rattle.laws_wire.specs.Sound.{IsSound}
use Rattle.laws_wire.proofs.Bodies.{IsBody, body_of_none}
use Rattle.laws_wire.proofs.Choices.{neither_told}
use Rattle.laws_wire.proofs.Fronts.{parts_of}

-- MsgSeqNum (34) stands as often in what the venue is given as in what came.

out_of_34 : (tag : ℕ) → is_left_out tag ≡ true → (tag == 34) ≡ false
out_of_34 tag out = elim (cases_Bool (tag == 34)) [
  | inl is ↦ absurd (false≢true (ap is_left_out (sym (eqb-true tag 34 is)) ∙ out))
  | inr isnt ↦ isnt
]

abbrev one_if : Bool → ℕ
one_if b = cond b 1 0

times_cons : (field : Field) (rest : List Field)
    → times_of 34 (field ∷ rest) ≡ one_if (field.0 == 34) + times_of 34 rest
times_cons field rest = sum_by-cons (λ (f : Field). cond (f.0 == 34) 1 0) field rest

given_tag : (number : ℕ) (field : Field) → ((given_field number field).0 == 34) ≡ (field.0 == 34)
given_tag number field = elim (cases_Bool (field.0 == 34)) [
  | inl is ↦ rw is refl
  | inr isnt ↦ elim (cases_Bool (field.0 == 52)) [
    | inl time ↦ rw (isnt, time) refl
    | inr other ↦ rw (isnt, other) isnt
  ]
]

times_given : (number : ℕ) (fields : List Field) → times_of 34 (to_venue number fields) ≡ times_of 34 fields
times_given number [] = refl
times_given number (field ∷ fields) =
    let rest = times_given number fields in
    elim (cases_Bool (is_left_out field.0)) [
      | inl out ↦
          (let none : one_if (field.0 == 34) ≡ 0 = ap one_if (out_of_34 field.0 out) in
          let times = times_cons field fields in
          let left : to_venue number (field ∷ fields) ≡ to_venue number fields = rw out refl in
          ap (times_of 34) left ∙ omega (arith, rest, none, times))
      | inr stays ↦
          (let left : to_venue number (field ∷ fields) ≡ given_field number field ∷ to_venue number fields = rw stays refl in
          ap (times_of 34) left ∙ times_cons (given_field number field) (to_venue number fields)
          ∙ ap₂ (λ (b : Bool) (n : ℕ). one_if b + n) (given_tag number field) rest
          ∙ sym (times_cons field fields))
    ]

-- What the session has read.

some_number : (found : Option ℕ) (number : ℕ) → from_one found ≡ Some number → found ≡ Some number
some_number None number is = cc
some_number (Some n) number is = elim (cases_Bool (n == 0)) [
  | inl none ↦ cc (rw none at is)
  | inr some ↦ rw some at is
]

-- a number that stands once
record StandsOnce (fields : List Field) : Type 0 where
  pub once : times_of 34 fields ≡ 1
  pub value : List ℕ
  pub is : value_of 34 fields ≡ Some value

stands_once : (fields : List Field) (number : ℕ) → number_once fields ≡ Some number → StandsOnce fields
stands_once fields number is = elim (cases_Bool (times_of 34 fields == 1)) [
  | inl one ↦
      (let read = some_number (option_and_then session_texts.number_of (value_of 34 fields)) number (rw one at is) in
      by_value (value_of 34 fields) refl read (eqb-true (times_of 34 fields) 1 one))
  | inr other ↦ cc (rw other at is)
] where
  by_value : (found : Option (List ℕ)) → value_of 34 fields ≡ found
      → option_and_then session_texts.number_of found ≡ Some number → times_of 34 fields ≡ 1 → StandsOnce fields
  by_value None found_is read one = cc
  by_value (Some value) found_is read one = record { once = one; value = value; is = found_is }

-- both read the same fields
same_fields : (bytes : List ℕ) (number : ℕ) → IsSound bytes number
    → wire.fields_in bytes ≡ fields_in (body_of bytes)
unfolding flaw_of
same_fields bytes number sound =
    let none = neither_told (form_flaw (body_of bytes)) _ sound.flawless in
    let body : IsBody (body_of bytes) = body_of_none (body_of bytes) none.0 in
    let parts = parts_of bytes sound.whole sound.version in
    ap fields_of parts.body
    ∙ text_of_fields (body_of bytes) body.read.fields body.read.lawful body.read.is
    ∙ sym body.read.same

-- A number in decimal is a MsgSeqNum.

by_test : IsNumeralModel (λ (ds : List ℕ). list_all is_ascii_digit ds ≡ true) (digits_value 10)
by_test = numerals_by_value (λ (ds : List ℕ). list_all is_ascii_digit ds ≡ true) (search rules)

is_numeral : (n : ℕ) → 1 ≤ n → n ≤ 999999999 → is_sequence_number (decimal n) ≡ true
is_numeral n some most =
    let small : n < 2 ^ 64 = omega arith in
    let any = decimal_nonempty n small in
    let short : length (decimal n) ≤ 9 = length-decimal-le 9 n (omega arith) (omega arith) small in
    let value : digits_value 10 (decimal n) ≡ n = digits_value-decimal by_test n small in
    let least : nat_le 1 (length (decimal n)) ≡ true = grind (arith, nat_tests) in
    let few : nat_le (length (decimal n)) 9 ≡ true = grind (arith, nat_tests) in
    let one : nat_le 1 (digits_value 10 (decimal n)) ≡ true = (let v = value in grind (arith, nat_tests)) in
    ap₂ (λ (a b : Bool). a && b)
    (ap₂ (λ (a b : Bool). a && b) (ap₂ (λ (a b : Bool). a && b) least few) (digits_decimal by_test n small)) one

-- What the venue is given stands in its turn.

module _ (bytes given : List ℕ) (own : ℕ) (sound : IsSound bytes own) (expected : ℕ) (some : 1 ≤ expected)
    (most : expected ≤ 999999999) (is : IsGiven given bytes expected) where
  abbrev made : List Field
  made = to_venue expected (wire.fields_in bytes)

  stands : StandsOnce (wire.fields_in bytes)
  stands =
      stands_once (wire.fields_in bytes) own
      (ap number_once (same_fields bytes own sound) ∙ sound.numbered)

  one : (times_of 34 made == 1) ≡ true
  one = eq-eqb (times_of 34 made) 1 (times_given expected (wire.fields_in bytes) ∙ stands.once)

  value : value_of 34 made ≡ Some (decimal expected)
  value =
      number_same expected (wire.fields_in bytes)
      ∙ ap (λ (v : Option (List ℕ)). option_map (λ _. decimal expected) v) stands.is

  read : sequence_number made ≡ Some (decimal expected)
  read = rw (one, value, is_numeral expected some most) refl

  in_turn : (digits_value 10 (decimal expected) == expected) ≡ true
  in_turn = eq-eqb (digits_value 10 (decimal expected)) expected (digits_value-decimal by_test expected (omega arith))

  arrives : {Message : Type 0} (verdict : List Field → Result Message SessionFault)
      → framed verdict expected (frame_of given) ≡ arrivals.in_sequence made (decimal expected) (verdict made)
  arrives verdict = rw (is.frame, read, in_turn) refl

-- A message in its turn uses up its number, whatever the market says of it.

quoted_counts : (book : at_dealer.DealerBook) (moment : ℕ) (quote : Quote)
    (request : Option StandingRequest) (refused : Option QuoteRefusal)
    → dealer_output.uses_number (dealer_rules.quote_answer book moment quote request refused) ≡ true
quoted_counts book moment quote request (Some refusal) = refl
quoted_counts book moment quote None None = refl
quoted_counts book moment quote (Some request) None = refl

answer_counts : (id : List ℕ) (own : StandingQuote) (refused : Option CancelRefusal)
    → dealer_output.uses_number (dealer_rules.cancel_answer id own refused) ≡ true
answer_counts id own (Some refusal) = refl
answer_counts id own None = refl

cancel_counts : (id : List ℕ) (found : Option StandingQuote)
    → dealer_output.uses_number (dealer_rules.cancel_of id found) ≡ true
cancel_counts id None = refl
cancel_counts id (Some own) = answer_counts id own (first_refusal (dealer_rules.cancel_checks own))

all_counts : (book : at_dealer.DealerBook) (id : Option (List ℕ)) (none : Bool)
    → is_none (at_dealer.quote_to_drop book (at_dealer.quotes_accepted book)) ≡ none
    → dealer_output.uses_number (dealer_rules.cancel_all book id) ≡ true
all_counts book id true is = rw is refl
all_counts book id false is = rw is refl

declined_counts : (name : List ℕ) (request : Option StandingRequest) (refused : Option DeclineRefusal)
    → dealer_output.uses_number (dealer_rules.decline_answer name request refused) ≡ true
declined_counts name request (Some refusal) = refl
declined_counts name None None = refl
declined_counts name (Some request) None = refl

message_counts : (row : DealerRow) (book : at_dealer.DealerBook) (moment : ℕ) (message : DealerMessage)
    → dealer_output.uses_number (dealer_rules.message_verdict row book moment message) ≡ true
unfolding dealer_rules.quote_verdict dealer_rules.cancel_verdict dealer_rules.decline_verdict
message_counts row book moment (dealer_says.Quote quote) =
    let request = at_dealer.request_named book quote.request in
    quoted_counts book moment quote request (dealer_rules.quote_refusal row book moment quote request)
message_counts row book moment (dealer_says.Cancel cancel) = by_scope cancel.scope where
  by_scope : (scope : CancelScope)
      → dealer_output.uses_number (dealer_rules.cancel_verdict book scope) ≡ true
  by_scope (cancels.One id) = cancel_counts id (at_dealer.quote_with_id book id)
  by_scope (cancels.All id) = all_counts book id _ refl
  by_scope (cancels.Other cancel_type id) = refl
message_counts row book moment (dealer_says.Decline decline) =
    let request = at_dealer.request_named book decline.request in
    declined_counts decline.request request (first_refusal (dealer_rules.decline_checks book request))

arrival_counts : (row : DealerRow) (book : at_dealer.DealerBook) (moment : ℕ) (fields : List Field)
    (number : List ℕ) (verdict : Result DealerMessage SessionFault)
    → dealer_output.uses_number (dealer_rules.arrival_verdict row book moment
    (arrivals.in_sequence fields number verdict)) ≡ true
arrival_counts row book moment fields number (Err fault) = refl
arrival_counts row book moment fields number (Ok message) = message_counts row book moment message

pub dealer_counts : (bytes given : List ℕ) (own : ℕ) → IsSound bytes own → (date : List ℕ) (row : DealerRow)
    (book : at_dealer.DealerBook) (moment : ℕ) → at_dealer.expected_number book ≤ 999999999
    → IsGiven given bytes (at_dealer.expected_number book)
    → dealer_output.uses_number (dealer_verdict date row book moment given) ≡ true
unfolding dealer_verdict dealer_arrival
dealer_counts bytes given own sound date row book moment most is =
    let expected = at_dealer.expected_number book in
    let verdict = dealer_session_verdict date row in
    ap (λ (a : Arrival DealerMessage). dealer_output.uses_number (dealer_rules.arrival_verdict row book moment a))
    (arrives bytes given own sound expected (omega arith) most is verdict)
    ∙ arrival_counts row book moment (to_venue expected (wire.fields_in bytes)) (decimal expected)
    (verdict (to_venue expected (wire.fields_in bytes)))

asked_counts : (market : InvestorMarket) (book : at_investor.InvestorBook) (moment : ℕ) (request : QuoteRequest)
    (bond : Option BondRow) (refused : Option RequestRefusal)
    → investor_output.uses_number (investor_rules.request_answer market book moment request bond refused) ≡ true
asked_counts market book moment request bond (Some refusal) = refl
asked_counts market book moment request None None = refl
asked_counts market book moment request (Some bond) None = refl

hit_counts : (hit : QuoteHit) (shown : Option ShownOffer)
    → investor_output.uses_number (investor_rules.hit_of hit shown) ≡ true
hit_counts hit None = refl
hit_counts hit (Some shown) = refl

pass_counts : (pass : RequestPass) (own : Option at_investor.StandingRequest)
    → investor_output.uses_number (investor_rules.pass_of pass own) ≡ true
pass_counts pass None = refl
pass_counts pass (Some own) = refl

said_counts : (market : InvestorMarket) (book : at_investor.InvestorBook) (moment : ℕ) (message : InvestorMessage)
    → investor_output.uses_number (investor_rules.message_verdict market book moment message) ≡ true
unfolding investor_rules.request_verdict investor_rules.hit_verdict investor_rules.pass_verdict
said_counts market book moment (investor_says.Request request) =
    asked_counts market book moment request (investor_rules.bond_with_id market request.bond)
    (investor_rules.request_refusal market book moment request)
said_counts market book moment (investor_says.Hit hit) =
    hit_counts hit (at_investor.offer_named book hit.quote)
said_counts market book moment (investor_says.Pass pass) =
    pass_counts pass (at_investor.request_with_id book pass.request)

market_counts : (market : InvestorMarket) (book : at_investor.InvestorBook) (moment : ℕ) (fields : List Field)
    (number : List ℕ) (verdict : Result InvestorMessage SessionFault)
    → investor_output.uses_number (investor_rules.arrival_verdict market book moment
    (arrivals.in_sequence fields number verdict)) ≡ true
market_counts market book moment fields number (Err fault) = refl
market_counts market book moment fields number (Ok message) = said_counts market book moment message

pub investor_counts : (bytes given : List ℕ) (own : ℕ) → IsSound bytes own → (market : InvestorMarket)
    (book : at_investor.InvestorBook) (moment : ℕ) → at_investor.expected_number book ≤ 999999999
    → IsGiven given bytes (at_investor.expected_number book)
    → investor_output.uses_number (investor_verdict market book moment given) ≡ true
unfolding investor_verdict investor_arrival
investor_counts bytes given own sound market book moment most is =
    let expected = at_investor.expected_number book in
    let verdict = investor_session_verdict market.date market.row in
    ap (λ (a : Arrival InvestorMessage).
    investor_output.uses_number (investor_rules.arrival_verdict market book moment a))
    (arrives bytes given own sound expected (omega arith) most is verdict)
    ∙ market_counts market book moment (to_venue expected (wire.fields_in bytes)) (decimal expected)
    (verdict (to_venue expected (wire.fields_in bytes)))
