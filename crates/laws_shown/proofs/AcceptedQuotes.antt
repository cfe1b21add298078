-- A quote that a dealer's desk accepts is what the dealer wrote, on a request that it was shown.
use Rattle.std.proofs.Common.{is_some, ◌≡◌, ℕ, zero, suc, ◌+◌, ◌==◌, Bool, true, false, ◌&&◌, List, [], ◌∷◌}
use Rattle.std.proofs.Common.{filter_map, find, nat_le, Option, Some, None, is_none, Result, Ok, Err}
use Rattle.std.proofs.Common.{refl, sym, ap, ◌∙◌, subst, arith, inl, inr, codes, option_map}
use Rattle.std.specs.Prelude.{slice_get, unwrap_or, option_and_then}
use Rattle.std.specs.Result.{result_ok}
use Rattle.std.proofs.lemmas.Bool.{cases_Bool, cond_both, eqb-true, not-false, or_parts}
use Rattle.std.proofs.lemmas.Option.{same_Some}
use Rattle.bond_prices.specs.Grid.{on_grid}
use Rattle.bond_prices.specs.Price.{price_of}
use Rattle.bond_prices.specs.declared.fault.PriceFault.{PriceFault}
use Rattle.fix_fields.specs.Frame.{Field, frame_of, value_of}
use Rattle.venue_rows.specs.Texts.{same_text}
use Rattle.venue_rows.specs.declared.dealer_rows.DealerRow.{DealerRow}
use Rattle.market_terms.specs.Checks.{first_refusal}
use Rattle.market_terms.specs.declared.asks.Ask.{Ask}
use Rattle.market_terms.specs.declared.asks.Side.{Side}
use Rattle.market_terms.specs.declared.asks.Side.TheVariants as side
use Rattle.quote_messages.specs.Arrivals.{dealer_arrival}
use Rattle.quote_messages.specs.SessionChecks.{dealer_tables, header_lines, quote_lines, quote_of}
use Rattle.quote_messages.specs.SessionChecks.{types_of}
use Rattle.quote_messages.specs.SessionLines.{text_at}
use Rattle.quote_messages.specs.ValueForms.{AQuantity, AnId, OneOf, quantity_fault, quantity_of}
use Rattle.quote_messages.specs.Written.{price_tag, request_name}
use Rattle.quote_messages.specs.declared.arrivals.Arrival.{Arrival}
use Rattle.quote_messages.specs.declared.arrivals.Arrival.TheVariants as arrival
use Rattle.quote_messages.specs.declared.quotes.CancelScope.{CancelScope}
use Rattle.quote_messages.specs.declared.quotes.CancelScope.TheVariants as cancels
use Rattle.quote_messages.specs.declared.quotes.DealerMessage.{DealerMessage}
use Rattle.quote_messages.specs.declared.quotes.DealerMessage.TheVariants as message
use Rattle.quote_messages.specs.declared.quotes.Quote.{Quote}
use Rattle.dealer_desk.specs.declared.refusals.QuoteRefusal.{QuoteRefusal}
use Rattle.dealer_desk.specs.declared.refusals.DeclineRefusal.{DeclineRefusal}
use Rattle.quote_messages.specs.declared.session_faults.SessionRejectReason.{SessionRejectReason}
use Rattle.quote_messages.specs.declared.session_faults.SessionRejectReason.TheVariants.{CompIdProblem}
use Rattle.quote_messages.specs.declared.session_faults.SessionRejectReason.TheVariants.{InvalidMsgType}
use Rattle.dealer_desk.specs.DealerFacts.{DealerBook, DealerFact, Shown, book_of, expected_number}
use Rattle.dealer_desk.specs.DealerFacts.{quote_to_drop, quote_with_id, quotes_accepted}
use Rattle.dealer_desk.specs.DealerFacts.{request_named, requests_from, standing_request}
use Rattle.dealer_desk.specs.DealerRules.{arrival_verdict, asked_price, cancel_answer}
use Rattle.dealer_desk.specs.DealerRules.{cancel_checks, cancel_of, cancel_verdict, dealer_verdict}
use Rattle.dealer_desk.specs.DealerRules.{decline_answer, decline_verdict, differs_from, if_on_grid}
use Rattle.dealer_desk.specs.DealerRules.{lone_price, other_price, price_for, quote_answer}
use Rattle.dealer_desk.specs.DealerRules.{quote_checks, quote_refusal, quote_verdict}
use Rattle.dealer_desk.specs.declared.accepted.AcceptedQuote.{AcceptedQuote}
use Rattle.dealer_desk.specs.declared.standing.StandingQuote.{StandingQuote}
use Rattle.dealer_desk.specs.declared.standing.StandingRequest.{StandingRequest}
use Rattle.dealer_desk.specs.declared.verdicts.DealerVerdict.{DealerVerdict}
use Rattle.dealer_desk.specs.declared.verdicts.DealerVerdict.TheVariants as verdict
use Rattle.laws_days.specs.AcceptedQuotes.{next_of_day, none_holds}
use Rattle.laws_shown.specs.Said.{IsLeftOutOr, SaysQuote, other_price_tag, price_at}
use Rattle.laws_shown.proofs.Messages.{shows}
use Rattle.laws_shown.proofs.ReadFields.{Stood, lines_kept, optional_kept, optional_moment, required_as}
use Rattle.laws_shown.proofs.ReadFields.{required_stands, text_same}
use Rattle.laws_shown.proofs.ReadQuotes.{ArrivalOk, ReadAs, ReadFrom, arrival_ok}

-- what a dealer was asked by a fact, and by some, in order
abbrev pub ask_in : DealerFact → Option Ask
ask_in (Shown ask moment) = Some ask
ask_in fact = None

abbrev pub asks_of : List DealerFact → List Ask
asks_of facts = filter_map ask_in facts

-- the request that is found has its number, and its ask is at its place
asked_at : (test : StandingRequest → Bool) (first : ℕ) (facts : List DealerFact)
    (own : StandingRequest) → find test (requests_from first facts) ≡ Some own
    → (test own ≡ true) × (place : ℕ) × (own.number ≡ first + place)
    × (slice_get (asks_of facts) place ≡ Some own.ask)
asked_at test first [] own found = cc
asked_at test first (Shown ask moment ∷ later) own found =
    elim (cases_Bool (test (standing_request first ask later))) [
      | inl is ↦
          let same = same_Some (standing_request first ask later) own (rw is at found) in
          let number : first ≡ first + 0 = omega arith in
          subst (λ (r : StandingRequest). (test r ≡ true) × (place : ℕ) × (r.number ≡ first + place)
          × (slice_get (ask ∷ asks_of later) place ≡ Some r.ask)) same (is, zero, number, refl)
      | inr isnt ↦
          let rest = asked_at test (first + 1) later own (rw isnt at found) in
          let number : own.number ≡ first + suc rest.1 = omega (arith, rest.2) in
          (rest.0, suc rest.1, number, rest.3)
    ]
asked_at test first (fact ∷ later) own found = asked_at test first later own found

-- Prices.

lone : (grid : ℕ) (asked other : Option (Result ℕ PriceFault)) (price : ℕ)
    → if_on_grid grid (lone_price asked other) ≡ Some price
    → (asked ≡ Some (Ok price)) × (other ≡ None)
lone grid None other price is = cc
lone grid (Some (Err fault)) other price is = cc
lone grid (Some (Ok read)) (Some beside) price is = cc
lone grid (Some (Ok read)) None price is = elim (cases_Bool (on_grid read grid)) [
  | inl on ↦ (ap (λ (n : ℕ). Some (Ok n)) (same_Some read price (rw on at is)), refl)
  | inr off ↦ cc (rw off at is)
]

asked_tag : (date : List ℕ) (fields : List Field) (asked : Side)
    → asked_price asked (quote_of date fields) ≡ price_at (price_tag asked) fields
asked_tag date fields side.Buy = refl
asked_tag date fields side.Sell = refl

other_tag : (date : List ℕ) (fields : List Field) (asked : Side)
    → other_price asked (quote_of date fields) ≡ price_at (other_price_tag asked) fields
other_tag date fields side.Buy = refl
other_tag date fields side.Sell = refl

absent : (value : Option (List ℕ)) → option_map price_of value ≡ None → value ≡ None
absent None is = refl
absent (Some text) is = cc

price_there : (price : Option ℕ) → is_none price ≡ false → price ≡ Some (unwrap_or price 0)
price_there None is = cc
price_there (Some price) is = refl

-- Sizes.

size_read : (quantity : ℕ) (read : Result ℕ SessionRejectReason) → quantity_fault read ≡ None
    → differs_from quantity (result_ok read) ≡ false → read ≡ Ok quantity
size_read quantity (Ok units) kept same =
    ap (λ (n : ℕ). Ok n) (eqb-true units quantity (not-false (units == quantity) same))
size_read quantity (Err reason) kept same = cc

size_is : (date : List ℕ) (quantity : ℕ) (value : Option (List ℕ))
    → Stood date false AQuantity value
    → differs_from quantity
    (option_and_then (λ (text : List ℕ). result_ok (quantity_of text)) value) ≡ false
    → IsLeftOutOr quantity (option_map quantity_of value)
size_is date quantity None stood same = tt
size_is date quantity (Some text) stood same = size_read quantity (quantity_of text) stood same

module _ (date : List ℕ) (row : DealerRow) (facts : List DealerFact) (moment : ℕ)
    (bytes : List ℕ) where
  -- the book by these facts
  abbrev book : DealerBook
  book = book_of facts

  -- bytes that came are read as a quote that is accepted
  pub record AcceptsQuote (quote : AcceptedQuote) : Type 0 where
    pub fields : List Field
    pub frame : frame_of bytes ≡ Some fields
    pub says : SaysQuote date row.name fields quote
    pub ask : Ask
    pub place : ℕ
    pub request_is : quote.request ≡ 1 + place
    pub ask_is : slice_get (asks_of facts) place ≡ Some ask
    pub bond : quote.bond ≡ ask.bond
    pub side : quote.side ≡ ask.side
    pub quantity : quote.quantity ≡ ask.quantity
    pub moment_is : quote.moment ≡ moment
    pub number_is : quote.number ≡ quotes_accepted book + 1
    pub is_new : is_some (quote_with_id book quote.id) ≡ false
    pub within : (nat_le 1 quote.number && nat_le quote.number row.quotes) ≡ true

  abbrev pub AcceptOk : DealerVerdict → Type 0
  AcceptOk (verdict.QuoteAccepted name id quote replaced) = AcceptsQuote quote
  AcceptOk other = Unit {0}

  module _ (fields : List Field) (frame : frame_of bytes ≡ Some fields)
      (read : ReadAs date row fields (quote_of date fields)) where
    -- the quote as it is read
    abbrev quote : Quote
    quote = quote_of date fields

    quote_accepts : (request : Option StandingRequest) (refusal : Option QuoteRefusal)
        → request_named book quote.request ≡ request
        → quote_refusal row book moment quote request ≡ refusal
        → AcceptOk (quote_answer book moment quote request refusal)
    unfolding quote_refusal request_named price_for
    quote_accepts request (Some reason) found is = tt
    quote_accepts None None found is = tt
    quote_accepts (Some shown) None found is =
        let checks = none_holds (quote_checks row book moment quote (Some shown)) is in
        let at = asked_at (λ (r : StandingRequest). same_text (request_name r.number) quote.request)
        1 facts shown found in
        let bond = text_same quote.bond shown.ask.bond
        (not-false (same_text quote.bond shown.ask.bond) checks.1.1.1.1.0) in
        let price = lone shown.ask.grid (asked_price shown.ask.side quote)
        (other_price shown.ask.side quote) (unwrap_or (price_for shown.ask quote) 0)
        (price_there (price_for shown.ask quote) checks.1.1.1.1.1.0) in
        let sizes = or_parts (differs_from shown.ask.quantity quote.bid_size)
        (differs_from shown.ask.quantity quote.offer_size) checks.1.1.1.1.1.1.1.0 in
        let lines = lines_kept date fields quote_lines read.lines in
        let header = lines_kept date fields
        (header_lines row.name row.traders (types_of dealer_tables)) read.header in
        record {
          fields = fields;
          frame = frame;
          says = record {
            is_quote = required_stands date fields 35
                (OneOf (types_of dealer_tables) InvalidMsgType) header.1.1.1.1.0
                ∙ ap (λ (t : List ℕ). Some t)
                (sym (text_same (codes "S") (text_at 35 fields) read.type_is));
            sender = required_as date fields 49 row.name CompIdProblem header.0;
            id = required_stands date fields 117 AnId lines.0;
            request = required_stands date fields 131 AnId lines.1.0
                ∙ ap (λ (t : List ℕ). Some t)
                (sym (text_same (request_name shown.number) quote.request at.0));
            bond = required_stands date fields 48 AnId lines.1.1.0
                ∙ ap (λ (t : List ℕ). Some t) bond;
            price = sym (asked_tag date fields shown.ask.side) ∙ price.0;
            lone = absent (value_of (other_price_tag shown.ask.side) fields)
                (sym (other_tag date fields shown.ask.side) ∙ price.1);
            bid_size = size_is date shown.ask.quantity (value_of 134 fields)
                (optional_kept date fields 134 AQuantity lines.1.1.1.1.1.1.0) sizes.0;
            offer_size = size_is date shown.ask.quantity (value_of 135 fields)
                (optional_kept date fields 135 AQuantity lines.1.1.1.1.1.1.1.0) sizes.1;
            valid_until = optional_moment date fields 62 lines.1.1.1.1.1.1.1.1.1.0;
          };
          ask = shown.ask;
          place = at.1;
          request_is = at.2;
          ask_is = at.3;
          bond = refl;
          side = refl;
          quantity = refl;
          moment_is = refl;
          number_is = refl;
          is_new = checks.1.1.1.1.1.1.1.1.1.0;
          within = next_of_day row.quotes (quotes_accepted book) checks.1.1.1.1.1.1.1.1.1.1.1.0;
        }

  -- Other messages.

  found_accepts : (id : List ℕ) (own : Option StandingQuote) → AcceptOk (cancel_of id own)
  found_accepts id None = tt
  found_accepts id (Some own) =
      elim (first_refusal (cancel_checks own))
      as (λ refusal. AcceptOk (cancel_answer id own refusal)) [
        | None ↦ tt
        | Some reason ↦ tt
      ]

  cancel_accepts : (scope : CancelScope) → AcceptOk (cancel_verdict book scope)
  unfolding cancel_verdict
  cancel_accepts (cancels.One id) = found_accepts id (quote_with_id book id)
  cancel_accepts (cancels.All id) =
      cond_both (is_none (quote_to_drop book (quotes_accepted book))) _ _ AcceptOk (λ is. tt)
      (λ isnt. tt)
  cancel_accepts (cancels.Other cancel_type id) = tt

  decline_accepts : (name : List ℕ) (request : Option StandingRequest)
      (refusal : Option DeclineRefusal) → AcceptOk (decline_answer name request refusal)
  decline_accepts name request (Some reason) = tt
  decline_accepts name None None = tt
  decline_accepts name (Some request) None = tt

  quote_said : (said : Quote) → ReadFrom date row bytes said
      → AcceptOk (quote_verdict row book moment said)
  unfolding quote_verdict
  quote_said said from =
      subst (λ (q : Quote). ReadAs date row from.fields q
      → AcceptOk (quote_verdict row book moment q)) (sym from.read.quote_is)
      (λ read. quote_accepts from.fields from.frame read _ _ refl refl) from.read

  came_accepts : (came : Arrival DealerMessage) → ArrivalOk date row bytes came
      → AcceptOk (arrival_verdict row book moment came)
  unfolding decline_verdict
  came_accepts (arrival.Taken (message.Quote said)) from = quote_said said from
  came_accepts (arrival.Taken (message.Cancel cancel)) from = cancel_accepts cancel.scope
  came_accepts (arrival.Taken (message.Decline decline)) from =
      decline_accepts decline.request _ _
  came_accepts other from = tt

  pub verdict_accepts : AcceptOk (dealer_verdict date row book moment bytes)
  unfolding dealer_verdict
  verdict_accepts =
      came_accepts (dealer_arrival date row (expected_number book) bytes)
      (arrival_ok date row (expected_number book) bytes)
