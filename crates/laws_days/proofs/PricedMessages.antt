-- Two messages of a dealer that differ in lawful prices alone: the verdicts on them are one but for
-- the price.
use Rattle.laws_days.proofs.Common.{◌≡◌, ℕ, Option, Some, None, option_map, is_none, is_some, List}
use Rattle.laws_days.proofs.Common.{refl, ap, ◌∙◌, Bool, true, Result, Ok, inl, inr, IfSome, sym}
use Rattle.laws_days.proofs.Common.{◌==◌, false, drop, codes, if◌then◌else◌, Err, cases_Bool}
use Rattle.laws_days.proofs.Common.{bytes_eq-Decides, price_of, Configuration, bond_with_id}
use Rattle.laws_days.proofs.Common.{same_text, BondRow, DealerRow, dealer_verdict}
use Rattle.laws_days.proofs.Common.{unpriced_verdict, StandingRequest, Every, is_price_tag}
use Rattle.laws_days.proofs.Common.{IsOneOrPriced, bond_meant, AllZip, Field, frame_of, value_of}
use Rattle.laws_days.proofs.Common.{times_of, first_fault, tag_fault, quote_lines, DealerVerdict}
use Rattle.laws_days.proofs.Common.{not, same_Some}
use Rattle.bond_prices.specs.Band.{in_band}
use Rattle.bond_prices.specs.Grid.{on_grid}
use Rattle.bond_prices.specs.declared.band.Band.{Band}
use Rattle.bond_prices.specs.declared.fault.PriceFault.{PriceFault}
use Rattle.market_terms.specs.declared.asks.Side.{Side}
use Rattle.market_terms.specs.declared.asks.Side.TheVariants as side
use Rattle.quote_messages.specs.declared.quotes.Quote.{Quote}
use Rattle.quote_messages.specs.Written.{request_name}
use Rattle.dealer_desk.specs.DealerFacts.{DealerBook, request_named, expected_number}
use Rattle.dealer_desk.specs.DealerRules.{asked_price, if_on_grid, is_outside, lone_price}
use Rattle.dealer_desk.specs.DealerRules.{other_price}
use Rattle.dealer_desk.specs.DealerRules.{price_for, quote_on, quote_refusal, quote_verdict}
use Rattle.dealer_desk.specs.DealerRules.{arrival_verdict}
use Rattle.laws_days.specs.PriceAlike.{IsPriceOf, is_in_band_of, is_on_grid_of}
use Rattle.laws_days.proofs.ListLemmas.{cases_some, first_of_every}
use Rattle.laws_days.proofs.PricedFields.{AreValues, price_value, quote_same, times_same}
use Rattle.laws_days.proofs.PricedFields.{value_same}
use Rattle.laws_days.proofs.VenueParts.{BearsLimits, limits_of}
use Rattle.std.specs.Str.Parse.{digits_value}
use Rattle.quote_messages.proofs.GroupLemmas.{or_next-none}
use Rattle.quote_messages.specs.Arrivals.{dealer_arrival, numbered, sequence_number}
use Rattle.quote_messages.specs.ValueForms.{AnId}
use Rattle.quote_messages.specs.SessionLines.{required, text_at, unless_fault}
use Rattle.quote_messages.specs.SessionChecks.{dealer_session_verdict, dealer_tables, header_lines}
use Rattle.quote_messages.specs.SessionChecks.{quote_of, types_of, verdict_by}
use Rattle.quote_messages.specs.declared.arrivals.Arrival.{Arrival}
use Rattle.quote_messages.specs.declared.arrivals.Arrival.TheVariants.{Taken}
use Rattle.quote_messages.specs.declared.quotes.DealerMessage.{DealerMessage}
use Rattle.quote_messages.specs.declared.quotes.DealerMessage.TheVariants as message
use Rattle.quote_messages.specs.declared.session_faults.SessionFault.{SessionFault}

-- Two quotes.

-- the grid and the band of a bond, where there is one
abbrev limits_in : Option BondRow → Option (ℕ × Band)
limits_in bond = option_map limits_of bond

-- A lawful price of a bond with this grid and this band.
module _ (bond : Option BondRow) (grid : ℕ) (band : Band)
    (are : limits_in bond ≡ Some (grid, band)) (price : ℕ) where
  on_its_grid : is_on_grid_of bond price ≡ true → on_grid price grid ≡ true
  on_its_grid = by_bond bond are
    where
      by_bond : (b : Option BondRow) → limits_in b ≡ Some (grid, band)
          → is_on_grid_of b price ≡ true → on_grid price grid ≡ true
      by_bond None are lawful = cc
      by_bond (Some b) are lawful =
          let same : b.grid ≡ grid =
          ap (λ (l : ℕ × Band). l.0) (same_Some (limits_of b) (grid, band) are) in
          rw same at lawful

  in_its_band : is_in_band_of bond price ≡ true → in_band price band ≡ true
  in_its_band = by_bond bond are
    where
      by_bond : (b : Option BondRow) → limits_in b ≡ Some (grid, band)
          → is_in_band_of b price ≡ true → in_band price band ≡ true
      by_bond None are lawful = cc
      by_bond (Some b) are lawful =
          let same : b.band ≡ band =
          ap (λ (l : ℕ × Band). l.1) (same_Some (limits_of b) (grid, band) are) in
          rw same at lawful

  stays : is_on_grid_of bond price ≡ true → if_on_grid grid (Some price) ≡ Some price
  stays lawful = rw (on_its_grid lawful) refl

  is_there : is_on_grid_of bond price ≡ true → is_in_band_of bond price ≡ true
      → is_some (if_on_grid grid (Some price)) ≡ true
  is_there lawful within = ap (λ (p : Option ℕ). is_some p) (stays lawful)

  is_within : is_on_grid_of bond price ≡ true → is_in_band_of bond price ≡ true
      → is_outside band (if_on_grid grid (Some price)) ≡ false
  is_within lawful within =
      ap (λ (p : Option ℕ). is_outside band p) (stays lawful) ∙ ap not (in_its_band within)

-- a quote at the prices that these texts bear
abbrev priced : Quote → Option (List ℕ) → Option (List ℕ) → Quote
priced quote bid offer =
    record quote { bid = option_map price_of bid; offer = option_map price_of offer }

-- What is asked of the price of a quote, of these values of its tags and on this grid, where each
-- lawful price of the bond gets one answer.
module _ (bond : Option BondRow) (grid : ℕ) (test : Option ℕ → Bool) (answer : Bool)
    (one_answer : (price : ℕ) → is_on_grid_of bond price ≡ true → is_in_band_of bond price ≡ true
    → test (if_on_grid grid (Some price)) ≡ answer) where
  -- of the price on the asked side, with this one on the other side
  abbrev asks : Option (Result ℕ PriceFault) → Option (Result ℕ PriceFault) → Bool
  asks asked other = test (if_on_grid grid (lone_price asked other))

  lawful : (text : List ℕ) → IsPriceOf bond text → (beside : Option (Result ℕ PriceFault))
      → asks (Some (price_of text)) beside ≡ (if is_none beside then answer else test None)
  lawful text is None = rw (is.is_read) (one_answer is.price is.is_on_grid is.is_in_band)
  lawful text is (Some beside) = rw (is.is_read)

  asked_same : (tag : ℕ) (one other : Option (List ℕ)) (beside : Option (Result ℕ PriceFault))
      → AreValues bond tag one other
      → asks (option_map price_of one) beside ≡ asks (option_map price_of other) beside
  asked_same tag one other beside (inl same) = rw same
  asked_same tag one other beside (inr values) =
      rw (
        values.one_is,
        values.other_is,
        lawful values.text values.prices.one_price beside,
        lawful values.priced values.prices.other_price beside,
      )

  other_same : (tag : ℕ) (asked : Option (Result ℕ PriceFault)) (one other : Option (List ℕ))
      → AreValues bond tag one other
      → asks asked (option_map price_of one) ≡ asks asked (option_map price_of other)
  other_same tag asked one other (inl same) = rw same
  other_same tag (Some (Ok price)) one other (inr values) = rw (values.one_is, values.other_is)
  other_same tag asked one other (inr values) = refl

  lawful_same : (asked : Side) (quote : Quote) (bid bid_too offer offer_too : Option (List ℕ))
      → AreValues bond 132 bid bid_too → AreValues bond 133 offer offer_too
      → asks (asked_price asked (priced quote bid offer))
      (other_price asked (priced quote bid offer))
      ≡ asks (asked_price asked (priced quote bid_too offer_too))
      (other_price asked (priced quote bid_too offer_too))
  lawful_same side.Buy quote bid bid_too offer offer_too bids offers =
      asked_same 133 offer offer_too (option_map price_of bid) offers
      ∙ other_same 132 (option_map price_of offer_too) bid bid_too bids
  lawful_same side.Sell quote bid bid_too offer offer_too bids offers =
      asked_same 132 bid bid_too (option_map price_of offer) bids
      ∙ other_same 133 (option_map price_of bid_too) offer offer_too offers

-- The verdicts, where each request bears the grid and the band of its bond, and the prices are lawful
-- prices of the bond that the quote names.
module _ (row : DealerRow) (book : DealerBook) (moment : ℕ) (config : Configuration)
    (bear : Every (λ (own : StandingRequest). BearsLimits config own.ask) book.requests)
    (quote : Quote) (bond : Option BondRow) (meant : bond_with_id config quote.bond ≡ bond)
    (bid bid_too offer offer_too : Option (List ℕ)) (bids : AreValues bond 132 bid bid_too)
    (offers : AreValues bond 133 offer offer_too) where
  -- the quote at the prices of both messages
  abbrev former : Quote
  former = priced quote bid offer

  abbrev latter : Quote
  latter = priced quote bid_too offer_too

  refusal_same : (shown : StandingRequest) → BearsLimits config shown.ask
      → quote_refusal row book moment former (Some shown)
      ≡ quote_refusal row book moment latter (Some shown)
  unfolding quote_refusal price_for
  refusal_same own bears = elim (cases_Bool (same_text quote.bond own.ask.bond)) [
    | inl is ↦
        let named : bond_with_id config own.ask.bond ≡ bond =
        ap (bond_with_id config) (sym ((bytes_eq-Decides quote.bond own.ask.bond).0 is)) ∙ meant in
        let are : limits_in bond ≡ Some (own.ask.grid, own.ask.band) = rw named at bears in
        rw (
          lawful_same bond own.ask.grid (λ (p : Option ℕ). is_some p) true
              (is_there bond own.ask.grid own.ask.band are) own.ask.side quote bid bid_too offer
              offer_too bids offers,
          lawful_same bond own.ask.grid (λ (p : Option ℕ). is_outside own.ask.band p) false
              (is_within bond own.ask.grid own.ask.band are) own.ask.side quote bid bid_too offer
              offer_too bids offers,
        )
    | inr is ↦ rw is
  ]

  on_request : (request : Option StandingRequest)
      → IfSome request (λ (own : StandingRequest). BearsLimits config own.ask)
      → unpriced_verdict (quote_on row book moment former request)
      ≡ unpriced_verdict (quote_on row book moment latter request)
  unfolding quote_refusal
  on_request None bears = refl
  on_request (Some shown) bears =
      let refused = quote_refusal row book moment latter (Some shown) in
      rw (refusal_same shown bears)
      (elim (cases_some refused) [ inl none ↦ rw none | inr some ↦ rw some.1 ])

  verdict_alike : unpriced_verdict (quote_verdict row book moment former)
      ≡ unpriced_verdict (quote_verdict row book moment latter)
  unfolding quote_verdict request_named
  verdict_alike =
      on_request (request_named book quote.request)
      (first_of_every (λ (own : StandingRequest). BearsLimits config own.ask)
      (λ (request : StandingRequest). same_text (request_name request.number) quote.request)
      book.requests bear)

-- Two messages.

-- what a line that is kept asks for stands
stands : (date : List ℕ) (tag : ℕ) (fields : List Field) → required tag AnId date fields ≡ None
    → (text : List ℕ) × (value_of tag fields ≡ Some text)
unfolding tag_fault
stands date tag fields fine = elim (cases_some (value_of tag fields)) [
  | inl none ↦ let never = rw none at fine in cc
  | inr some ↦ some
]

module _ (config : Configuration) (date : List ℕ) (row : DealerRow) (book : DealerBook)
    (moment : ℕ)
    (bear : Every (λ (own : StandingRequest). BearsLimits config own.ask) book.requests)
    (one other : List Field)
    (alike : AllZip (IsOneOrPriced (bond_meant config one)) one other) where
  -- the verdict on what came, whatever its price
  abbrev judged : Arrival DealerMessage → DealerVerdict
  judged came = unpriced_verdict (arrival_verdict row book moment came)

  same_value : (tag : ℕ) → is_price_tag tag ≡ false → value_of tag one ≡ value_of tag other
  same_value tag is_none = value_same (bond_meant config one) one other alike tag is_none

  same_times : (tag : ℕ) → times_of tag one ≡ times_of tag other
  same_times = times_same (bond_meant config one) one other alike

  -- a quote without a fault names a bond: the quote of the other message, at the prices of either
  quoted : first_fault quote_lines date other ≡ None
      → judged (Taken (message.Quote
      (priced (quote_of date other) (value_of 132 one) (value_of 133 one))))
      ≡ judged (Taken (message.Quote (quote_of date other)))
  quoted fine =
      let named = stands date 48 other (or_next-none _ _ (or_next-none _ _ (or_next-none _ _
      fine).1).1).0 in
      let meant : bond_with_id config (text_at 48 other) ≡ bond_meant config one =
      rw (same_value 48 refl, named.1) refl in
      verdict_alike row book moment config bear (quote_of date other) (bond_meant config one) meant
      (value_of 132 one) (value_of 132 other) (value_of 133 one) (value_of 133 other)
      (price_value (bond_meant config one) one other alike 132)
      (price_value (bond_meant config one) one other alike 133)

  -- All messages.

  numbered_same : (expected : ℕ) (text : Option (List ℕ)) (said : Result DealerMessage SessionFault)
      → numbered expected one text said ≡ numbered expected other text said
  numbered_same expected None said = refl
  numbered_same expected (Some number) (Ok message) = rw (same_value 35 refl)
  numbered_same expected (Some number) (Err fault) = rw (same_value 35 refl)

  -- two quotes under one number, with one fault of the header and one of their own
  quotes_one : (expected : ℕ) (number : Option (List ℕ)) (header : Option SessionFault)
      (is_quote : Bool) (fault : Option SessionFault) (v w : DealerMessage)
      (later : Result DealerMessage SessionFault)
      → (fault ≡ None → judged (Taken v) ≡ judged (Taken w))
      → judged (numbered expected other number
      (unless_fault header (if is_quote then unless_fault fault (Ok v) else later)))
      ≡ judged (numbered expected other number
      (unless_fault header (if is_quote then unless_fault fault (Ok w) else later)))
  quotes_one expected None header is_quote fault v w later same = refl
  quotes_one expected number (Some reason) is_quote fault v w later same = refl
  quotes_one expected number None false fault v w later same = refl
  quotes_one expected number None true (Some reason) v w later same = refl
  quotes_one expected (Some number) None true None v w later same =
      elim (cases_Bool (digits_value 10 number == expected)) [
        | inl is ↦ rw is (same refl)
        | inr is ↦ rw is
      ]

  arrivals_one : (expected : ℕ)
      → judged (numbered expected one (sequence_number one) (dealer_session_verdict date row one))
      ≡ judged (numbered expected other (sequence_number other)
      (dealer_session_verdict date row other))
  unfolding dealer_session_verdict
  arrivals_one expected =
      rw (numbered_same expected, quote_same (bond_meant config one) date one other alike)
      (simp (same_times, same_value) (quotes_one expected (sequence_number other)
      (first_fault (header_lines row.name row.traders (types_of dealer_tables)) date other)
      (same_text (codes "S") (text_at 35 other)) (first_fault quote_lines date other)
      (message.Quote (priced (quote_of date other) (value_of 132 one) (value_of 133 one)))
      (message.Quote (quote_of date other)) (verdict_by (drop 1 dealer_tables) date other) quoted))

  pub verdicts_alike : (bytes others : List ℕ) → frame_of bytes ≡ Some one
      → frame_of others ≡ Some other
      → unpriced_verdict (dealer_verdict date row book moment bytes)
      ≡ unpriced_verdict (dealer_verdict date row book moment others)
  unfolding dealer_verdict dealer_arrival
  verdicts_alike bytes others one_is other_is =
      rw (one_is, other_is) (arrivals_one (expected_number book))
