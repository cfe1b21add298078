-- A message that shows a dealer a request, or an investor a quote, says what was written.
use Rattle.std.proofs.Common.{◌≡◌, ◌≤◌, ◌<◌, ℕ, ◌+◌, ◌==◌, ◌^◌, Bool, true, false, List, []}
use Rattle.std.proofs.Common.{codes, decimal, length, nat_le, nat_lt, Option, Some, None, Result, Ok}
use Rattle.std.proofs.Common.{refl, sym, ap, ◌∙◌, option_map, arith, if◌then◌else◌, subst}
use Rattle.std.specs.List.{after_first, before_first, list_all, position, position_or_len}
use Rattle.std.proofs.Common.{Err, get_or}
use Rattle.std.specs.Char.{is_ascii_digit}
use Rattle.std.specs.Str.Parse.{digits_value}
use Rattle.std.proofs.lemmas.Bool.{and_from}
use Rattle.std.proofs.lemmas.Bool.Decides.{nat_tests}
use Rattle.std.proofs.lemmas.Fmt.{digits_decimal, digits_value-decimal, decimal_nonempty}
use Rattle.std.proofs.lemmas.Fmt.{length-decimal-le}
use Rattle.std.proofs.lemmas.Option.{same_Some}
use Rattle.fix_fields.proofs.Digits.{tested}
use Rattle.quote_messages.proofs.NumberLemmas.{digit_at}
use Rattle.quote_messages.specs.declared.session_faults.SessionRejectReason.TheVariants.{ValueIncorrect}
use Rattle.quote_messages.specs.declared.session_faults.SessionRejectReason.TheVariants.{IncorrectDataFormat}
use Rattle.std.proofs.lemmas.List.Sums.{position_or_len_is}
use Rattle.fix_fields.specs.Frame.{Field, IsValue, value_of}
use Rattle.fix_fields.specs.UtcTimestamp.{moment_of, timestamp_text}
use Rattle.fix_fields.specs.declared.fault.MomentFault.{MomentFault}
use Rattle.bond_prices.specs.Price.{price_digits, price_of}
use Rattle.bond_prices.specs.declared.fault.PriceFault.{PriceFault}
use Rattle.market_terms.specs.Texts.{is_quantity}
use Rattle.market_terms.specs.Codes.{side_code}
use Rattle.market_terms.specs.declared.asks.Ask.{Ask}
use Rattle.market_terms.specs.declared.asks.Side.{Side}
use Rattle.market_terms.specs.declared.rooms.Offer.{Offer}
use Rattle.quote_messages.proofs.TextLemmas.{cut_nowhere}
use Rattle.quote_messages.specs.Texts.{has_quantity_form, is_point}
use Rattle.quote_messages.specs.ValueForms.{quantity_in_limits, quantity_of, quantity_of_digits}
use Rattle.quote_messages.specs.Written.{price_tag, size_tag, written, written_fields}
use Rattle.quote_messages.specs.declared.session_faults.SessionRejectReason.{SessionRejectReason}
use Rattle.quote_messages.specs.declared.out_messages.Head.{Head}
use Rattle.quote_messages.specs.declared.out_messages.OutMessage.TheVariants as out
use Rattle.quote_messages.specs.declared.out_messages.OfferedQuote.{OfferedQuote}
use Rattle.venue_rows.specs.Rows.{Configuration}
use Rattle.investor_desk.specs.declared.standing.AcceptedRequest.{AcceptedRequest}
use Rattle.investor_desk.specs.declared.standing.ShownOffer.{ShownOffer}
use Rattle.step_replay.specs.Lists.{In}
use Rattle.step_replay.specs.VenueFacts.{Fact}
use Rattle.dealer_desk.specs.declared.accepted.AcceptedQuote.{AcceptedQuote}
use Rattle.laws_shown.specs.Said.{SaysWhenRead}
use Rattle.laws_shown.specs.ShownRequests.{ComesFromARequest, ShowsWhatWasAsked}
use Rattle.laws_shown.specs.ShownQuotes.{IsShown, ShowsQuote, ShowsWhatWasQuoted, shown_to}
use Rattle.laws_shown.proofs.LawfulFields.{AreLawful, date_read, frame_value, quote_lawful}
use Rattle.laws_shown.proofs.LawfulFields.{request_lawful}
use Rattle.laws_shown.proofs.Messages.{moment_again, price_again, quote_fields, until_again}
use Rattle.laws_shown.proofs.ReadBack.{fields_read}

-- Quantities.

-- digits have no point
not_point : (c : ℕ) → is_ascii_digit c ≡ true → is_point c ≡ false
not_point c is = grind (arith, nat_tests)

no_points : (text : List ℕ) → list_all is_ascii_digit text ≡ true
    → position_or_len is_point text ≡ length text
no_points text digits =
    position_or_len_is is_point text (length text) 0 (omega arith)
    (λ k within. not_point (get_or text k 0) (digit_at text k within digits))
    (λ beyond. absurd (omega arith))

nowhere : (text : List ℕ) → list_all is_ascii_digit text ≡ true
    → position is_point text ≡ None
nowhere text digits =
    let whole : position_or_len is_point text ≡ length text = no_points text digits in
    let test : nat_lt (position_or_len is_point text) (length text) ≡ false =
    grind (arith, nat_tests) in
    rw test refl

-- what is read as a quantity is within its limits

in_limits : (units quantity : ℕ) → quantity_in_limits units ≡ Ok quantity
    → is_quantity quantity ≡ true
in_limits units quantity is = by_test (is_quantity units) refl is
  where
    read_of : Result ℕ SessionRejectReason → ℕ
    read_of (Ok read) = read
    read_of (Err reason) = units

    ok_same : (read : Result ℕ SessionRejectReason) → read ≡ Ok quantity
        → read_of read ≡ quantity
    ok_same read same = ap read_of same

    by_test : (b : Bool) → is_quantity units ≡ b
        → (if b then Ok units else Err ValueIncorrect) ≡ Ok quantity → is_quantity quantity ≡ true
    by_test true test read = ap is_quantity (sym (ok_same (Ok units) read)) ∙ test
    by_test false test read = cc

digits_read : (whole decimals : List ℕ) (quantity : ℕ)
    → quantity_of_digits whole decimals ≡ Ok quantity → is_quantity quantity ≡ true
digits_read whole decimals quantity is =
    by_tests (has_quantity_form whole decimals) (list_all (λ c. c == 48) decimals) is
  where
    by_tests : (b c : Bool)
        → (if b
        then (if c then quantity_in_limits (digits_value 10 whole) else Err ValueIncorrect)
        else Err IncorrectDataFormat) ≡ Ok quantity → is_quantity quantity ≡ true
    by_tests true true read = in_limits (digits_value 10 whole) quantity read
    by_tests true false read = cc
    by_tests false c read = cc

-- a quantity is read as it is written

has_form : (text : List ℕ) → 1 ≤ length text → length text ≤ 15
    → list_all is_ascii_digit text ≡ true → has_quantity_form text [] ≡ true
has_form text some few digits =
    let least : nat_le 1 (length text + 0) ≡ true = grind (arith, nat_tests) in
    let most : nat_le (length text + 0) 15 ≡ true = grind (arith, nat_tests) in
    and_from _ _ (and_from _ _ least most) (and_from _ _ digits refl)

quantity_read : (quantity : ℕ) → is_quantity quantity ≡ true
    → quantity_of (decimal quantity) ≡ Ok quantity
unfolding quantity_of
quantity_read quantity is =
    let low : 1 ≤ quantity = grind (arith, nat_tests) in
    let high : quantity ≤ 1000000000000 = grind (arith, nat_tests) in
    let fits : quantity < 2 ^ 64 = omega arith in
    let digits = digits_decimal tested quantity fits in
    let cut = cut_nowhere (decimal quantity) (nowhere (decimal quantity) digits) in
    let some : 1 ≤ length (decimal quantity) = decimal_nonempty quantity fits in
    let few : length (decimal quantity) ≤ 13 =
    length-decimal-le 13 quantity (omega arith) (omega arith) fits in
    let form = has_form (decimal quantity) some (omega arith) digits in
    rw (sym cut.0, sym cut.1, form, digits_value-decimal tested quantity fits, is) refl

-- so one that was read, and is written in digits, is read again
pub quantity_again : (value : Option (List ℕ)) (quantity : ℕ)
    → option_map quantity_of value ≡ Some (Ok quantity)
    → quantity_of (decimal quantity) ≡ Ok quantity
unfolding quantity_of
quantity_again None quantity is = cc
quantity_again (Some text) quantity is =
    quantity_read quantity (digits_read (before_first is_point text) (after_first is_point text)
    quantity (same_Some _ _ is))

-- Requests.

module _ (config : Configuration) (facts : List Fact) (head : Head)
    (date_is : head.date ≡ config.date) (named : IsValue head.firm) (dealer number : ℕ) (ask : Ask)
    (from : ComesFromARequest config facts dealer ask) where
  says_asked : ShowsWhatWasAsked config facts dealer
      (written_fields head (out.Request (record { number = number; ask = ask })))
  says_asked = record {
    room = from.room;
    request = from.request;
    is_written = from.is_written;
    named = from.named;
    bond = ap (λ (a : Ask). Some a.bond) (sym from.ask_is) ∙ sym from.is_written.says.bond;
    side = ap (λ (a : Ask). Some (decimal (side_code a.side))) (sym from.ask_is)
        ∙ sym from.is_written.says.side;
    quantity = ap (λ (a : Ask). Some (quantity_of (decimal a.quantity))) (sym from.ask_is)
        ∙ ap (λ (r : Result ℕ SessionRejectReason). Some r)
        (quantity_again (value_of 38 from.is_written.asked) from.request.ask.quantity
        from.is_written.says.quantity)
        ∙ sym from.is_written.says.quantity;
    deadline = ap (λ (d : List ℕ). Some (moment_of config.date (timestamp_text d ask.deadline)))
        date_is
        ∙ ap (λ (a : Ask). Some (moment_of config.date (timestamp_text config.date a.deadline)))
        (sym from.ask_is)
        ∙ ap (λ (r : Result ℕ MomentFault). Some r)
        (moment_again config.date (value_of 126 from.is_written.asked) from.request.ask.deadline
        from.is_written.says.deadline)
        ∙ sym from.is_written.says.deadline;
    investor = ap (λ (a : Ask). Some a.investor) (sym from.ask_is)
        ∙ ap (λ (t : List ℕ). Some t) from.is_written.says.asker
        ∙ sym from.is_written.says.sender;
  }

  -- what the investor wrote came in a frame, so it may stand in one
  asked_lawful : AreLawful
      (written_fields head (out.Request (record { number = number; ask = ask })))
  asked_lawful =
      let is = from.is_written in
      let came = frame_value is.came.bytes is.asked in
      request_lawful head named
      (subst IsValue (sym date_is) (date_read config.date (value_of 126 is.asked)
      from.request.ask.deadline is.says.deadline)) number ask
      (subst (λ (a : Ask). IsValue a.bond) from.ask_is
      (came 48 from.request.ask.bond is.came.frame is.says.bond))
      (subst (λ (a : Ask). IsValue a.investor) from.ask_is
      (subst IsValue (sym is.says.asker) (came 49 is.row.name is.came.frame is.says.sender)))

  pub request_text : SaysWhenRead (codes "R") (ShowsWhatWasAsked config facts dealer)
      (written head (out.Request (record { number = number; ask = ask })))
  request_text fields read type_is =
      subst (ShowsWhatWasAsked config facts dealer)
      (sym (fields_read head (out.Request (record { number = number; ask = ask })) fields read
      asked_lawful)) says_asked

-- Quotes.

module _ (config : Configuration) (facts : List Fact) (head : Head)
    (date_is : head.date ≡ config.date) (named : IsValue head.firm) (investor : ℕ)
    (shown : ShownOffer) (dealer : ℕ)
    (quote : AcceptedQuote) (is : IsShown config facts investor shown dealer quote)
    (offered : In shown (shown_to investor facts)) (own : AcceptedRequest)
    (same : own ≡ is.is_written.request) where
  -- the message
  abbrev bears : OfferedQuote
  bears = record {
    request = own.id;
    number = shown.number;
    bond = own.ask.bond;
    side = own.ask.side;
    price = shown.offer.price;
    quantity = own.ask.quantity;
    valid_until = shown.offer.valid_until;
    dealer = shown.offer.dealer;
  }

  abbrev fields : List Field
  fields = written_fields head (out.OfferedQuote bears)

  says_quoted : ShowsWhatWasQuoted config facts investor fields
  says_quoted =
      let at = quote_fields head own.id shown.number own.ask.bond shown.offer.price own.ask.quantity
      shown.offer.dealer own.ask.side shown.offer.valid_until in
      let wrote = is.is_written.is_quote.wrote in
      let says = is.is_written.is_quote.says in
      let asked = is.is_written.is_request.asked in
      let asks = is.is_written.is_request.says in
      let sides : quote.side ≡ own.ask.side =
      is.is_written.side ∙ sym (ap (λ (r : AcceptedRequest). r.ask.side) same) in
      record {
        offer = shown;
        is_offered = offered;
        dealer = dealer;
        quote = quote;
        is_shown = is;
        price = ap (λ (s : Side). option_map price_of (value_of (price_tag s) fields)) sides
            ∙ ap (λ (v : Option (List ℕ)). option_map price_of v) at.price
            ∙ ap (λ (o : Offer). Some (price_of (price_digits o.price))) is.offer
            ∙ ap (λ (r : Result ℕ PriceFault). Some r)
            (price_again (value_of (price_tag quote.side) wrote) quote.price says.price)
            ∙ sym says.price;
        bond = at.bond ∙ ap (λ (r : AcceptedRequest). Some r.ask.bond) same
            ∙ ap (λ (t : List ℕ). Some t) (sym is.is_written.bond) ∙ sym says.bond;
        valid_until = ap (λ (v : Option (List ℕ)). option_map (moment_of config.date) v)
            at.valid_until
            ∙ ap (λ (d : List ℕ). option_map (moment_of config.date)
            (option_map (timestamp_text d) shown.offer.valid_until)) date_is
            ∙ ap (λ (o : Offer). option_map (moment_of config.date)
            (option_map (timestamp_text config.date) o.valid_until)) is.offer
            ∙ until_again config.date (value_of 62 wrote) quote.valid_until says.valid_until;
        named = at.dealer ∙ ap (λ (o : Offer). Some o.dealer) is.offer ∙ sym says.sender;
        request = at.request ∙ ap (λ (r : AcceptedRequest). Some r.id) same ∙ sym asks.id;
        side = at.side ∙ ap (λ (r : AcceptedRequest). Some (decimal (side_code r.ask.side))) same
            ∙ sym asks.side;
        quantity = ap (λ (s : Side). option_map quantity_of (value_of (size_tag s) fields)) sides
            ∙ ap (λ (v : Option (List ℕ)). option_map quantity_of v) at.quantity
            ∙ ap (λ (r : AcceptedRequest). Some (quantity_of (decimal r.ask.quantity))) same
            ∙ ap (λ (r : Result ℕ SessionRejectReason). Some r)
            (quantity_again (value_of 38 asked) is.is_written.request.ask.quantity asks.quantity)
            ∙ sym asks.quantity;
      }

  -- what the two firms wrote came in frames, so it may stand in one
  quoted_lawful : AreLawful fields
  quoted_lawful =
      let wrote = is.is_written.is_quote in
      let asked = is.is_written.is_request in
      let came = frame_value asked.came.bytes asked.asked in
      quote_lawful head named
      (subst IsValue (sym date_is) (date_read config.date (value_of 126 asked.asked)
      is.is_written.request.ask.deadline asked.says.deadline)) bears
      (subst (λ (r : AcceptedRequest). IsValue r.id) (sym same)
      (came 131 is.is_written.request.id asked.came.frame asked.says.id))
      (subst (λ (r : AcceptedRequest). IsValue r.ask.bond) (sym same)
      (came 48 is.is_written.request.ask.bond asked.came.frame asked.says.bond))
      (subst (λ (o : Offer). IsValue o.dealer) (sym is.offer)
      (frame_value wrote.came.bytes wrote.wrote 49 wrote.row.name wrote.came.frame
      wrote.says.sender))

  pub quote_text : SaysWhenRead (codes "S") (ShowsWhatWasQuoted config facts investor)
      (written head (out.OfferedQuote (record {
        request = own.id;
        number = shown.number;
        bond = own.ask.bond;
        side = own.ask.side;
        price = shown.offer.price;
        quantity = own.ask.quantity;
        valid_until = shown.offer.valid_until;
        dealer = shown.offer.dealer;
      })))
  quote_text found read type_is =
      subst (ShowsWhatWasQuoted config facts investor)
      (sym (fields_read head (out.OfferedQuote bears) found read quoted_lawful)) says_quoted

  pub quote_beside : ShowsQuote config facts investor (written head (out.OfferedQuote (record {
    request = own.id;
    number = shown.number;
    bond = own.ask.bond;
    side = own.ask.side;
    price = shown.offer.price;
    quantity = own.ask.quantity;
    valid_until = shown.offer.valid_until;
    dealer = shown.offer.dealer;
  }))) shown
  unfolding written says_quoted
  quote_beside = record {
    fields = fields;
    body = (refl, quoted_lawful);
    text = refl;
    type_is = refl;
    number = refl;
    quoted = says_quoted;
    offer_is = refl;
  }
