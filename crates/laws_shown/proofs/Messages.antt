-- What the fields of a message say that shows a quote or a request.
use Rattle.std.proofs.Common.{◌≡◌, ℕ, Bool, true, false, List, codes, decimal, Option}
use Rattle.std.proofs.Common.{Some, None, Result, Ok, refl, sym, ap, ◌∙◌, option_map, inl}
use Rattle.bond_prices.specs.Price.{price_digits, price_of}
use Rattle.bond_prices.proofs.Meaning.{price_of-ok_iff}
use Rattle.bond_prices.proofs.ReadBack.{price_of-price_digits}
use Rattle.fix_fields.specs.Frame.{Field, frame_of, value_of}
use Rattle.fix_fields.specs.UtcTimestamp.{moment_of, timestamp_text}
use Rattle.fix_fields.specs.declared.fault.MomentFault.{MomentFault}
use Rattle.fix_fields.proofs.MomentLemmas.{is_own, moment_of-own}
use Rattle.market_terms.specs.Codes.{side_code}
use Rattle.market_terms.specs.declared.asks.Side.{Side}
use Rattle.market_terms.specs.declared.asks.Side.TheVariants as side
use Rattle.quote_messages.specs.Written.{msg_type_of, price_tag, size_tag, written, written_fields}
use Rattle.quote_messages.specs.declared.out_messages.Head.{Head}
use Rattle.quote_messages.specs.declared.out_messages.OutMessage.{OutMessage}
use Rattle.quote_messages.specs.declared.out_messages.OutMessage.TheVariants as out
use Rattle.quote_messages.specs.declared.out_messages.OfferedQuote.{OfferedQuote}
use Rattle.laws_shown.specs.Said.{SaysWhenRead}
use Rattle.laws_shown.specs.ShownQuotes.{ShowsNoQuote}
use Rattle.laws_shown.proofs.ReadBack.{type_read}
use Rattle.venue_rows.specs.Texts.{same_text}
use Rattle.std.proofs.lemmas.Bool.{both_ways}
use Rattle.std.proofs.lemmas.Option.{same_Some}

-- whether a message shows a request or a quote
abbrev pub shows : OutMessage → Bool
shows (out.Request request) = true
shows (out.OfferedQuote quote) = true
shows other = false

-- no other message has the type of one that does
plain_request : (message : OutMessage) → shows message ≡ false
    → same_text (msg_type_of message) (codes "R") ≡ false
plain_request (out.Request request) plain = cc
plain_request (out.OfferedQuote quote) plain = refl
plain_request other plain = refl

plain_quote : (message : OutMessage) → shows message ≡ false
    → same_text (msg_type_of message) (codes "S") ≡ false
plain_quote (out.Request request) plain = refl
plain_quote (out.OfferedQuote quote) plain = cc
plain_quote other plain = refl

not_request : (message : OutMessage) → shows message ≡ false
    → msg_type_of message ≡ codes "R" → ⊥
not_request message plain is =
    both_ways (same_text (msg_type_of message) (codes "R")) (plain_request message plain)
    (ap (λ (t : List ℕ). same_text t (codes "R")) is)

not_quote : (message : OutMessage) → shows message ≡ false
    → msg_type_of message ≡ codes "S" → ⊥
not_quote message plain is =
    both_ways (same_text (msg_type_of message) (codes "S")) (plain_quote message plain)
    (ap (λ (t : List ℕ). same_text t (codes "S")) is)

some_same : {A : Type 0} (x y : A) → Some x ≡ Some y → x ≡ y
some_same x y is = same_Some x y is

-- a message is read as one of its own type
typed : (head : Head) (message : OutMessage) (msg_type : List ℕ) (fields : List Field)
    → frame_of (written head message) ≡ Some fields → value_of 35 fields ≡ Some msg_type
    → msg_type_of message ≡ msg_type
typed head message msg_type fields read is =
    some_same (msg_type_of message) msg_type (sym (type_read head message fields read) ∙ is)

pub plain_to_dealer : (Says : List Field → Type 0) (head : Head) (message : OutMessage)
    → shows message ≡ false → SaysWhenRead (codes "R") Says (written head message)
plain_to_dealer Says head message plain fields read is =
    absurd (not_request message plain (typed head message (codes "R") fields read is))

pub plain_shows_none : (head : Head) (message : OutMessage) → shows message ≡ false
    → ShowsNoQuote (written head message)
plain_shows_none head message plain fields read is =
    not_quote message plain (typed head message (codes "S") fields read is)

pub plain_to_investor : (Says : List Field → Type 0) (head : Head) (message : OutMessage)
    → shows message ≡ false → SaysWhenRead (codes "S") Says (written head message)
plain_to_investor Says head message plain fields read is =
    absurd (plain_shows_none head message plain fields read is)

-- The fields of a quote as it is shown.
pub record QuoteFields (head : Head) (quote : OfferedQuote) : Type 0 where
  pub request : value_of 131 (written_fields head (out.OfferedQuote quote)) ≡ Some quote.request
  pub bond : value_of 48 (written_fields head (out.OfferedQuote quote)) ≡ Some quote.bond
  pub side : value_of 54 (written_fields head (out.OfferedQuote quote))
      ≡ Some (decimal (side_code quote.side))
  pub price : value_of (price_tag quote.side) (written_fields head (out.OfferedQuote quote))
      ≡ Some (price_digits quote.price)
  pub quantity : value_of (size_tag quote.side) (written_fields head (out.OfferedQuote quote))
      ≡ Some (decimal quote.quantity)
  pub valid_until : value_of 62 (written_fields head (out.OfferedQuote quote))
      ≡ option_map (timestamp_text head.date) quote.valid_until
  pub dealer : value_of 448 (written_fields head (out.OfferedQuote quote)) ≡ Some quote.dealer

-- a quote with these values
abbrev quote_with : List ℕ → ℕ → List ℕ → ℕ → ℕ → List ℕ → Side → Option ℕ → OfferedQuote
quote_with request number bond price quantity dealer asked until = record {
  request = request;
  number = number;
  bond = bond;
  side = asked;
  price = price;
  quantity = quantity;
  valid_until = until;
  dealer = dealer;
}

pub quote_fields : (head : Head) (request : List ℕ) (number : ℕ) (bond : List ℕ)
    (price quantity : ℕ) (dealer : List ℕ) (asked : Side) (until : Option ℕ)
    → QuoteFields head (quote_with request number bond price quantity dealer asked until)
quote_fields head request number bond price quantity dealer side.Buy None = record {
  request = refl;
  bond = refl;
  side = refl;
  price = refl;
  quantity = refl;
  valid_until = refl;
  dealer = refl;
}
quote_fields head request number bond price quantity dealer side.Buy (Some until) = record {
  request = refl;
  bond = refl;
  side = refl;
  price = refl;
  quantity = refl;
  valid_until = refl;
  dealer = refl;
}
quote_fields head request number bond price quantity dealer side.Sell None = record {
  request = refl;
  bond = refl;
  side = refl;
  price = refl;
  quantity = refl;
  valid_until = refl;
  dealer = refl;
}
quote_fields head request number bond price quantity dealer side.Sell (Some until) = record {
  request = refl;
  bond = refl;
  side = refl;
  price = refl;
  quantity = refl;
  valid_until = refl;
  dealer = refl;
}

-- What is read is written, and read again.

pub price_again : (value : Option (List ℕ)) (price : ℕ)
    → option_map price_of value ≡ Some (Ok price) → price_of (price_digits price) ≡ Ok price
price_again None price is = cc
price_again (Some text) price is =
    let read = (price_of-ok_iff text price).0 (some_same _ _ is) in
    price_of-price_digits price read.at_least_one read.at_most

moment_text : (date text : List ℕ) (moment : ℕ) → moment_of date text ≡ Ok moment
    → moment_of date (timestamp_text date moment) ≡ Ok moment
moment_text date text moment is =
    let own = is_own date moment text is in
    moment_of-own date moment (timestamp_text date moment)
    (record { date_is = own.date_is; moment = own.moment; spelling = inl refl })

pub moment_again : (date : List ℕ) (value : Option (List ℕ)) (moment : ℕ)
    → option_map (moment_of date) value ≡ Some (Ok moment)
    → moment_of date (timestamp_text date moment) ≡ Ok moment
moment_again date None moment is = cc
moment_again date (Some text) moment is = moment_text date text moment (some_same _ _ is)

pub until_again : (date : List ℕ) (value : Option (List ℕ)) (until : Option ℕ)
    → option_map (moment_of date) value ≡ option_map (λ (m : ℕ). Ok m) until
    → option_map (moment_of date) (option_map (timestamp_text date) until)
    ≡ option_map (moment_of date) value
until_again date value None is = sym is
until_again date value (Some moment) is =
    ap (λ (r : Result ℕ MomentFault). Some r) (moment_again date value moment is) ∙ sym is
