-- What the fields of a message say, read as the venue reads them, and what firms wrote: the
-- QuoteRequest (35=R) of an investor that was accepted, and the Quote (35=S) of a dealer that was.
use Rattle.std.specs.Prelude.{◌≡◌, ℕ, true, List, map, slice_get, codes, decimal, Option, Some, None}
use Rattle.std.specs.Prelude.{Result, Ok}
use Rattle.std.specs.Option.{option_map}
use Rattle.bond_prices.specs.Price.{price_of}
use Rattle.bond_prices.specs.declared.fault.PriceFault.{PriceFault}
use Rattle.fix_fields.specs.Frame.{Field, frame_of, value_of}
use Rattle.fix_fields.specs.UtcTimestamp.{moment_of}
use Rattle.fix_fields.specs.declared.fault.MomentFault.{MomentFault}
use Rattle.market_terms.specs.Codes.{side_code}
use Rattle.market_terms.specs.declared.asks.Side.{Side}
use Rattle.market_terms.specs.declared.asks.Side.TheVariants.{Buy, Sell}
use Rattle.quote_messages.specs.PartyGroup.{named_dealers}
use Rattle.quote_messages.specs.ValueForms.{quantity_of}
use Rattle.quote_messages.specs.Written.{price_tag, request_name}
use Rattle.quote_messages.specs.declared.session_faults.SessionRejectReason.{SessionRejectReason}
use Rattle.dealer_desk.specs.DealerFacts.{DealerFact}
use Rattle.dealer_desk.specs.DealerFacts as at_dealer
use Rattle.dealer_desk.specs.declared.accepted.AcceptedQuote.{AcceptedQuote}
use Rattle.investor_desk.specs.InvestorFacts.{InvestorFact}
use Rattle.investor_desk.specs.InvestorFacts as at_investor
use Rattle.investor_desk.specs.declared.standing.AcceptedRequest.{AcceptedRequest}
use Rattle.step_replay.specs.Lists.{In}

-- Fields.

-- the price that a tag has, where it stands
abbrev pub price_at : ℕ → List Field → Option (Result ℕ PriceFault)
price_at tag fields = option_map price_of (value_of tag fields)

-- the quantity that a tag has, where it stands
abbrev pub quantity_at : ℕ → List Field → Option (Result ℕ SessionRejectReason)
quantity_at tag fields = option_map quantity_of (value_of tag fields)

-- the moment of this date that a tag has, where it stands
abbrev pub moment_at : List ℕ → ℕ → List Field → Option (Result ℕ MomentFault)
moment_at date tag fields = option_map (moment_of date) (value_of tag fields)

-- the tag of the price that an investor of this side does not ask for: BidPx (132) where it buys,
-- and OfferPx (133) where it sells
abbrev pub other_price_tag : Side → ℕ
other_price_tag Buy = 132
other_price_tag Sell = 133

-- a size (BidSize 134, OfferSize 135) was left out, or is this quantity
abbrev pub IsLeftOutOr : ℕ → Option (Result ℕ SessionRejectReason) → Type 0
IsLeftOutOr quantity None = Unit {0}
IsLeftOutOr quantity (Some size) = size ≡ Ok quantity

-- What came to a desk.

-- a message with these fields came to a dealer's desk at this moment, in its sequence
pub record CameToDealer (facts : List DealerFact) (moment : ℕ) (fields : List Field) : Type 0 where
  pub bytes : List ℕ
  pub came : In (at_dealer.Came moment bytes true) facts
  pub frame : frame_of bytes ≡ Some fields

-- the same of an investor's desk
pub record CameToInvestor (facts : List InvestorFact) (moment : ℕ) (fields : List Field)
    : Type 0 where
  pub bytes : List ℕ
  pub came : In (at_investor.Came moment bytes true) facts
  pub frame : frame_of bytes ≡ Some fields

-- What was written.

-- These fields are a QuoteRequest of the firm with this name, and ask for what the request does
-- that was accepted, and ask the same dealers. The fields give these by their names, in their order
-- (PartyID 448, where 447 is D and 452 is 35), and the request by their numbers, each its place among
-- the names of the venue's dealers.
pub record SaysRequest (date : List ℕ) (dealers : List (List ℕ)) (name : List ℕ)
    (fields : List Field) (request : AcceptedRequest) : Type 0 where
  pub is_request : value_of 35 fields ≡ Some (codes "R")
  pub sender : value_of 49 fields ≡ Some name
  pub id : value_of 131 fields ≡ Some request.id
  pub bond : value_of 48 fields ≡ Some request.ask.bond
  pub side : value_of 54 fields ≡ Some (decimal (side_code request.ask.side))
  pub quantity : quantity_at 38 fields ≡ Some (Ok request.ask.quantity)
  pub deadline : moment_at date 126 fields ≡ Some (Ok request.ask.deadline)
  pub asker : request.ask.investor ≡ name
  pub named : map (λ (dealer : ℕ). slice_get dealers dealer) request.dealers
      ≡ map (λ (text : List ℕ). Some text) (named_dealers fields)

-- These fields are a Quote of the firm with this name, and give the price that the quote has that
-- was accepted, on the side that is asked for, and none on the other side; where they give a
-- quantity, it is that of the quote.
pub record SaysQuote (date name : List ℕ) (fields : List Field) (quote : AcceptedQuote)
    : Type 0 where
  pub is_quote : value_of 35 fields ≡ Some (codes "S")
  pub sender : value_of 49 fields ≡ Some name
  pub id : value_of 117 fields ≡ Some quote.id
  pub request : value_of 131 fields ≡ Some (request_name quote.request)
  pub bond : value_of 48 fields ≡ Some quote.bond
  pub price : price_at (price_tag quote.side) fields ≡ Some (Ok quote.price)
  pub lone : value_of (other_price_tag quote.side) fields ≡ None
  pub bid_size : IsLeftOutOr quote.quantity (quantity_at 134 fields)
  pub offer_size : IsLeftOutOr quote.quantity (quantity_at 135 fields)
  pub valid_until : moment_at date 62 fields ≡ option_map Ok quote.valid_until

-- What was sent.

-- Whoever reads the message as a frame, and finds this type (35) in it, reads fields that say this.
abbrev pub SaysWhenRead : List ℕ → (List Field → Type 0) → List ℕ → Type 0
SaysWhenRead msg_type Says message = (fields : List Field) → frame_of message ≡ Some fields
    → value_of 35 fields ≡ Some msg_type → Says fields
