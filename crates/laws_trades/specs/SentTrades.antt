-- A trade as the messages of its two sides say it, field by field.
use Rattle.std.specs.Prelude.{◌≡◌, ℕ, Bool, true, false, ◌&&◌, List, codes, decimal, Option, Some}
use Rattle.std.specs.Prelude.{None, is_some}
use Rattle.bond_prices.specs.Price.{price_digits}
use Rattle.fix_fields.specs.Frame.{AreBody, Field, frame_text, value_of}
use Rattle.market_terms.specs.Codes.{side_code}
use Rattle.quote_messages.specs.Written.{price_tag, quote_name, request_name}
use Rattle.venue_rows.specs.Rows.{Configuration}
use Rattle.venue_rows.specs.Texts.{same_text}
use Rattle.step_replay.specs.AuditTrail.{AuditTrail, sent_to}
use Rattle.step_replay.specs.Lists.{In}
use Rattle.laws_trades.specs.Trades.{Trade}

-- Which messages are of a trade.

-- whether a value is this text
abbrev pub is_text : List ℕ → Option (List ℕ) → Bool
is_text text None = false
is_text text (Some value) = same_text value text

-- whether the first field with this tag has this value
abbrev pub says : ℕ → List ℕ → List Field → Bool
says tag text fields = is_text text (value_of tag fields)

-- whether fields are an answer 297=0 to a hit: a QuoteStatusReport (35=AI) with the QuoteRespID
-- (693) of the hit
abbrev pub is_answer : List Field → Bool
is_answer fields =
    says 35 (codes "AI") fields && says 297 (codes "0") fields && is_some (value_of 693 fields)

-- whether fields are a notice that a dealer's quote was hit: a QuoteResponse (35=AJ) with 694=1
abbrev pub is_notice : List Field → Bool
is_notice fields = says 35 (codes "AJ") fields && says 694 (codes "1") fields

module _ {config : Configuration} (trail : AuditTrail) (trade : Trade config trail.facts)
    (fields : List Field) where
  -- The fields are the answer to the hit of a trade: it was sent to the trade's investor, and its
  -- QuoteID (117) names the quote that was hit. They may stand in a frame, so whoever reads it as
  -- one reads these.
  pub record AnswersTrade : Type 0 where
    pub body : AreBody fields
    pub sent : In (frame_text fields) (sent_to config trade.deal.investor trail)
    pub is : is_answer fields ≡ true
    pub quote : value_of 117 fields ≡ Some (quote_name trade.deal.shown.number)

  -- The fields are the notice of a trade: it was sent to the trade's dealer, and names the dealer's
  -- quote (117) and its request (131), with the bond, the side, the quantity and the price.
  pub record NotesTrade : Type 0 where
    pub body : AreBody fields
    pub sent : In (frame_text fields) (sent_to config trade.deal.dealer trail)
    pub is : is_notice fields ≡ true
    pub request : value_of 131 fields ≡ Some (request_name trade.deal.quote.request)
    pub quote : value_of 117 fields ≡ Some trade.deal.quote.id
    pub bond : value_of 48 fields ≡ Some trade.deal.asked.ask.bond
    pub side : value_of 54 fields ≡ Some (decimal (side_code trade.deal.asked.ask.side))
    pub quantity : value_of 38 fields ≡ Some (decimal trade.deal.asked.ask.quantity)
    pub price : value_of (price_tag trade.deal.asked.ask.side) fields
        ≡ Some (price_digits trade.deal.quote.price)

-- What an investor reads in fields that answer a hit with 297=0 is of a trade, whose dealer was
-- sent its notice.
pub record AnswerIsOfTrade (config : Configuration) (trail : AuditTrail) (investor : ℕ)
    (fields : List Field) : Type 0 where
  pub trade : Trade config trail.facts
  pub investor_is : trade.deal.investor ≡ investor
  pub answer : AnswersTrade trail trade fields
  pub others : List Field
  pub notice : NotesTrade trail trade others

-- What a dealer reads in fields that are a notice 694=1 is of a trade, whose investor was sent its
-- answer.
pub record NoticeIsOfTrade (config : Configuration) (trail : AuditTrail) (dealer : ℕ)
    (fields : List Field) : Type 0 where
  pub trade : Trade config trail.facts
  pub dealer_is : trade.deal.dealer ≡ dealer
  pub notice : NotesTrade trail trade fields
  pub others : List Field
  pub answer : AnswersTrade trail trade others
