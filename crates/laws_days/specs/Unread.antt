-- Bytes that a desk can't read, and when two desks stand alike.
use Rattle.std.specs.Prelude.{◌≡◌, ℕ, List, None}
use Rattle.fix_fields.specs.Frame.{Field, IsFrame}
use Rattle.quote_messages.specs.Arrivals.{sequence_number}
use Rattle.dealer_desk.specs.DealerFacts as dealer_facts
use Rattle.dealer_desk.specs.DealerOutput as dealer_output
use Rattle.investor_desk.specs.InvestorFacts as investor_facts
use Rattle.investor_desk.specs.InvestorOutput as investor_output

-- bytes are no frame, or a frame in which no readable MsgSeqNum (34) stands once
abbrev pub IsUnread : List ℕ → Type 0
IsUnread bytes = (fields : List Field) → IsFrame bytes fields → sequence_number fields ≡ None

-- Two states of a dealer's desk are alike to every rule and in every message that is sent from now
-- on: the same stands by their facts (the number that is expected next, the requests, the quotes),
-- and the dealer was sent the same.
pub record IsSameDealer (one other : dealer_output.DeskState) : Type 0 where
  pub book : dealer_facts.book_of one.facts ≡ dealer_facts.book_of other.facts
  pub sent : one.sent ≡ other.sent

-- the same of an investor's desk
pub record IsSameInvestor (one other : investor_output.DeskState) : Type 0 where
  pub book : investor_facts.book_of one.facts ≡ investor_facts.book_of other.facts
  pub sent : one.sent ≡ other.sent
