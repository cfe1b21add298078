-- The venue's messages.
use Rattle.std.specs.Prelude.{◌≡◌, ℕ, List, [], ◌∷◌, codes}
use Rattle.quote_messages.specs.Written.{written}
use Rattle.quote_messages.specs.declared.out_messages.Head.{Head}
use Rattle.quote_messages.specs.declared.out_messages.OutMessage.{OutMessage}

-- bytes are the text of one of the messages that the venue writes, under some header
pub record IsWritten (bytes : List ℕ) : Type 0 where
  pub head : Head
  pub message : OutMessage
  pub is : bytes ≡ written head message

-- the types (35) of these messages: Reject, QuoteRequest, Quote, QuoteRequestReject,
-- QuoteStatusReport and QuoteResponse
abbrev pub venue_types : List (List ℕ)
venue_types = codes "3" ∷ codes "R" ∷ codes "S" ∷ codes "AG" ∷ codes "AI" ∷ codes "AJ" ∷ []
