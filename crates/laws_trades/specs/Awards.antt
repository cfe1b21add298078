-- When a hit may be awarded, and who is the cover.
use Rattle.std.specs.Prelude.{◌≡◌, ◌<◌, ℕ, true, List, [], Option, Some, None}
use Rattle.market_terms.specs.declared.asks.Side.{Side}
use Rattle.request_room.specs.Book.{IsBest, book_of, others}
use Rattle.request_room.specs.RoomFacts.{RoomFact, is_open, request_of}
use Rattle.request_room.specs.declared.ends.End.{End}
use Rattle.request_room.specs.declared.quotes.PostedQuote.{PostedQuote}
use Rattle.request_room.specs.declared.requests.RoomRequest.{RoomRequest}
use Rattle.step_replay.specs.Lists.{In}

-- An award at this moment, in a room of which this stood, is in time: the room was open, the winner's
-- quote stood in its book, and the moment is before the request's deadline and before the quote's own
-- validity ended.
pub record IsInTime (stood : List RoomFact) (award : End) (moment : ℕ) : Type 0 where
  pub was_open : is_open stood ≡ true
  pub quote : PostedQuote
  pub stands : In quote (book_of stood)
  pub winner : award.winner ≡ Some (quote.dealer, quote.word)
  pub deadline : (request : RoomRequest) → request_of stood ≡ Some request
      → moment < request.ask.deadline
  pub valid : (until : ℕ) → quote.valid_until ≡ Some until → moment < until

-- The cover among the quotes of the other dealers, for an investor of this side: the dealer of the
-- best of them (none is better, and each that was posted earlier is worse), and nobody where there is
-- none.
abbrev pub IsBestCover : Side → List PostedQuote → Option ℕ → Type 0
IsBestCover side quotes None = quotes ≡ []
IsBestCover side quotes (Some dealer) =
    (cover : PostedQuote) × IsBest side quotes cover × (cover.dealer ≡ dealer)

-- An award in a room of which this stood names the best cover: that among the quotes of the dealers
-- other than the winner which stood in its book.
pub record NamesBestCover (stood : List RoomFact) (award : End) : Type 0 where
  pub request : RoomRequest
  pub is_request : request_of stood ≡ Some request
  pub winner : PostedQuote
  pub stands : In winner (book_of stood)
  pub is_winner : award.winner ≡ Some (winner.dealer, winner.word)
  pub cover : IsBestCover request.ask.side (others winner.dealer (book_of stood)) award.cover
