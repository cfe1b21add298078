-- What a room keeps beside its events: names for its private invariant and its private functions,
-- which no public clause names. The book is kept best first, and each quote in it with the number
-- of its posting; the definitions of `Book` list it in the order of posting.
use Rattle.std.specs.Prelude.{◌≡◌, ℕ, ◌+◌, ◌<◌, ◌≤◌, Bool, ◌&&◌, ◌==◌, nat_lt}
use Rattle.std.specs.Prelude.{List, [], ◌∷◌, map, fold, Option, Some, None, if◌then◌else◌}
use Rattle.market_terms.specs.declared.asks.Side.{Side}
use Rattle.request_room.specs.declared.book.RankedQuote.{RankedQuote}
use Rattle.request_room.specs.declared.ends.End.{End}
use Rattle.request_room.specs.declared.quotes.PostedQuote.{PostedQuote}
use Rattle.request_room.specs.declared.requests.RoomRequest.{RoomRequest}
use Rattle.request_room.specs.RoomFacts.{RoomFact, request_of, is_ready, end_of}
use Rattle.request_room.specs.Book.{book_of, is_better, is_quote_of}

-- a quote put where it ranks: behind each than which it is not better
abbrev pub rank_in : Side → List RankedQuote → RankedQuote → List RankedQuote
rank_in side [] new = new ∷ []
rank_in side (kept ∷ others) new =
    if is_better side new.quote.price kept.quote.price
    then new ∷ kept ∷ others
    else kept ∷ rank_in side others new

-- quotes in the order of their posting, ranked: the best first, of equal prices the earlier posted
abbrev pub ranked : Side → List RankedQuote → List RankedQuote
ranked side posted = fold (rank_in side) [] posted

-- whether a kept quote bears this word
abbrev pub bears : ℕ → RankedQuote → Bool
bears w kept = kept.quote.word == w

-- whether a quote bears a word and was posted before the one found so far
abbrev pub comes_first : ℕ → Option RankedQuote → RankedQuote → Bool
comes_first w None kept = bears w kept
comes_first w (Some found) kept = bears w kept && nat_lt kept.posting found.posting

-- of the quotes that bear a word, the earlier posted of the one found so far and the next one
abbrev pub earlier_of : ℕ → Option RankedQuote → RankedQuote → Option RankedQuote
earlier_of w found kept = if comes_first w found kept then Some kept else found

-- the earliest posted of the quotes that bear a word
abbrev pub earliest_of : ℕ → List RankedQuote → Option RankedQuote
earliest_of w quotes = fold (earlier_of w) None quotes

-- whether a kept quote is that of this dealer with this word
abbrev pub is_kept_of : ℕ → ℕ → RankedQuote → Bool
is_kept_of dealer w kept = is_quote_of dealer w kept.quote

-- the quotes without the numbers of their postings
abbrev pub quotes_in : List RankedQuote → List PostedQuote
quotes_in kept = map (λ one. one.quote) kept

-- the numbers of the postings rise, from a least one on and below an end
abbrev pub IsPostedIn : ℕ → ℕ → List RankedQuote → Type 0
IsPostedIn least end [] = Unit {0}
IsPostedIn least end (kept ∷ later) =
    (least ≤ kept.posting) × (kept.posting < end) × IsPostedIn (kept.posting + 1) end later

-- the kept quotes are the posted ones, ranked for the side that asks; a vacant room has none
abbrev pub Ranks : Option RoomRequest → Side → List RankedQuote → List RankedQuote → Type 0
Ranks None side posted kept = (posted ≡ []) × (kept ≡ [])
Ranks (Some request) side posted kept = (side ≡ request.ask.side) × (kept ≡ ranked side posted)

-- what is kept of the facts, with the book in the order of posting
pub record Keeps (facts : List RoomFact) (request : Option RoomRequest) (ready : Bool)
    (book : List PostedQuote) (end : Option End) : Type 0 where
  pub request_is : request ≡ request_of facts
  pub ready_is : ready ≡ is_ready facts
  pub book_is : book ≡ book_of facts
  pub end_is : end ≡ end_of facts

-- what a room keeps of its facts after so many events
pub record KeepsRoom (facts : List RoomFact) (events : ℕ) (request : Option RoomRequest)
    (ready : Bool) (side : Side) (kept : List RankedQuote) (end : Option End) : Type 0 where
  pub posted : List RankedQuote
  pub keeps : Keeps facts request ready (quotes_in posted) end
  pub ranks : Ranks request side posted kept
  pub in_order : IsPostedIn 0 events posted
