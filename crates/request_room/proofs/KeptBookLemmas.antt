-- The book of a room that is kept best first, and what is answered from it.
use Rattle.std.proofs.Common.{◌≡◌, ℕ, ◌+◌, ◌≤◌, Bool, true, false, ◌==◌, not, cond, List, [], ◌∷◌}
use Rattle.std.proofs.Common.{◌++◌, Option, Some, None, filter, find, fold, refl, ap, sym, ◌∙◌}
use Rattle.std.proofs.Common.{arith}
use Rattle.std.specs.List.{list_any, best_of as best_so_far}
use Rattle.std.specs.Option.{option_map}
use Rattle.market_terms.specs.declared.asks.Side.{Side}
use Rattle.request_room.specs.declared.book.RankedQuote.{RankedQuote}
use Rattle.request_room.specs.declared.ends.End.{End}
use Rattle.request_room.specs.declared.quotes.PostedQuote.{PostedQuote}
use Rattle.request_room.specs.declared.requests.RoomRequest.{RoomRequest}
use Rattle.request_room.specs.RoomFacts.{RoomFact, request_of}
use Rattle.request_room.specs.Book.{book_of, others, stands, is_quote_of, is_better}
use Rattle.request_room.specs.Book.{has_better_price, best_of, cover_of, cover_for, quote_meant}
use Rattle.request_room.specs.Kept.{KeepsRoom, Ranks, IsPostedIn, quotes_in, rank_in, ranked}
use Rattle.request_room.specs.Kept.{earliest_of, is_kept_of}
use Rattle.request_room.proofs.CoverLemmas.{best_is_so_far}
use Rattle.request_room.proofs.EarliestLemmas.{earliest-ranked}
use Rattle.request_room.proofs.RankLemmas.{any-ranked}
use Rattle.request_room.proofs.RankedLists.{filter-ranked}

-- The book.

-- the kept quotes are the posted ones, ranked
kept_is : (request : Option RoomRequest) (side : Side) (posted kept : List RankedQuote)
    → Ranks request side posted kept → kept ≡ ranked side posted
kept_is None side posted kept ranks = ranks.1 ∙ sym (ap (ranked side) ranks.0)
kept_is (Some request) side posted kept ranks = ranks.1

quotes-filter_step : (here : Bool) (one : RankedQuote) (left : List RankedQuote)
    (rest : List PostedQuote) → quotes_in left ≡ rest → quotes_in (cond here (one ∷ left) left)
    ≡ cond here (one.quote ∷ rest) rest
quotes-filter_step true one left rest h = ap (λ quotes. one.quote ∷ quotes) h
quotes-filter_step false one left rest h = h

pub quotes-filter : (p : PostedQuote → Bool) (posted : List RankedQuote)
    → quotes_in (filter (λ one. p one.quote) posted) ≡ filter p (quotes_in posted)
quotes-filter p [] = refl
quotes-filter p (one ∷ later) =
    quotes-filter_step (p one.quote) one (filter (λ other. p other.quote) later)
    (filter p (quotes_in later)) (quotes-filter p later)

-- the quotes left after a filter are posted as before
from_earlier : (least earlier end : ℕ) (posted : List RankedQuote) → earlier ≤ least
    → IsPostedIn least end posted → IsPostedIn earlier end posted
from_earlier least earlier end [] h posted = tt
from_earlier least earlier end (one ∷ later) h posted = (omega arith, posted.1, posted.2)

pub posted_left : (least end : ℕ) (p : RankedQuote → Bool) (posted : List RankedQuote)
    → IsPostedIn least end posted → IsPostedIn least end (filter p posted)
posted_left least end p [] h = tt
posted_left least end p (one ∷ later) h =
    let rest : IsPostedIn (one.posting + 1) end (filter p later) =
    posted_left (one.posting + 1) end p later h.2 in
    elim (p one) as (λ b. IsPostedIn least end (cond b (one ∷ filter p later) (filter p later))) [
      | true ↦ (h.0, h.1, rest)
      | false ↦ from_earlier (one.posting + 1) least end (filter p later)
          (omega arith) rest
    ]

pub until_later : (least end : ℕ) (posted : List RankedQuote) → IsPostedIn least end posted
    → IsPostedIn least (end + 1) posted
until_later least end [] h = tt
until_later least end (one ∷ later) h =
    (h.0, omega arith, until_later (one.posting + 1) end later h.2)

pub posted_then : (least end : ℕ) (posted : List RankedQuote) (quote : PostedQuote) → least ≤ end
    → IsPostedIn least end posted → IsPostedIn least (end + 1)
    (posted ++ (record { posting = end; quote = quote }) ∷ [])
posted_then least end [] quote room h = (room, omega arith, tt)
posted_then least end (one ∷ later) quote room h =
    (h.0, omega arith, posted_then (one.posting + 1) end later quote (omega arith) h.2)

-- What is answered from it.

abbrev first_of : List RankedQuote → Option RankedQuote
first_of [] = None
first_of (one ∷ others) = Some one

find-filter : (p : RankedQuote → Bool) (quotes : List RankedQuote) → find p quotes
    ≡ first_of (filter p quotes)
find-filter p [] = refl
find-filter p (one ∷ others) =
    elim (p one) as (λ b. cond b (Some one) (find p others)
    ≡ first_of (cond b (one ∷ filter p others) (filter p others)))
    [ true ↦ refl | false ↦ find-filter p others ]

-- the first of the ranked quotes is the best so far
first_ranked : (side : Side) (best : RankedQuote) (behind later : List RankedQuote)
    → option_map (λ one. one.quote) (first_of (fold (rank_in side) (best ∷ behind) later))
    ≡ Some (best_so_far (has_better_price side) best.quote (quotes_in later))
first_ranked side best behind [] = refl
first_ranked side best behind (new ∷ later) =
    elim (is_better side new.quote.price best.quote.price) as (λ b.
    option_map (λ one. one.quote)
    (first_of (fold (rank_in side)
    (cond b (new ∷ best ∷ behind) (best ∷ rank_in side behind new)) later))
    ≡ Some (best_so_far (has_better_price side) (cond b new.quote best.quote) (quotes_in later))) [
      | true ↦ first_ranked side new (best ∷ behind) later
      | false ↦ first_ranked side best
          (rank_in side behind new) later
    ]

best_ranked : (side : Side) (posted : List RankedQuote)
    → option_map (λ one. one.quote) (first_of (ranked side posted))
    ≡ best_of side (quotes_in posted)
best_ranked side [] = refl
best_ranked side (first ∷ later) =
    first_ranked side first [] later ∙ sym (best_is_so_far side first.quote (quotes_in later))

-- the first kept quote of another dealer is the cover
cover_ranked : (side : Side) (winner : ℕ) (posted : List RankedQuote)
    → option_map (λ one. one.quote)
    (find (λ one. not (one.quote.dealer == winner)) (ranked side posted))
    ≡ cover_of side winner (quotes_in posted)
unfolding cover_of
cover_ranked side winner posted =
    let is_other : RankedQuote → Bool = λ one. not (one.quote.dealer == winner) in
    ap (option_map (λ one. one.quote))
    (find-filter is_other (ranked side posted) ∙ ap first_of (filter-ranked side is_other posted))
    ∙ best_ranked side (filter is_other posted)
    ∙ ap (best_of side) (quotes-filter (λ quote. not (quote.dealer == winner)) posted)

cover_by_request : (request : Option RoomRequest) (side : Side) (posted kept : List RankedQuote)
    (winner : PostedQuote) → Ranks request side posted kept
    → option_map (λ one. one.quote) (find (λ one. not (one.quote.dealer == winner.dealer)) kept)
    ≡ cover_for request (Some winner) (quotes_in posted)
cover_by_request None side posted kept winner ranks =
    ap (λ quotes. option_map (λ one. one.quote)
    (find (λ one. not (one.quote.dealer == winner.dealer)) quotes)) ranks.1
cover_by_request (Some request) side posted kept winner ranks =
    ap (λ quotes. option_map (λ one. one.quote)
    (find (λ one. not (one.quote.dealer == winner.dealer)) quotes)) ranks.1
    ∙ cover_ranked side winner.dealer posted
    ∙ ap (λ asked. cover_of asked winner.dealer (quotes_in posted)) ranks.0

dealer_of : (found : Option RankedQuote) → option_map (λ one. one.quote.dealer) found
    ≡ option_map (λ quote. quote.dealer) (option_map (λ one. one.quote) found)
dealer_of None = refl
dealer_of (Some one) = refl

-- without a winner there is no cover
pub no_cover : (request : Option RoomRequest) (book : List PostedQuote)
    → cover_for request None book ≡ None
no_cover None book = refl
no_cover (Some request) book = refl

module _ {facts : List RoomFact} {events : ℕ} {request : Option RoomRequest} {ready : Bool}
    {side : Side} {kept : List RankedQuote} {end : Option End}
    (room : KeepsRoom facts events request ready side kept end) where
  ranked_kept : kept ≡ ranked side room.posted
  ranked_kept = kept_is request side room.posted kept room.ranks

  cover_quote : (winner : PostedQuote)
      → option_map (λ one. one.quote) (find (λ one. not (one.quote.dealer == winner.dealer)) kept)
      ≡ cover_for (request_of facts) (Some winner) (book_of facts)
  cover_quote winner =
      cover_by_request request side room.posted kept winner room.ranks
      ∙ ap (λ asked. cover_for asked (Some winner) (quotes_in room.posted)) room.keeps.request_is
      ∙ ap (cover_for (request_of facts) (Some winner)) room.keeps.book_is

  pub cover_is : (winner : PostedQuote)
      → option_map (λ one. one.quote.dealer)
      (find (λ one. not (one.quote.dealer == winner.dealer)) kept)
      ≡ option_map (λ quote. quote.dealer)
      (cover_for (request_of facts) (Some winner) (book_of facts))
  cover_is winner =
      dealer_of (find (λ one. not (one.quote.dealer == winner.dealer)) kept)
      ∙ ap (option_map (λ quote. quote.dealer)) (cover_quote winner)

  pub meant_is : (w : ℕ) → option_map (λ one. one.quote) (earliest_of w kept)
      ≡ quote_meant (book_of facts) w
  meant_is w =
      ap (λ quotes. option_map (λ one. one.quote) (earliest_of w quotes)) ranked_kept
      ∙ earliest-ranked w events side room.posted room.in_order
      ∙ ap (λ book. quote_meant book w) room.keeps.book_is

  pub stands_is : (dealer w : ℕ) → list_any (is_kept_of dealer w) kept
      ≡ stands (book_of facts) dealer w
  stands_is dealer w =
      ap (list_any (is_kept_of dealer w)) ranked_kept
      ∙ any-ranked side (is_quote_of dealer w) room.posted
      ∙ ap (λ book. stands book dealer w) room.keeps.book_is
