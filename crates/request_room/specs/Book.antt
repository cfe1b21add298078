-- The book of a room, what a hit meets there, what the cover is, and the room after a list of its
-- events.
use Rattle.std.specs.Prelude.{◌≡◌, ◌≢◌, ℕ, Bool, true, false, ◌&&◌, ◌==◌, not, nat_lt, nat_le, List}
use Rattle.std.specs.Prelude.{[], ◌∷◌, ◌++◌, Option, Some, None, IfSome, is_none, Result, Ok, Err}
use Rattle.std.specs.Prelude.{fold, find, filter, length, slice_index_or, if◌then◌else◌}
use Rattle.std.specs.List.{list_any, IsFirstBest}
use Rattle.std.specs.Option.{option_map}
use Rattle.market_terms.specs.Checks.{first_refusal, is_not_after}
use Rattle.market_terms.specs.declared.asks.Side.{Side}
use Rattle.market_terms.specs.declared.asks.Side.TheVariants.{Buy, Sell}
use Rattle.market_terms.specs.declared.closes.HitRefusal.{HitRefusal}
use Rattle.market_terms.specs.declared.closes.HitRefusal.TheVariants as refusal
use Rattle.market_terms.specs.declared.closes.Reply.{Reply}
use Rattle.market_terms.specs.declared.closes.Reply.TheVariants as reply
use Rattle.quote_word.specs.declared.settled.Settled.{Settled}
use Rattle.quote_word.specs.declared.settled.Settled.TheVariants.{Withdrawn, Lifted}
use Rattle.request_room.specs.declared.ends.End.{End}
use Rattle.request_room.specs.declared.ends.EndKind.{EndKind}
use Rattle.request_room.specs.declared.ends.EndKind.TheVariants as ends
use Rattle.request_room.specs.declared.events.RoomEvent.{RoomEvent}
use Rattle.request_room.specs.declared.events.RoomEvent.TheVariants as event
use Rattle.request_room.specs.declared.quotes.PostedQuote.{PostedQuote}
use Rattle.request_room.specs.declared.requests.RoomRequest.{RoomRequest}
use Rattle.request_room.specs.RoomFacts.{RoomFact, Opened, Readied, Posted, Unposted, Noted, Ended}
use Rattle.request_room.specs.RoomFacts.{request_of, is_vacant, is_opening}
use Rattle.request_room.specs.RoomFacts.{is_open, takes_quotes}

-- The book.

-- whether a quote is that of this dealer with this word
abbrev pub is_quote_of : ℕ → ℕ → PostedQuote → Bool
is_quote_of dealer w quote = (quote.dealer == dealer) && (quote.word == w)

-- whether a fact takes a quote out of the book: its dealer posts another, or it is unposted
abbrev pub takes_out : PostedQuote → RoomFact → Bool
takes_out quote (Posted next) = quote.dealer == next.dealer
takes_out quote (Unposted dealer w) = is_quote_of dealer w quote
takes_out quote fact = false

-- The book: for each dealer its last posted quote, and none where that was unposted later. So it
-- has each quote that was posted and that no later fact takes out, the earliest posted first.
abbrev pub book_of : List RoomFact → List PostedQuote
book_of [] = []
book_of (Posted quote ∷ later) =
    if list_any (takes_out quote) later then book_of later else quote ∷ book_of later
book_of (Opened request ∷ later) = book_of later
book_of (Readied ∷ later) = book_of later
book_of (Unposted dealer w ∷ later) = book_of later
book_of (Noted dealer ∷ later) = book_of later
book_of (Ended end moment ∷ later) = book_of later

-- whether that quote of that dealer stands in the book
abbrev pub stands : List PostedQuote → ℕ → ℕ → Bool
stands book dealer w = list_any (is_quote_of dealer w) book

-- the quote that a hit of this word means: the earliest posted of those that bear it
abbrev pub quote_meant : List PostedQuote → ℕ → Option PostedQuote
quote_meant book w = find (λ quote. quote.word == w) book

-- Cover.

-- whether a price is better than another for an investor of this side: a lower offer for one that
-- buys, a higher bid for one that sells
abbrev pub is_better : Side → ℕ → ℕ → Bool
is_better Buy price other = nat_lt price other
is_better Sell price other = nat_lt other price

-- whether a quote's price is better than another's
abbrev pub has_better_price : Side → PostedQuote → PostedQuote → Bool
has_better_price side quote other = is_better side quote.price other.price

-- the quotes of the other dealers
abbrev pub others : ℕ → List PostedQuote → List PostedQuote
others dealer book = filter (λ quote. not (quote.dealer == dealer)) book

-- the best of some quotes: the earliest posted of those than which none is better
abbrev pub best_of : Side → List PostedQuote → Option PostedQuote
best_of side quotes =
    find (λ quote. not (list_any (λ other. has_better_price side other quote) quotes)) quotes

-- A quote is the best of some: it stands among them at a place at which none is better, and each
-- that was posted earlier is worse.
pub record IsBest (side : Side) (quotes : List PostedQuote) (best : PostedQuote) : Type 0 where
  pub place : ℕ
  pub stands_there : slice_index_or quotes place best ≡ best
  pub first_best : IsFirstBest (has_better_price side) quotes (length quotes) place

-- the cover of an award: the best of the quotes of the other dealers
unfoldable pub cover_of : Side → ℕ → List PostedQuote → Option PostedQuote
cover_of side winner book = best_of side (others winner book)

-- the cover of an award of this quote, where there is one
abbrev pub cover_for : Option RoomRequest → Option PostedQuote → List PostedQuote
    → Option PostedQuote
cover_for None winner book = None
cover_for (Some request) None book = None
cover_for (Some request) (Some winner) book = cover_of request.ask.side winner.dealer book

-- Hits.

-- whether a moment is at or past the deadline of the request
abbrev pub is_past_deadline : Option RoomRequest → ℕ → Bool
is_past_deadline None moment = false
is_past_deadline (Some request) moment = nat_le request.ask.deadline moment

-- whether a quote's own validity has ended
abbrev pub is_expired : Option PostedQuote → ℕ → Bool
is_expired None moment = false
is_expired (Some quote) moment = is_not_after moment quote.valid_until

-- the checks of a hit of an open room
abbrev pub open_checks : List RoomFact → ℕ → ℕ → List (Bool × HitRefusal)
open_checks facts w moment =
    (is_past_deadline (request_of facts) moment, refusal.Deadline)
    ∷ (is_none (quote_meant (book_of facts) w), refusal.Gone)
    ∷ (is_expired (quote_meant (book_of facts) w) moment, refusal.Expired)
    ∷ []

-- the checks of a hit in their order, before the quote's word is asked
abbrev pub hit_checks : List RoomFact → ℕ → ℕ → List (Bool × HitRefusal)
hit_checks facts w moment = (not (is_open facts), refusal.NotOpen) ∷ open_checks facts w moment

-- why a hit of this word at this moment is refused before the word is asked, if it is
unfoldable pub hit_refusal : List RoomFact → ℕ → ℕ → Option HitRefusal
hit_refusal facts w moment = first_refusal (hit_checks facts w moment)

-- a word, or the refusal that stands before it
abbrev pub word_or : ℕ → Option HitRefusal → Result ℕ HitRefusal
word_or w None = Ok w
word_or w (Some refused) = Err refused

-- the word that a hit asks, or why it is refused before
abbrev pub hit_question : List RoomFact → ℕ → ℕ → Result ℕ HitRefusal
hit_question facts w moment = word_or w (hit_refusal facts w moment)

-- the end by an award of the quote that this word means
abbrev pub award_of : List RoomFact → ℕ → End
award_of facts w = record {
  kind = ends.Awarded;
  winner = option_map (λ quote. (quote.dealer, quote.word)) (quote_meant (book_of facts) w);
  cover = option_map (λ quote. quote.dealer)
      (cover_for (request_of facts) (quote_meant (book_of facts) w) (book_of facts));
}

-- whether a word was asked and is lifted
abbrev pub is_lift : Option Settled → Bool
is_lift (Some Lifted) = true
is_lift (Some Withdrawn) = false
is_lift None = false

-- a hit that no check refuses is an award where the word is lifted
abbrev pub hit_settled : Option HitRefusal → Option Settled → End → Result End HitRefusal
hit_settled (Some refused) settlement award = Err refused
hit_settled None settlement award = if is_lift settlement then Ok award else Err refusal.Withdrawn

-- what becomes of a hit, with the settlement of the word that it asks: an award, or the first
-- refusal
abbrev pub hit_outcome : List RoomFact → ℕ → ℕ → Option Settled → Result End HitRefusal
hit_outcome facts w moment settlement =
    hit_settled (hit_refusal facts w moment) settlement (award_of facts w)

-- the room's reply to the investor
abbrev pub reply_of : Result End HitRefusal → Reply
reply_of (Ok award) = reply.Awarded
reply_of (Err refused) = reply.Refused refused

-- The room, event by event.

-- the end by a pass: nobody wins
abbrev pub passed : End
passed = record { kind = ends.Passed; winner = None; cover = None }

-- the end by an expiry: nobody wins
abbrev pub expired : End
expired = record { kind = ends.Expired; winner = None; cover = None }

-- an open room expires at its deadline
abbrev pub may_expire : List RoomFact → ℕ → Bool
may_expire facts moment = is_open facts && is_past_deadline (request_of facts) moment

-- a quote is unposted where it stands in a room that takes quotes
abbrev pub may_unpost : List RoomFact → ℕ → ℕ → Bool
may_unpost facts dealer w = takes_quotes facts && stands (book_of facts) dealer w

-- a quote as it stands once it is posted
abbrev pub quote_posted : ℕ → ℕ → ℕ → Option ℕ → PostedQuote
quote_posted dealer w price until =
    record { dealer = dealer; word = w; price = price; valid_until = until }

-- a fact that follows where a condition holds
abbrev pub fact_if : Bool → RoomFact → List RoomFact
fact_if true fact = fact ∷ []
fact_if false fact = []

-- the end that a hit leads to, where it awards
abbrev pub end_by : Result End HitRefusal → ℕ → List RoomFact
end_by (Ok award) moment = Ended award moment ∷ []
end_by (Err refused) moment = []

-- the fact that an event adds to those that stand, if it adds one: nothing else that is tried
-- changes a room
unfoldable pub event_facts : List RoomFact → RoomEvent → List RoomFact
event_facts facts (event.Open request) = fact_if (is_vacant facts) (Opened request)
event_facts facts event.Ready = fact_if (is_opening facts) Readied
event_facts facts (event.Post dealer w price until) =
    fact_if (takes_quotes facts) (Posted (quote_posted dealer w price until))
event_facts facts (event.Unpost dealer w) =
    fact_if (may_unpost facts dealer w) (Unposted dealer w)
event_facts facts (event.Decline dealer) = fact_if (takes_quotes facts) (Noted dealer)
event_facts facts (event.Hit w moment settlement) =
    end_by (hit_outcome facts w moment settlement) moment
event_facts facts (event.Pass moment) = fact_if (is_open facts) (Ended passed moment)
event_facts facts (event.Expire moment) = fact_if (may_expire facts moment) (Ended expired moment)

-- the facts after one event more
abbrev pub after_event : List RoomFact → RoomEvent → List RoomFact
after_event facts event = facts ++ event_facts facts event

-- a room after its events: the facts that stand
unfoldable pub room_after : List RoomEvent → List RoomFact
room_after events = fold after_event [] events

-- What an end may say: an award has a winner, and its cover is another dealer; without an award
-- there is neither.
abbrev pub IsEndOf : EndKind → Option (ℕ × ℕ) → Option ℕ → Type 0
IsEndOf ends.Awarded (Some winner) cover = IfSome cover (λ other. other ≢ winner.0)
IsEndOf ends.Awarded None cover = ⊥
IsEndOf ends.Passed winner cover = (winner ≡ None) × (cover ≡ None)
IsEndOf ends.Expired winner cover = (winner ≡ None) × (cover ≡ None)
