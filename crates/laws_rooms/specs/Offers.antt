-- The quotes of a dealer that took effect in the room of a request, and those of them that the investor
-- of the request was shown.
use Rattle.std.specs.Prelude.{◌≡◌, ℕ, ◌==◌, ◌&&◌, Bool, true, false, List, [], ◌++◌, filter_map}
use Rattle.std.specs.Prelude.{Option, Some, None, is_some, if◌then◌else◌}
use Rattle.investor_desk.specs.InvestorFacts.{InvestorFact, book_of, offers_of, open_request}
use Rattle.investor_desk.specs.declared.standing.ShownOffer.{ShownOffer}
use Rattle.request_room.specs.Book.{quote_posted}
use Rattle.request_room.specs.RoomFacts.{Posted, RoomFact}
use Rattle.request_room.specs.declared.quotes.PostedQuote.{PostedQuote}
use Rattle.venue_steps.specs.Dealers.{QuoteRef, quote_with_word}
use Rattle.venue_rows.specs.Rows.{Configuration}

-- What took effect.

-- the quote of this dealer that a fact of a room says, where it says one
abbrev pub quote_in : ℕ → RoomFact → Option PostedQuote
quote_in dealer (Posted quote) = if quote.dealer == dealer then Some quote else None
quote_in dealer other = None

-- those of a room with these facts, in their order
abbrev pub quotes_in : ℕ → List RoomFact → List PostedQuote
quotes_in dealer facts = filter_map (quote_in dealer) facts

-- What was shown.

-- whether the quote that has a word is this dealer's
abbrev pub is_of : ℕ → Option QuoteRef → Bool
is_of dealer None = false
is_of dealer (Some quote) = quote.dealer == dealer

-- the quote that an investor was shown, as it took effect, where it is on this request and its word is
-- one of this dealer's
abbrev pub shown_of : Configuration → ℕ → ℕ → ShownOffer → Option PostedQuote
shown_of config dealer request shown =
    if (shown.request == request) && is_of dealer (quote_with_word config shown.offer.word)
    then Some (quote_posted dealer shown.offer.word shown.offer.price shown.offer.valid_until)
    else None

-- those that an investor with these facts was shown, in their order
abbrev pub quotes_shown : Configuration → ℕ → ℕ → List InvestorFact → List PostedQuote
quotes_shown config dealer request facts = filter_map (shown_of config dealer request) (offers_of facts)

-- The quotes of this dealer that an investor with these facts was shown on this request are the first
-- of those that took effect in its room, in their order, and all of them while the request is open at
-- the investor's desk.
pub record AreShownFirst (config : Configuration) (dealer request : ℕ) (room : List RoomFact)
    (facts : List InvestorFact) : Type 0 where
  pub rest : List PostedQuote
  pub begins : quotes_in dealer room ≡ quotes_shown config dealer request facts ++ rest
  pub whole : is_some (open_request (book_of facts) request) ≡ true → rest ≡ []
