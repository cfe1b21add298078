-- The dealers of a venue, which of them acts, and the words of their quotes.
use Rattle.std.specs.Prelude.{ℕ, ◌+◌, ◌-◌, Bool, nat_lt, List, [], ◌∷◌, take, sum_by}
use Rattle.std.specs.Prelude.{Option, Some, None, if◌then◌else◌}
use Rattle.std.specs.Option.{option_map}
use Rattle.market_terms.specs.declared.rooms.Offer.{Offer}
use Rattle.venue_rows.specs.Rows.{Configuration, dealer_numbered}
use Rattle.venue_rows.specs.declared.dealer_rows.DealerRow.{DealerRow}
use Rattle.venue_steps.specs.WordNumbers.{word_of}
use Rattle.venue_steps.specs.declared.actors.Actor.{Actor}
use Rattle.venue_steps.specs.declared.actors.Actor.TheVariants as actor

-- a dealer: its number among the firms, and its row
pub record Dealer : Type 0 where
  pub number : ℕ
  pub row : DealerRow

-- a dealer with this number and row
abbrev pub dealer_of : ℕ → DealerRow → Dealer
dealer_of number row = record { number = number; row = row }

-- the dealer with this number
abbrev pub dealer_at : Configuration → ℕ → Option Dealer
dealer_at config number = option_map (dealer_of number) (dealer_numbered config number)

-- the dealer that an actor is
abbrev pub acting_dealer : Configuration → Actor → Option Dealer
acting_dealer config (actor.Firm number) = dealer_at config number
acting_dealer config actor.Clock = None

-- Words. The venue has one for each quote that a dealer may give in its day: those of the first
-- dealer, behind them those of the next, and so on.

-- how many quotes these dealers may give
abbrev pub quotes_of : List DealerRow → ℕ
quotes_of dealers = sum_by (λ (row : DealerRow). row.quotes) dealers

-- how many words there are
abbrev pub words_of : Configuration → ℕ
words_of config = quotes_of config.dealers

-- the first word of a dealer
abbrev pub first_word : Configuration → Dealer → ℕ
first_word config dealer = quotes_of (take dealer.number config.dealers)

-- the word of a dealer's quote
abbrev pub word_for : Configuration → Dealer → ℕ → ℕ
word_for config dealer quote = word_of (first_word config dealer) quote

-- a quote by its dealer's number among the firms and its own number
pub record QuoteRef : Type 0 where
  pub dealer : ℕ
  pub quote : ℕ

-- the quote that has a word, counted from the first word of these dealers, of which the first has
-- this number
abbrev pub quote_among : ℕ → List DealerRow → ℕ → Option QuoteRef
quote_among number [] word = None
quote_among number (row ∷ rows) word =
    if nat_lt word row.quotes
    then Some (record { dealer = number; quote = word + 1 })
    else quote_among (number + 1) rows (word - row.quotes)

-- the quote that has a word
abbrev pub quote_with_word : Configuration → ℕ → Option QuoteRef
quote_with_word config word = quote_among 0 config.dealers word

-- a dealer's quote as the investor sees it
abbrev pub offer_of : Configuration → Dealer → ℕ → ℕ → Option ℕ → Offer
offer_of config dealer quote price valid_until = record {
  dealer = dealer.row.name;
  word = word_for config dealer quote;
  price = price;
  valid_until = valid_until;
}

-- whether the venue has the word of a dealer's quote
abbrev pub has_word_for : Configuration → Dealer → ℕ → Bool
has_word_for config dealer quote = nat_lt (word_for config dealer quote) (words_of config)
