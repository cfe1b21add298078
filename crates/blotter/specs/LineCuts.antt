-- Parts of a line as the code cuts it: private.
use Rattle.std.specs.Prelude.{ℕ, List, [], ◌∷◌, ◌++◌, decimal}
use Rattle.bond_prices.specs.ThirtySeconds.{thirty_seconds}
use Rattle.fix_fields.specs.TimeOfDay.{time_text}
use Rattle.market_terms.specs.declared.asks.Side.{Side}
use Rattle.market_terms.specs.declared.lines.QuoteState.{QuoteState}
use Rattle.blotter.specs.BlotterText.{right_in, left_in, side_letter, quote_state}

-- number, moment and trader, each with the space behind it
abbrev pub entry_text : ℕ → ℕ → List ℕ → List ℕ
entry_text number moment trader =
    right_in 4 (decimal number) ++ 32 ∷ time_text moment ++ 32 ∷ left_in 8 trader ++ 32 ∷ []

-- bond, side and quantity, each with the space behind it
abbrev pub terms_text : List ℕ → Side → ℕ → List ℕ
terms_text bond side quantity =
    bond ++ 32 ∷ side_letter side ++ 32 ∷ right_in 13 (decimal quantity) ++ 32 ∷ []

-- price and state, the space between them, and the line feed
abbrev pub quote_end : ℕ → QuoteState → List ℕ
quote_end price state =
    right_in 7 (thirty_seconds price) ++ 32 ∷ quote_state state ++ 10 ∷ []
