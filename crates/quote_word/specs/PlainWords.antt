-- Words in a list: each entry is what the word is, or none while it is open.
use Rattle.std.specs.Prelude.{◌≡◌, ℕ, List, Option, Some, None, slice_index_or, slice_set}
use Rattle.quote_word.specs.declared.settled.Settled.{Settled}

-- what a word is, where it is settled
abbrev pub entry_in : List (Option Settled) → ℕ → Option Settled
entry_in entries w = slice_index_or entries w None

-- the settlement by an exchange: what the word is already, or else the wish
abbrev pub settlement_of : Option Settled → Settled → Settled
settlement_of None wish = wish
settlement_of (Some settled) wish = settled

-- the words after an exchange: an open word becomes the wish, and nothing else changes
abbrev pub after_exchange : Option Settled → List (Option Settled) → ℕ → Settled
    → List (Option Settled)
after_exchange None entries w wish = slice_set entries w (Some wish)
after_exchange (Some settled) entries w wish = entries

-- one exchange
pub record Exchanges (before : List (Option Settled)) (w : ℕ) (wish settlement : Settled)
    (after : List (Option Settled)) : Type 0 where
  pub answered : settlement ≡ settlement_of (entry_in before w) wish
  pub changed : after ≡ after_exchange (entry_in before w) before w wish
