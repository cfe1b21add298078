-- The word that a step asks, if it asks one, and its settlement.
use Rattle.std.specs.Prelude.{◌≡◌, ℕ, nat_lt, Option, Some, None}
use Rattle.std.specs.Prelude.{if◌then◌else◌}
use Rattle.quote_word.specs.declared.settled.Settled.{Settled}
pub use Rattle.venue_steps.specs.WordNumbers.{has_word, word_of}

-- what the word that is asked is in a row, where one is
abbrev pub settlement_in : (ℕ → Option Settled) → Option ℕ → Option Settled
settlement_in entry None = None
settlement_in entry (Some word) = entry word

-- the word that a step may ask of a row of so many words: one that the row does not have is left
-- alone
abbrev pub word_to_ask : ℕ → Option ℕ → Option ℕ
word_to_ask count None = None
word_to_ask count (Some word) = if nat_lt word count then Some word else None

-- one exchange that gives this settlement
abbrev pub SettlesSo : {W : Type 0} → (W → ℕ → Settled → Settled → W → Type 0) → W → ℕ → Settled
    → Option Settled → W → Type 0
SettlesSo settles before word wish (Some settlement) after =
    settles before word wish settlement after
SettlesSo settles before word wish None after = ⊥

-- The words before and after a step that asks at most one: as they were where it asks none, and
-- else after one exchange on that word, whose settlement is the word's entry.
abbrev pub AsksAtMost : {W : Type 0} → (W → ℕ → Settled → Settled → W → Type 0)
    → (W → ℕ → Option Settled) → W → Option ℕ → Settled → W → Type 0
AsksAtMost settles entry before None wish after = after ≡ before
AsksAtMost settles entry before (Some word) wish after =
    SettlesSo settles before word wish (entry after word) after
