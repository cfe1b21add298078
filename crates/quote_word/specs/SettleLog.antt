-- The settle log of a board: which words were settled, how, and in which order. (A settlement is a
-- word's withdrawal or lift, and not the settlement of a trade.)
use Rattle.std.specs.Prelude.{◌≡◌, ℕ, ◌==◌, List, [], ◌∷◌, ◌++◌, Option, Some, None, if◌then◌else◌}
use Rattle.quote_word.specs.declared.settled.Settled.{Settled}
use Rattle.quote_word.specs.declared.settled.Settlement.{Settlement}

abbrev pub SettleLog : Type 0
SettleLog = List Settlement

-- what a word was settled as, by its first entry
abbrev pub entry_of : ℕ → SettleLog → Option Settled
entry_of w [] = None
entry_of w (e ∷ log) = if e.word == w then Some e.settled else entry_of w log

-- no word occurs twice: behind each entry there is no other of its word
abbrev pub IsLegal : SettleLog → Type 0
IsLegal [] = Unit {0}
IsLegal (e ∷ log) = (entry_of e.word log ≡ None) × IsLegal log

-- what an exchange adds to the log: the wish where the word is open, and nothing where it is
-- settled
abbrev pub added_by : Option Settled → ℕ → Settled → SettleLog
added_by None w wish = record { word = w; settled = wish } ∷ []
added_by (Some settled) w wish = []

-- the log after an exchange
abbrev pub log_after : SettleLog → ℕ → Settled → SettleLog
log_after log w wish = log ++ added_by (entry_of w log) w wish
