-- What clauses see of a board, of its tokens and of its receipts.
use Rattle.std.specs.Prelude.{◌≡◌, ℕ, List, Some}
use mathlib.Core.List.{IsPrefix}
use Rattle.logbook.specs.Pages.{Book}
use Rattle.quote_word.specs.declared.settled.Settled.{Settled}
use Rattle.quote_word.specs.declared.settled.Settlement.{Settlement}
use Rattle.quote_word.specs.SettleLog.{entry_of, IsLegal, log_after}

-- which board it is, and how many words it has
pub record BoardName : Type 0 where
  pub book : Book
  pub words : ℕ

-- a token: its board, and the settle log of the board as far as it was seen
pub record Front : Type 0 where
  pub board : BoardName
  pub log : List Settlement

-- a receipt: which word was asked, what it is from then on, and what was seen afterwards
pub record Answered : Type 0 where
  pub word : ℕ
  pub settlement : Settled
  pub seen : Front

-- two receipts that met: a log that extends both, and the settlements of both
pub record Meeting : Type 0 where
  pub front : Front
  pub first : Settled
  pub second : Settled

-- one exchange on the board: some legal log begins with what had been seen; what is seen
-- afterwards is that log after the exchange; and the word's entry there is the settlement
pub record SettlesOnBoard (before : Front) (w : ℕ) (wish settlement : Settled) (after : Front)
    : Type 0 where
  pub board : after.board ≡ before.board
  pub found : List Settlement
  pub extends : IsPrefix before.log found
  pub legal : IsLegal found
  pub settled : after.log ≡ log_after found w wish
  pub answered : entry_of w after.log ≡ Some settlement
