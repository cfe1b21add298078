-- What an exchange on a board keeps.
use Rattle.std.specs.Prelude.{◌≡◌, ℕ, ◌<◌, Some}
use Rattle.std.proofs.Common.{ap, sym, subst}
use Rattle.quote_word.specs.declared.settled.Settled.{Settled}
use Rattle.quote_word.specs.Board.{BoardName, Front, SettlesOnBoard}
use Rattle.quote_word.specs.SettleLog.{entry_of, IsLegal}
use Rattle.quote_word.specs.SettleLogLaws.{entry_stays_later, begins_all, log_goes_on, legal_after}
use mathlib.Core.List.{IsPrefix}

-- no word comes or goes
pub board_keeps_count : (before after : Front) (w : ℕ) (wish settlement : Settled)
    → SettlesOnBoard before w wish settlement after → after.board.words ≡ before.board.words
board_keeps_count before after w wish settlement e = ap (λ (b : BoardName). b.words) e.board

-- the settlement is the word's entry afterwards
pub board_answers_entry : (before after : Front) (w : ℕ) (wish settlement : Settled)
    → w < before.board.words → SettlesOnBoard before w wish settlement after
    → entry_of w after.log ≡ Some settlement
board_answers_entry before after w wish settlement within e = e.answered

-- the log that was seen begins the log afterwards
pub board_goes_on : (before after : Front) (w : ℕ) (wish settlement : Settled)
    → SettlesOnBoard before w wish settlement after → IsPrefix before.log after.log
board_goes_on before after w wish settlement e =
    let later : IsPrefix e.found after.log = rw e.settled (log_goes_on e.found w wish) in
    begins_all before.log e.found after.log e.extends later

-- and the log afterwards is legal
pub board_stays_legal : (before after : Front) (w : ℕ) (wish settlement : Settled)
    → SettlesOnBoard before w wish settlement after → IsLegal after.log
board_stays_legal before after w wish settlement e =
    subst IsLegal (sym e.settled) (legal_after e.found w wish e.legal)

-- an entry that stands stays
pub board_keeps_entries : (before after : Front) (w v : ℕ) (wish settlement was : Settled)
    → SettlesOnBoard before w wish settlement after → entry_of v before.log ≡ Some was
    → entry_of v after.log ≡ Some was
board_keeps_entries before after w v wish settlement was e stands =
    entry_stays_later before.log after.log v was
    (board_goes_on before after w wish settlement e) stands
