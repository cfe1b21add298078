use Rattle.quote_word.specs.BoardLaws.{board_goes_on, board_stays_legal}
use Rattle.quote_word.proofs.laws.an_exchange_on_a_board_is_seen_later.Goals as goal

pub returns : goal.returns
returns c = record { later = board_goes_on; legal = board_stays_legal }
