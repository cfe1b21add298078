use Rattle.quote_word.specs.PlainWordsLaws.{exchange_takes_wish, exchange_keeps_others}
use Rattle.quote_word.proofs.laws.an_exchange_changes_one_word.Goals as goal

pub returns : goal.returns
returns c = record { «open» = exchange_takes_wish; others = exchange_keeps_others }
