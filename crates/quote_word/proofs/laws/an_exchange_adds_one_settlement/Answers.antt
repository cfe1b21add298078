use Rattle.quote_word.specs.SettleLogLaws.{open_after, settled_after, other_after, legal_after}
use Rattle.quote_word.proofs.laws.an_exchange_adds_one_settlement.Goals as goal

pub returns : goal.returns
returns c = record {
  «open» = open_after;
  settled = settled_after;
  others = other_after;
  legal = legal_after;
}
