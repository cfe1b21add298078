use Rattle.step_replay.specs.WordLemmas.{is_one_of}
use Rattle.step_replay.proofs.laws.no_quote_is_lifted_and_withdrawn.Goals as goal

pub returns : goal.returns
returns c config steps dealer row quote is = is_one_of config steps dealer row is quote
