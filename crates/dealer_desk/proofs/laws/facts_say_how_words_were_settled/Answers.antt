use Rattle.dealer_desk.proofs.WordLemmas.{lifted_words, withdrawn_words}
use Rattle.dealer_desk.proofs.laws.facts_say_how_words_were_settled.Goals as goal

pub returns : goal.returns
returns c = record { late = lifted_words; withdrawn = withdrawn_words }
