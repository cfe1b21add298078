use Rattle.dealer_desk.proofs.WordEvents.{all_withdrawn, all_lifted}
use Rattle.dealer_desk.proofs.laws.quotes_stand_as_their_words_were_settled.Goals as goal

pub returns : goal.returns
returns c = record { withdrawn = all_withdrawn; lifted = all_lifted }
