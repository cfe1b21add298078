use Rattle.investor_desk.proofs.DeskLemmas.{note_of_last}
use Rattle.investor_desk.proofs.laws.a_note_is_of_the_last_fact.Goals as goal

pub returns : goal.returns
returns c = note_of_last
