use Rattle.investor_desk.proofs.DeskLemmas.{notes_are_beside}
use Rattle.investor_desk.proofs.laws.each_message_has_its_note.Goals as goal

pub returns : goal.returns
returns c = notes_are_beside
