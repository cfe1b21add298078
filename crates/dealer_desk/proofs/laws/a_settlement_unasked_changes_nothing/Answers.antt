use Rattle.dealer_desk.proofs.WordLemmas.{unasked_own, unasked_drop}
use Rattle.dealer_desk.proofs.laws.a_settlement_unasked_changes_nothing.Goals as goal

pub returns : goal.returns
returns c = record { own = unasked_own; drop = unasked_drop }
