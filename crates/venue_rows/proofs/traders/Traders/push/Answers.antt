use Rattle.venue_rows.proofs.TextLemmas.{names_more}
use Rattle.venue_rows.proofs.traders.Traders.push.Goals as goal

pub invariant_of-self : goal.invariant_of-self
invariant_of-self c =
    rw c.push.ensures.items (names_more c.self.inside.names.items c.text.result c.self.invariant c.text.ensures.named)
