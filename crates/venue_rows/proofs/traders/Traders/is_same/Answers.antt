use Rattle.std.proofs.Common.{◌∙◌}
use Rattle.venue_rows.proofs.TextLemmas.{same_names}
use Rattle.venue_rows.proofs.traders.Traders.is_same.Goals as goal

pub returns : goal.returns
returns c =
    rw (← c.self.view_is, ← c.other.view_is) (c.eq.ensures ∙ rw (c.as_slice.ensures.value, c.as_slice-2.ensures.value) (same_names c.self.inside.names.items c.other.inside.names.items))
