use Rattle.std.proofs.Common.{◌∙◌}
use Rattle.venue_rows.proofs.TextLemmas.{is_among_map}
use Rattle.venue_rows.proofs.traders.Traders.contains.Goals as goal

pub returns : goal.returns
returns c = rw (← c.self.view_is) (c.has_name.ensures ∙ rw c.as_slice.ensures.value (is_among_map c.self.inside.names.items c.args.name.now))
