use Rattle.std.proofs.Common.{◌∙◌}
use Rattle.investor_texts.proofs.RowLemmas.{among_bonds}
use Rattle.investor_texts.proofs.investor_lines.is_among_bonds.Goals as goal

pub returns : goal.returns
returns c = c.has_bond.ensures ∙ among_bonds c.args.bonds.now c.args.id.now
