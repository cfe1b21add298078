use Rattle.std.proofs.Common.{sym, ◌∙◌}
use Rattle.venue_config.proofs.RowLemmas.{is_among_bonds, id_twice, id_first}
use Rattle.venue_config.proofs.rows.read_bond_id.Goals as goal

pub returns-then-has_bond : goal.returns-then-has_bond
returns-then-has_bond c =
    id_twice _ _ c.in_ok-id.id c.in_ok-id.ensures
    (sym (is_among_bonds c.args.bonds.now c.in_ok-id.id) ∙ sym c.has_bond.ensures ∙ c.if-has_bond.true)

pub returns : goal.returns
returns c =
    id_first _ _ c.in_ok-id.id c.in_ok-id.ensures
    (sym (is_among_bonds c.args.bonds.now c.in_ok-id.id) ∙ sym c.has_bond.ensures ∙ c.if-has_bond.false)
