use Rattle.std.proofs.Common.{◌≡◌, [], drop, length}
use Rattle.toml.specs.View.{items_view}
use Rattle.venue_config.specs.Values.{read_all}
use Rattle.venue_config.specs.Config.{bond_of}
use Rattle.venue_config.proofs.rows.read_bonds.Given as goal

abbrev pub invariant-loop-row : goal.invariant-loop-row
invariant-loop-row l =
    (read_all (bond_of l.version) [] (items_view l.rows)
    ≡ read_all (bond_of l.version) l.bonds.items (items_view (drop l.row-index l.rows)))
    × (length l.bonds.items ≡ l.row-index)
