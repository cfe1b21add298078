use Rattle.std.proofs.Common.{◌≡◌, [], drop, map, length}
use Rattle.toml.specs.View.{items_view}
use Rattle.venue_config.specs.Values.{read_all}
use Rattle.venue_rows.specs.Rows.{dealer_values, investor_values}
use Rattle.venue_config.specs.Config.{investor_of}
use Rattle.venue_config.proofs.rows.read_investors.Given as goal

abbrev pub invariant-loop-row : goal.invariant-loop-row
invariant-loop-row l =
    (read_all (investor_of (map dealer_values l.dealers)) [] (items_view l.rows)
    ≡ read_all (investor_of (map dealer_values l.dealers)) (map investor_values l.investors.items) (items_view (drop l.row-index l.rows)))
    × (length l.investors.items ≡ l.row-index)
