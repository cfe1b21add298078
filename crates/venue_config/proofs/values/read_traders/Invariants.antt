use Rattle.std.proofs.Common.{◌≡◌, [], length, drop}
use Rattle.toml.specs.View.{items_view}
use Rattle.venue_config.specs.Values.{trader_of, read_all}
use Rattle.venue_config.proofs.values.read_traders.Given as goal

abbrev pub invariant-loop-element : goal.invariant-loop-element
invariant-loop-element l =
    (read_all trader_of [] (items_view l.elements) ≡ read_all trader_of l.traders (items_view (drop l.element-index l.elements)))
    × (length l.traders ≡ l.element-index)
