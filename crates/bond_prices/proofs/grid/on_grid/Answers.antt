use Rattle.std.proofs.Common.{refl}
use Rattle.bond_prices.specs.Grid.{on_grid}
use Rattle.bond_prices.proofs.Grids.{on_grid-multiple}
use Rattle.bond_prices.proofs.grid.on_grid.Goals as goal

pub returns-clause-exact : goal.returns-clause-exact
unfolding on_grid
returns-clause-exact c = rw (c.get.ensures.value, c.get-2.ensures.value) refl

pub returns-clause-multiple : goal.returns-clause-multiple
unfolding on_grid
returns-clause-multiple c = rw (c.get.ensures.value, c.get-2.ensures.value) (on_grid-multiple c.args.price c.args.grid)
