-- Grids of prices: the step that a bond is quoted in, as the number of steps in a point.
use Rattle.std.specs.Prelude.{ℕ, ◌/◌, ◌%◌, ◌==◌, ◌||◌, Bool, if◌then◌else◌}
use Rattle.std.specs.Prelude.{Option, Some, None}

-- the grids that a bond may have: 32nds, 64ths, 128ths and 256ths of a point
abbrev pub is_grid : ℕ → Bool
is_grid steps = (steps == 32) || (steps == 64) || (steps == 128) || (steps == 256)

-- the finest grid, on which every price is
abbrev pub finest_grid : ℕ
finest_grid = 256

-- the grid of so many steps in a point, or none where no bond is quoted so
abbrev pub grid_of : ℕ → Option ℕ
grid_of steps = if is_grid steps then Some steps else None

-- whether a price of n 256ths is a whole number of the grid's steps
unfoldable pub on_grid : ℕ → ℕ → Bool
on_grid n grid = (n % (256 / grid)) == 0
