-- Being on a grid, as a remainder and as a multiple.
use Rattle.std.proofs.Common.{◌≡◌, ℕ, ◌+◌, ◌*◌, ◌/◌, ◌%◌, ◌↔◌, IsTrue, arith}
use Rattle.std.specs.Prelude.{◌==◌}
use Rattle.std.proofs.Math.Nat.{mod-add-div, mul-mod_left, mul_comm}
use Rattle.std.proofs.lemmas.Bool.{eqb-true, eq-eqb}
use Rattle.bond_prices.specs.Grid.{on_grid}

-- a price on a grid is a multiple of its step
pub on_grid-multiple : (n grid : ℕ) → IsTrue (on_grid n grid) ↔ ((steps : ℕ) × (n ≡ steps * (256 / grid)))
unfolding on_grid
on_grid-multiple n grid = (to, from)
  where
    to : IsTrue ((n % (256 / grid)) == 0) → (steps : ℕ) × (n ≡ steps * (256 / grid))
    to test =
        let none : n % (256 / grid) ≡ 0 = eqb-true (n % (256 / grid)) 0 test in
        let split : n % (256 / grid) + (256 / grid) * (n / (256 / grid)) ≡ n = mod-add-div n (256 / grid) in
        (n / (256 / grid), omega (arith, mul_comm (256 / grid) (n / (256 / grid))))

    from : ((steps : ℕ) × (n ≡ steps * (256 / grid))) → IsTrue ((n % (256 / grid)) == 0)
    from h = eq-eqb (n % (256 / grid)) 0 (rw h.1 (mul-mod_left h.0 (256 / grid)))
