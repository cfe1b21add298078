-- What a longer log leaves of a shorter one.
use Rattle.std.specs.Prelude.{◌≡◌, List, ◌++◌}

-- A list begins with another one: that one is its front, item by item.
pub record BeginsWith {A : Type 0} (whole front : List A) : Type 0 where
  pub rest : List A
  pub is : whole ≡ front ++ rest
