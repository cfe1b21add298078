use Rattle.std.proofs.Common.{◌≡◌, true, take}
use Rattle.std.specs.List.{list_all}
use Rattle.venue_rows.specs.Texts.{is_name}
use Rattle.laws_dues.proofs.read_again.traders_are_named.Given as goal

abbrev pub invariant-loop-place : goal.invariant-loop-place
invariant-loop-place l = list_all is_name (take l.place l.traders) ≡ true
