use Rattle.std.proofs.Common.{◌≡◌, take}
use Rattle.investor_texts.proofs.same_market.are_same_bonds.Given as goal

abbrev pub invariant-loop-place : goal.invariant-loop-place
invariant-loop-place l = take l.place l.one ≡ take l.place l.other
