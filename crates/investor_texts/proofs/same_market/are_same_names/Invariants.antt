use Rattle.std.proofs.Common.{◌≡◌, take}
use Rattle.investor_texts.specs.DealerNames.{names_of}
use Rattle.investor_texts.proofs.same_market.are_same_names.Given as goal

abbrev pub invariant-loop-place : goal.invariant-loop-place
invariant-loop-place l = take l.place (names_of l.one) ≡ take l.place (names_of l.other)
