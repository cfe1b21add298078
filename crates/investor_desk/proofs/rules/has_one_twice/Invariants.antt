-- No name stood twice so far: what is left to be looked at has one twice where all have.
use Rattle.std.proofs.Common.{◌≡◌}
use Rattle.investor_desk.specs.RuleCuts.{are_different}
use Rattle.investor_desk.proofs.rules.has_one_twice.Given as goal

abbrev pub invariant-loop-name : goal.invariant-loop-name
invariant-loop-name l = are_different l.later ≡ are_different l.fn.names
