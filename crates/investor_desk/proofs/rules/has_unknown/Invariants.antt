-- What is left to be looked at has an unknown dealer where all have.
use Rattle.std.proofs.Common.{◌≡◌}
use Rattle.std.specs.List.{list_any}
use Rattle.investor_desk.specs.InvestorRules.{is_unknown_dealer}
use Rattle.investor_desk.proofs.rules.has_unknown.Given as goal

abbrev pub invariant-loop-name : goal.invariant-loop-name
invariant-loop-name l =
    list_any (is_unknown_dealer l.fn.market) l.name-iterator ≡ list_any (is_unknown_dealer l.fn.market) l.fn.names
