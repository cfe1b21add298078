-- What was found so far, and what is left to be looked at.
use Rattle.std.proofs.Common.{◌≡◌, ◌≤◌, ◌+◌, ◌++◌, length}
use Rattle.std.specs.List.{list_any}
use Rattle.market_terms.specs.declared.rooms.TheConstants.AskedDealers.{MOST}
use Rattle.investor_desk.specs.InvestorRules.{is_unknown_dealer, dealer_numbers}
use Rattle.investor_desk.proofs.rules.dealer_numbers.Given as goal

abbrev pub invariant-loop-name : goal.invariant-loop-name
invariant-loop-name l =
    (l.numbers.items ++ dealer_numbers l.fn.market l.name-iterator ≡ dealer_numbers l.fn.market l.fn.names)
    × (list_any (is_unknown_dealer l.fn.market) l.name-iterator ≡ list_any (is_unknown_dealer l.fn.market) l.fn.names)
    × (length l.numbers.items + length l.name-iterator ≡ length l.fn.names)
    × (length l.numbers.items ≤ MOST)
