use Rattle.std.proofs.Common.{◌≡◌, true, false, not, sym, ap, ◌∙◌}
use Rattle.std.specs.List.{list_any}
use Rattle.market_terms.specs.Dealers.{are_distinct}
use Rattle.investor_desk.specs.InvestorRules.{dealer_numbers, is_unknown_dealer}
use Rattle.investor_desk.proofs.DealerLemmas.{different_dealers, many_refuse, twice_refuses}
use Rattle.investor_desk.proofs.rules.names_refusal.Goals as goal

pub returns-then-has_one_twice : goal.returns-then-has_one_twice
returns-then-has_one_twice c =
    let market = c.args.market.now in
    let names = c.args.names in
    let known : list_any (is_unknown_dealer market) names ≡ false = ap (list_any (is_unknown_dealer market)) (sym c.again.ensures) ∙ sym c.if-has_unknown.ensures in
    let twice : not (are_distinct (dealer_numbers market names)) ≡ true = ap not (different_dealers market names known) ∙ sym c.if-has_one_twice.ensures in
    twice_refuses market names known twice

pub returns : goal.returns
returns c =
    let market = c.args.market.now in
    let names = c.args.names in
    let known : list_any (is_unknown_dealer market) names ≡ false = ap (list_any (is_unknown_dealer market)) (sym c.again.ensures) ∙ sym c.if-has_unknown.ensures in
    let distinct : not (are_distinct (dealer_numbers market names)) ≡ false = ap not (different_dealers market names known) ∙ sym c.if-has_one_twice.ensures in
    many_refuse market names known distinct c.requires
