use Rattle.std.proofs.Common.{◌≡◌, ℕ, false, ◌==◌, List, length, sym, ap, ◌∙◌}
use Rattle.std.specs.List.{list_any}
use Rattle.investor_desk.specs.InvestorRules.{dealer_numbers, is_unknown_dealer}
use Rattle.investor_desk.proofs.DealerLemmas.{nobody_refuses}
use Rattle.investor_desk.proofs.rules.asked_dealers.Goals as goal

pub returns-then-is_empty : goal.returns-then-is_empty
returns-then-is_empty c =
    let market = c.args.market.now in
    let names = c.args.names in
    let known : list_any (is_unknown_dealer market) names ≡ false = ap (list_any (is_unknown_dealer market)) (sym c.again.ensures) ∙ c.in-Some.ensures.0 in
    let found : dealer_numbers market names ≡ c.in-Some.numbers.items = ap (dealer_numbers market) (sym c.again.ensures) ∙ sym c.in-Some.ensures.2 in
    nobody_refuses market names known (ap (λ (ns : List ℕ). length ns == 0) found ∙ sym c.if-is_empty.ensures)
