use Rattle.std.proofs.Common.{◌++◌, ◌∷◌, [], ap, ◌∙◌, codes, decimal}
use Rattle.venue_text.specs.DueCuts.{parts_behind}
use Rattle.venue_text.proofs.DayLemmas.{line_joined}
use Rattle.venue_text.proofs.due_command.push_dealer_line.Goals as goal

pub returns : goal.returns
returns c =
    let row = c.args.row.now in
    c.in_ok-push.ensures.items
    ∙ ap (λ t. t ++ 10 ∷ []) (c.in_ok-push_traders.ensures ∙ ap (λ t. t ++ parts_behind row.traders) c.in_ok-push_limits.ensures)
    ∙ line_joined c.args.text.now.items (codes "dealer") row.name (decimal row.quotes) (decimal row.exposure) row.traders
