use Rattle.std.proofs.Common.{rules, ◌≡◌, ℕ, ◌+◌, List, [], ◌∷◌, ◌++◌, false, None, length, sym, ap}
use Rattle.std.proofs.Common.{subst, ◌∙◌}
use Rattle.dealer_desk.specs.DealerFacts.{standing_request}
use Rattle.dealer_desk.specs.DealerTable.{IsTable}
use Rattle.dealer_desk.specs.declared.table.RequestRow.{RequestRow}
use Rattle.dealer_desk.proofs.TableGrowth.{push_request_table}
use Rattle.dealer_desk.proofs.table.Table.push_request.Goals as goal

pub returns-clause-table : goal.returns-clause-table
returns-clause-table c =
    let t = c.args.self.now in
    let count : c.len.result ≡ length t.rows.items = search rules in
    let pushed : c.push.new.self.items ≡ t.rows.items ++ record { request = standing_request (length t.rows.items + 1) c.args.ask []; live = None; has_lifted = false } ∷ [] =
    c.in_ok-push.ensures.items ∙ ap (λ (n : ℕ). t.rows.items ++ record { request = standing_request (n + 1) c.args.ask []; live = None; has_lifted = false } ∷ []) count in
    subst (λ (rows : List RequestRow). IsTable rows t.quotes.items t.lines.items t.exposure t.first_droppable) (sym pushed)
    (push_request_table t.rows.items t.quotes.items t.lines.items t.exposure t.first_droppable c.args.ask c.requires.table)
