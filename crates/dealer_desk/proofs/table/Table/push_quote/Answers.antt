use Rattle.std.proofs.Common.{◌≡◌, ℕ, ◌+◌, ◌-◌, List, [], ◌∷◌, ◌++◌, Some, set, sym, subst, refl}
use Rattle.dealer_desk.specs.DealerFacts.{standing_quote}
use Rattle.dealer_desk.specs.DealerTable.{IsTable}
use Rattle.dealer_desk.specs.declared.standing.StandingQuote.{StandingQuote}
use Rattle.market_terms.specs.declared.lines.QuoteLine.{QuoteLine}
use Rattle.dealer_desk.proofs.TableGrowth.{push_quote_table, request_row_kept}
use Rattle.dealer_desk.proofs.table.Table.push_quote.Goals as goal

pub returns-clause-table : goal.returns-clause-table
returns-clause-table c =
    let t = c.args.self.now in
    let quote = c.args.quote in
    let row = c.index_mut.result.now in
    let quotes_are : c.push-2.new.self.items ≡ t.quotes.items ++ standing_quote quote [] ∷ [] = c.in_ok-push-2.ensures.items in
    let lines_are : c.push.new.self.items ≡ t.lines.items ++ c.line_of-line.result ∷ [] = c.in_ok-push.ensures.items in
    let units : c.get.result ≡ quote.quantity = c.get.ensures.value in
    subst (λ (qs : List StandingQuote). IsTable (set t.rows.items (quote.request - 1) (record row { live = Some quote.number })) qs c.push.new.self.items (t.exposure + c.get.result) t.first_droppable) (sym quotes_are)
    (subst (λ (ls : List QuoteLine). IsTable (set t.rows.items (quote.request - 1) (record row { live = Some quote.number })) (t.quotes.items ++ standing_quote quote [] ∷ []) ls (t.exposure + c.get.result) t.first_droppable) (sym lines_are)
    (subst (λ (n : ℕ). IsTable (set t.rows.items (quote.request - 1) (record row { live = Some quote.number })) (t.quotes.items ++ standing_quote quote [] ∷ []) (t.lines.items ++ c.line_of-line.result ∷ []) (t.exposure + n) t.first_droppable) (sym units)
    (push_quote_table t.rows.items t.quotes.items t.lines.items t.exposure t.first_droppable quote row c.line_of-line.result c.requires.table c.requires.number c.requires.few
    c.requires.from_first c.requires.to_last c.requires.alone c.requires.exposure c.index_mut.ensures.value c.line_of-line.ensures)))

pub returns-clause-requests : goal.returns-clause-requests
returns-clause-requests c =
    let t = c.args.self.now in
    request_row_kept t.rows.items c.args.quote.request c.index_mut.result.now (record c.index_mut.result.now { live = Some c.args.quote.number }) c.requires.from_first c.requires.to_last c.index_mut.ensures.value refl
