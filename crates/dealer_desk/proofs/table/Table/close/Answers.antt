use Rattle.std.proofs.Common.{◌≡◌, ℕ, ◌≤◌, true, length, map, sym, ap, subst, ◌∙◌}
use Rattle.dealer_desk.specs.BookChanges.{told_at}
use Rattle.dealer_desk.proofs.TableReads.{request_table, told_requests, told_keeps}
use Rattle.dealer_desk.proofs.TableGrowth.{as_many_rows}
use Rattle.dealer_desk.proofs.table.Table.close.Goals as goal

pub returns-clause-table : goal.returns-clause-table
returns-clause-table c =
    let t = c.close_live.new.self in
    let row = c.index_mut.result.now in
    let table = c.close_live.ensures.table in
    let many : length t.rows.items ≡ length c.args.self.now.rows.items = as_many_rows t.rows.items c.args.self.now.rows.items c.close_live.ensures.requests in
    let last : c.args.number ≤ length t.rows.items = subst (λ (n : ℕ). c.args.number ≤ n) (sym many) c.requires.to_last in
    request_table t.rows.items t.quotes.items t.lines.items t.exposure t.first_droppable c.args.number row (record row.request { is_told = true }) (told_at c.args.number) table
    c.requires.from_first last c.index_mut.ensures.value (told_keeps c.args.number)
    (told_requests t.rows.items t.quotes.items c.args.number row table.sound c.requires.from_first last c.index_mut.ensures.value)

pub returns-clause-requests : goal.returns-clause-requests
returns-clause-requests c =
    let t = c.close_live.new.self in
    let row = c.index_mut.result.now in
    let table = c.close_live.ensures.table in
    let many : length t.rows.items ≡ length c.args.self.now.rows.items = as_many_rows t.rows.items c.args.self.now.rows.items c.close_live.ensures.requests in
    let last : c.args.number ≤ length t.rows.items = subst (λ (n : ℕ). c.args.number ≤ n) (sym many) c.requires.to_last in
    told_requests t.rows.items t.quotes.items c.args.number row table.sound c.requires.from_first last c.index_mut.ensures.value
    ∙ ap (map (told_at c.args.number)) c.close_live.ensures.requests
