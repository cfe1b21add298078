use Rattle.std.proofs.Common.{true}
use Rattle.dealer_desk.specs.BookChanges.{declined_at}
use Rattle.dealer_desk.proofs.TableReads.{request_table, declined_requests, declined_keeps}
use Rattle.dealer_desk.proofs.table.Table.decline.Goals as goal

pub returns-clause-table : goal.returns-clause-table
returns-clause-table c =
    let t = c.args.self.now in
    let row = c.index_mut.result.now in
    let table = c.requires.table in
    request_table t.rows.items t.quotes.items t.lines.items t.exposure t.first_droppable c.args.number row (record row.request { is_declined = true }) (declined_at c.args.number) table
    c.requires.from_first c.requires.to_last c.index_mut.ensures.value (declined_keeps c.args.number)
    (declined_requests t.rows.items t.quotes.items c.args.number row table.sound c.requires.from_first c.requires.to_last c.index_mut.ensures.value)

pub returns-clause-requests : goal.returns-clause-requests
returns-clause-requests c =
    let t = c.args.self.now in
    declined_requests t.rows.items t.quotes.items c.args.number c.index_mut.result.now c.requires.table.sound c.requires.from_first c.requires.to_last c.index_mut.ensures.value
