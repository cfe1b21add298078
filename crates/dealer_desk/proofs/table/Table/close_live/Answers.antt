use Rattle.std.proofs.Common.{map, sym, ◌∙◌}
use Rattle.dealer_desk.specs.declared.table.RequestRow.{RequestRow}
use Rattle.dealer_desk.proofs.TableClosing.{live_stands, closed_none, closed_live}
use Rattle.dealer_desk.proofs.TableGrowth.{row_read}
use Rattle.dealer_desk.proofs.table.Table.close_live.Goals as goal

pub returns-in_default-clause-quotes : goal.returns-in_default-clause-quotes
returns-in_default-clause-quotes c =
    let t = c.args.self.now in
    let row = row_read t.rows.items t.quotes.items t.lines.items t.exposure t.first_droppable c.args.number c.index.result.now c.requires.table c.requires.from_first c.requires.to_last c.index.ensures in
    closed_none t.quotes.items c.args.number c.args.close (sym row.live_is ∙ c.in_default.is)

pub end_live-requires-clause-live : goal.end_live-requires-clause-live
end_live-requires-clause-live c =
    let t = c.args.self.now in
    let row = row_read t.rows.items t.quotes.items t.lines.items t.exposure t.first_droppable c.args.number c.index.result.now c.requires.table c.requires.from_first c.requires.to_last c.index.ensures in
    live_stands (map (λ (r : RequestRow). r.request) t.rows.items) t.quotes.items c.args.number c.in-Some.quote c.requires.table.sound (sym row.live_is ∙ c.in-Some.is)

pub returns-clause-quotes : goal.returns-clause-quotes
returns-clause-quotes c =
    let t = c.args.self.now in
    let row = row_read t.rows.items t.quotes.items t.lines.items t.exposure t.first_droppable c.args.number c.index.result.now c.requires.table c.requires.from_first c.requires.to_last c.index.ensures in
    c.end_live.ensures.quotes
    ∙ closed_live (map (λ (r : RequestRow). r.request) t.rows.items) t.quotes.items c.args.number c.in-Some.quote c.args.close c.requires.table.sound (sym row.live_is ∙ c.in-Some.is)
