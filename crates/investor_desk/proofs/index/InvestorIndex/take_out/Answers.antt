use Rattle.std.proofs.Common.{◌-◌, Some, set}
use Rattle.investor_desk.specs.BookChanges.{without_some}
use Rattle.investor_desk.proofs.IndexLemmas.{set_row}
use Rattle.investor_desk.proofs.WriteLemmas.{accepted_in, row_without, taken_index, taken_book}
use Rattle.investor_desk.proofs.index.InvestorIndex.take_out.Goals as goal

pub invariant_of-self : goal.invariant_of-self
invariant_of-self c =
    let i = c.self.inside in
    let row = c.index_mut.result.now in
    let row2 = record row { standing = c.take_out.new.standing } in
    taken_index i.used i.rows.items (set i.rows.items (c.args.request - 1) row2) i.offers.items i.lines.items i.open_count i.by_id c.args.request c.args.quote c.self.invariant
    (set_row (without_some (Some c.args.quote)) i.rows.items c.args.request row row2 c.self.invariant.requests_numbered
    (accepted_in c.args.self.now i.used i.rows.items i.offers.items c.args.request c.self.view_is c.requires) c.index_mut.ensures.value
    (row_without row (Some c.args.quote) c.take_out.new.standing.items c.take_out.ensures.items))

pub returns : goal.returns
returns c =
    let i = c.self.inside in
    let row = c.index_mut.result.now in
    let row2 = record row { standing = c.take_out.new.standing } in
    taken_book c.args.self.now i.used i.rows.items (set i.rows.items (c.args.request - 1) row2) i.offers.items c.args.request c.args.quote c.self.view_is
    (set_row (without_some (Some c.args.quote)) i.rows.items c.args.request row row2 c.self.invariant.requests_numbered
    (accepted_in c.args.self.now i.used i.rows.items i.offers.items c.args.request c.self.view_is c.requires) c.index_mut.ensures.value
    (row_without row (Some c.args.quote) c.take_out.new.standing.items c.take_out.ensures.items))
