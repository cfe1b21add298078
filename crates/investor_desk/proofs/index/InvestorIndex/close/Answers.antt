use Rattle.std.proofs.Common.{◌≡◌, ◌+◌, ◌-◌, true, Some, is_none, set, sym, ap, ◌∙◌, arith}
use Rattle.market_terms.specs.declared.lines.RequestState.{RequestState}
use Rattle.investor_desk.specs.BookChanges.{closed_by}
use Rattle.investor_desk.specs.InvestorTable.{request_in, requests_in}
use Rattle.investor_desk.specs.declared.index.RequestRow.{RequestRow}
use Rattle.investor_desk.proofs.IndexLemmas.{set_row, request_read}
use Rattle.investor_desk.proofs.WriteLemmas.{accepted_in, closed_same, some_open, lines_closed}
use Rattle.investor_desk.proofs.WriteLemmas.{closed_index, closed_seen, line_read, read_same}
use Rattle.investor_desk.proofs.WriteLemmas.{row_closed, is_closed, is_opened}
use Rattle.investor_desk.proofs.index.InvestorIndex.close.Goals as goal

pub returns-then-is_some : goal.returns-then-is_some
returns-then-is_some c =
    let i = c.self.inside in
    let row = c.index.result.now in
    closed_same c.args.self.now i.used i.rows.items i.offers.items c.args.request c.args.close row c.self.view_is c.self.invariant.requests_numbered
    (accepted_in c.args.self.now i.used i.rows.items i.offers.items c.args.request c.self.view_is c.requires) c.index.ensures
    (is_closed row.close (sym c.is_some.ensures ∙ c.if-is_some.true))

pub overflow_sub-self : goal.overflow_sub-self
overflow_sub-self c =
    let i = c.self.inside in
    let row = c.index.result.now in
    some_open i.used i.rows.items i.offers.items i.lines.items i.open_count i.by_id c.args.request c.args.close row c.self.invariant
    (accepted_in c.args.self.now i.used i.rows.items i.offers.items c.args.request c.self.view_is c.requires) c.index.ensures
    (is_opened row.close (sym c.is_some.ensures ∙ c.if-is_some.false))

pub invariant_of-self : goal.invariant_of-self
invariant_of-self c =
    let i = c.self.inside in
    let number = c.args.request in
    let row = c.index_mut-2.result.now in
    let first = c.index.result.now in
    let line = c.index_mut.result.now in
    let row2 = record row { close = Some c.args.close } in
    let line2 = record line { state = c.state_at_close.result } in
    let accepted = accepted_in c.args.self.now i.used i.rows.items i.offers.items number c.self.view_is c.requires in
    let same : row ≡ first = read_same i.rows.items number row first accepted c.index_mut-2.ensures.value c.index.ensures in
    let opened : is_none row.close ≡ true = ap (λ (r : RequestRow). is_none r.close) same ∙ is_opened first.close (sym c.is_some.ensures ∙ c.if-is_some.false) in
    let one = some_open i.used i.rows.items i.offers.items i.lines.items i.open_count i.by_id number c.args.close row c.self.invariant accepted c.index_mut-2.ensures.value opened in
    let fewer : (i.open_count - 1) + 1 ≡ i.open_count = omega arith in
    closed_index i.used i.rows.items (set i.rows.items (number - 1) row2) i.offers.items i.lines.items (set i.lines.items (number - 1) line2) i.open_count (i.open_count - 1) i.by_id number c.args.close row
    c.self.invariant accepted c.index_mut-2.ensures.value opened
    (set_row (closed_by c.args.close) i.rows.items number row row2 c.self.invariant.requests_numbered accepted c.index_mut-2.ensures.value (row_closed c.args.close row opened))
    (ap (λ (s : RequestState). set i.lines.items (number - 1) (record line { state = s })) c.state_at_close.ensures
    ∙ lines_closed (requests_in i.rows.items) i.lines.items number c.args.close (request_in row) line c.self.invariant.lines_are c.self.invariant.requests_numbered accepted.from_first
    (request_read i.rows.items number row accepted c.index_mut-2.ensures.value) opened (line_read i.rows.items i.lines.items number line c.self.invariant.lines_are accepted c.index_mut.ensures.value))
    fewer

pub returns : goal.returns
returns c =
    let i = c.self.inside in
    let number = c.args.request in
    let row = c.index_mut-2.result.now in
    let first = c.index.result.now in
    let row2 = record row { close = Some c.args.close } in
    let accepted = accepted_in c.args.self.now i.used i.rows.items i.offers.items number c.self.view_is c.requires in
    let same : row ≡ first = read_same i.rows.items number row first accepted c.index_mut-2.ensures.value c.index.ensures in
    let opened : is_none row.close ≡ true = ap (λ (r : RequestRow). is_none r.close) same ∙ is_opened first.close (sym c.is_some.ensures ∙ c.if-is_some.false) in
    closed_seen c.args.self.now i.used i.rows.items (set i.rows.items (number - 1) row2) i.offers.items number c.args.close c.self.view_is
    (set_row (closed_by c.args.close) i.rows.items number row row2 c.self.invariant.requests_numbered accepted c.index_mut-2.ensures.value (row_closed c.args.close row opened))
