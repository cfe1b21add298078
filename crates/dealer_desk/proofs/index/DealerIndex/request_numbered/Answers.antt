use Rattle.std.proofs.Common.{rules, ◌≡◌, ◌<◌, ◌≤◌, length, Some, None, inl, inr, sym, subst, arith}
use Rattle.dealer_desk.specs.DealerFacts.{request_numbered, live_number_on, has_lifted_quote}
use Rattle.dealer_desk.specs.DealerTable.{IndexView}
use Rattle.dealer_desk.proofs.ReaderLemmas.{request_found, request_missing, row_live, row_lifted}
use Rattle.dealer_desk.proofs.index.DealerIndex.request_numbered.Goals as goal
use Rattle.dealer_desk.proofs.index.DealerIndex.request_numbered.Goals.{then-number-lt1-via-then-number-lt1}
use Rattle.dealer_desk.proofs.index.DealerIndex.request_numbered.Goals.{then-number-lt1-via-else-number-lt1+then-number-len}

pub returns-then-number-lt1-clause-request : goal.returns-then-number-lt1-clause-request
returns-then-number-lt1-clause-request c =
    let i = c.self.inside in
    let t = i.table in
    subst (λ (v : IndexView). None ≡ request_numbered v.book c.args.number) c.self.view_is
    (sym (request_missing i.used i.notices t.rows.items t.quotes.items t.lines.items t.exposure t.first_droppable c.args.number c.self.invariant.table
    (elim c.then-number-lt1.branch [
      | then-number-lt1-via-then-number-lt1 w ↦ inl w.if-number-lt1.true
      | then-number-lt1-via-else-number-lt1+then-number-len w ↦
          let count : w.len.result ≡ length t.rows.items = search rules in
          let many : length t.rows.items < c.args.number = omega arith in
          inr many
    ])))

pub returns-clause-request : goal.returns-clause-request
returns-clause-request c =
    let i = c.self.inside in
    let t = i.table in
    let count : c.len.result ≡ length t.rows.items = search rules in
    let last : c.args.number ≤ length t.rows.items = omega arith in
    subst (λ (v : IndexView). Some c.index.result.now.request ≡ request_numbered v.book c.args.number) c.self.view_is
    (sym (request_found i.used i.notices t.rows.items t.quotes.items t.lines.items t.exposure t.first_droppable c.args.number c.index.result.now c.self.invariant.table c.if-number-lt1.false last c.index.ensures))

pub returns-clause-live : goal.returns-clause-live
returns-clause-live c =
    let i = c.self.inside in
    let t = i.table in
    let count : c.len.result ≡ length t.rows.items = search rules in
    let last : c.args.number ≤ length t.rows.items = omega arith in
    subst (λ (v : IndexView). c.index.result.now.live ≡ live_number_on v.book c.index.result.now.request.number) c.self.view_is
    (row_live i.used i.notices t.rows.items t.quotes.items t.lines.items t.exposure t.first_droppable c.args.number c.index.result.now c.self.invariant.table c.if-number-lt1.false last c.index.ensures)

pub returns-clause-lifted : goal.returns-clause-lifted
returns-clause-lifted c =
    let i = c.self.inside in
    let t = i.table in
    let count : c.len.result ≡ length t.rows.items = search rules in
    let last : c.args.number ≤ length t.rows.items = omega arith in
    subst (λ (v : IndexView). c.index.result.now.has_lifted ≡ has_lifted_quote v.book c.index.result.now.request.number) c.self.view_is
    (row_lifted i.used i.notices t.rows.items t.quotes.items t.lines.items t.exposure t.first_droppable c.args.number c.index.result.now c.self.invariant.table c.if-number-lt1.false last c.index.ensures)
