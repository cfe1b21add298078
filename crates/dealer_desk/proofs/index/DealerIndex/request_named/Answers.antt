use Rattle.std.proofs.Common.{rules, ◌≡◌, ◌<◌, ◌≤◌, ◌^◌, length, Some, None, option_map, inl, inr}
use Rattle.std.proofs.Common.{Bor, sym, ap, subst, ◌∙◌, arith}
use Rattle.std.proofs.lemmas.Option.{none-some}
use Rattle.dealer_desk.specs.DealerFacts.{request_named, live_number_on, has_lifted_quote}
use Rattle.dealer_desk.specs.DealerTable.{IndexView}
use Rattle.dealer_desk.specs.declared.table.RequestRow.{RequestRow}
use Rattle.dealer_desk.proofs.ReaderLemmas.{named_missing, named_past, named_found, request_found}
use Rattle.dealer_desk.proofs.ReaderLemmas.{request_missing, row_live, row_lifted}
use Rattle.dealer_desk.proofs.index.DealerIndex.request_named.Goals as goal
use Rattle.dealer_desk.proofs.index.DealerIndex.request_named.Goals.{then-number-lt1-via-then-number-lt1}
use Rattle.dealer_desk.proofs.index.DealerIndex.request_named.Goals.{then-number-lt1-via-else-number-lt1+then-number-shown}

pub returns-in_err-number-clause-request : goal.returns-in_err-number-clause-request
returns-in_err-number-clause-request c =
    let i = c.self.inside in
    let t = i.table in
    let count : c.len-shown.result ≡ length t.rows.items = search rules in
    let few : length t.rows.items < 2 ^ 64 = omega arith in
    ap (option_map (λ (b : Bor RequestRow). b.now.request)) c.from_residual.ensures
    ∙ sym (subst (λ (v : IndexView). request_named v.book c.args.name.now ≡ None) c.self.view_is
    (named_missing i.used i.notices t.rows.items t.quotes.items c.args.name.now c.self.invariant.table.sound few
    (λ number fits is. none-some number (sym c.in_err-number.was ∙ c.number_named.ensures.unknown number fits is))))

pub returns-then-number-lt1-clause-request : goal.returns-then-number-lt1-clause-request
returns-then-number-lt1-clause-request c =
    let i = c.self.inside in
    let t = i.table in
    let count : c.len-shown.result ≡ length t.rows.items = search rules in
    let few : length t.rows.items < 2 ^ 64 = omega arith in
    sym (subst (λ (v : IndexView). request_named v.book c.args.name.now ≡ None) c.self.view_is
    (named_past i.used i.notices t.rows.items t.quotes.items c.args.name.now c.in_ok-number.number c.self.invariant.table.sound few
    (λ other fits is. sym c.in_ok-number.was ∙ c.number_named.ensures.unknown other fits is)
    (request_missing i.used i.notices t.rows.items t.quotes.items t.lines.items t.exposure t.first_droppable c.in_ok-number.number c.self.invariant.table
    (elim c.then-number-lt1.branch [
      | then-number-lt1-via-then-number-lt1 w ↦ inl w.if-number-lt1.true
      | then-number-lt1-via-else-number-lt1+then-number-shown w ↦
          let many : length t.rows.items < c.in_ok-number.number = omega arith in
          inr many
    ]))))

pub returns-clause-request : goal.returns-clause-request
returns-clause-request c =
    let i = c.self.inside in
    let t = i.table in
    let count : c.len-shown.result ≡ length t.rows.items = search rules in
    let few : length t.rows.items < 2 ^ 64 = omega arith in
    let last : c.in_ok-number.number ≤ length t.rows.items = omega arith in
    sym (subst (λ (v : IndexView). request_named v.book c.args.name.now ≡ Some c.index.result.now.request) c.self.view_is
    (named_found i.used i.notices t.rows.items t.quotes.items c.args.name.now c.in_ok-number.number c.index.result.now.request c.self.invariant.table.sound few
    c.in_ok-number.ensures.known
    (λ other fits is. sym c.in_ok-number.was ∙ c.number_named.ensures.unknown other fits is)
    (request_found i.used i.notices t.rows.items t.quotes.items t.lines.items t.exposure t.first_droppable c.in_ok-number.number c.index.result.now c.self.invariant.table c.if-number-lt1.false last c.index.ensures)))

pub returns-clause-live : goal.returns-clause-live
returns-clause-live c =
    let i = c.self.inside in
    let t = i.table in
    let count : c.len-shown.result ≡ length t.rows.items = search rules in
    let last : c.in_ok-number.number ≤ length t.rows.items = omega arith in
    subst (λ (v : IndexView). c.index.result.now.live ≡ live_number_on v.book c.index.result.now.request.number) c.self.view_is
    (row_live i.used i.notices t.rows.items t.quotes.items t.lines.items t.exposure t.first_droppable c.in_ok-number.number c.index.result.now c.self.invariant.table c.if-number-lt1.false last c.index.ensures)

pub returns-clause-lifted : goal.returns-clause-lifted
returns-clause-lifted c =
    let i = c.self.inside in
    let t = i.table in
    let count : c.len-shown.result ≡ length t.rows.items = search rules in
    let last : c.in_ok-number.number ≤ length t.rows.items = omega arith in
    subst (λ (v : IndexView). c.index.result.now.has_lifted ≡ has_lifted_quote v.book c.index.result.now.request.number) c.self.view_is
    (row_lifted i.used i.notices t.rows.items t.quotes.items t.lines.items t.exposure t.first_droppable c.in_ok-number.number c.index.result.now c.self.invariant.table c.if-number-lt1.false last c.index.ensures)
