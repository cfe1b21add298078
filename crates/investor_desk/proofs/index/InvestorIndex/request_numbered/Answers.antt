use Rattle.std.proofs.Common.{rules, ◌≡◌, ◌<◌, ◌≤◌, length, Some, None, inl, inr, sym, subst, arith}
use Rattle.investor_desk.specs.InvestorFacts.{InvestorBook, request_numbered}
use Rattle.investor_desk.specs.InvestorTable.{request_in}
use Rattle.investor_desk.specs.BookChanges.{IsAccepted}
use Rattle.investor_desk.proofs.ReaderLemmas.{accepted_row, request_found, request_missing}
use Rattle.investor_desk.proofs.index.InvestorIndex.request_numbered.Goals as goal
use Rattle.investor_desk.proofs.index.InvestorIndex.request_numbered.Goals.{then-number-lt1-via-then-number-lt1}
use Rattle.investor_desk.proofs.index.InvestorIndex.request_numbered.Goals.{then-number-lt1-via-else-number-lt1+then-number-len}

pub returns-then-number-lt1-clause-request : goal.returns-then-number-lt1-clause-request
returns-then-number-lt1-clause-request c =
    let i = c.self.inside in
    subst (λ (b : InvestorBook). None ≡ request_numbered b c.args.number) c.self.view_is
    (sym (request_missing i.used i.rows.items i.offers.items i.lines.items i.open_count i.by_id c.args.number c.self.invariant
    (elim c.then-number-lt1.branch [
      | then-number-lt1-via-then-number-lt1 w ↦ inl w.if-number-lt1.true
      | then-number-lt1-via-else-number-lt1+then-number-len w ↦
          let count : w.len.result ≡ length i.rows.items = search rules in
          let many : length i.rows.items < c.args.number = omega arith in
          inr many
    ])))

pub returns-clause-request : goal.returns-clause-request
returns-clause-request c =
    let i = c.self.inside in
    let count : c.len.result ≡ length i.rows.items = search rules in
    let last : c.args.number ≤ length i.rows.items = omega arith in
    subst (λ (b : InvestorBook). Some (request_in c.index.result.now) ≡ request_numbered b c.args.number) c.self.view_is
    (sym (request_found i.used i.rows.items i.offers.items i.lines.items i.open_count i.by_id c.args.number c.index.result.now c.self.invariant c.if-number-lt1.false last c.index.ensures))

pub returns-clause-accepted : goal.returns-clause-accepted
returns-clause-accepted c =
    let i = c.self.inside in
    let count : c.len.result ≡ length i.rows.items = search rules in
    let last : c.args.number ≤ length i.rows.items = omega arith in
    subst (λ (b : InvestorBook). IsAccepted (length b.requests) c.args.number) c.self.view_is (accepted_row i.rows.items c.args.number c.if-number-lt1.false last)
