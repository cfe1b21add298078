use Rattle.std.proofs.Common.{rules, ◌≡◌, ◌<◌, ◌≤◌, length, Some, None, inl, inr, sym, subst, arith}
use Rattle.investor_desk.specs.InvestorFacts.{InvestorBook, offer_numbered}
use Rattle.investor_desk.specs.InvestorTable.{requests_in}
use Rattle.investor_desk.proofs.ReaderLemmas.{offer_found, offer_missing}
use Rattle.investor_desk.proofs.index.InvestorIndex.offer_numbered.Goals as goal
use Rattle.investor_desk.proofs.index.InvestorIndex.offer_numbered.Goals.{then-number-lt1-via-then-number-lt1}
use Rattle.investor_desk.proofs.index.InvestorIndex.offer_numbered.Goals.{then-number-lt1-via-else-number-lt1+then-number-len}

pub returns-then-number-lt1 : goal.returns-then-number-lt1
returns-then-number-lt1 c =
    let i = c.self.inside in
    subst (λ (b : InvestorBook). None ≡ offer_numbered b c.args.number) c.self.view_is
    (sym (offer_missing i.used (requests_in i.rows.items) i.offers.items i.lines.items i.open_count i.by_id c.args.number c.self.invariant
    (elim c.then-number-lt1.branch [
      | then-number-lt1-via-then-number-lt1 w ↦ inl w.if-number-lt1.true
      | then-number-lt1-via-else-number-lt1+then-number-len w ↦
          let count : w.len.result ≡ length i.offers.items = search rules in
          let many : length i.offers.items < c.args.number = omega arith in
          inr many
    ])))

pub returns : goal.returns
returns c =
    let i = c.self.inside in
    let count : c.len.result ≡ length i.offers.items = search rules in
    let last : c.args.number ≤ length i.offers.items = omega arith in
    subst (λ (b : InvestorBook). Some c.index.result.now ≡ offer_numbered b c.args.number) c.self.view_is
    (sym (offer_found i.used (requests_in i.rows.items) i.offers.items i.lines.items i.open_count i.by_id c.args.number c.index.result.now c.self.invariant c.if-number-lt1.false last c.index.ensures))
