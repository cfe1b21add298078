use Rattle.std.proofs.Common.{rules, ◌≡◌, ◌<◌, ◌≤◌, length, Some, None, inl, inr, sym, subst, arith}
use Rattle.dealer_desk.specs.DealerFacts.{quote_numbered}
use Rattle.dealer_desk.specs.DealerTable.{IndexView, requests_in}
use Rattle.dealer_desk.proofs.ReaderLemmas.{quote_found, quote_missing}
use Rattle.dealer_desk.proofs.index.DealerIndex.quote_numbered.Goals as goal
use Rattle.dealer_desk.proofs.index.DealerIndex.quote_numbered.Goals.{then-number-lt1-via-then-number-lt1}
use Rattle.dealer_desk.proofs.index.DealerIndex.quote_numbered.Goals.{then-number-lt1-via-else-number-lt1+then-number-len}

pub returns-then-number-lt1 : goal.returns-then-number-lt1
returns-then-number-lt1 c =
    let i = c.self.inside in
    let t = i.table in
    subst (λ (v : IndexView). None ≡ quote_numbered v.book c.args.number) c.self.view_is
    (sym (quote_missing i.used i.notices (requests_in t.rows.items) t.quotes.items c.args.number c.self.invariant.table.sound
    (elim c.then-number-lt1.branch [
      | then-number-lt1-via-then-number-lt1 w ↦ inl w.if-number-lt1.true
      | then-number-lt1-via-else-number-lt1+then-number-len w ↦
          let count : w.len.result ≡ length t.quotes.items = search rules in
          let many : length t.quotes.items < c.args.number = omega arith in
          inr many
    ])))

pub returns : goal.returns
returns c =
    let i = c.self.inside in
    let t = i.table in
    let count : c.len.result ≡ length t.quotes.items = search rules in
    let last : c.args.number ≤ length t.quotes.items = omega arith in
    subst (λ (v : IndexView). Some c.index.result.now ≡ quote_numbered v.book c.args.number) c.self.view_is
    (sym (quote_found i.used i.notices (requests_in t.rows.items) t.quotes.items c.args.number c.index.result.now c.self.invariant.table.sound c.if-number-lt1.false last c.index.ensures))
