use Rattle.std.proofs.Common.{◌≡◌, ◌≤◌, ◌-◌, ℕ, Some, None, sym, ap, subst, ◌∙◌}
use Rattle.dealer_desk.specs.DealerFacts.{exposure_beside, quote_numbered}
use Rattle.dealer_desk.specs.DealerTable.{IndexView}
use Rattle.dealer_desk.proofs.LiveReaders.{beside_none, beside_missing, beside_ended}
use Rattle.dealer_desk.proofs.LiveReaders.{beside_standing}
use Rattle.dealer_desk.proofs.index.DealerIndex.exposure_beside.Goals as goal

pub returns-in_default-clause-value : goal.returns-in_default-clause-value
returns-in_default-clause-value c =
    let i = c.self.inside in
    let t = i.table in
    subst (λ (v : IndexView). t.exposure ≡ exposure_beside v.book None) c.self.view_is (beside_none i.used i.notices t.rows.items t.quotes.items t.lines.items t.exposure t.first_droppable c.self.invariant.table)
    ∙ ap (exposure_beside c.args.self.now.book) (sym c.in_default.is)

pub returns-in_default-quote_numbered-clause-value : goal.returns-in_default-quote_numbered-clause-value
returns-in_default-quote_numbered-clause-value c =
    let i = c.self.inside in
    let t = i.table in
    subst (λ (v : IndexView). t.exposure ≡ exposure_beside v.book (Some c.in-Some.number)) c.self.view_is
    (beside_missing i.used i.notices t.rows.items t.quotes.items t.lines.items t.exposure t.first_droppable c.in-Some.number c.self.invariant.table
    (subst (λ (v : IndexView). quote_numbered v.book c.in-Some.number ≡ None) (sym c.self.view_is) (sym c.in_default-quote_numbered.ensures)))
    ∙ ap (exposure_beside c.args.self.now.book) (sym c.in-Some.is)

pub returns-then-is_some-clause-value : goal.returns-then-is_some-clause-value
returns-then-is_some-clause-value c =
    let i = c.self.inside in
    let t = i.table in
    subst (λ (v : IndexView). t.exposure ≡ exposure_beside v.book (Some c.in-Some.number)) c.self.view_is
    (beside_ended i.used i.notices t.rows.items t.quotes.items t.lines.items t.exposure t.first_droppable c.in-Some.number c.in-Some-quote_numbered.own.now c.self.invariant.table
    (subst (λ (v : IndexView). quote_numbered v.book c.in-Some.number ≡ Some c.in-Some-quote_numbered.own.now) (sym c.self.view_is) (sym c.in-Some-quote_numbered.ensures))
    (sym c.if-is_some.ensures))
    ∙ ap (exposure_beside c.args.self.now.book) (sym c.in-Some.is)

pub overflow_sub-result : goal.overflow_sub-result
overflow_sub-result c =
    let i = c.self.inside in
    let t = i.table in
    let both = beside_standing i.used i.notices t.rows.items t.quotes.items t.lines.items t.exposure t.first_droppable c.in-Some.number c.in-Some-quote_numbered.own.now c.self.invariant.table
    (subst (λ (v : IndexView). quote_numbered v.book c.in-Some.number ≡ Some c.in-Some-quote_numbered.own.now) (sym c.self.view_is) (sym c.in-Some-quote_numbered.ensures))
    (sym c.if-is_some.ensures) in
    subst (λ (q : ℕ). q ≤ t.exposure) (sym c.get.ensures.value) both.0

pub returns-clause-value : goal.returns-clause-value
returns-clause-value c =
    let i = c.self.inside in
    let t = i.table in
    let both = beside_standing i.used i.notices t.rows.items t.quotes.items t.lines.items t.exposure t.first_droppable c.in-Some.number c.in-Some-quote_numbered.own.now c.self.invariant.table
    (subst (λ (v : IndexView). quote_numbered v.book c.in-Some.number ≡ Some c.in-Some-quote_numbered.own.now) (sym c.self.view_is) (sym c.in-Some-quote_numbered.ensures))
    (sym c.if-is_some.ensures) in
    ap (λ (q : ℕ). t.exposure - q) c.get.ensures.value
    ∙ both.1
    ∙ ap (λ (v : IndexView). exposure_beside v.book (Some c.in-Some.number)) c.self.view_is
    ∙ ap (exposure_beside c.args.self.now.book) (sym c.in-Some.is)
