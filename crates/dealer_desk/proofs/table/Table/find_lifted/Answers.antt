use Rattle.std.proofs.Common.{ℕ, ◌-◌, ◌≤◌, true, length, slice_get, refl, sym, ap, subst, ◌∙◌}
use Rattle.dealer_desk.specs.DealerFacts.{is_live}
use Rattle.dealer_desk.proofs.TableReads.{is_read, find_lifted_table, find_lifted_quotes, row_kept}
use Rattle.dealer_desk.proofs.TableReads.{none_before, first_within}
use Rattle.dealer_desk.proofs.TableClosing.{lifted_stays}
use Rattle.dealer_desk.proofs.table.Table.find_lifted.Goals as goal

pub next_droppable-self-requires-clause-within : goal.next_droppable-self-requires-clause-within
next_droppable-self-requires-clause-within c =
    let t = c.args.self.now in
    let own = c.index_mut-own.result.now in
    subst (λ (l : ℕ). t.first_droppable ≤ l) (ap length (sym c.deref.ensures.value))
    (first_within t.rows.items t.quotes.items t.lines.items t.exposure t.first_droppable (c.args.number - 1) (record own { is_known_lifted = true }) c.requires.table)

pub next_droppable-self-requires-clause-none : goal.next_droppable-self-requires-clause-none
next_droppable-self-requires-clause-none c =
    let t = c.args.self.now in
    let own = c.index_mut-own.result.now in
    let r = is_read t.rows.items t.quotes.items t.lines.items t.exposure t.first_droppable c.args.number own c.requires.table c.requires.live c.index_mut-own.ensures.value in
    λ k y below at. none_before t.quotes.items (c.args.number - 1) t.first_droppable (record own { is_known_lifted = true }) r.within c.requires.table.first_is
    (lifted_stays (is_live own)) k y below
    (ap (λ l. slice_get l k) (sym c.deref.ensures.value) ∙ at)

pub returns-clause-table : goal.returns-clause-table
returns-clause-table c =
    let t = c.args.self.now in
    find_lifted_table t.rows.items t.quotes.items t.lines.items t.exposure t.first_droppable c.args.number c.index_mut-own.result.now c.index_mut-2.result.now c.index_mut.result.now c.index.result.now
    c.state_of.result c.deref.result.now c.next_droppable-self.result
    c.requires.table c.requires.live c.index_mut-own.ensures.value c.index_mut-2.ensures.value c.index_mut.ensures.value c.index.ensures c.state_of.ensures
    c.deref.ensures.value c.next_droppable-self.ensures

pub returns-clause-quotes : goal.returns-clause-quotes
returns-clause-quotes c =
    let t = c.args.self.now in
    find_lifted_quotes t.rows.items t.quotes.items t.lines.items t.exposure t.first_droppable c.args.number c.index_mut-own.result.now c.requires.table c.requires.live c.index_mut-own.ensures.value

pub returns-clause-requests : goal.returns-clause-requests
returns-clause-requests c =
    let t = c.args.self.now in
    row_kept t.rows.items t.quotes.items t.lines.items t.exposure t.first_droppable c.args.number c.index_mut-own.result.now c.index_mut-2.result.now
    (record c.index_mut-2.result.now { has_lifted = true }) c.requires.table c.requires.live c.index_mut-own.ensures.value c.index_mut-2.ensures.value refl
