use Rattle.std.proofs.Common.{◌≡◌, ℕ, ◌-◌, ◌≤◌, length, Some, None, slice_get, refl, sym, ap, subst}
use Rattle.std.proofs.Common.{◌∙◌, arith}
use Rattle.dealer_desk.proofs.TableReads.{is_read, end_live_table, end_live_quotes, row_kept}
use Rattle.dealer_desk.proofs.TableReads.{none_before, first_within}
use Rattle.dealer_desk.proofs.TableLemmas.{quantity_within}
use Rattle.dealer_desk.proofs.table.Table.end_live.Goals as goal

pub overflow_sub-self : goal.overflow_sub-self
overflow_sub-self c =
    let t = c.args.self.now in
    let own = c.index_mut-own.result.now in
    let r = is_read t.rows.items t.quotes.items t.lines.items t.exposure t.first_droppable c.args.number own c.requires.table c.requires.live c.index_mut-own.ensures.value in
    let most = quantity_within t.rows.items t.quotes.items t.lines.items t.exposure t.first_droppable (c.args.number - 1) own c.requires.table r.stands r.live in
    let is : c.get-quantity.result ≡ own.quote.quantity = c.get-quantity.ensures.value in
    omega arith

pub next_droppable-self-requires-clause-within : goal.next_droppable-self-requires-clause-within
next_droppable-self-requires-clause-within c =
    let t = c.args.self.now in
    let own = c.index_mut-own.result.now in
    let seen = c.deref.ensures.value in
    subst (λ (l : ℕ). t.first_droppable ≤ l) (ap length (sym seen))
    (first_within t.rows.items t.quotes.items t.lines.items t.exposure t.first_droppable (c.args.number - 1) (record own { end = Some c.args.end }) c.requires.table)

pub next_droppable-self-requires-clause-none : goal.next_droppable-self-requires-clause-none
next_droppable-self-requires-clause-none c =
    let t = c.args.self.now in
    let own = c.index_mut-own.result.now in
    let r = is_read t.rows.items t.quotes.items t.lines.items t.exposure t.first_droppable c.args.number own c.requires.table c.requires.live c.index_mut-own.ensures.value in
    λ k y below at. none_before t.quotes.items (c.args.number - 1) t.first_droppable (record own { end = Some c.args.end }) r.within c.requires.table.first_is refl k y below
    (ap (λ l. slice_get l k) (sym c.deref.ensures.value) ∙ at)

pub returns-clause-table : goal.returns-clause-table
returns-clause-table c =
    let t = c.args.self.now in
    let own = c.index_mut-own.result.now in
    end_live_table t.rows.items t.quotes.items t.lines.items t.exposure t.first_droppable c.args.number c.args.end own c.index_mut-2.result.now c.index_mut.result.now c.index.result.now
    c.state_of.result c.get-quantity.result c.deref.result.now c.next_droppable-self.result
    c.requires.table c.requires.live c.index_mut-own.ensures.value c.index_mut-2.ensures.value c.index_mut.ensures.value c.index.ensures c.state_of.ensures c.get-quantity.ensures.value
    c.deref.ensures.value c.next_droppable-self.ensures

pub returns-clause-quotes : goal.returns-clause-quotes
returns-clause-quotes c =
    let t = c.args.self.now in
    end_live_quotes t.rows.items t.quotes.items t.lines.items t.exposure t.first_droppable c.args.number c.args.end c.index_mut-own.result.now c.requires.table c.requires.live c.index_mut-own.ensures.value

pub returns-clause-requests : goal.returns-clause-requests
returns-clause-requests c =
    let t = c.args.self.now in
    row_kept t.rows.items t.quotes.items t.lines.items t.exposure t.first_droppable c.args.number c.index_mut-own.result.now c.index_mut-2.result.now
    (record c.index_mut-2.result.now { live = None }) c.requires.table c.requires.live c.index_mut-own.ensures.value c.index_mut-2.ensures.value refl
