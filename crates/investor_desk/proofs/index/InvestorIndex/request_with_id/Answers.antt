use Rattle.std.proofs.Common.{◌≡◌, None, option_map, Bor, sym, ap, subst, ◌∙◌}
use Rattle.investor_desk.specs.InvestorFacts.{InvestorBook, request_with_id, request_numbered}
use Rattle.investor_desk.specs.InvestorTable.{request_in, requests_in}
use Rattle.investor_desk.specs.declared.index.RequestRow.{RequestRow}
use Rattle.investor_desk.proofs.ReaderLemmas.{id_missing, id_found}
use Rattle.investor_desk.proofs.index.InvestorIndex.request_with_id.Goals as goal

pub returns-in_err-number : goal.returns-in_err-number
returns-in_err-number c =
    let i = c.self.inside in
    ap (option_map (λ (b : Bor RequestRow). request_in b.now)) c.from_residual.ensures
    ∙ sym (subst (λ (b : InvestorBook). request_with_id b c.args.id.now ≡ None) c.self.view_is
    (id_missing i.used (requests_in i.rows.items) i.offers.items i.lines.items i.open_count i.by_id c.of.result c.args.id.now c.self.invariant c.of.ensures c.in_err-number.ensures.value))

pub returns-in_err-row : goal.returns-in_err-row
returns-in_err-row c =
    let i = c.self.inside in
    ap (option_map (λ (b : Bor RequestRow). request_in b.now)) c.from_residual-in_err-row.ensures ∙ c.in_err-row.ensures.request
    ∙ subst (λ (b : InvestorBook). request_numbered b c.in_ok-number.field-0.now ≡ request_with_id b c.args.id.now) c.self.view_is
    (id_found i.used (requests_in i.rows.items) i.offers.items i.lines.items i.open_count i.by_id c.of.result c.args.id.now c.in_ok-number.field-0.now c.self.invariant c.of.ensures c.in_ok-number.ensures.value)

pub returns : goal.returns
returns c =
    let i = c.self.inside in
    c.in_ok-row.ensures.request
    ∙ subst (λ (b : InvestorBook). request_numbered b c.in_ok-number.field-0.now ≡ request_with_id b c.args.id.now) c.self.view_is
    (id_found i.used (requests_in i.rows.items) i.offers.items i.lines.items i.open_count i.by_id c.of.result c.args.id.now c.in_ok-number.field-0.now c.self.invariant c.of.ensures c.in_ok-number.ensures.value)
