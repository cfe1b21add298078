use Rattle.std.proofs.Common.{◌≡◌, None, option_map, Bor, sym, ap, subst, ◌∙◌}
use Rattle.dealer_desk.specs.DealerFacts.{quote_with_id, quote_numbered}
use Rattle.dealer_desk.specs.DealerTable.{key_of, IndexView, requests_in}
use Rattle.dealer_desk.specs.declared.standing.StandingQuote.{StandingQuote}
use Rattle.dealer_desk.proofs.ReaderLemmas.{id_missing, id_found}
use Rattle.dealer_desk.proofs.index.DealerIndex.quote_with_id.Goals as goal

pub returns-in_err-number : goal.returns-in_err-number
returns-in_err-number c =
    let i = c.self.inside in
    ap (option_map (λ (b : Bor StandingQuote). b.now)) c.from_residual.ensures
    ∙ sym (subst (λ (v : IndexView). quote_with_id v.book c.args.id.now ≡ None) c.self.view_is
    (id_missing i.used i.notices (requests_in i.table.rows.items) i.table.quotes.items i.by_id c.of_id.result c.args.id.now c.self.invariant.ids (c.of_id.ensures ∙ ap key_of c.of.ensures) c.in_err-number.ensures.value))

pub returns-in_err-own : goal.returns-in_err-own
returns-in_err-own c =
    let i = c.self.inside in
    ap (option_map (λ (b : Bor StandingQuote). b.now)) c.from_residual-in_err-own.ensures ∙ c.in_err-own.ensures
    ∙ subst (λ (v : IndexView). quote_numbered v.book c.in_ok-number.field-0.now ≡ quote_with_id v.book c.args.id.now) c.self.view_is
    (id_found i.used i.notices (requests_in i.table.rows.items) i.table.quotes.items i.by_id c.of_id.result c.args.id.now c.in_ok-number.field-0.now c.self.invariant.table.sound c.self.invariant.ids (c.of_id.ensures ∙ ap key_of c.of.ensures) c.in_ok-number.ensures.value)

pub returns : goal.returns
returns c =
    let i = c.self.inside in
    c.in_ok-own.ensures
    ∙ subst (λ (v : IndexView). quote_numbered v.book c.in_ok-number.field-0.now ≡ quote_with_id v.book c.args.id.now) c.self.view_is
    (id_found i.used i.notices (requests_in i.table.rows.items) i.table.quotes.items i.by_id c.of_id.result c.args.id.now c.in_ok-number.field-0.now c.self.invariant.table.sound c.self.invariant.ids (c.of_id.ensures ∙ ap key_of c.of.ensures) c.in_ok-number.ensures.value)
