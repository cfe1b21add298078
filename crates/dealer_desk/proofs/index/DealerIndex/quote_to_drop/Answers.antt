use Rattle.std.proofs.Common.{◌≡◌, Some, None, option_map, Bor, sym, ap, subst, ◌∙◌}
use Rattle.dealer_desk.specs.DealerFacts.{quote_to_drop}
use Rattle.dealer_desk.specs.DealerTable.{IndexView, requests_in}
use Rattle.dealer_desk.specs.declared.standing.StandingQuote.{StandingQuote}
use Rattle.dealer_desk.proofs.LiveReaders.{drop_missing, drop_beyond, drop_found, stands_looked}
use Rattle.dealer_desk.proofs.LiveReaders.{nothing_looked}
use Rattle.dealer_desk.proofs.index.DealerIndex.quote_to_drop.Goals as goal

pub returns-in_err-own : goal.returns-in_err-own
returns-in_err-own c =
    let i = c.self.inside in
    let t = i.table in
    ap (option_map (λ (b : Bor StandingQuote). b.now)) c.from_residual.ensures
    ∙ sym (subst (λ (v : IndexView). quote_to_drop v.book c.args.last ≡ None) c.self.view_is
    (drop_missing i.used i.notices (requests_in t.rows.items) t.quotes.items t.first_droppable c.args.last c.self.invariant.table.first_is
    (nothing_looked t.quotes.items c.deref.result.now t.first_droppable c.deref.ensures.value c.in_err-own.ensures.lookup.0)))

pub returns-then-own-last : goal.returns-then-own-last
returns-then-own-last c =
    let i = c.self.inside in
    let t = i.table in
    sym (subst (λ (v : IndexView). quote_to_drop v.book c.args.last ≡ None) c.self.view_is
    (drop_beyond i.used i.notices (requests_in t.rows.items) t.quotes.items t.first_droppable c.args.last c.in_ok-own.own.now c.self.invariant.table.sound c.self.invariant.table.first_is
    (stands_looked t.quotes.items c.deref.result.now t.first_droppable c.in_ok-own.own.now c.deref.ensures.value c.in_ok-own.ensures.lookup.0 c.in_ok-own.ensures.lookup.1) c.if-own-last.true))

pub returns : goal.returns
returns c =
    let i = c.self.inside in
    let t = i.table in
    sym (subst (λ (v : IndexView). quote_to_drop v.book c.args.last ≡ Some c.in_ok-own.own.now) c.self.view_is
    (drop_found i.used i.notices (requests_in t.rows.items) t.quotes.items t.first_droppable c.args.last c.in_ok-own.own.now c.self.invariant.table.first_is
    (stands_looked t.quotes.items c.deref.result.now t.first_droppable c.in_ok-own.own.now c.deref.ensures.value c.in_ok-own.ensures.lookup.0 c.in_ok-own.ensures.lookup.1) c.if-own-last.false))
