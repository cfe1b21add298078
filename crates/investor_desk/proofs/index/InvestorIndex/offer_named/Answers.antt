use Rattle.std.proofs.Common.{◌≡◌, ◌<◌, ◌^◌, length, Some, None, option_map, Bor, sym, ap, subst}
use Rattle.std.proofs.Common.{◌∙◌, arith}
use Rattle.std.proofs.lemmas.Option.{none-some}
use Rattle.investor_desk.specs.InvestorFacts.{InvestorBook, offer_named, offer_numbered}
use Rattle.investor_desk.specs.InvestorTable.{requests_in}
use Rattle.investor_desk.specs.declared.standing.ShownOffer.{ShownOffer}
use Rattle.investor_desk.proofs.ReaderLemmas.{named_missing, named_is}
use Rattle.investor_desk.proofs.index.InvestorIndex.offer_named.Goals as goal

pub returns-in_err-number : goal.returns-in_err-number
returns-in_err-number c =
    let i = c.self.inside in
    let few : length i.offers.items < 2 ^ 64 = omega (arith, i.offers.ok.0, i.offers.ok.1, i.offers.small) in
    ap (option_map (λ (b : Bor ShownOffer). b.now)) c.from_residual.ensures
    ∙ sym (subst (λ (b : InvestorBook). offer_named b c.args.name.now ≡ None) c.self.view_is
    (named_missing i.used (requests_in i.rows.items) i.offers.items i.lines.items i.open_count i.by_id c.args.name.now c.self.invariant few
    (λ number fits is. none-some number (sym c.in_err-number.was ∙ c.number_named.ensures.unknown number fits is))))

pub returns-in_err-shown : goal.returns-in_err-shown
returns-in_err-shown c =
    let i = c.self.inside in
    let few : length i.offers.items < 2 ^ 64 = omega (arith, i.offers.ok.0, i.offers.ok.1, i.offers.small) in
    ap (option_map (λ (b : Bor ShownOffer). b.now)) c.from_residual-in_err-shown.ensures
    ∙ sym (subst (λ (b : InvestorBook). offer_named b c.args.name.now ≡ None) c.self.view_is
    (named_is i.used (requests_in i.rows.items) i.offers.items i.lines.items i.open_count i.by_id c.args.name.now c.in_ok-number.number c.self.invariant few
    c.in_ok-number.ensures.known
    (λ other fits is. sym c.in_ok-number.was ∙ c.number_named.ensures.unknown other fits is)
    None (subst (λ (b : InvestorBook). offer_numbered b c.in_ok-number.number ≡ None) (sym c.self.view_is) (sym c.in_err-shown.ensures))))

pub returns : goal.returns
returns c =
    let i = c.self.inside in
    let few : length i.offers.items < 2 ^ 64 = omega (arith, i.offers.ok.0, i.offers.ok.1, i.offers.small) in
    sym (subst (λ (b : InvestorBook). offer_named b c.args.name.now ≡ Some c.in_ok-shown.shown.now) c.self.view_is
    (named_is i.used (requests_in i.rows.items) i.offers.items i.lines.items i.open_count i.by_id c.args.name.now c.in_ok-number.number c.self.invariant few
    c.in_ok-number.ensures.known
    (λ other fits is. sym c.in_ok-number.was ∙ c.number_named.ensures.unknown other fits is)
    (Some c.in_ok-shown.shown.now) (subst (λ (b : InvestorBook). offer_numbered b c.in_ok-number.number ≡ Some c.in_ok-shown.shown.now) (sym c.self.view_is) (sym c.in_ok-shown.ensures))))
