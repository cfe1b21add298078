use Rattle.std.proofs.Common.{◌≡◌, ◌+◌, ◌-◌, List, ◌∷◌, [], ◌++◌, length, set, Result, Ok, Err}
use Rattle.std.proofs.Common.{OnErr, refl, sym, ap, subst, ◌∙◌}
use Rattle.investor_desk.specs.InvestorFacts.{InvestorBook, StandingRequest}
use Rattle.investor_desk.specs.BookChanges.{without_some, with_offer}
use Rattle.investor_desk.specs.InvestorTable.{request_in, requests_in}
use Rattle.investor_desk.specs.declared.standing.ShownOffer.{ShownOffer}
use Rattle.investor_desk.proofs.BookLemmas.{the_book}
use Rattle.investor_desk.proofs.IndexLemmas.{set_row, set_same_row}
use Rattle.investor_desk.proofs.WriteLemmas.{index_same, accepted_in, offered_index, offered_seen}
use Rattle.investor_desk.proofs.index.InvestorIndex.show.Goals as goal

on_err : {T E : Type 0} {P : Type 0} (r : Result T E) → P → OnErr r P
on_err (Ok t) p = tt
on_err (Err e) p = p

pub invariant_of-self-in_err-show : goal.invariant_of-self-in_err-show
invariant_of-self-in_err-show c =
    let i = c.self.inside in
    let number = c.args.shown.request in
    index_same i.used (requests_in i.rows.items) (requests_in (set i.rows.items (number - 1) c.show.new.self)) i.offers.items c.reserve.new.self.items i.lines.items i.lines.items i.open_count i.by_id i.by_id c.self.invariant
    (set_same_row i.rows.items number c.index_mut.result.now c.show.new.self c.self.invariant.requests_numbered
    (accepted_in c.args.self.now i.used i.rows.items i.offers.items number c.self.view_is c.requires.accepted) c.index_mut.ensures.value c.in_err-show.ensures.err)
    c.in_ok-reserve.ensures.items refl refl

pub returns-in_err-show-clause-err : goal.returns-in_err-show-clause-err
returns-in_err-show-clause-err c =
    let i = c.self.inside in
    let number = c.args.shown.request in
    let same : requests_in (set i.rows.items (number - 1) c.show.new.self) ≡ requests_in i.rows.items =
    set_same_row i.rows.items number c.index_mut.result.now c.show.new.self c.self.invariant.requests_numbered
    (accepted_in c.args.self.now i.used i.rows.items i.offers.items number c.self.view_is c.requires.accepted) c.index_mut.ensures.value c.in_err-show.ensures.err in
    on_err c.from_residual-in_err-show.result
    (ap (λ (rs : List StandingRequest). the_book i.used rs c.reserve.new.self.items) same
    ∙ ap (the_book i.used (requests_in i.rows.items)) c.in_ok-reserve.ensures.items
    ∙ c.self.view_is)

pub invariant_of-self-2 : goal.invariant_of-self-2
invariant_of-self-2 c =
    let i = c.self.inside in
    let number = c.args.shown.request in
    let row = c.index_mut.result.now in
    offered_index i.used i.rows.items (set i.rows.items (number - 1) c.show.new.self) i.offers.items c.push.new.self.items i.lines.items i.open_count i.by_id c.args.replaced c.args.shown c.self.invariant
    (subst (λ (b : InvestorBook). c.args.shown.number ≡ length b.offers + 1) (sym c.self.view_is) c.requires.number_is)
    (set_row (λ (r : StandingRequest). with_offer c.args.shown (without_some c.args.replaced r)) i.rows.items number row c.show.new.self c.self.invariant.requests_numbered
    (accepted_in c.args.self.now i.used i.rows.items i.offers.items number c.self.view_is c.requires.accepted) c.index_mut.ensures.value
    (c.in_ok-show.ensures.ok ∙ ap (λ (s : ShownOffer). with_offer s (without_some c.args.replaced (request_in row))) c.shown_again.ensures))
    (c.in_ok-push.ensures.items ∙ ap (λ (os : List ShownOffer). os ++ c.args.shown ∷ []) c.in_ok-reserve.ensures.items)

pub returns-clause-ok : goal.returns-clause-ok
returns-clause-ok c =
    let i = c.self.inside in
    let number = c.args.shown.request in
    let row = c.index_mut.result.now in
    offered_seen c.args.self.now i.used i.rows.items (set i.rows.items (number - 1) c.show.new.self) i.offers.items c.push.new.self.items c.args.replaced c.args.shown c.self.view_is
    (set_row (λ (r : StandingRequest). with_offer c.args.shown (without_some c.args.replaced r)) i.rows.items number row c.show.new.self c.self.invariant.requests_numbered
    (accepted_in c.args.self.now i.used i.rows.items i.offers.items number c.self.view_is c.requires.accepted) c.index_mut.ensures.value
    (c.in_ok-show.ensures.ok ∙ ap (λ (s : ShownOffer). with_offer s (without_some c.args.replaced (request_in row))) c.shown_again.ensures))
    (c.in_ok-push.ensures.items ∙ ap (λ (os : List ShownOffer). os ++ c.args.shown ∷ []) c.in_ok-reserve.ensures.items)
