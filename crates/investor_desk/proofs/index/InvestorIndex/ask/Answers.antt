use Rattle.std.proofs.Common.{List, [], ◌∷◌, ◌++◌, None, refl, ap, ◌∙◌}
use Rattle.std.proofs.lemmas.List.{map-append}
use Rattle.investor_desk.specs.InvestorFacts.{StandingRequest}
use Rattle.investor_desk.specs.InvestorTable.{request_in, requests_in}
use Rattle.investor_desk.specs.declared.index.RequestRow.{RequestRow}
use Rattle.investor_desk.proofs.WriteLemmas.{index_same, row_pushed, asked_seen, asked_stays}
use Rattle.investor_desk.proofs.index.InvestorIndex.ask.Goals as goal

pub invariant_of-self-in_err-insert : goal.invariant_of-self-in_err-insert
invariant_of-self-in_err-insert c =
    let i = c.self.inside in
    index_same i.used (requests_in i.rows.items) (requests_in c.reserve.new.self.items) i.offers.items i.offers.items i.lines.items c.reserve-2.new.self.items i.open_count i.by_id c.insert.new.self c.self.invariant
    (ap requests_in c.in_ok-reserve.ensures.items) refl c.in_ok-reserve-2.ensures.items c.in_err-insert.ensures.err

pub invariant_of-self-2 : goal.invariant_of-self-2
invariant_of-self-2 c =
    let i = c.self.inside in
    let request = c.args.request in
    let row : RequestRow = record { request = request; close = None; standing = c.new.result } in
    asked_stays c.args.self.now i.used i.rows.items c.reserve.new.self.items c.push-2.new.self.items i.offers.items i.lines.items c.reserve-2.new.self.items c.push.new.self.items i.open_count i.by_id c.insert.new.self
    request row c.line_of-line.result c.copy.result c.self.view_is c.self.invariant c.requires.fits c.requires.used
    c.in_ok-reserve.ensures.items c.in_ok-push-2.ensures.items (row_pushed row refl c.new.ensures.items)
    c.in_ok-reserve-2.ensures.items c.in_ok-push.ensures.items c.line_of-line.ensures c.copy.ensures c.in_ok-insert.ensures.updates.0

pub returns-clause-ok : goal.returns-clause-ok
returns-clause-ok c =
    let i = c.self.inside in
    let request = c.args.request in
    let row : RequestRow = record { request = request; close = None; standing = c.new.result } in
    asked_seen c.args.self.now i.used i.rows.items c.push-2.new.self.items i.offers.items request c.self.view_is
    (ap requests_in c.in_ok-push-2.ensures.items
    ∙ map-append request_in c.reserve.new.self.items (row ∷ [])
    ∙ ap (λ (rs : List RequestRow). requests_in rs ++ request_in row ∷ []) c.in_ok-reserve.ensures.items
    ∙ ap (λ (r : StandingRequest). requests_in i.rows.items ++ r ∷ []) (row_pushed row refl c.new.ensures.items))
