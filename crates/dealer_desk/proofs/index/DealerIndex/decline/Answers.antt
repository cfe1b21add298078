use Rattle.std.proofs.Common.{List, length, map, refl, sym, ap, ◌∙◌}
use Rattle.std.proofs.lemmas.List.{length-map}
use Rattle.dealer_desk.specs.DealerFacts.{Declined}
use Rattle.dealer_desk.specs.BookChanges.{declined_at}
use Rattle.dealer_desk.specs.DealerTable.{requests_in}
use Rattle.dealer_desk.specs.declared.standing.StandingRequest.{StandingRequest}
use Rattle.dealer_desk.specs.declared.standing.StandingQuote.{StandingQuote}
use Rattle.dealer_desk.proofs.BookLemmas.{declined_book}
use Rattle.dealer_desk.proofs.IndexLemmas.{book_with, same_book, view_after, index_changed}
use Rattle.dealer_desk.proofs.IndexLemmas.{unchanged, most_rows}
use Rattle.dealer_desk.proofs.index.DealerIndex.decline.Goals as goal

pub decline-requires-clause-to_last : goal.decline-requires-clause-to_last
decline-requires-clause-to_last c = most_rows c.args.self.now c.self.inside.used c.self.inside.notices c.self.inside.table.rows.items c.self.inside.table.quotes.items c.self.inside.rooms.items c.args.request c.self.view_is c.requires.to_last

pub invariant_of-self : goal.invariant_of-self
invariant_of-self c =
    let i = c.self.inside in
    let t = i.table in
    let n = c.decline.new.self in
    index_changed i.used i.notices i.used i.notices t.rows.items n.rows.items t.quotes.items n.quotes.items t.lines.items n.lines.items t.exposure n.exposure t.first_droppable n.first_droppable
    i.rooms.items i.by_id i.by_room (λ (q : StandingQuote). q) c.self.invariant c.self.invariant.used_fits c.self.invariant.notices_fit
    c.decline.ensures.table (c.decline.ensures.quotes ∙ unchanged t.quotes.items) (λ own. refl)
    (ap (λ (rs : List StandingRequest). length rs) c.decline.ensures.requests ∙ length-map (requests_in t.rows.items) (declined_at c.args.request))

pub returns : goal.returns
returns c =
    let i = c.self.inside in
    let t = i.table in
    let n = c.decline.new.self in
    let book = book_with i.used i.notices (requests_in t.rows.items) t.quotes.items in
    view_after c.args.self.now book (book_with i.used i.notices (requests_in n.rows.items) n.quotes.items) i.rooms.items (Declined c.args.request) c.self.view_is
    (same_book i.used i.notices (requests_in n.rows.items) (map (declined_at c.args.request) (requests_in t.rows.items)) n.quotes.items t.quotes.items c.decline.ensures.requests c.decline.ensures.quotes
    ∙ sym (declined_book book c.args.request))
