use Rattle.std.proofs.Common.{List, length, map, sym, ap, subst, ◌∙◌}
use Rattle.dealer_desk.specs.DealerFacts.{Late}
use Rattle.dealer_desk.specs.BookChanges.{IsLiveNumber, late_at}
use Rattle.dealer_desk.specs.DealerTable.{IndexView, requests_in}
use Rattle.dealer_desk.specs.declared.standing.StandingRequest.{StandingRequest}
use Rattle.dealer_desk.proofs.BookLemmas.{late_book}
use Rattle.dealer_desk.proofs.QuoteChanges.{late_keeps}
use Rattle.dealer_desk.proofs.IndexLemmas.{book_with, same_book, view_after, index_changed}
use Rattle.dealer_desk.proofs.index.DealerIndex.find_lifted.Goals as goal

pub find_lifted-requires-clause-live : goal.find_lifted-requires-clause-live
find_lifted-requires-clause-live c = subst (λ (i : IndexView). IsLiveNumber i.book.quotes c.args.quote) (sym c.self.view_is) c.requires

pub invariant_of-self : goal.invariant_of-self
invariant_of-self c =
    let i = c.self.inside in
    let t = i.table in
    let n = c.find_lifted.new.self in
    index_changed i.used i.notices i.used i.notices t.rows.items n.rows.items t.quotes.items n.quotes.items t.lines.items n.lines.items t.exposure n.exposure t.first_droppable n.first_droppable
    i.rooms.items i.by_id i.by_room (late_at c.args.quote) c.self.invariant c.self.invariant.used_fits c.self.invariant.notices_fit
    c.find_lifted.ensures.table c.find_lifted.ensures.quotes (late_keeps c.args.quote) (ap (λ (rs : List StandingRequest). length rs) c.find_lifted.ensures.requests)

pub returns : goal.returns
returns c =
    let i = c.self.inside in
    let t = i.table in
    let n = c.find_lifted.new.self in
    let book = book_with i.used i.notices (requests_in t.rows.items) t.quotes.items in
    view_after c.args.self.now book (book_with i.used i.notices (requests_in n.rows.items) n.quotes.items) i.rooms.items (Late c.args.quote) c.self.view_is
    (same_book i.used i.notices (requests_in n.rows.items) (requests_in t.rows.items) n.quotes.items (map (late_at c.args.quote) t.quotes.items) c.find_lifted.ensures.requests c.find_lifted.ensures.quotes
    ∙ sym (late_book book c.args.quote))
