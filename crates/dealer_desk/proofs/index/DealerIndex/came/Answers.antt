use Rattle.std.proofs.Common.{◌<◌, ◌^◌, ◌+◌, true, refl, sym, subst}
use Rattle.dealer_desk.specs.DealerFacts.{Came}
use Rattle.dealer_desk.specs.DealerTable.{IndexView, requests_in}
use Rattle.dealer_desk.specs.declared.standing.StandingQuote.{StandingQuote}
use Rattle.dealer_desk.proofs.BookLemmas.{came_book}
use Rattle.dealer_desk.proofs.IndexLemmas.{book_with, view_after, index_changed, unchanged}
use Rattle.dealer_desk.proofs.index.DealerIndex.came.Goals as goal

pub invariant_of-self : goal.invariant_of-self
invariant_of-self c =
    let i = c.self.inside in
    let t = i.table in
    index_changed i.used i.notices (i.used + 1) i.notices t.rows.items t.rows.items t.quotes.items t.quotes.items t.lines.items t.lines.items t.exposure t.exposure t.first_droppable t.first_droppable
    i.rooms.items i.by_id i.by_room (λ (q : StandingQuote). q) c.self.invariant (subst (λ (v : IndexView). v.book.used + 1 < 2 ^ 63) (sym c.self.view_is) c.requires)
    c.self.invariant.notices_fit c.self.invariant.table (unchanged t.quotes.items) (λ own. refl) refl

pub returns : goal.returns
returns c = λ moment bytes.
    let i = c.self.inside in
    let t = i.table in
    let book = book_with i.used i.notices (requests_in t.rows.items) t.quotes.items in
    view_after c.args.self.now book (book_with (i.used + 1) i.notices (requests_in t.rows.items) t.quotes.items) i.rooms.items (Came moment bytes true) c.self.view_is (sym (came_book book moment bytes true))
