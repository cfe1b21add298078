use Rattle.std.proofs.Common.{◌<◌, ◌^◌, ◌+◌, List, length, map, sym, ap, subst, ◌∙◌}
use Rattle.std.proofs.lemmas.List.{length-map}
use Rattle.dealer_desk.specs.DealerFacts.{Told}
use Rattle.dealer_desk.specs.BookChanges.{told_at, closed_on}
use Rattle.dealer_desk.specs.DealerTable.{IndexView, requests_in}
use Rattle.dealer_desk.specs.declared.standing.StandingRequest.{StandingRequest}
use Rattle.dealer_desk.proofs.BookLemmas.{told_book}
use Rattle.dealer_desk.proofs.IndexLemmas.{book_with, same_book, view_after, index_changed}
use Rattle.dealer_desk.proofs.IndexLemmas.{closed_keeps, most_rows}
use Rattle.dealer_desk.proofs.index.DealerIndex.tell.Goals as goal

pub close-requires-clause-to_last : goal.close-requires-clause-to_last
close-requires-clause-to_last c = most_rows c.args.self.now c.self.inside.used c.self.inside.notices c.self.inside.table.rows.items c.self.inside.table.quotes.items c.self.inside.rooms.items c.args.request c.self.view_is c.requires.to_last

pub invariant_of-self : goal.invariant_of-self
invariant_of-self c =
    let i = c.self.inside in
    let t = i.table in
    let n = c.close.new.self in
    index_changed i.used i.notices i.used (i.notices + 1) t.rows.items n.rows.items t.quotes.items n.quotes.items t.lines.items n.lines.items t.exposure n.exposure t.first_droppable n.first_droppable
    i.rooms.items i.by_id i.by_room (closed_on c.args.request c.args.close) c.self.invariant c.self.invariant.used_fits
    (subst (λ (v : IndexView). v.book.notices + 1 < 2 ^ 63) (sym c.self.view_is) c.requires.fits)
    c.close.ensures.table c.close.ensures.quotes (closed_keeps c.args.request c.args.close)
    (ap (λ (rs : List StandingRequest). length rs) c.close.ensures.requests ∙ length-map (requests_in t.rows.items) (told_at c.args.request))

pub returns : goal.returns
returns c = λ moment.
    let i = c.self.inside in
    let t = i.table in
    let n = c.close.new.self in
    let book = book_with i.used i.notices (requests_in t.rows.items) t.quotes.items in
    view_after c.args.self.now book (book_with i.used (i.notices + 1) (requests_in n.rows.items) n.quotes.items) i.rooms.items (Told c.args.request c.args.close moment) c.self.view_is
    (same_book i.used (i.notices + 1) (requests_in n.rows.items) (map (told_at c.args.request) (requests_in t.rows.items)) n.quotes.items (map (closed_on c.args.request c.args.close) t.quotes.items) c.close.ensures.requests c.close.ensures.quotes
    ∙ sym (told_book book c.args.request c.args.close moment))
