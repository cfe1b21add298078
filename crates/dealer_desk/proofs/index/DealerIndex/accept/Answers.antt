use Rattle.std.proofs.Common.{◌≡◌, List, [], ◌∷◌, ◌++◌, length, None, sym, ap, subst, ◌∙◌}
use Rattle.dealer_desk.specs.DealerFacts.{Quoted, standing_quote}
use Rattle.dealer_desk.specs.BookChanges.{FitsBook}
use Rattle.dealer_desk.specs.DealerTable.{key_of, IndexView, live_number_among, requests_in}
use Rattle.dealer_desk.specs.declared.standing.StandingQuote.{StandingQuote}
use Rattle.dealer_desk.specs.declared.standing.StandingRequest.{StandingRequest}
use Rattle.dealer_desk.proofs.BookLemmas.{quoted_book}
use Rattle.dealer_desk.proofs.IndexLemmas.{book_with, same_book, view_after, index_pushed}
use Rattle.dealer_desk.proofs.IndexLemmas.{fits_alone, fits_exposure, fits_id}
use Rattle.dealer_desk.proofs.index.DealerIndex.accept.Goals as goal

pub push_quote-requires-clause-alone : goal.push_quote-requires-clause-alone
push_quote-requires-clause-alone c =
    let i = c.self.inside in
    let t = i.table in
    subst (λ (qs : List StandingQuote). live_number_among qs c.args.quote.request ≡ None) (sym c.in_ok-reserve.ensures.items)
    (fits_alone i.used i.notices (requests_in t.rows.items) t.quotes.items c.args.quote (subst (λ (v : IndexView). FitsBook v.book c.args.quote None) (sym c.self.view_is) c.requires))

pub push_quote-requires-clause-exposure : goal.push_quote-requires-clause-exposure
push_quote-requires-clause-exposure c =
    let i = c.self.inside in
    let t = i.table in
    fits_exposure i.used i.notices t.rows.items t.quotes.items t.lines.items t.exposure t.first_droppable c.args.quote c.self.invariant.table (subst (λ (v : IndexView). FitsBook v.book c.args.quote None) (sym c.self.view_is) c.requires)

pub invariant_of-self-2 : goal.invariant_of-self-2
invariant_of-self-2 c =
    let i = c.self.inside in
    let t = i.table in
    let n = c.push_quote.new.self in
    index_pushed i.used i.notices t.rows.items n.rows.items t.quotes.items n.quotes.items t.lines.items n.lines.items t.exposure n.exposure t.first_droppable n.first_droppable
    i.rooms.items i.by_id c.insert.new.self i.by_room c.args.quote c.of_id.result c.self.invariant c.in_ok-push_quote.ensures.table
    (c.in_ok-push_quote.ensures.quotes ∙ ap (λ (qs : List StandingQuote). qs ++ standing_quote c.args.quote [] ∷ []) c.in_ok-reserve.ensures.items)
    (c.of_id.ensures ∙ ap key_of c.copy.ensures)
    (fits_id i.used i.notices (requests_in t.rows.items) t.quotes.items c.args.quote None (subst (λ (v : IndexView). FitsBook v.book c.args.quote None) (sym c.self.view_is) c.requires))
    c.in_ok-insert.ensures.updates.0
    (ap (λ (rs : List StandingRequest). length rs) c.in_ok-push_quote.ensures.requests)

pub returns-clause-ok : goal.returns-clause-ok
returns-clause-ok c =
    let i = c.self.inside in
    let t = i.table in
    let n = c.push_quote.new.self in
    let book = book_with i.used i.notices (requests_in t.rows.items) t.quotes.items in
    view_after c.args.self.now book (book_with i.used i.notices (requests_in n.rows.items) n.quotes.items) i.rooms.items (Quoted c.args.quote) c.self.view_is
    (same_book i.used i.notices (requests_in n.rows.items) (requests_in t.rows.items) n.quotes.items (t.quotes.items ++ standing_quote c.args.quote [] ∷ []) c.in_ok-push_quote.ensures.requests
    (c.in_ok-push_quote.ensures.quotes ∙ ap (λ (qs : List StandingQuote). qs ++ standing_quote c.args.quote [] ∷ []) c.in_ok-reserve.ensures.items)
    ∙ sym (quoted_book book c.args.quote))
