use Rattle.std.proofs.Common.{List, length, map, sym, ap, subst, ◌∙◌}
use Rattle.dealer_desk.specs.DealerFacts.{Withdrawn}
use Rattle.dealer_desk.specs.BookChanges.{IsLiveNumber, ended_at}
use Rattle.dealer_desk.specs.DealerTable.{IndexView, requests_in}
use Rattle.dealer_desk.specs.declared.standing.StandingRequest.{StandingRequest}
use Rattle.dealer_desk.specs.declared.standing.QuoteEnd.TheVariants as end
use Rattle.dealer_desk.specs.declared.standing.Withdrawal.TheVariants as by
use Rattle.dealer_desk.proofs.BookLemmas.{withdrawn_book}
use Rattle.dealer_desk.proofs.QuoteChanges.{ended_keeps}
use Rattle.dealer_desk.proofs.IndexLemmas.{book_with, same_book, view_after, index_changed}
use Rattle.dealer_desk.proofs.index.DealerIndex.cancel.Goals as goal

pub end_live-requires-clause-live : goal.end_live-requires-clause-live
end_live-requires-clause-live c = subst (λ (i : IndexView). IsLiveNumber i.book.quotes c.args.quote) (sym c.self.view_is) c.requires

pub invariant_of-self : goal.invariant_of-self
invariant_of-self c =
    let i = c.self.inside in
    let t = i.table in
    let n = c.end_live.new.self in
    index_changed i.used i.notices i.used i.notices t.rows.items n.rows.items t.quotes.items n.quotes.items t.lines.items n.lines.items t.exposure n.exposure t.first_droppable n.first_droppable
    i.rooms.items i.by_id i.by_room (ended_at c.args.quote (end.Withdrawn by.Cancel)) c.self.invariant c.self.invariant.used_fits c.self.invariant.notices_fit
    c.end_live.ensures.table c.end_live.ensures.quotes (ended_keeps c.args.quote (end.Withdrawn by.Cancel)) (ap (λ (rs : List StandingRequest). length rs) c.end_live.ensures.requests)

pub returns : goal.returns
returns c =
    let i = c.self.inside in
    let t = i.table in
    let n = c.end_live.new.self in
    let book = book_with i.used i.notices (requests_in t.rows.items) t.quotes.items in
    view_after c.args.self.now book (book_with i.used i.notices (requests_in n.rows.items) n.quotes.items) i.rooms.items (Withdrawn c.args.quote by.Cancel) c.self.view_is
    (same_book i.used i.notices (requests_in n.rows.items) (requests_in t.rows.items) n.quotes.items (map (ended_at c.args.quote (end.Withdrawn by.Cancel)) t.quotes.items) c.end_live.ensures.requests c.end_live.ensures.quotes
    ∙ sym (withdrawn_book book c.args.quote by.Cancel))
