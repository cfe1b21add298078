use Rattle.std.proofs.Common.{◌≡◌, List, [], ◌∷◌, ◌++◌, length, map, find, Some, None, sym, ap}
use Rattle.std.proofs.Common.{subst, ◌∙◌}
use Rattle.venue_rows.specs.Texts.{same_text}
use Rattle.dealer_desk.specs.DealerFacts.{Quoted, Withdrawn, standing_quote}
use Rattle.dealer_desk.specs.BookChanges.{FitsBook, IsLiveNumber, ended_at}
use Rattle.dealer_desk.specs.DealerTable.{key_of, IndexView, live_number_among, with_fact}
use Rattle.dealer_desk.specs.DealerTable.{requests_in}
use Rattle.dealer_desk.specs.declared.standing.StandingQuote.{StandingQuote}
use Rattle.dealer_desk.specs.declared.standing.StandingRequest.{StandingRequest}
use Rattle.dealer_desk.specs.declared.standing.QuoteEnd.{QuoteEnd}
use Rattle.dealer_desk.specs.declared.standing.QuoteEnd.TheVariants as end
use Rattle.dealer_desk.specs.declared.standing.Withdrawal.TheVariants as by
use Rattle.dealer_desk.proofs.BookLemmas.{quoted_book, withdrawn_book}
use Rattle.dealer_desk.proofs.QuoteChanges.{ended_keeps}
use Rattle.dealer_desk.proofs.TableClosing.{live_stands}
use Rattle.dealer_desk.proofs.TableGrowth.{replaced_none}
use Rattle.dealer_desk.proofs.IndexLemmas.{book_with, same_book, view_after, index_changed}
use Rattle.dealer_desk.proofs.IndexLemmas.{index_pushed, fits_live, fits_beside, fits_id}
use Rattle.dealer_desk.proofs.GrowthLemmas.{id_stays_new}
use Rattle.dealer_desk.proofs.index.DealerIndex.replace.Goals as goal

pub end_live-requires-clause-live : goal.end_live-requires-clause-live
end_live-requires-clause-live c =
    let i = c.self.inside in
    let t = i.table in
    subst (λ (qs : List StandingQuote). IsLiveNumber qs c.args.replaced) (sym c.in_ok-reserve.ensures.items)
    (live_stands (requests_in t.rows.items) t.quotes.items c.args.quote.request c.args.replaced c.self.invariant.table.sound
    (fits_live i.used i.notices (requests_in t.rows.items) t.quotes.items c.args.quote c.args.replaced (subst (λ (v : IndexView). FitsBook v.book c.args.quote (Some c.args.replaced)) (sym c.self.view_is) c.requires)))

pub push_quote-requires-clause-alone : goal.push_quote-requires-clause-alone
push_quote-requires-clause-alone c =
    let i = c.self.inside in
    let t = i.table in
    let how : QuoteEnd = end.Withdrawn by.Replacement in
    let ended : c.end_live.new.self.quotes.items ≡ map (ended_at c.args.replaced how) t.quotes.items =
    c.end_live.ensures.quotes ∙ ap (λ (qs : List StandingQuote). map (ended_at c.args.replaced how) qs) c.in_ok-reserve.ensures.items in
    subst (λ (qs : List StandingQuote). live_number_among qs c.args.quote.request ≡ None) (sym ended)
    (replaced_none (requests_in t.rows.items) t.quotes.items c.args.quote.request c.args.replaced how c.self.invariant.table.sound
    (fits_live i.used i.notices (requests_in t.rows.items) t.quotes.items c.args.quote c.args.replaced (subst (λ (v : IndexView). FitsBook v.book c.args.quote (Some c.args.replaced)) (sym c.self.view_is) c.requires)))

pub push_quote-requires-clause-exposure : goal.push_quote-requires-clause-exposure
push_quote-requires-clause-exposure c =
    let i = c.self.inside in
    let t = i.table in
    let e = c.end_live.new.self in
    let how : QuoteEnd = end.Withdrawn by.Replacement in
    let ended : e.quotes.items ≡ map (ended_at c.args.replaced how) t.quotes.items =
    c.end_live.ensures.quotes ∙ ap (λ (qs : List StandingQuote). map (ended_at c.args.replaced how) qs) c.in_ok-reserve.ensures.items in
    fits_beside i.used i.notices (requests_in t.rows.items) t.quotes.items e.quotes.items e.rows.items e.lines.items e.exposure e.first_droppable c.args.quote c.args.replaced how
    c.end_live.ensures.table ended (subst (λ (v : IndexView). FitsBook v.book c.args.quote (Some c.args.replaced)) (sym c.self.view_is) c.requires)

pub invariant_of-self-2 : goal.invariant_of-self-2
invariant_of-self-2 c =
    let i = c.self.inside in
    let t = i.table in
    let e = c.end_live.new.self in
    let n = c.push_quote.new.self in
    let how : QuoteEnd = end.Withdrawn by.Replacement in
    let ended : e.quotes.items ≡ map (ended_at c.args.replaced how) t.quotes.items =
    c.end_live.ensures.quotes ∙ ap (λ (qs : List StandingQuote). map (ended_at c.args.replaced how) qs) c.in_ok-reserve.ensures.items in
    index_pushed i.used i.notices e.rows.items n.rows.items e.quotes.items n.quotes.items e.lines.items n.lines.items e.exposure n.exposure e.first_droppable n.first_droppable
    i.rooms.items i.by_id c.insert.new.self i.by_room c.args.quote c.of_id.result
    (index_changed i.used i.notices i.used i.notices t.rows.items e.rows.items t.quotes.items e.quotes.items t.lines.items e.lines.items t.exposure e.exposure t.first_droppable e.first_droppable
    i.rooms.items i.by_id i.by_room (ended_at c.args.replaced how) c.self.invariant c.self.invariant.used_fits c.self.invariant.notices_fit
    c.end_live.ensures.table ended (ended_keeps c.args.replaced how) (ap (λ (rs : List StandingRequest). length rs) c.end_live.ensures.requests))
    c.in_ok-push_quote.ensures.table c.in_ok-push_quote.ensures.quotes (c.of_id.ensures ∙ ap key_of c.copy.ensures)
    (subst (λ (qs : List StandingQuote). find (λ (q : StandingQuote). same_text q.quote.id c.args.quote.id) qs ≡ None) (sym ended)
    (id_stays_new t.quotes.items (ended_at c.args.replaced how) c.args.quote.id (ended_keeps c.args.replaced how)
    (fits_id i.used i.notices (requests_in t.rows.items) t.quotes.items c.args.quote (Some c.args.replaced) (subst (λ (v : IndexView). FitsBook v.book c.args.quote (Some c.args.replaced)) (sym c.self.view_is) c.requires))))
    c.in_ok-insert.ensures.updates.0
    (ap (λ (rs : List StandingRequest). length rs) c.in_ok-push_quote.ensures.requests)

pub returns-clause-ok : goal.returns-clause-ok
returns-clause-ok c =
    let i = c.self.inside in
    let t = i.table in
    let e = c.end_live.new.self in
    let n = c.push_quote.new.self in
    let how : QuoteEnd = end.Withdrawn by.Replacement in
    let ended : e.quotes.items ≡ map (ended_at c.args.replaced how) t.quotes.items =
    c.end_live.ensures.quotes ∙ ap (λ (qs : List StandingQuote). map (ended_at c.args.replaced how) qs) c.in_ok-reserve.ensures.items in
    let book = book_with i.used i.notices (requests_in t.rows.items) t.quotes.items in
    let between = book_with i.used i.notices (requests_in e.rows.items) e.quotes.items in
    view_after (with_fact c.args.self.now (Withdrawn c.args.replaced by.Replacement)) between (book_with i.used i.notices (requests_in n.rows.items) n.quotes.items) i.rooms.items (Quoted c.args.quote)
    (view_after c.args.self.now book between i.rooms.items (Withdrawn c.args.replaced by.Replacement) c.self.view_is
    (same_book i.used i.notices (requests_in e.rows.items) (requests_in t.rows.items) e.quotes.items (map (ended_at c.args.replaced how) t.quotes.items) c.end_live.ensures.requests ended
    ∙ sym (withdrawn_book book c.args.replaced by.Replacement)))
    (same_book i.used i.notices (requests_in n.rows.items) (requests_in e.rows.items) n.quotes.items (e.quotes.items ++ standing_quote c.args.quote [] ∷ []) c.in_ok-push_quote.ensures.requests c.in_ok-push_quote.ensures.quotes
    ∙ sym (quoted_book between c.args.quote))
