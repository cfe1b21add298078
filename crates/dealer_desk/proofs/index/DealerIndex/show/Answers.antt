use Rattle.std.proofs.Common.{rules, ◌≡◌, ◌+◌, ℕ, List, [], ◌∷◌, ◌++◌, length, sym, ap, ◌∙◌}
use Rattle.std.proofs.lemmas.List.{length-map}
use Rattle.market_terms.specs.declared.rooms.RoomRef.{RoomRef}
use Rattle.dealer_desk.specs.DealerFacts.{Shown, standing_request}
use Rattle.dealer_desk.specs.declared.standing.StandingRequest.{StandingRequest}
use Rattle.dealer_desk.specs.declared.table.RequestRow.{RequestRow}
use Rattle.dealer_desk.specs.DealerTable.{requests_in}
use Rattle.dealer_desk.proofs.BookLemmas.{shown_book}
use Rattle.dealer_desk.proofs.IndexLemmas.{book_with, same_book}
use Rattle.dealer_desk.proofs.GrowthLemmas.{index_shown, view_shown}
use Rattle.dealer_desk.proofs.index.DealerIndex.show.Goals as goal

pub invariant_of-self-2 : goal.invariant_of-self-2
invariant_of-self-2 c =
    let i = c.self.inside in
    let t = i.table in
    let n = c.push_request.new.self in
    let count : c.len.result ≡ length c.reserve.new.self.items = search rules in
    index_shown i.used i.notices t.rows.items n.rows.items t.quotes.items n.quotes.items t.lines.items n.lines.items t.exposure n.exposure t.first_droppable n.first_droppable
    i.rooms.items c.push.new.self.items i.by_id i.by_room c.put_first.new.by_room c.args.room (c.len.result + 1) (standing_request (length t.rows.items + 1) c.args.ask [])
    c.self.invariant c.in_ok-push_request.ensures.table c.in_ok-push_request.ensures.quotes
    (c.in_ok-push_request.ensures.requests ∙ ap (λ (rs : List RequestRow). requests_in rs ++ standing_request (length rs + 1) c.args.ask [] ∷ []) c.in_ok-reserve.ensures.items)
    (c.in_ok-push.ensures.items ∙ ap (λ (rs : List RoomRef). rs ++ c.args.room ∷ []) c.in_ok-reserve-2.ensures.items)
    (ap (λ (n : ℕ). n + 1) count ∙ ap (λ (rs : List RequestRow). length rs + 1) c.in_ok-reserve.ensures.items)
    c.in_ok-put_first.ensures.ok

pub returns-clause-ok : goal.returns-clause-ok
returns-clause-ok c = λ moment.
    let i = c.self.inside in
    let t = i.table in
    let n = c.push_request.new.self in
    let book = book_with i.used i.notices (requests_in t.rows.items) t.quotes.items in
    let shown : List StandingRequest = requests_in t.rows.items ++ standing_request (length (requests_in t.rows.items) + 1) c.args.ask [] ∷ [] in
    view_shown c.args.self.now book (book_with i.used i.notices (requests_in n.rows.items) n.quotes.items) i.rooms.items c.push.new.self.items c.args.room (Shown c.args.ask moment) c.self.view_is
    (same_book i.used i.notices (requests_in n.rows.items) shown n.quotes.items t.quotes.items
    (c.in_ok-push_request.ensures.requests
    ∙ ap (λ (rs : List RequestRow). requests_in rs ++ standing_request (length rs + 1) c.args.ask [] ∷ []) c.in_ok-reserve.ensures.items
    ∙ ap (λ (n : ℕ). requests_in t.rows.items ++ standing_request (n + 1) c.args.ask [] ∷ []) (sym (length-map t.rows.items (λ (r : RequestRow). r.request))))
    c.in_ok-push_request.ensures.quotes
    ∙ sym (shown_book book c.args.ask moment))
    (c.in_ok-push.ensures.items ∙ ap (λ (rs : List RoomRef). rs ++ c.args.room ∷ []) c.in_ok-reserve-2.ensures.items)
