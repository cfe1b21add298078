use Rattle.std.proofs.Common.{◌≡◌, ◌≤◌, ◌-◌, List, length, get_or, Some, None, option_map, Bor, sym}
use Rattle.std.proofs.Common.{ap, subst, ◌∙◌, arith}
use Rattle.dealer_desk.specs.DealerFacts.{live_quote_on, live_number_on, quote_numbered}
use Rattle.dealer_desk.specs.DealerFacts.{request_numbered}
use Rattle.dealer_desk.specs.DealerTable.{IndexView, requests_in}
use Rattle.dealer_desk.specs.declared.standing.StandingQuote.{StandingQuote}
use Rattle.dealer_desk.proofs.LiveReaders.{request_number, live_missing_request, live_missing}
use Rattle.dealer_desk.proofs.LiveReaders.{live_within, live_found_by}
use Rattle.dealer_desk.proofs.ReaderLemmas.{quote_found}
use Rattle.dealer_desk.proofs.index.DealerIndex.live_quote_on.Goals as goal

pub returns-in_err-row : goal.returns-in_err-row
returns-in_err-row c =
    let i = c.self.inside in
    ap (option_map (λ (b : Bor StandingQuote). b.now)) c.from_residual.ensures
    ∙ sym (subst (λ (v : IndexView). live_quote_on v.book c.args.request ≡ None) c.self.view_is
    (live_missing_request i.used i.notices (requests_in i.table.rows.items) i.table.quotes.items c.args.request c.self.invariant.table.sound
    (subst (λ (v : IndexView). request_numbered v.book c.args.request ≡ None) (sym c.self.view_is) (sym c.in_err-row.ensures.request))))

pub returns-in_err-number : goal.returns-in_err-number
returns-in_err-number c =
    let book = c.args.self.now.book in
    ap (option_map (λ (b : Bor StandingQuote). b.now)) c.from_residual-in_err-number.ensures
    ∙ sym (live_missing book c.args.request (ap (live_number_on book) (sym (request_number book c.args.request c.in_ok-row.row.now.request c.in_ok-row.ensures.request)) ∙ sym c.in_ok-row.ensures.live ∙ c.in_err-number.was))

pub overflow_sub-result : goal.overflow_sub-result
overflow_sub-result c =
    let i = c.self.inside in
    let book = c.args.self.now.book in
    (live_within i.used i.notices (requests_in i.table.rows.items) i.table.quotes.items c.args.request c.in_ok-number.number c.self.invariant.table.sound
    (subst (λ (v : IndexView). live_number_on v.book c.args.request ≡ Some c.in_ok-number.number) (sym c.self.view_is)
    (ap (live_number_on book) (sym (request_number book c.args.request c.in_ok-row.row.now.request c.in_ok-row.ensures.request)) ∙ sym c.in_ok-row.ensures.live ∙ c.in_ok-number.was))).0

pub bounds-quotes-number : goal.bounds-quotes-number
bounds-quotes-number c =
    let i = c.self.inside in
    let book = c.args.self.now.book in
    let seen : length c.as_slice-quotes.result.now ≡ length i.table.quotes.items = ap (λ (qs : List StandingQuote). length qs) c.as_slice-quotes.ensures.value in
    let both = live_within i.used i.notices (requests_in i.table.rows.items) i.table.quotes.items c.args.request c.in_ok-number.number c.self.invariant.table.sound
    (subst (λ (v : IndexView). live_number_on v.book c.args.request ≡ Some c.in_ok-number.number) (sym c.self.view_is)
    (ap (live_number_on book) (sym (request_number book c.args.request c.in_ok-row.row.now.request c.in_ok-row.ensures.request)) ∙ sym c.in_ok-row.ensures.live ∙ c.in_ok-number.was)) in
    let least : 1 ≤ c.in_ok-number.number = both.0 in
    let most : c.in_ok-number.number ≤ length i.table.quotes.items = both.1 in
    omega arith

pub returns : goal.returns
returns c =
    let i = c.self.inside in
    let book = c.args.self.now.book in
    let quotes = i.table.quotes.items in
    let own = c.index-quotes-number.result in
    let is : live_number_on book c.args.request ≡ Some c.in_ok-number.number =
    ap (live_number_on book) (sym (request_number book c.args.request c.in_ok-row.row.now.request c.in_ok-row.ensures.request)) ∙ sym c.in_ok-row.ensures.live ∙ c.in_ok-number.was in
    let both = live_within i.used i.notices (requests_in i.table.rows.items) quotes c.args.request c.in_ok-number.number c.self.invariant.table.sound
    (subst (λ (v : IndexView). live_number_on v.book c.args.request ≡ Some c.in_ok-number.number) (sym c.self.view_is) is) in
    subst (λ (v : IndexView). Some own ≡ quote_numbered v.book c.in_ok-number.number) c.self.view_is
    (sym (quote_found i.used i.notices (requests_in i.table.rows.items) quotes c.in_ok-number.number own c.self.invariant.table.sound both.0 both.1
    (c.index-quotes-number.is ∙ ap (λ (qs : List StandingQuote). get_or qs (c.in_ok-number.number - 1) own) c.as_slice-quotes.ensures.value)))
    ∙ subst (λ (v : IndexView). live_number_on v.book c.args.request ≡ Some c.in_ok-number.number → quote_numbered v.book c.in_ok-number.number ≡ live_quote_on v.book c.args.request) c.self.view_is
    (live_found_by i.used i.notices (requests_in i.table.rows.items) quotes c.args.request c.in_ok-number.number c.self.invariant.table.sound) is
