-- What the readers of an index find: live quotes, the quote that a drop takes, and the exposure
-- beside a quote.
use Rattle.std.proofs.Common.{◌≡◌, ◌<◌, ◌≤◌, ℕ, ◌+◌, ◌==◌, true, false, ◌&&◌, not, nat_le, nat_lt}
use Rattle.std.proofs.Common.{is_some, List, length, Some, None, find, slice_get, get_or, ◌-◌, inl}
use Rattle.std.proofs.Common.{inr, refl, sym, ap, subst, ◌∙◌, arith}
use Rattle.std.specs.List.{position_or_len}
use Rattle.std.proofs.lemmas.Bool.{eqb-true, eq-eqb, false_from_ne_true, cases_lt, and_right}
use Rattle.std.proofs.lemmas.Bool.{and_left, and_from}
use Rattle.std.proofs.lemmas.Option.{same_Some, slice_get_past, get_or_from_slice_get}
use Rattle.std.proofs.lemmas.Bool.Decides.{nat_tests}
use Rattle.std.proofs.lemmas.List.Sums.{passes_at_first}
use Rattle.market_terms.specs.declared.lines.QuoteLine.{QuoteLine}
use Rattle.dealer_desk.specs.DealerFacts.{DealerBook, request_numbered, quote_numbered}
use Rattle.dealer_desk.specs.DealerFacts.{live_number_on, live_quote_on, is_live, is_live_on}
use Rattle.dealer_desk.specs.DealerFacts.{is_droppable, quote_to_drop, exposure_beside}
use Rattle.dealer_desk.specs.BookChanges.{IsSound}
use Rattle.dealer_desk.specs.DealerTable.{IsTable, requests_in}
use Rattle.dealer_desk.specs.declared.standing.StandingRequest.{StandingRequest}
use Rattle.dealer_desk.specs.declared.standing.StandingQuote.{StandingQuote}
use Rattle.dealer_desk.specs.declared.table.RequestRow.{RequestRow}
use Rattle.dealer_desk.proofs.ListLemmas.{find_at_place, fails_where_none, find_none, find_stands}
use Rattle.dealer_desk.proofs.ListLemmas.{stands_within, within_from, before_place, past_end}
use Rattle.dealer_desk.proofs.TableReads.{read_at}
use Rattle.dealer_desk.proofs.TableClosing.{live_stands}
use Rattle.dealer_desk.proofs.TableGrowth.{beside_dead, beside_live}
use Rattle.dealer_desk.proofs.IndexLemmas.{book_with}
use Rattle.dealer_desk.proofs.ReaderLemmas.{found_by_number, absurd_bool, no_number}

-- Live quotes by their requests.

-- the request that was found has the number that was looked for
pub request_number : (book : DealerBook) (number : ℕ) (request : StandingRequest) → Some request ≡ request_numbered book number → request.number ≡ number
unfolding request_numbered
request_number book number request at =
    let stands = find_stands (λ (r : StandingRequest). r.number == number) book.requests request (sym at) in
    eqb-true request.number number stands.2

pub live_missing_request : (used notices : ℕ) (requests : List StandingRequest) (quotes : List StandingQuote) (number : ℕ) → IsSound requests quotes
    → request_numbered (book_with used notices requests quotes) number ≡ None → live_quote_on (book_with used notices requests quotes) number ≡ None
unfolding request_numbered live_quote_on
live_missing_request used notices requests quotes number sound none = find_none (is_live_on number) quotes (λ k y at.
    and_right (is_live y) (y.quote.request == number) (false_from_ne_true (y.quote.request == number) (λ so.
    let same : y.quote.request ≡ number = eqb-true y.quote.request number so in
    let least = sound.from_first k y at in
    let last = sound.to_last k y at in
    let within : number - 1 < length requests = omega arith in
    let request = stands_within requests (number - 1) within in
    let here : request.0.number ≡ (number - 1) + 1 = sound.requests_numbered (number - 1) request.0 request.1 in
    let equal : request.0.number ≡ number = omega arith in
    absurd_bool (eq-eqb request.0.number number equal) (fails_where_none (λ (r : StandingRequest). r.number == number) requests none (number - 1) request.0 request.1))))

pub live_missing : (book : DealerBook) (number : ℕ) → live_number_on book number ≡ None → live_quote_on book number ≡ None
unfolding live_quote_on
live_missing book number none = no_number (find (is_live_on number) book.quotes) none

pub live_found_by : (used notices : ℕ) (requests : List StandingRequest) (quotes : List StandingQuote) (request number : ℕ) → IsSound requests quotes
    → live_number_on (book_with used notices requests quotes) request ≡ Some number
    → quote_numbered (book_with used notices requests quotes) number ≡ live_quote_on (book_with used notices requests quotes) request
unfolding live_quote_on
live_found_by used notices requests quotes request number sound is =
    found_by_number used notices requests quotes (is_live_on request) sound (find (is_live_on request) quotes) refl number is

-- the number of a live quote is that of a quote
pub live_within : (used notices : ℕ) (requests : List StandingRequest) (quotes : List StandingQuote) (request number : ℕ) → IsSound requests quotes
    → live_number_on (book_with used notices requests quotes) request ≡ Some number → (1 ≤ number) × (number ≤ length quotes)
unfolding live_quote_on
live_within used notices requests quotes request number sound is =
    let live = live_stands requests quotes request number sound is in
    let place : number ≡ live.place + 1 = live.number_is in
    let inside : live.place < length quotes = within_from quotes live.place live.own live.stands in
    let least : 1 ≤ number = omega arith in
    let most : number ≤ length quotes = omega arith in
    (least, most)

-- The quote that a drop takes.

le_false : (m n : ℕ) → n < m → nat_le m n ≡ false
le_false m n h = false_from_ne_true (nat_le m n) (λ so. let le : m ≤ n = grind (arith, nat_tests) in let never : ⊥ = omega arith in never)

le_true : (m n : ℕ) → m ≤ n → nat_le m n ≡ true
le_true m n h = grind (arith, nat_tests)

pub drop_missing : (used notices : ℕ) (requests : List StandingRequest) (quotes : List StandingQuote) (first last : ℕ) → first ≡ position_or_len is_droppable quotes → slice_get quotes first ≡ None
    → quote_to_drop (book_with used notices requests quotes) last ≡ None
unfolding quote_to_drop
drop_missing used notices requests quotes first last is none =
    let past = past_end quotes first none in
    find_none (λ (q : StandingQuote). is_droppable q && nat_le q.quote.number last) quotes (λ k y at.
    let within = within_from quotes k y at in
    let below : k < position_or_len is_droppable quotes = subst (λ (n : ℕ). k < n) is (omega arith) in
    and_left (is_droppable y) (nat_le y.quote.number last) (before_place is_droppable quotes k y below at))

pub drop_beyond : (used notices : ℕ) (requests : List StandingRequest) (quotes : List StandingQuote) (first last : ℕ) (own : StandingQuote) → IsSound requests quotes → first ≡ position_or_len is_droppable quotes
    → slice_get quotes first ≡ Some own → last < own.quote.number → quote_to_drop (book_with used notices requests quotes) last ≡ None
unfolding quote_to_drop
drop_beyond used notices requests quotes first last own sound is stands beyond =
    let here : own.quote.number ≡ first + 1 = sound.quotes_numbered first own stands in
    find_none (λ (q : StandingQuote). is_droppable q && nat_le q.quote.number last) quotes (λ k y at.
    let number : y.quote.number ≡ k + 1 = sound.quotes_numbered k y at in
    elim (cases_lt k first) [
      | inl less ↦ and_left (is_droppable y) (nat_le y.quote.number last) (before_place is_droppable quotes k y (subst (λ (n : ℕ). k < n) is less) at)
      | inr more ↦ (let far : last < y.quote.number = omega arith in and_right (is_droppable y) (nat_le y.quote.number last) (le_false y.quote.number last far))
    ])

pub drop_found : (used notices : ℕ) (requests : List StandingRequest) (quotes : List StandingQuote) (first last : ℕ) (own : StandingQuote) → first ≡ position_or_len is_droppable quotes
    → slice_get quotes first ≡ Some own → own.quote.number ≤ last → quote_to_drop (book_with used notices requests quotes) last ≡ Some own
unfolding quote_to_drop
drop_found used notices requests quotes first last own is stands within =
    let inside : position_or_len is_droppable quotes < length quotes = subst (λ (n : ℕ). n < length quotes) is (within_from quotes first own stands) in
    let passes : is_droppable own ≡ true =
    ap is_droppable (sym (get_or_from_slice_get quotes first own own stands)) ∙ ap (λ (n : ℕ). is_droppable (get_or quotes n own)) is ∙ passes_at_first is_droppable quotes own inside in
    find_at_place (λ (q : StandingQuote). is_droppable q && nat_le q.quote.number last) quotes first own stands (and_from (is_droppable own) (nat_le own.quote.number last) passes (le_true own.quote.number last within))
    (λ k y below at. and_left (is_droppable y) (nat_le y.quote.number last) (before_place is_droppable quotes k y (subst (λ (n : ℕ). k < n) is below) at))

-- The exposure beside a quote.

pub beside_none : (used notices : ℕ) (rows : List RequestRow) (quotes : List StandingQuote) (lines : List QuoteLine) (exposure first : ℕ) → IsTable rows quotes lines exposure first
    → exposure ≡ exposure_beside (book_with used notices (requests_in rows) quotes) None
unfolding exposure_beside
beside_none used notices rows quotes lines exposure first table = table.exposure_is

pub beside_missing : (used notices : ℕ) (rows : List RequestRow) (quotes : List StandingQuote) (lines : List QuoteLine) (exposure first number : ℕ) → IsTable rows quotes lines exposure first
    → quote_numbered (book_with used notices (requests_in rows) quotes) number ≡ None
    → exposure ≡ exposure_beside (book_with used notices (requests_in rows) quotes) (Some number)
unfolding exposure_beside quote_numbered
beside_missing used notices rows quotes lines exposure first number table none = table.exposure_is ∙ sym (beside_dead quotes number (λ k own at same.
    absurd (absurd_bool (eq-eqb own.quote.number number same) (fails_where_none (λ (q : StandingQuote). q.quote.number == number) quotes none k own at))))

-- the place of a quote that was found by its number
pub numbered_place : (used notices : ℕ) (requests : List StandingRequest) (quotes : List StandingQuote) (number : ℕ) (own : StandingQuote) → IsSound requests quotes
    → quote_numbered (book_with used notices requests quotes) number ≡ Some own → (place : ℕ) × (slice_get quotes place ≡ Some own) × (number ≡ place + 1)
unfolding quote_numbered
numbered_place used notices requests quotes number own sound at =
    let stands = find_stands (λ (q : StandingQuote). q.quote.number == number) quotes own at in
    (stands.0, stands.1, sym (eqb-true own.quote.number number stands.2) ∙ sound.quotes_numbered stands.0 own stands.1)

pub beside_ended : (used notices : ℕ) (rows : List RequestRow) (quotes : List StandingQuote) (lines : List QuoteLine) (exposure first number : ℕ) (own : StandingQuote) → IsTable rows quotes lines exposure first
    → quote_numbered (book_with used notices (requests_in rows) quotes) number ≡ Some own → is_some own.end ≡ true
    → exposure ≡ exposure_beside (book_with used notices (requests_in rows) quotes) (Some number)
unfolding exposure_beside
beside_ended used notices rows quotes lines exposure first number own table at ended =
    let place = numbered_place used notices (requests_in rows) quotes number own table.sound at in
    table.exposure_is ∙ sym (beside_dead quotes number (λ k other there same.
    let number2 : other.quote.number ≡ k + 1 = table.sound.quotes_numbered k other there in
    let number_is : number ≡ place.0 + 1 = place.2 in
    let equal : k ≡ place.0 = omega arith in
    let one : own ≡ other = same_Some own other (sym place.1 ∙ ap (slice_get quotes) (sym equal) ∙ there) in
    ap is_live (sym one) ∙ ap not ended))

pub beside_standing : (used notices : ℕ) (rows : List RequestRow) (quotes : List StandingQuote) (lines : List QuoteLine) (exposure first number : ℕ) (own : StandingQuote) → IsTable rows quotes lines exposure first
    → quote_numbered (book_with used notices (requests_in rows) quotes) number ≡ Some own → is_some own.end ≡ false
    → (own.quote.quantity ≤ exposure) × (exposure - own.quote.quantity ≡ exposure_beside (book_with used notices (requests_in rows) quotes) (Some number))
unfolding exposure_beside
beside_standing used notices rows quotes lines exposure first number own table at stands =
    let place = numbered_place used notices (requests_in rows) quotes number own table.sound at in
    let sum = beside_live (requests_in rows) quotes number place.0 own table.sound place.2 place.1 (ap not stands) in
    let is = table.exposure_is in
    (omega arith, omega arith)

-- What a look at a place of a list finds.

pub stands_looked : {A : Type 0} (xs seen : List A) (i : ℕ) (x : A) → seen ≡ xs → true ≡ nat_lt i (length seen) → x ≡ get_or seen i x → slice_get xs i ≡ Some x
stands_looked xs seen i x same within is =
    let inside : i < length seen = grind (arith, nat_tests) in
    ap (λ ys. slice_get ys i) (sym same) ∙ read_at seen i x inside is

pub nothing_looked : {A : Type 0} (xs seen : List A) (i : ℕ) → seen ≡ xs → false ≡ nat_lt i (length seen) → slice_get xs i ≡ None
nothing_looked xs seen i same past =
    let outside : length seen ≤ i = grind (arith, nat_tests) in
    ap (λ ys. slice_get ys i) (sym same) ∙ slice_get_past seen i outside
