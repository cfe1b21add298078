-- What an index keeps when one row of it is written.
use Rattle.std.proofs.Common.{◌≡◌, ◌<◌, ◌≤◌, ℕ, ◌+◌, ◌-◌, ◌^◌, Bool, true, false, ◌==◌, cond, List}
use Rattle.std.proofs.Common.{[], ◌∷◌, ◌++◌, length, map, set, find, Option, Some, None, option_map}
use Rattle.std.proofs.Common.{is_none, is_some, slice_get, get_or, refl, sym, ap, subst, ◌∙◌, arith}
use Rattle.std.specs.List.{count_by}
use Rattle.std.specs.Option.{option_or}
use Rattle.std.specs.BTreeMap.{BTreeMap, get, is_at}
use Rattle.std.specs.Cmp.Lexicographic.{slice_cmp}
use Rattle.std.specs.Ordering.{nat_cmp}
use Rattle.std.specs.Map.{lookup}
use Rattle.std.proofs.lemmas.Option.{get_or_from_slice_get, slice_get-map, same_Some}
use Rattle.std.proofs.lemmas.List.{map-set, map-append, length-map}
use Rattle.std.proofs.lemmas.List.Sums.{sum_by-set}
use Rattle.venue_rows.specs.Texts.{same_text}
use Rattle.market_terms.specs.declared.lines.RequestLine.{RequestLine}
use Rattle.investor_desk.specs.InvestorFacts.{InvestorFact, Asked, Offered, Gone, Closed}
use Rattle.investor_desk.specs.InvestorFacts.{InvestorBook, StandingRequest, standing_request}
use Rattle.investor_desk.specs.InvestorFacts.{is_open, requests_accepted, request_with_id}
use Rattle.investor_desk.specs.RequestLines.{line_of, state_at_close}
use Rattle.investor_desk.specs.BookChanges.{IsAccepted, FitsBook, book_after, book_with, gone_of}
use Rattle.investor_desk.specs.BookChanges.{at_number, closed_by, quotes_without, without_some}
use Rattle.investor_desk.specs.BookChanges.{with_offer}
use Rattle.investor_desk.specs.InvestorTable.{IsIndex, request_in, requests_in}
use Rattle.investor_desk.specs.declared.index.RequestRow.{RequestRow}
use Rattle.investor_desk.specs.declared.standing.AcceptedRequest.{AcceptedRequest}
use Rattle.investor_desk.specs.declared.standing.RequestClose.{RequestClose}
use Rattle.investor_desk.specs.declared.standing.ShownOffer.{ShownOffer}
use Rattle.investor_desk.proofs.BookLemmas.{the_book, asked_book, offered_book, gone_book}
use Rattle.investor_desk.proofs.BookLemmas.{closed_book}
use Rattle.investor_desk.proofs.IndexLemmas.{Numbered, read_at, request_read, set_number}
use Rattle.investor_desk.proofs.IndexLemmas.{index_mapped, without_index, offer_index, shown_index}
use Rattle.investor_desk.proofs.IndexLemmas.{asked_index}
use Rattle.investor_desk.proofs.ListLemmas.{set_same, within_from}
use Rattle.investor_desk.proofs.StandLemmas.{closed_keeps}

-- a book after a fact, from the one that a contract sees
pub seen_after : (now book after : InvestorBook) (fact : InvestorFact) → book ≡ now → after ≡ book_after book fact → after ≡ book_after now fact
seen_after now book after fact is changed = changed ∙ ap (λ (b : InvestorBook). book_after b fact) is

pub accepted_in : (now : InvestorBook) (used : ℕ) (rows : List RequestRow) (offers : List ShownOffer) (number : ℕ) → the_book used (requests_in rows) offers ≡ now → IsAccepted (requests_accepted now) number → IsAccepted (length (requests_in rows)) number
accepted_in now used rows offers number is accepted = subst (λ (b : InvestorBook). IsAccepted (length b.requests) number) (sym is) accepted

-- the same index by equal lists
pub index_same : (used : ℕ) (requests requests2 : List StandingRequest) (offers offers2 : List ShownOffer) (lines lines2 : List RequestLine) (open_now : ℕ) (by_id by_id2 : BTreeMap (List ℕ) ℕ)
    → IsIndex used requests offers lines open_now by_id → requests2 ≡ requests → offers2 ≡ offers → lines2 ≡ lines → by_id2.entries ≡ by_id.entries → IsIndex used requests2 offers2 lines2 open_now by_id2
index_same used requests requests2 offers offers2 lines lines2 open_now by_id by_id2 index r o l b = record {
  used_fits = index.used_fits;
  requests_numbered = λ k own at. index.requests_numbered k own (ap (λ (xs : List StandingRequest). slice_get xs k) (sym r) ∙ at);
  offers_numbered = λ k shown at. index.offers_numbered k shown (ap (λ (xs : List ShownOffer). slice_get xs k) (sym o) ∙ at);
  lines_are = l ∙ index.lines_are ∙ ap (map line_of) (sym r);
  open_is = index.open_is ∙ ap (count_by is_open) (sym r);
  few = subst (λ (xs : List StandingRequest). length xs ≤ 4294967295) (sym r) index.few;
  ids_are = λ id. ap (λ (es : List (List ℕ × ℕ)). lookup (is_at (slice_cmp nat_cmp id)) es) b ∙ index.ids_are id
      ∙ ap (λ (xs : List StandingRequest). option_map (λ (r : StandingRequest). r.request.number) (find (λ (r : StandingRequest). same_text r.request.id id) xs)) (sym r);
}

-- A quote that is gone.

pub row_without : (row : RequestRow) (quote : Option ℕ) (standing : List ShownOffer) → standing ≡ quotes_without quote row.standing.items
    → record { request = row.request; close = row.close; standing = standing } ≡ without_some quote (request_in row)
row_without row quote standing is = ap (λ (s : List ShownOffer). record { request = row.request; close = row.close; standing = s }) is

pub taken_index : (used : ℕ) (rows rows2 : List RequestRow) (offers : List ShownOffer) (lines : List RequestLine) (open_now : ℕ) (by_id : BTreeMap (List ℕ) ℕ) (number quote : ℕ)
    → IsIndex used (requests_in rows) offers lines open_now by_id → requests_in rows2 ≡ map (at_number number (without_some (Some quote))) (requests_in rows) → IsIndex used (requests_in rows2) offers lines open_now by_id
taken_index used rows rows2 offers lines open_now by_id number quote index changed =
    subst (λ (rs : List StandingRequest). IsIndex used rs offers lines open_now by_id) (sym changed) (without_index used (requests_in rows) offers lines open_now by_id number (Some quote) index)

pub taken_book : (now : InvestorBook) (used : ℕ) (rows rows2 : List RequestRow) (offers : List ShownOffer) (number quote : ℕ) → the_book used (requests_in rows) offers ≡ now
    → requests_in rows2 ≡ map (at_number number (without_some (Some quote))) (requests_in rows) → the_book used (requests_in rows2) offers ≡ book_after now (Gone number quote)
taken_book now used rows rows2 offers number quote is changed =
    seen_after now (the_book used (requests_in rows) offers) (the_book used (requests_in rows2) offers) (Gone number quote) is
    (ap (λ (rs : List StandingRequest). the_book used rs offers) changed ∙ sym (gone_book (the_book used (requests_in rows) offers) number quote))

-- A request that is closed.

or_kept : (was : Option RequestClose) (close : RequestClose) → is_none was ≡ false → option_or was (Some close) ≡ was
or_kept None close h = cc
or_kept (Some how) close h = refl

or_new : (was : Option RequestClose) (close : RequestClose) → is_none was ≡ true → option_or was (Some close) ≡ Some close
or_new None close h = refl
or_new (Some how) close h = cc

closed_own : (close : RequestClose) (own : StandingRequest) → is_open own ≡ false → closed_by close own ≡ own
closed_own close own closed = ap (λ (c : Option RequestClose). record own { close = c }) (or_kept own.close close closed)

-- a request that was closed before stays as it is
pub closed_again : (requests : List StandingRequest) (number : ℕ) (close : RequestClose) (own : StandingRequest) → Numbered requests → 1 ≤ number → slice_get requests (number - 1) ≡ Some own → is_open own ≡ false
    → map (at_number number (closed_by close)) requests ≡ requests
closed_again requests number close own numbered first at closed =
    sym (set_number (closed_by close) requests number own numbered first at)
    ∙ ap (set requests (number - 1)) (closed_own close own closed)
    ∙ set_same requests (number - 1) own at

pub closed_same : (now : InvestorBook) (used : ℕ) (rows : List RequestRow) (offers : List ShownOffer) (number : ℕ) (close : RequestClose) (row : RequestRow) → the_book used (requests_in rows) offers ≡ now → Numbered (requests_in rows)
    → IsAccepted (length (requests_in rows)) number → row ≡ get_or rows (number - 1) row → is_none row.close ≡ false → now ≡ book_after now (Closed number close)
closed_same now used rows offers number close row is numbered accepted read closed =
    sym is ∙ seen_after now (the_book used (requests_in rows) offers) (the_book used (requests_in rows) offers) (Closed number close) is
    (ap (λ (rs : List StandingRequest). the_book used rs offers) (sym (closed_again (requests_in rows) number close (request_in row) numbered accepted.from_first (request_read rows number row accepted read) closed))
    ∙ sym (closed_book (the_book used (requests_in rows) offers) number close))

-- one fewer is open
drop_one : (a b x y : ℕ) → a + x ≡ b + y → x ≡ 1 → y ≡ 0 → a + 1 ≡ b
drop_one a b x y sum one none = omega arith

abbrev one_if : Bool → ℕ
one_if b = cond b 1 0

one_fewer : (requests : List StandingRequest) (k : ℕ) (own own2 : StandingRequest) → slice_get requests k ≡ Some own → is_open own ≡ true → is_open own2 ≡ false → count_by is_open (set requests k own2) + 1 ≡ count_by is_open requests
one_fewer requests k own own2 at opened closed =
    drop_one (count_by is_open (set requests k own2)) (count_by is_open requests) (one_if (is_open (get_or requests k own))) (one_if (is_open own2))
    (sum_by-set (λ (r : StandingRequest). one_if (is_open r)) requests k own2 own (within_from requests k own at))
    (ap (λ (r : StandingRequest). one_if (is_open r)) (get_or_from_slice_get requests k own own at) ∙ ap one_if opened)
    (ap one_if closed)

closed_now : (close : RequestClose) (own : StandingRequest) → is_open own ≡ true → is_open (closed_by close own) ≡ false
closed_now close own opened = ap (λ (c : Option RequestClose). is_none c) (or_new own.close close opened)

pub count_closed : (requests : List StandingRequest) (number : ℕ) (close : RequestClose) (own : StandingRequest) → Numbered requests → 1 ≤ number → slice_get requests (number - 1) ≡ Some own → is_open own ≡ true
    → count_by is_open (map (at_number number (closed_by close)) requests) + 1 ≡ count_by is_open requests
count_closed requests number close own numbered first at opened =
    ap (λ (rs : List StandingRequest). count_by is_open rs + 1) (sym (set_number (closed_by close) requests number own numbered first at))
    ∙ one_fewer requests (number - 1) own (closed_by close own) at opened (closed_now close own opened)

pub some_open : (used : ℕ) (rows : List RequestRow) (offers : List ShownOffer) (lines : List RequestLine) (open_now : ℕ) (by_id : BTreeMap (List ℕ) ℕ) (number : ℕ) (close : RequestClose) (row : RequestRow)
    → IsIndex used (requests_in rows) offers lines open_now by_id → IsAccepted (length (requests_in rows)) number → row ≡ get_or rows (number - 1) row → is_none row.close ≡ true → 1 ≤ open_now
some_open used rows offers lines open_now by_id number close row index accepted read opened =
    let count = count_closed (requests_in rows) number close (request_in row) index.requests_numbered accepted.from_first (request_read rows number row accepted read) opened in
    let is = index.open_is in
    omega arith

-- the line of a request that is closed
line_closed : (close : RequestClose) (own : StandingRequest) → is_open own ≡ true → record (line_of own) { state = state_at_close close } ≡ line_of (closed_by close own)
line_closed close own opened = ap (λ (c : Option RequestClose). line_of (record own { close = c })) (sym (or_new own.close close opened))

pub lines_closed : (requests : List StandingRequest) (lines : List RequestLine) (number : ℕ) (close : RequestClose) (own : StandingRequest) (line : RequestLine) → lines ≡ map line_of requests → Numbered requests → 1 ≤ number → slice_get requests (number - 1) ≡ Some own
    → is_open own ≡ true → slice_get lines (number - 1) ≡ Some line → set lines (number - 1) (record line { state = state_at_close close }) ≡ map line_of (map (at_number number (closed_by close)) requests)
lines_closed requests lines number close own line are numbered first at opened read =
    let is : line ≡ line_of own = same_Some line (line_of own) (sym read ∙ ap (λ (ls : List RequestLine). slice_get ls (number - 1)) are ∙ slice_get-map line_of requests (number - 1) ∙ ap (option_map line_of) at) in
    ap (λ (ls : List RequestLine). set ls (number - 1) (record line { state = state_at_close close })) are
    ∙ ap (λ (l : RequestLine). set (map line_of requests) (number - 1) (record l { state = state_at_close close })) is
    ∙ ap (set (map line_of requests) (number - 1)) (line_closed close own opened)
    ∙ sym (map-set line_of requests (number - 1) (closed_by close own))
    ∙ ap (map line_of) (set_number (closed_by close) requests number own numbered first at)

pub closed_index : (used : ℕ) (rows rows2 : List RequestRow) (offers : List ShownOffer) (lines lines2 : List RequestLine) (open_now open2 : ℕ) (by_id : BTreeMap (List ℕ) ℕ) (number : ℕ) (close : RequestClose) (row : RequestRow)
    → IsIndex used (requests_in rows) offers lines open_now by_id → IsAccepted (length (requests_in rows)) number → row ≡ get_or rows (number - 1) row → is_none row.close ≡ true
    → requests_in rows2 ≡ map (at_number number (closed_by close)) (requests_in rows) → lines2 ≡ map line_of (map (at_number number (closed_by close)) (requests_in rows)) → open2 + 1 ≡ open_now
    → IsIndex used (requests_in rows2) offers lines2 open2 by_id
closed_index used rows rows2 offers lines lines2 open_now open2 by_id number close row index accepted read opened changed lined fewer =
    let count = count_closed (requests_in rows) number close (request_in row) index.requests_numbered accepted.from_first (request_read rows number row accepted read) opened in
    let is = index.open_is in
    let open_is : open2 ≡ count_by is_open (map (at_number number (closed_by close)) (requests_in rows)) = omega arith in
    subst (λ (rs : List StandingRequest). IsIndex used rs offers lines2 open2 by_id) (sym changed)
    (index_mapped used (requests_in rows) offers lines lines2 open_now open2 by_id (at_number number (closed_by close)) index (closed_keeps number close) lined open_is)

pub closed_seen : (now : InvestorBook) (used : ℕ) (rows rows2 : List RequestRow) (offers : List ShownOffer) (number : ℕ) (close : RequestClose) → the_book used (requests_in rows) offers ≡ now
    → requests_in rows2 ≡ map (at_number number (closed_by close)) (requests_in rows) → the_book used (requests_in rows2) offers ≡ book_after now (Closed number close)
closed_seen now used rows rows2 offers number close is changed =
    seen_after now (the_book used (requests_in rows) offers) (the_book used (requests_in rows2) offers) (Closed number close) is
    (ap (λ (rs : List StandingRequest). the_book used rs offers) changed ∙ sym (closed_book (the_book used (requests_in rows) offers) number close))

-- A quote that is shown, in the place of another or of none.

abbrev pub requests_shown : List StandingRequest → Option ℕ → ShownOffer → List StandingRequest
requests_shown requests replaced shown = map (at_number shown.request (with_offer shown)) (map (at_number shown.request (without_some replaced)) requests)

without_none : (b : Bool) (own : StandingRequest) → cond b (without_some None own) own ≡ own
without_none true own = refl
without_none false own = refl

same_requests : (number : ℕ) (requests : List StandingRequest) → map (at_number number (without_some None)) requests ≡ requests
same_requests number [] = refl
same_requests number (own ∷ requests) = let first : at_number number (without_some None) own ≡ own = without_none (number == own.request.number) own in let rest : map (at_number number (without_some None)) requests ≡ requests = same_requests number requests in cc

shown_book : (used : ℕ) (requests : List StandingRequest) (offers : List ShownOffer) (replaced : Option ℕ) (shown : ShownOffer)
    → the_book used (requests_shown requests replaced shown) (offers ++ shown ∷ []) ≡ book_with (the_book used requests offers) (gone_of shown.request replaced ++ Offered shown ∷ [])
shown_book used requests offers None shown =
    ap (λ (rs : List StandingRequest). the_book used (map (at_number shown.request (with_offer shown)) rs) (offers ++ shown ∷ [])) (same_requests shown.request requests)
    ∙ sym (offered_book (the_book used requests offers) shown)
shown_book used requests offers (Some quote) shown =
    sym (offered_book (the_book used (map (at_number shown.request (without_some (Some quote))) requests) offers) shown)
    ∙ ap (λ (b : InvestorBook). book_after b (Offered shown)) (sym (gone_book (the_book used requests offers) shown.request quote))

-- by whether it is the request with the number: a change keeps its number
at_by : (b : Bool) (number : ℕ) (shown : ShownOffer) (replaced : Option ℕ) (own : StandingRequest) → (number == own.request.number) ≡ b
    → cond b (with_offer shown (without_some replaced own)) own ≡ at_number number (with_offer shown) (cond b (without_some replaced own) own)
at_by true number shown replaced own is = sym (ap (λ (c : Bool). cond c (with_offer shown (without_some replaced own)) (without_some replaced own)) is)
at_by false number shown replaced own is = sym (ap (λ (c : Bool). cond c (with_offer shown own) own) is)

at_both : (number : ℕ) (shown : ShownOffer) (replaced : Option ℕ) (own : StandingRequest)
    → at_number number (λ (r : StandingRequest). with_offer shown (without_some replaced r)) own ≡ at_number number (with_offer shown) (at_number number (without_some replaced) own)
at_both number shown replaced own = at_by (number == own.request.number) number shown replaced own refl

pub shown_rows : (requests : List StandingRequest) (replaced : Option ℕ) (shown : ShownOffer) → map (at_number shown.request (λ (r : StandingRequest). with_offer shown (without_some replaced r))) requests ≡ requests_shown requests replaced shown
shown_rows [] replaced shown = refl
shown_rows (own ∷ requests) replaced shown =
    let first = at_both shown.request shown replaced own in
    let rest : map (at_number shown.request (λ (r : StandingRequest). with_offer shown (without_some replaced r))) requests ≡ requests_shown requests replaced shown = shown_rows requests replaced shown in
    ap (λ (r : StandingRequest). r ∷ map (at_number shown.request (λ (r : StandingRequest). with_offer shown (without_some replaced r))) requests) first
    ∙ ap (λ (rs : List StandingRequest). at_number shown.request (with_offer shown) (at_number shown.request (without_some replaced) own) ∷ rs) rest

pub offered_index : (used : ℕ) (rows rows2 : List RequestRow) (offers offers2 : List ShownOffer) (lines : List RequestLine) (open_now : ℕ) (by_id : BTreeMap (List ℕ) ℕ) (replaced : Option ℕ) (shown : ShownOffer)
    → IsIndex used (requests_in rows) offers lines open_now by_id → shown.number ≡ length offers + 1
    → requests_in rows2 ≡ map (at_number shown.request (λ (r : StandingRequest). with_offer shown (without_some replaced r))) (requests_in rows) → offers2 ≡ offers ++ shown ∷ []
    → IsIndex used (requests_in rows2) offers2 lines open_now by_id
offered_index used rows rows2 offers offers2 lines open_now by_id replaced shown index number changed pushed =
    subst (λ (rs : List StandingRequest). IsIndex used rs offers2 lines open_now by_id) (sym (changed ∙ shown_rows (requests_in rows) replaced shown))
    (subst (λ (os : List ShownOffer). IsIndex used (requests_shown (requests_in rows) replaced shown) os lines open_now by_id) (sym pushed)
    (shown_index used (requests_shown (requests_in rows) replaced shown) offers lines open_now by_id shown
    (offer_index used (map (at_number shown.request (without_some replaced)) (requests_in rows)) offers lines open_now by_id shown.request shown
    (without_index used (requests_in rows) offers lines open_now by_id shown.request replaced index))
    number))

pub offered_seen : (now : InvestorBook) (used : ℕ) (rows rows2 : List RequestRow) (offers offers2 : List ShownOffer) (replaced : Option ℕ) (shown : ShownOffer) → the_book used (requests_in rows) offers ≡ now
    → requests_in rows2 ≡ map (at_number shown.request (λ (r : StandingRequest). with_offer shown (without_some replaced r))) (requests_in rows) → offers2 ≡ offers ++ shown ∷ []
    → the_book used (requests_in rows2) offers2 ≡ book_with now (gone_of shown.request replaced ++ Offered shown ∷ [])
offered_seen now used rows rows2 offers offers2 replaced shown is changed pushed =
    ap (λ (rs : List StandingRequest). the_book used rs offers2) (changed ∙ shown_rows (requests_in rows) replaced shown)
    ∙ ap (the_book used (requests_shown (requests_in rows) replaced shown)) pushed
    ∙ shown_book used (requests_in rows) offers replaced shown
    ∙ ap (λ (b : InvestorBook). book_with b (gone_of shown.request replaced ++ Offered shown ∷ [])) is

-- A request that is put behind the others.

pub asked_seen : (now : InvestorBook) (used : ℕ) (rows rows2 : List RequestRow) (offers : List ShownOffer) (request : AcceptedRequest) → the_book used (requests_in rows) offers ≡ now
    → requests_in rows2 ≡ requests_in rows ++ standing_request request [] ∷ [] → the_book (used + 1) (requests_in rows2) offers ≡ book_after (record now { used = now.used + 1 }) (Asked request)
asked_seen now used rows rows2 offers request is pushed =
    seen_after (record now { used = now.used + 1 }) (the_book (used + 1) (requests_in rows) offers) (the_book (used + 1) (requests_in rows2) offers) (Asked request)
    (ap (λ (b : InvestorBook). record b { used = b.used + 1 }) is)
    (ap (λ (rs : List StandingRequest). the_book (used + 1) rs offers) pushed ∙ sym (asked_book (the_book (used + 1) (requests_in rows) offers) request))

pub fits_id : (now : InvestorBook) (used : ℕ) (rows : List RequestRow) (offers : List ShownOffer) (request : AcceptedRequest) → the_book used (requests_in rows) offers ≡ now → FitsBook now request
    → find (λ (r : StandingRequest). same_text r.request.id request.id) (requests_in rows) ≡ None
unfolding request_with_id
fits_id now used rows offers request is fits = ap (λ (b : InvestorBook). find (λ (r : StandingRequest). same_text r.request.id request.id) b.requests) is ∙ fits.id_is_new

-- Rows and lines as they are read.

pub is_closed : (o : Option RequestClose) → is_some o ≡ true → is_none o ≡ false
is_closed None h = cc
is_closed (Some how) h = refl

pub is_opened : (o : Option RequestClose) → is_some o ≡ false → is_none o ≡ true
is_opened None h = refl
is_opened (Some how) h = cc

pub row_closed : (close : RequestClose) (row : RequestRow) → is_none row.close ≡ true → record { request = row.request; close = Some close; standing = row.standing.items } ≡ closed_by close (request_in row)
row_closed close row opened = ap (λ (c : Option RequestClose). record { request = row.request; close = c; standing = row.standing.items }) (sym (or_new row.close close opened))

within_rows : (rows : List RequestRow) (number : ℕ) → IsAccepted (length (requests_in rows)) number → number - 1 < length rows
within_rows rows number accepted =
    let first = accepted.from_first in
    let last = accepted.to_last in
    let many : length (requests_in rows) ≡ length rows = length-map rows request_in in
    omega arith

pub read_same : (rows : List RequestRow) (number : ℕ) (row row2 : RequestRow) → IsAccepted (length (requests_in rows)) number → row ≡ get_or rows (number - 1) row → row2 ≡ get_or rows (number - 1) row2 → row ≡ row2
read_same rows number row row2 accepted is is2 =
    same_Some row row2 (sym (read_at rows (number - 1) row (within_rows rows number accepted) is) ∙ read_at rows (number - 1) row2 (within_rows rows number accepted) is2)

pub line_read : (rows : List RequestRow) (lines : List RequestLine) (number : ℕ) (line : RequestLine) → lines ≡ map line_of (requests_in rows) → IsAccepted (length (requests_in rows)) number → line ≡ get_or lines (number - 1) line
    → slice_get lines (number - 1) ≡ Some line
line_read rows lines number line are accepted is =
    let first = accepted.from_first in
    let last = accepted.to_last in
    let many : length lines ≡ length (requests_in rows) = ap length are ∙ length-map (requests_in rows) line_of in
    let within : number - 1 < length lines = omega arith in
    read_at lines (number - 1) line within is

-- A row behind the others.

pub row_pushed : (row : RequestRow) → row.close ≡ None → row.standing.items ≡ [] → request_in row ≡ standing_request row.request []
row_pushed row opened none =
    ap (λ (c : Option RequestClose). record { request = row.request; close = c; standing = row.standing.items }) opened
    ∙ ap (λ (s : List ShownOffer). record { request = row.request; close = None; standing = s }) none

pub asked_stays : (now : InvestorBook) (used : ℕ) (rows rows2 rows3 : List RequestRow) (offers : List ShownOffer) (lines lines2 lines3 : List RequestLine) (open_now : ℕ) (by_id by_id2 : BTreeMap (List ℕ) ℕ)
    (request : AcceptedRequest) (row : RequestRow) (line : RequestLine) (key : List ℕ) → the_book used (requests_in rows) offers ≡ now → IsIndex used (requests_in rows) offers lines open_now by_id → FitsBook now request → now.used + 1 < 2 ^ 63
    → rows2 ≡ rows → rows3 ≡ rows2 ++ row ∷ [] → request_in row ≡ standing_request request [] → lines2 ≡ lines → lines3 ≡ lines2 ++ line ∷ [] → line ≡ line_of (standing_request request []) → key ≡ request.id
    → ((id : List ℕ) → get (slice_cmp nat_cmp) by_id2 id ≡ cond (is_at (slice_cmp nat_cmp key) id) (Some request.number) (get (slice_cmp nat_cmp) by_id id))
    → IsIndex (used + 1) (requests_in rows3) offers lines3 (open_now + 1) by_id2
asked_stays now used rows rows2 rows3 offers lines lines2 lines3 open_now by_id by_id2 request row line key is index fits few kept pushed row_is lines_kept lines_pushed line_is keyed updates =
    let fits2 : FitsBook (the_book used (requests_in rows) offers) request = subst (λ (b : InvestorBook). FitsBook b request) (sym is) fits in
    let used_fits : used + 1 < 2 ^ 63 = subst (λ (b : InvestorBook). b.used + 1 < 2 ^ 63) (sym is) few in
    let all : requests_in rows3 ≡ requests_in rows ++ standing_request request [] ∷ [] =
    ap requests_in pushed ∙ map-append request_in rows2 (row ∷ []) ∙ ap (λ (rs : List RequestRow). requests_in rs ++ request_in row ∷ []) kept ∙ ap (λ (r : StandingRequest). requests_in rows ++ r ∷ []) row_is in
    let lined : lines3 ≡ lines ++ line ∷ [] = lines_pushed ∙ ap (λ (ls : List RequestLine). ls ++ line ∷ []) lines_kept in
    subst (λ (rs : List StandingRequest). IsIndex (used + 1) rs offers lines3 (open_now + 1) by_id2) (sym all)
    (subst (λ (ls : List RequestLine). IsIndex (used + 1) (requests_in rows ++ standing_request request [] ∷ []) offers ls (open_now + 1) by_id2) (sym lined)
    (asked_index used (used + 1) (requests_in rows) offers lines open_now (open_now + 1) by_id by_id2 request line key index used_fits fits2.number_is fits2.few (fits_id now used rows offers request is fits) line_is refl keyed updates))
