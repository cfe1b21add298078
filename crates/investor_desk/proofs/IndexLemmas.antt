-- What an index keeps when one of its requests changes, when one is put behind the others, and what
-- its readers find.
use Rattle.std.proofs.Common.{◌≡◌, ◌<◌, ◌≤◌, ℕ, ◌+◌, ◌-◌, ◌^◌, Bool, true, false, ◌==◌, cond, List}
use Rattle.std.proofs.Common.{[], ◌∷◌, ◌++◌, length, map, set, find, Option, Some, None, is_none}
use Rattle.std.proofs.Common.{option_map, slice_get, get_or, inl, inr, refl, sym, ap, ◌∙◌, arith}
use Rattle.std.specs.List.{count_by}
use Rattle.std.specs.Option.{option_or}
use Rattle.std.specs.BTreeMap.{BTreeMap, get, is_at}
use Rattle.std.specs.Cmp.Lexicographic.{slice_cmp}
use Rattle.std.specs.Ordering.{nat_cmp}
use Rattle.std.proofs.lemmas.Bool.{eqb-true, eq-eqb, cond-true, cond-false, false_from_ne_true}
use Rattle.std.proofs.lemmas.Option.{none-some, slice_get-get_or, slice_get-map}
use Rattle.std.proofs.lemmas.List.{map-set, map-append, length-map, length-append}
use Rattle.std.proofs.lemmas.List.Sums.{sum_by-append, sum_by-cons}
use Rattle.std.proofs.lemmas.List.Folds.{find-append}
use Rattle.std.proofs.lemmas.Slice.Eq.{bytes_eq-Decides}
use Rattle.std.proofs.lemmas.Map.Text.{is_eq-slice_cmp}
use Rattle.venue_rows.specs.Texts.{same_text}
use Rattle.market_terms.specs.declared.lines.RequestLine.{RequestLine}
use Rattle.investor_desk.specs.InvestorFacts.{StandingRequest, standing_request, is_open}
use Rattle.investor_desk.specs.RequestLines.{line_of}
use Rattle.investor_desk.specs.BookChanges.{IsAccepted, at_number, without_some, with_offer}
use Rattle.investor_desk.specs.InvestorTable.{IsIndex, request_in, requests_in}
use Rattle.investor_desk.specs.declared.index.RequestRow.{RequestRow}
use Rattle.investor_desk.specs.declared.standing.AcceptedRequest.{AcceptedRequest}
use Rattle.investor_desk.specs.declared.standing.RequestClose.{RequestClose}
use Rattle.investor_desk.specs.declared.standing.ShownOffer.{ShownOffer}
use Rattle.investor_desk.proofs.ListLemmas.{set_map, find_mapped, mapped_at, pushed_at, set_same}
use Rattle.investor_desk.proofs.StandLemmas.{without_keeps, offer_keeps}

-- One request, by its number.

abbrev pub Numbered : List StandingRequest → Type 0
Numbered requests = (k : ℕ) (own : StandingRequest) → slice_get requests k ≡ Some own → own.request.number ≡ k + 1

pub read_at : {A : Type 0} (xs : List A) (i : ℕ) (x : A) → i < length xs → x ≡ get_or xs i x → slice_get xs i ≡ Some x
read_at xs i x within is = slice_get-get_or xs i x within ∙ ap Some (sym is)

-- the request of a row that was read
pub request_read : (rows : List RequestRow) (number : ℕ) (row : RequestRow) → IsAccepted (length (requests_in rows)) number → row ≡ get_or rows (number - 1) row → slice_get (requests_in rows) (number - 1) ≡ Some (request_in row)
request_read rows number row accepted is =
    let first = accepted.from_first in
    let last = accepted.to_last in
    let many : length (requests_in rows) ≡ length rows = length-map rows request_in in
    let within : number - 1 < length rows = omega arith in
    slice_get-map request_in rows (number - 1) ∙ ap (option_map request_in) (read_at rows (number - 1) row within is)

-- a write of the request with a number, changed
pub set_number : (f : StandingRequest → StandingRequest) (requests : List StandingRequest) (number : ℕ) (own : StandingRequest) → Numbered requests → 1 ≤ number → slice_get requests (number - 1) ≡ Some own
    → set requests (number - 1) (f own) ≡ map (at_number number f) requests
set_number f requests number own numbered first at =
    let here : own.request.number ≡ (number - 1) + 1 = numbered (number - 1) own at in
    let same : number ≡ own.request.number = omega arith in
    ap (set requests (number - 1)) (sym (cond-true (number == own.request.number) (f own) own (eq-eqb number own.request.number same)))
    ∙ set_map (at_number number f) requests (number - 1) own at (λ k other there apart.
    cond-false (number == other.request.number) (f other) other (false_from_ne_true (number == other.request.number) (λ so.
    let equal : number ≡ other.request.number = eqb-true number other.request.number so in
    let place : other.request.number ≡ k + 1 = numbered k other there in
    let e : k ≡ number - 1 = omega arith in
    apart e)))

-- the same of rows
pub set_row : (f : StandingRequest → StandingRequest) (rows : List RequestRow) (number : ℕ) (row row2 : RequestRow) → Numbered (requests_in rows) → IsAccepted (length (requests_in rows)) number → row ≡ get_or rows (number - 1) row
    → request_in row2 ≡ f (request_in row) → requests_in (set rows (number - 1) row2) ≡ map (at_number number f) (requests_in rows)
set_row f rows number row row2 numbered accepted is changed =
    map-set request_in rows (number - 1) row2
    ∙ ap (set (requests_in rows) (number - 1)) changed
    ∙ set_number f (requests_in rows) number (request_in row) numbered accepted.from_first (request_read rows number row accepted is)

-- a write of a row of the same request
pub set_same_row : (rows : List RequestRow) (number : ℕ) (row row2 : RequestRow) → Numbered (requests_in rows) → IsAccepted (length (requests_in rows)) number → row ≡ get_or rows (number - 1) row
    → request_in row2 ≡ request_in row → requests_in (set rows (number - 1) row2) ≡ requests_in rows
set_same_row rows number row row2 numbered accepted is same =
    map-set request_in rows (number - 1) row2
    ∙ ap (set (requests_in rows) (number - 1)) same
    ∙ set_same (requests_in rows) (number - 1) (request_in row) (request_read rows number row accepted is)

-- Changes of requests that keep what was accepted.

pub numbered_mapped : (f : StandingRequest → StandingRequest) (requests : List StandingRequest) → ((own : StandingRequest) → (f own).request ≡ own.request) → Numbered requests → Numbered (map f requests)
numbered_mapped f requests keeps numbered = λ k own at.
    let was = mapped_at f requests k own at in
    ap (λ (r : StandingRequest). r.request.number) (sym was.2) ∙ ap (λ (r : AcceptedRequest). r.number) (keeps was.0) ∙ numbered k was.0 was.1

pub index_mapped : (used : ℕ) (requests : List StandingRequest) (offers : List ShownOffer) (lines lines2 : List RequestLine) (open_now open2 : ℕ) (by_id : BTreeMap (List ℕ) ℕ) (f : StandingRequest → StandingRequest)
    → IsIndex used requests offers lines open_now by_id → ((own : StandingRequest) → (f own).request ≡ own.request)
    → lines2 ≡ map line_of (map f requests) → open2 ≡ count_by is_open (map f requests)
    → IsIndex used (map f requests) offers lines2 open2 by_id
index_mapped used requests offers lines lines2 open_now open2 by_id f index keeps lines_are open_is = record {
  used_fits = index.used_fits;
  requests_numbered = numbered_mapped f requests keeps index.requests_numbered;
  offers_numbered = index.offers_numbered;
  lines_are = lines_are;
  open_is = open_is;
  few = let few = index.few in let many = length-map requests f in omega arith;
  ids_are = λ id. index.ids_are id
      ∙ sym (find_mapped (λ (r : StandingRequest). r.request.number) (λ (r : StandingRequest). same_text r.request.id id) f requests
      (λ own. ap (λ (r : AcceptedRequest). r.number) (keeps own)) (λ k own at. ap (λ (r : AcceptedRequest). same_text r.id id) (keeps own)));
}

-- a change that closes none leaves the lines and the number of open requests
line_kept : (own own2 : StandingRequest) → own2.request ≡ own.request → own2.close ≡ own.close → line_of own2 ≡ line_of own
line_kept own own2 r c = ap (λ (x : AcceptedRequest). line_of (record { request = x; close = own2.close; standing = own.standing })) r ∙ ap (λ (x : Option RequestClose). line_of (record { request = own.request; close = x; standing = own.standing })) c

lines_kept : (f : StandingRequest → StandingRequest) (requests : List StandingRequest) → ((own : StandingRequest) → line_of (f own) ≡ line_of own) → map line_of (map f requests) ≡ map line_of requests
lines_kept f [] same = refl
lines_kept f (own ∷ requests) same = let first : line_of (f own) ≡ line_of own = same own in let rest : map line_of (map f requests) ≡ map line_of requests = lines_kept f requests same in cc

open_kept : (f : StandingRequest → StandingRequest) (requests : List StandingRequest) → ((own : StandingRequest) → is_open (f own) ≡ is_open own) → count_by is_open (map f requests) ≡ count_by is_open requests
open_kept f [] same = refl
open_kept f (own ∷ requests) same =
    sum_by-cons (λ (r : StandingRequest). cond (is_open r) 1 0) (f own) (map f requests)
    ∙ ap (λ (b : Bool). cond b 1 0 + count_by is_open (map f requests)) (same own)
    ∙ ap (λ (n : ℕ). cond (is_open own) 1 0 + n) (open_kept f requests same)
    ∙ sym (sum_by-cons (λ (r : StandingRequest). cond (is_open r) 1 0) own requests)

close_where : (b : Bool) (x y : StandingRequest) → x.close ≡ y.close → (cond b x y).close ≡ y.close
close_where true x y e = e
close_where false x y e = refl

pub index_kept : (used : ℕ) (requests : List StandingRequest) (offers : List ShownOffer) (lines : List RequestLine) (open_now : ℕ) (by_id : BTreeMap (List ℕ) ℕ) (f : StandingRequest → StandingRequest)
    → IsIndex used requests offers lines open_now by_id → ((own : StandingRequest) → (f own).request ≡ own.request) → ((own : StandingRequest) → (f own).close ≡ own.close)
    → IsIndex used (map f requests) offers lines open_now by_id
index_kept used requests offers lines open_now by_id f index keeps leaves =
    index_mapped used requests offers lines lines open_now open_now by_id f index keeps
    (index.lines_are ∙ sym (lines_kept f requests (λ own. line_kept own (f own) (keeps own) (leaves own))))
    (index.open_is ∙ sym (open_kept f requests (λ own. ap (λ (c : Option RequestClose). is_none c) (leaves own))))

pub without_index : (used : ℕ) (requests : List StandingRequest) (offers : List ShownOffer) (lines : List RequestLine) (open_now : ℕ) (by_id : BTreeMap (List ℕ) ℕ) (number : ℕ) (quote : Option ℕ)
    → IsIndex used requests offers lines open_now by_id → IsIndex used (map (at_number number (without_some quote)) requests) offers lines open_now by_id
without_index used requests offers lines open_now by_id number quote index =
    index_kept used requests offers lines open_now by_id (at_number number (without_some quote)) index (without_keeps number quote)
    (λ own. close_where (number == own.request.number) (without_some quote own) own refl)

pub offer_index : (used : ℕ) (requests : List StandingRequest) (offers : List ShownOffer) (lines : List RequestLine) (open_now : ℕ) (by_id : BTreeMap (List ℕ) ℕ) (number : ℕ) (shown : ShownOffer)
    → IsIndex used requests offers lines open_now by_id → IsIndex used (map (at_number number (with_offer shown)) requests) offers lines open_now by_id
offer_index used requests offers lines open_now by_id number shown index =
    index_kept used requests offers lines open_now by_id (at_number number (with_offer shown)) index (offer_keeps number shown)
    (λ own. close_where (number == own.request.number) (with_offer shown own) own refl)

-- a quote behind the others
pub shown_index : (used : ℕ) (requests : List StandingRequest) (offers : List ShownOffer) (lines : List RequestLine) (open_now : ℕ) (by_id : BTreeMap (List ℕ) ℕ) (shown : ShownOffer)
    → IsIndex used requests offers lines open_now by_id → shown.number ≡ length offers + 1 → IsIndex used requests (offers ++ shown ∷ []) lines open_now by_id
shown_index used requests offers lines open_now by_id shown index number = record {
  used_fits = index.used_fits;
  requests_numbered = index.requests_numbered;
  offers_numbered = λ k other at. elim (pushed_at offers shown k other at) [
    | inl there ↦ index.offers_numbered k other there
    | inr p ↦ ap (λ (s : ShownOffer). s.number) (sym p.1) ∙ number ∙ ap (λ (n : ℕ). n + 1) (sym p.0)
  ];
  lines_are = index.lines_are;
  open_is = index.open_is;
  few = index.few;
  ids_are = index.ids_are;
}

-- a request behind the others
same_key : (key id : List ℕ) → is_at (slice_cmp nat_cmp key) id ≡ same_text key id
same_key key id = is_eq-slice_cmp key id

pick_new : (b : Bool) (own : StandingRequest) (found : Option StandingRequest) (m : Option ℕ) → m ≡ option_map (λ (r : StandingRequest). r.request.number) found → (b ≡ true → found ≡ None)
    → cond b (Some own.request.number) m ≡ option_map (λ (r : StandingRequest). r.request.number) (option_or found (cond b (Some own) None))
pick_new true own None m is unused = refl
pick_new true own (Some other) m is unused = absurd (none-some other (sym (unused refl)))
pick_new false own None m is unused = is
pick_new false own (Some other) m is unused = is

pub ids_pushed : (requests : List StandingRequest) (old new : BTreeMap (List ℕ) ℕ) (own : StandingRequest) (key : List ℕ)
    → ((id : List ℕ) → get (slice_cmp nat_cmp) old id ≡ option_map (λ (r : StandingRequest). r.request.number) (find (λ (r : StandingRequest). same_text r.request.id id) requests))
    → key ≡ own.request.id → find (λ (r : StandingRequest). same_text r.request.id own.request.id) requests ≡ None
    → ((id : List ℕ) → get (slice_cmp nat_cmp) new id ≡ cond (is_at (slice_cmp nat_cmp key) id) (Some own.request.number) (get (slice_cmp nat_cmp) old id))
    → (id : List ℕ) → get (slice_cmp nat_cmp) new id ≡ option_map (λ (r : StandingRequest). r.request.number) (find (λ (r : StandingRequest). same_text r.request.id id) (requests ++ own ∷ []))
ids_pushed requests old new own key were keyed unused updates = λ id.
    updates id
    ∙ ap (λ (k : List ℕ). cond (is_at (slice_cmp nat_cmp k) id) (Some own.request.number) (get (slice_cmp nat_cmp) old id)) keyed
    ∙ ap (λ (b : Bool). cond b (Some own.request.number) (get (slice_cmp nat_cmp) old id)) (same_key own.request.id id)
    ∙ pick_new (same_text own.request.id id) own (find (λ (r : StandingRequest). same_text r.request.id id) requests) (get (slice_cmp nat_cmp) old id) (were id)
    (λ so. ap (λ (i : List ℕ). find (λ (r : StandingRequest). same_text r.request.id i) requests) (sym ((bytes_eq-Decides own.request.id id).0 so)) ∙ unused)
    ∙ ap (option_map (λ (r : StandingRequest). r.request.number)) (sym (find-append (λ (r : StandingRequest). same_text r.request.id id) requests (own ∷ [])))

count_asked : (requests : List StandingRequest) (request : AcceptedRequest) → count_by is_open (requests ++ standing_request request [] ∷ []) ≡ count_by is_open requests + 1
count_asked requests request = sum_by-append (λ (r : StandingRequest). cond (is_open r) 1 0) requests (standing_request request [] ∷ []) ∙ omega arith

pub asked_index : (used used2 : ℕ) (requests : List StandingRequest) (offers : List ShownOffer) (lines : List RequestLine) (open_now open2 : ℕ) (by_id by_id2 : BTreeMap (List ℕ) ℕ) (request : AcceptedRequest) (line : RequestLine) (key : List ℕ)
    → IsIndex used requests offers lines open_now by_id → used2 < 2 ^ 63 → request.number ≡ length requests + 1 → length requests < 4294967295
    → find (λ (r : StandingRequest). same_text r.request.id request.id) requests ≡ None
    → line ≡ line_of (standing_request request []) → open2 ≡ open_now + 1 → key ≡ request.id
    → ((id : List ℕ) → get (slice_cmp nat_cmp) by_id2 id ≡ cond (is_at (slice_cmp nat_cmp key) id) (Some request.number) (get (slice_cmp nat_cmp) by_id id))
    → IsIndex used2 (requests ++ standing_request request [] ∷ []) offers (lines ++ line ∷ []) open2 by_id2
asked_index used used2 requests offers lines open_now open2 by_id by_id2 request line key index fits number room unused line_is open_is keyed updates = record {
  used_fits = fits;
  requests_numbered = λ k other at. elim (pushed_at requests (standing_request request []) k other at) [
    | inl there ↦ index.requests_numbered k other there
    | inr p ↦ ap (λ (s : StandingRequest). s.request.number) (sym p.1) ∙ number ∙ ap (λ (n : ℕ). n + 1) (sym p.0)
  ];
  offers_numbered = index.offers_numbered;
  lines_are = ap (λ (ls : List RequestLine). ls ++ line ∷ []) index.lines_are ∙ ap (λ (l : RequestLine). map line_of requests ++ l ∷ []) line_is ∙ sym (map-append line_of requests (standing_request request [] ∷ []));
  open_is = open_is ∙ ap (λ (n : ℕ). n + 1) index.open_is ∙ sym (count_asked requests request);
  few = let more = length-append requests (standing_request request [] ∷ []) in omega arith;
  ids_are = ids_pushed requests by_id by_id2 (standing_request request []) key index.ids_are keyed unused updates;
}
