-- What the readers of an index find: requests and quotes, by their numbers and their names.
use Rattle.std.proofs.Common.{◌≡◌, ◌<◌, ◌≤◌, ℕ, ◌+◌, ◌^◌, ◌==◌, Bool, true, false, List, length}
use Rattle.std.proofs.Common.{Option, Some, None, option_map, find, slice_get, get_or, ◌-◌, ◌⊎◌}
use Rattle.std.proofs.Common.{inl, inr, refl, sym, ap, subst, ◌∙◌, arith}
use Rattle.std.specs.List.{list_any}
use Rattle.std.proofs.lemmas.Bool.{eqb-true, eq-eqb, false_from_ne_true}
use Rattle.std.proofs.lemmas.Option.{none-some, same_Some, slice_get-map}
use Rattle.std.specs.BTreeMap.{BTreeMap, get}
use Rattle.std.proofs.lemmas.List.{length-map}
use Rattle.std.proofs.lemmas.Slice.Eq.{bytes_eq-Decides}
use Rattle.venue_rows.specs.Texts.{same_text}
use Rattle.quote_messages.specs.Written.{request_name}
use Rattle.market_terms.specs.declared.lines.QuoteLine.{QuoteLine}
use Rattle.dealer_desk.specs.DealerFacts.{request_named, request_numbered, quote_numbered}
use Rattle.dealer_desk.specs.DealerFacts.{live_number_on, live_quote_on, has_lifted_quote}
use Rattle.dealer_desk.specs.DealerFacts.{is_live_on, is_lifted_on, quote_with_id}
use Rattle.dealer_desk.specs.BookChanges.{IsSound}
use Rattle.dealer_desk.specs.declared.id_keys.IdKey.{IdKey}
use Rattle.dealer_desk.specs.DealerTable.{key_cmp, key_of, IsIdMap, IsTable, requests_in}
use Rattle.dealer_desk.specs.declared.standing.StandingRequest.{StandingRequest}
use Rattle.dealer_desk.specs.declared.standing.StandingQuote.{StandingQuote}
use Rattle.dealer_desk.specs.declared.table.RequestRow.{RequestRow}
use Rattle.dealer_desk.proofs.ListLemmas.{find_unique, fails_where_none, find_none, find_stands}
use Rattle.dealer_desk.proofs.ListLemmas.{within_from}
use Rattle.dealer_desk.proofs.TableReads.{read_at}
use Rattle.dealer_desk.proofs.TableGrowth.{row_read}
use Rattle.dealer_desk.proofs.IndexLemmas.{book_with}

-- the one with a number, among those that are numbered from 1
pub number_found : {A : Type 0} (num : A → ℕ) (xs : List A) (number : ℕ) (x : A) → ((k : ℕ) (y : A) → slice_get xs k ≡ Some y → num y ≡ k + 1)
    → 1 ≤ number → slice_get xs (number - 1) ≡ Some x → find (λ y. num y == number) xs ≡ Some x
number_found {A} num xs number x numbered least at =
    let place : (number - 1) + 1 ≡ number = omega arith in
    find_unique (λ y. num y == number) xs (number - 1) x at (eq-eqb (num x) number (numbered (number - 1) x at ∙ place))
    (λ k y there other. false_from_ne_true (num y == number) (λ so.
    let same : num y ≡ number = eqb-true (num y) number so in
    let there2 : num y ≡ k + 1 = numbered k y there in
    let e : k ≡ number - 1 = omega arith in other e))

-- none has a number past them
pub number_missing : {A : Type 0} (num : A → ℕ) (xs : List A) (number : ℕ) → ((k : ℕ) (y : A) → slice_get xs k ≡ Some y → num y ≡ k + 1)
    → (number < 1) ⊎ (length xs < number) → find (λ y. num y == number) xs ≡ None
number_missing {A} num xs number numbered past = find_none (λ y. num y == number) xs (λ k y at. false_from_ne_true (num y == number) (λ so.
    let same : num y ≡ number = eqb-true (num y) number so in
    let here : num y ≡ k + 1 = numbered k y at in
    let within = within_from xs k y at in
    elim past [ inl few ↦ (let never : ⊥ = omega arith in never) | inr many ↦ (let never : ⊥ = omega arith in never) ]))

-- the request with a number
pub request_found : (used notices : ℕ) (rows : List RequestRow) (quotes : List StandingQuote) (lines : List QuoteLine) (exposure first number : ℕ) (row : RequestRow)
    → IsTable rows quotes lines exposure first → 1 ≤ number → number ≤ length rows → row ≡ get_or rows (number - 1) row
    → request_numbered (book_with used notices (requests_in rows) quotes) number ≡ Some row.request
unfolding request_numbered
request_found used notices rows quotes lines exposure first number row table least last is =
    let within : number - 1 < length rows = omega arith in
    number_found (λ (r : StandingRequest). r.number) (requests_in rows) number row.request table.sound.requests_numbered least
    (slice_get-map (λ (r : RequestRow). r.request) rows (number - 1) ∙ ap (option_map (λ (r : RequestRow). r.request)) (read_at rows (number - 1) row within is))

pub request_missing : (used notices : ℕ) (rows : List RequestRow) (quotes : List StandingQuote) (lines : List QuoteLine) (exposure first number : ℕ)
    → IsTable rows quotes lines exposure first → (number < 1) ⊎ (length rows < number)
    → request_numbered (book_with used notices (requests_in rows) quotes) number ≡ None
unfolding request_numbered
request_missing used notices rows quotes lines exposure first number table past =
    number_missing (λ (r : StandingRequest). r.number) (requests_in rows) number table.sound.requests_numbered
    (elim past [ inl few ↦ inl few | inr many ↦ inr (subst (λ (n : ℕ). n < number) (sym (length-map rows (λ (r : RequestRow). r.request))) many) ])

-- the number of the request of the row that was read
row_number : (rows : List RequestRow) (quotes : List StandingQuote) (lines : List QuoteLine) (exposure first number : ℕ) (row : RequestRow)
    → IsTable rows quotes lines exposure first → 1 ≤ number → number ≤ length rows → row ≡ get_or rows (number - 1) row → number ≡ row.request.number
row_number rows quotes lines exposure first number row table least last is =
    let within : number - 1 < length rows = omega arith in
    let here : row.request.number ≡ (number - 1) + 1 = table.sound.requests_numbered (number - 1) row.request
    (slice_get-map (λ (r : RequestRow). r.request) rows (number - 1) ∙ ap (option_map (λ (r : RequestRow). r.request)) (read_at rows (number - 1) row within is)) in
    omega arith

-- what its row says of its quotes
pub row_live : (used notices : ℕ) (rows : List RequestRow) (quotes : List StandingQuote) (lines : List QuoteLine) (exposure first number : ℕ) (row : RequestRow)
    → IsTable rows quotes lines exposure first → 1 ≤ number → number ≤ length rows → row ≡ get_or rows (number - 1) row
    → row.live ≡ live_number_on (book_with used notices (requests_in rows) quotes) row.request.number
unfolding live_quote_on
row_live used notices rows quotes lines exposure first number row table least last is =
    (row_read rows quotes lines exposure first number row table least last is).live_is
    ∙ ap (λ (n : ℕ). option_map (λ (q : StandingQuote). q.quote.number) (find (is_live_on n) quotes)) (row_number rows quotes lines exposure first number row table least last is)

pub row_lifted : (used notices : ℕ) (rows : List RequestRow) (quotes : List StandingQuote) (lines : List QuoteLine) (exposure first number : ℕ) (row : RequestRow)
    → IsTable rows quotes lines exposure first → 1 ≤ number → number ≤ length rows → row ≡ get_or rows (number - 1) row
    → row.has_lifted ≡ has_lifted_quote (book_with used notices (requests_in rows) quotes) row.request.number
unfolding has_lifted_quote
row_lifted used notices rows quotes lines exposure first number row table least last is =
    (row_read rows quotes lines exposure first number row table least last is).lifted_is
    ∙ ap (λ (n : ℕ). list_any (is_lifted_on n) quotes) (row_number rows quotes lines exposure first number row table least last is)

-- the quote with a number
pub quote_found : (used notices : ℕ) (requests : List StandingRequest) (quotes : List StandingQuote) (number : ℕ) (own : StandingQuote)
    → IsSound requests quotes → 1 ≤ number → number ≤ length quotes → own ≡ get_or quotes (number - 1) own
    → quote_numbered (book_with used notices requests quotes) number ≡ Some own
unfolding quote_numbered
quote_found used notices requests quotes number own sound least last is =
    let within : number - 1 < length quotes = omega arith in
    number_found (λ (q : StandingQuote). q.quote.number) quotes number own sound.quotes_numbered least (read_at quotes (number - 1) own within is)

pub quote_missing : (used notices : ℕ) (requests : List StandingRequest) (quotes : List StandingQuote) (number : ℕ)
    → IsSound requests quotes → (number < 1) ⊎ (length quotes < number) → quote_numbered (book_with used notices requests quotes) number ≡ None
unfolding quote_numbered
quote_missing used notices requests quotes number sound past = number_missing (λ (q : StandingQuote). q.quote.number) quotes number sound.quotes_numbered past

-- a quote that was found by a test is that of its number
pub found_by_number : (used notices : ℕ) (requests : List StandingRequest) (quotes : List StandingQuote) (p : StandingQuote → Bool)
    → IsSound requests quotes → (found : Option StandingQuote) → find p quotes ≡ found → (number : ℕ) → option_map (λ (q : StandingQuote). q.quote.number) found ≡ Some number
    → quote_numbered (book_with used notices requests quotes) number ≡ find p quotes
unfolding quote_numbered
found_by_number used notices requests quotes p sound None at number is = absurd (none-some number is)
found_by_number used notices requests quotes p sound (Some own) at number is =
    let stands = find_stands p quotes own at in
    let here : own.quote.number ≡ stands.0 + 1 = sound.quotes_numbered stands.0 own stands.1 in
    let same : own.quote.number ≡ number = same_Some own.quote.number number is in
    let least : 1 ≤ number = omega arith in
    let place : number - 1 ≡ stands.0 = omega arith in
    number_found (λ (q : StandingQuote). q.quote.number) quotes number own sound.quotes_numbered least (ap (slice_get quotes) place ∙ stands.1) ∙ sym at

-- The request that a QuoteReqID names.

pub absurd_bool : {b : Bool} → b ≡ true → b ≡ false → ⊥
absurd_bool {b} t f = let never : true ≡ false = sym t ∙ f in cc

-- of requests that are numbered from 1 and so few
pub named_missing : (used notices : ℕ) (rows : List RequestRow) (quotes : List StandingQuote) (name : List ℕ) → IsSound (requests_in rows) quotes → length rows < 2 ^ 64
    → ((number : ℕ) → number < 2 ^ 64 → request_name number ≡ name → ⊥) → request_named (book_with used notices (requests_in rows) quotes) name ≡ None
unfolding request_named
named_missing used notices rows quotes name sound few never =
    find_none (λ (r : StandingRequest). same_text (request_name r.number) name) (requests_in rows) (λ k y at.
    false_from_ne_true (same_text (request_name y.number) name) (λ so.
    let within : k < length (requests_in rows) = within_from (requests_in rows) k y at in
    let number : y.number ≡ k + 1 = sound.requests_numbered k y at in
    let many : length (requests_in rows) ≡ length rows = length-map rows (λ (r : RequestRow). r.request) in
    let fits : y.number < 2 ^ 64 = omega arith in
    never y.number fits ((bytes_eq-Decides (request_name y.number) name).0 so)))

pub named_found : (used notices : ℕ) (rows : List RequestRow) (quotes : List StandingQuote) (name : List ℕ) (number : ℕ) (request : StandingRequest) → IsSound (requests_in rows) quotes → length rows < 2 ^ 64
    → same_text (request_name number) name ≡ true → ((other : ℕ) → other < 2 ^ 64 → request_name other ≡ name → Some number ≡ Some other)
    → request_numbered (book_with used notices (requests_in rows) quotes) number ≡ Some request
    → request_named (book_with used notices (requests_in rows) quotes) name ≡ Some request
unfolding request_named request_numbered
named_found used notices rows quotes name number request sound few known only at =
    let stands = find_stands (λ (r : StandingRequest). r.number == number) (requests_in rows) request at in
    let same : request.number ≡ number = eqb-true request.number number stands.2 in
    let here : request.number ≡ stands.0 + 1 = sound.requests_numbered stands.0 request stands.1 in
    find_unique (λ (r : StandingRequest). same_text (request_name r.number) name) (requests_in rows) stands.0 request stands.1
    (ap (λ (n : ℕ). same_text (request_name n) name) same ∙ known)
    (λ k y there other. false_from_ne_true (same_text (request_name y.number) name) (λ so.
    let within : k < length (requests_in rows) = within_from (requests_in rows) k y there in
    let number2 : y.number ≡ k + 1 = sound.requests_numbered k y there in
    let many : length (requests_in rows) ≡ length rows = length-map rows (λ (r : RequestRow). r.request) in
    let fits : y.number < 2 ^ 64 = omega arith in
    let equal : number ≡ y.number = same_Some number y.number (only y.number fits ((bytes_eq-Decides (request_name y.number) name).0 so)) in
    let e : k ≡ stands.0 = omega arith in other e))

-- a named number that no request has
pub named_past : (used notices : ℕ) (rows : List RequestRow) (quotes : List StandingQuote) (name : List ℕ) (number : ℕ) → IsSound (requests_in rows) quotes → length rows < 2 ^ 64
    → ((other : ℕ) → other < 2 ^ 64 → request_name other ≡ name → Some number ≡ Some other)
    → request_numbered (book_with used notices (requests_in rows) quotes) number ≡ None
    → request_named (book_with used notices (requests_in rows) quotes) name ≡ None
unfolding request_named request_numbered
named_past used notices rows quotes name number sound few only none =
    find_none (λ (r : StandingRequest). same_text (request_name r.number) name) (requests_in rows) (λ k y at.
    false_from_ne_true (same_text (request_name y.number) name) (λ so.
    let within : k < length (requests_in rows) = within_from (requests_in rows) k y at in
    let number2 : y.number ≡ k + 1 = sound.requests_numbered k y at in
    let many : length (requests_in rows) ≡ length rows = length-map rows (λ (r : RequestRow). r.request) in
    let fits : y.number < 2 ^ 64 = omega arith in
    let equal : number ≡ y.number = same_Some number y.number (only y.number fits ((bytes_eq-Decides (request_name y.number) name).0 so)) in
    let passes : (y.number == number) ≡ true = eq-eqb y.number number (sym equal) in
    let fails : (y.number == number) ≡ false = fails_where_none (λ (r : StandingRequest). r.number == number) (requests_in rows) none k y at in
    absurd_bool passes fails))

-- Quotes by their QuoteIDs.

pub no_number : (o : Option StandingQuote) → option_map (λ (q : StandingQuote). q.quote.number) o ≡ None → o ≡ None
no_number None h = refl
no_number (Some own) h = absurd (none-some own.quote.number (sym h))

pub id_missing : (used notices : ℕ) (requests : List StandingRequest) (quotes : List StandingQuote) (by_id : BTreeMap IdKey ℕ) (key : IdKey) (id : List ℕ)
    → IsIdMap quotes by_id → key ≡ key_of id → None ≡ get key_cmp by_id key → quote_with_id (book_with used notices requests quotes) id ≡ None
unfolding quote_with_id
id_missing used notices requests quotes by_id key id ids same none =
    no_number (find (λ (q : StandingQuote). same_text q.quote.id id) quotes) (sym (none ∙ ap (get key_cmp by_id) same ∙ ids.ids_are id))

pub id_found : (used notices : ℕ) (requests : List StandingRequest) (quotes : List StandingQuote) (by_id : BTreeMap IdKey ℕ) (key : IdKey) (id : List ℕ) (number : ℕ)
    → IsSound requests quotes → IsIdMap quotes by_id → key ≡ key_of id → Some number ≡ get key_cmp by_id key
    → quote_numbered (book_with used notices requests quotes) number ≡ quote_with_id (book_with used notices requests quotes) id
unfolding quote_with_id
id_found used notices requests quotes by_id key id number sound ids same some =
    found_by_number used notices requests quotes (λ (q : StandingQuote). same_text q.quote.id id) sound (find (λ (q : StandingQuote). same_text q.quote.id id) quotes) refl number
    (sym (some ∙ ap (get key_cmp by_id) same ∙ ids.ids_are id))
