-- What the readers of an index find.
use Rattle.std.proofs.Common.{◌≡◌, ◌<◌, ◌≤◌, ◌⊎◌, ℕ, ◌+◌, ◌-◌, ◌^◌, Bool, true, false, ◌==◌, List}
use Rattle.std.proofs.Common.{length, find, Option, Some, None, option_map, slice_get, get_or, inl}
use Rattle.std.proofs.Common.{inr, refl, sym, ap, subst, ◌∙◌, arith}
use Rattle.std.specs.BTreeMap.{BTreeMap, get}
use Rattle.std.specs.Cmp.Lexicographic.{slice_cmp}
use Rattle.std.specs.Ordering.{nat_cmp}
use Rattle.std.proofs.lemmas.Bool.{eqb-true, eq-eqb, false_from_ne_true}
use Rattle.std.proofs.lemmas.Option.{none-some, same_Some}
use Rattle.std.proofs.lemmas.List.{length-map}
use Rattle.std.proofs.lemmas.Slice.Eq.{bytes_eq-Decides}
use Rattle.venue_rows.specs.Texts.{same_text}
use Rattle.quote_messages.specs.Written.{quote_name}
use Rattle.market_terms.specs.declared.lines.RequestLine.{RequestLine}
use Rattle.investor_desk.specs.InvestorFacts.{StandingRequest, request_numbered, request_with_id}
use Rattle.investor_desk.specs.InvestorFacts.{offer_numbered, offer_named}
use Rattle.investor_desk.specs.BookChanges.{IsAccepted}
use Rattle.investor_desk.specs.InvestorTable.{IsIndex, request_in, requests_in}
use Rattle.investor_desk.specs.declared.index.RequestRow.{RequestRow}
use Rattle.investor_desk.specs.declared.standing.ShownOffer.{ShownOffer}
use Rattle.investor_desk.proofs.BookLemmas.{the_book}
use Rattle.investor_desk.proofs.IndexLemmas.{read_at, request_read}
use Rattle.investor_desk.proofs.ListLemmas.{find_unique, find_none, find_stands, fails_where_none}
use Rattle.investor_desk.proofs.ListLemmas.{within_from}

-- the one with a number, among those that are numbered from 1
number_found : {A : Type 0} (num : A → ℕ) (xs : List A) (number : ℕ) (x : A) → ((k : ℕ) (y : A) → slice_get xs k ≡ Some y → num y ≡ k + 1)
    → 1 ≤ number → slice_get xs (number - 1) ≡ Some x → find (λ y. num y == number) xs ≡ Some x
number_found {A} num xs number x numbered least at =
    let place : (number - 1) + 1 ≡ number = omega arith in
    find_unique (λ y. num y == number) xs (number - 1) x at (eq-eqb (num x) number (numbered (number - 1) x at ∙ place))
    (λ k y there other. false_from_ne_true (num y == number) (λ so.
    let same : num y ≡ number = eqb-true (num y) number so in
    let there2 : num y ≡ k + 1 = numbered k y there in
    let e : k ≡ number - 1 = omega arith in other e))

-- none has a number past them
number_missing : {A : Type 0} (num : A → ℕ) (xs : List A) (number : ℕ) → ((k : ℕ) (y : A) → slice_get xs k ≡ Some y → num y ≡ k + 1)
    → (number < 1) ⊎ (length xs < number) → find (λ y. num y == number) xs ≡ None
number_missing {A} num xs number numbered past = find_none (λ y. num y == number) xs (λ k y at. false_from_ne_true (num y == number) (λ so.
    let same : num y ≡ number = eqb-true (num y) number so in
    let here : num y ≡ k + 1 = numbered k y at in
    let within = within_from xs k y at in
    elim past [ inl few ↦ (let never : ⊥ = omega arith in never) | inr many ↦ (let never : ⊥ = omega arith in never) ]))

-- Requests by their numbers.

pub accepted_row : (rows : List RequestRow) (number : ℕ) → 1 ≤ number → number ≤ length rows → IsAccepted (length (requests_in rows)) number
accepted_row rows number least last = record { from_first = least; to_last = subst (λ (n : ℕ). number ≤ n) (sym (length-map rows request_in)) last }

pub request_found : (used : ℕ) (rows : List RequestRow) (offers : List ShownOffer) (lines : List RequestLine) (open_now : ℕ) (by_id : BTreeMap (List ℕ) ℕ) (number : ℕ) (row : RequestRow)
    → IsIndex used (requests_in rows) offers lines open_now by_id → 1 ≤ number → number ≤ length rows → row ≡ get_or rows (number - 1) row
    → request_numbered (the_book used (requests_in rows) offers) number ≡ Some (request_in row)
unfolding request_numbered
request_found used rows offers lines open_now by_id number row index least last is =
    number_found (λ (r : StandingRequest). r.request.number) (requests_in rows) number (request_in row) index.requests_numbered least
    (request_read rows number row (accepted_row rows number least last) is)

pub request_missing : (used : ℕ) (rows : List RequestRow) (offers : List ShownOffer) (lines : List RequestLine) (open_now : ℕ) (by_id : BTreeMap (List ℕ) ℕ) (number : ℕ)
    → IsIndex used (requests_in rows) offers lines open_now by_id → (number < 1) ⊎ (length rows < number)
    → request_numbered (the_book used (requests_in rows) offers) number ≡ None
unfolding request_numbered
request_missing used rows offers lines open_now by_id number index past =
    number_missing (λ (r : StandingRequest). r.request.number) (requests_in rows) number index.requests_numbered
    (elim past [ inl few ↦ inl few | inr many ↦ inr (subst (λ (n : ℕ). n < number) (sym (length-map rows request_in)) many) ])

-- Requests by their QuoteReqIDs.

no_number : (o : Option StandingRequest) → option_map (λ (r : StandingRequest). r.request.number) o ≡ None → o ≡ None
no_number None h = refl
no_number (Some own) h = absurd (none-some own.request.number (sym h))

found_by_number : (used : ℕ) (requests : List StandingRequest) (offers : List ShownOffer) (lines : List RequestLine) (open_now : ℕ) (by_id : BTreeMap (List ℕ) ℕ) (p : StandingRequest → Bool)
    → IsIndex used requests offers lines open_now by_id → (found : Option StandingRequest) → find p requests ≡ found → (number : ℕ) → option_map (λ (r : StandingRequest). r.request.number) found ≡ Some number
    → request_numbered (the_book used requests offers) number ≡ find p requests
unfolding request_numbered
found_by_number used requests offers lines open_now by_id p index None at number is = absurd (none-some number is)
found_by_number used requests offers lines open_now by_id p index (Some own) at number is =
    let stands = find_stands p requests own at in
    let here : own.request.number ≡ stands.0 + 1 = index.requests_numbered stands.0 own stands.1 in
    let same : own.request.number ≡ number = same_Some own.request.number number is in
    let least : 1 ≤ number = omega arith in
    let place : number - 1 ≡ stands.0 = omega arith in
    number_found (λ (r : StandingRequest). r.request.number) requests number own index.requests_numbered least (ap (slice_get requests) place ∙ stands.1) ∙ sym at

pub id_missing : (used : ℕ) (requests : List StandingRequest) (offers : List ShownOffer) (lines : List RequestLine) (open_now : ℕ) (by_id : BTreeMap (List ℕ) ℕ) (key id : List ℕ)
    → IsIndex used requests offers lines open_now by_id → key ≡ id → None ≡ get (slice_cmp nat_cmp) by_id key → request_with_id (the_book used requests offers) id ≡ None
unfolding request_with_id
id_missing used requests offers lines open_now by_id key id index same none =
    no_number (find (λ (r : StandingRequest). same_text r.request.id id) requests) (sym (none ∙ ap (get (slice_cmp nat_cmp) by_id) same ∙ index.ids_are id))

pub id_found : (used : ℕ) (requests : List StandingRequest) (offers : List ShownOffer) (lines : List RequestLine) (open_now : ℕ) (by_id : BTreeMap (List ℕ) ℕ) (key id : List ℕ) (number : ℕ)
    → IsIndex used requests offers lines open_now by_id → key ≡ id → Some number ≡ get (slice_cmp nat_cmp) by_id key
    → request_numbered (the_book used requests offers) number ≡ request_with_id (the_book used requests offers) id
unfolding request_with_id
id_found used requests offers lines open_now by_id key id number index same some =
    found_by_number used requests offers lines open_now by_id (λ (r : StandingRequest). same_text r.request.id id) index (find (λ (r : StandingRequest). same_text r.request.id id) requests) refl number
    (sym (some ∙ ap (get (slice_cmp nat_cmp) by_id) same ∙ index.ids_are id))

-- Quotes by their numbers.

pub offer_found : (used : ℕ) (requests : List StandingRequest) (offers : List ShownOffer) (lines : List RequestLine) (open_now : ℕ) (by_id : BTreeMap (List ℕ) ℕ) (number : ℕ) (shown : ShownOffer)
    → IsIndex used requests offers lines open_now by_id → 1 ≤ number → number ≤ length offers → shown ≡ get_or offers (number - 1) shown
    → offer_numbered (the_book used requests offers) number ≡ Some shown
unfolding offer_numbered
offer_found used requests offers lines open_now by_id number shown index least last is =
    let within : number - 1 < length offers = omega arith in
    number_found (λ (s : ShownOffer). s.number) offers number shown index.offers_numbered least (read_at offers (number - 1) shown within is)

pub offer_missing : (used : ℕ) (requests : List StandingRequest) (offers : List ShownOffer) (lines : List RequestLine) (open_now : ℕ) (by_id : BTreeMap (List ℕ) ℕ) (number : ℕ)
    → IsIndex used requests offers lines open_now by_id → (number < 1) ⊎ (length offers < number) → offer_numbered (the_book used requests offers) number ≡ None
unfolding offer_numbered
offer_missing used requests offers lines open_now by_id number index past = number_missing (λ (s : ShownOffer). s.number) offers number index.offers_numbered past

-- Quotes by their QuoteIDs, which so few numbers name.

absurd_bool : {b : Bool} → b ≡ true → b ≡ false → ⊥
absurd_bool {b} t f = let never : true ≡ false = sym t ∙ f in cc

pub named_missing : (used : ℕ) (requests : List StandingRequest) (offers : List ShownOffer) (lines : List RequestLine) (open_now : ℕ) (by_id : BTreeMap (List ℕ) ℕ) (name : List ℕ)
    → IsIndex used requests offers lines open_now by_id → length offers < 2 ^ 64
    → ((number : ℕ) → number < 2 ^ 64 → quote_name number ≡ name → ⊥) → offer_named (the_book used requests offers) name ≡ None
unfolding offer_named
named_missing used requests offers lines open_now by_id name index few never =
    find_none (λ (s : ShownOffer). same_text (quote_name s.number) name) offers (λ k y at.
    false_from_ne_true (same_text (quote_name y.number) name) (λ so.
    let within : k < length offers = within_from offers k y at in
    let number : y.number ≡ k + 1 = index.offers_numbered k y at in
    let fits : y.number < 2 ^ 64 = omega arith in
    never y.number fits ((bytes_eq-Decides (quote_name y.number) name).0 so)))

pub named_is : (used : ℕ) (requests : List StandingRequest) (offers : List ShownOffer) (lines : List RequestLine) (open_now : ℕ) (by_id : BTreeMap (List ℕ) ℕ) (name : List ℕ) (number : ℕ)
    → IsIndex used requests offers lines open_now by_id → length offers < 2 ^ 64
    → same_text (quote_name number) name ≡ true → ((other : ℕ) → other < 2 ^ 64 → quote_name other ≡ name → Some number ≡ Some other)
    → (found : Option ShownOffer) → offer_numbered (the_book used requests offers) number ≡ found → offer_named (the_book used requests offers) name ≡ found
unfolding offer_named offer_numbered
named_is used requests offers lines open_now by_id name number index few known only None none =
    find_none (λ (s : ShownOffer). same_text (quote_name s.number) name) offers (λ k y at.
    false_from_ne_true (same_text (quote_name y.number) name) (λ so.
    let within : k < length offers = within_from offers k y at in
    let number2 : y.number ≡ k + 1 = index.offers_numbered k y at in
    let fits : y.number < 2 ^ 64 = omega arith in
    let equal : number ≡ y.number = same_Some number y.number (only y.number fits ((bytes_eq-Decides (quote_name y.number) name).0 so)) in
    let passes : (y.number == number) ≡ true = eq-eqb y.number number (sym equal) in
    let fails : (y.number == number) ≡ false = fails_where_none (λ (s : ShownOffer). s.number == number) offers none k y at in
    absurd_bool passes fails))
named_is used requests offers lines open_now by_id name number index few known only (Some shown) at =
    let stands = find_stands (λ (s : ShownOffer). s.number == number) offers shown at in
    let same : shown.number ≡ number = eqb-true shown.number number stands.2 in
    let here : shown.number ≡ stands.0 + 1 = index.offers_numbered stands.0 shown stands.1 in
    find_unique (λ (s : ShownOffer). same_text (quote_name s.number) name) offers stands.0 shown stands.1
    (ap (λ (n : ℕ). same_text (quote_name n) name) same ∙ known)
    (λ k y there other. false_from_ne_true (same_text (quote_name y.number) name) (λ so.
    let within : k < length offers = within_from offers k y there in
    let number2 : y.number ≡ k + 1 = index.offers_numbered k y there in
    let fits : y.number < 2 ^ 64 = omega arith in
    let equal : number ≡ y.number = same_Some number y.number (only y.number fits ((bytes_eq-Decides (quote_name y.number) name).0 so)) in
    let e : k ≡ stands.0 = omega arith in other e))
