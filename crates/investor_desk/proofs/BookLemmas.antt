-- How one fact more changes a book, each fact in its own words.
use Rattle.std.proofs.Common.{◌≡◌, ℕ, ◌+◌, Bool, true, false, ◌&&◌, ◌==◌, not, cond, List, [], ◌∷◌}
use Rattle.std.proofs.Common.{◌++◌, map, filter, Option, Some, None, refl, ap, ◌∙◌}
use Rattle.std.specs.Option.{option_or}
use Rattle.std.proofs.lemmas.List.{append-nil}
use Rattle.investor_desk.specs.InvestorFacts.{InvestorFact, Came, Asked, Offered, Gone, Closed}
use Rattle.investor_desk.specs.InvestorFacts.{InvestorBook, StandingRequest, standing_request}
use Rattle.investor_desk.specs.BookChanges.{book_after, request_after, at_number, closed_by}
use Rattle.investor_desk.specs.BookChanges.{quotes_without, without_some, with_offer}
use Rattle.investor_desk.specs.declared.standing.AcceptedRequest.{AcceptedRequest}
use Rattle.investor_desk.specs.declared.standing.RequestClose.{RequestClose}
use Rattle.investor_desk.specs.declared.standing.ShownOffer.{ShownOffer}
use Rattle.investor_desk.proofs.ListLemmas.{same_map, all_fixed, filter_all}

pub or_none : (o : Option RequestClose) → option_or o None ≡ o
or_none None = refl
or_none (Some how) = refl

-- a request by its parts
abbrev pub request_with : AcceptedRequest → Option RequestClose → List ShownOffer → StandingRequest
request_with request close standing = record { request = request; close = close; standing = standing }

pub same_parts : (request : AcceptedRequest) (close close2 : Option RequestClose) (standing standing2 : List ShownOffer) → close ≡ close2 → standing ≡ standing2
    → request_with request close standing ≡ request_with request close2 standing2
same_parts request close close2 standing standing2 c s =
    ap (λ (x : Option RequestClose). request_with request x standing) c ∙ ap (request_with request close2) s

-- the quotes that a fact leaves where they stand
all_stand : (standing : List ShownOffer) → filter (λ (shown : ShownOffer). true) standing ++ [] ≡ standing
all_stand standing = append-nil (filter (λ (shown : ShownOffer). true) standing) ∙ filter_all standing

-- A request after each fact.

came_request : (moment : ℕ) (bytes : List ℕ) (used : Bool) (own : StandingRequest) → request_after (Came moment bytes used) own ≡ own
came_request moment bytes used own = same_parts own.request (option_or own.close None) own.close (filter (λ (shown : ShownOffer). true) own.standing ++ []) own.standing (or_none own.close) (all_stand own.standing)

asked_request : (request : AcceptedRequest) (own : StandingRequest) → request_after (Asked request) own ≡ own
asked_request request own = same_parts own.request (option_or own.close None) own.close (filter (λ (shown : ShownOffer). true) own.standing ++ []) own.standing (or_none own.close) (all_stand own.standing)

closed_where : (b : Bool) (close : RequestClose) (own : StandingRequest)
    → request_with own.request (option_or own.close (cond b (Some close) None)) (filter (λ (shown : ShownOffer). true) own.standing ++ []) ≡ cond b (closed_by close own) own
closed_where true close own = same_parts own.request (option_or own.close (Some close)) (option_or own.close (Some close)) (filter (λ (shown : ShownOffer). true) own.standing ++ []) own.standing refl (all_stand own.standing)
closed_where false close own = same_parts own.request (option_or own.close None) own.close (filter (λ (shown : ShownOffer). true) own.standing ++ []) own.standing (or_none own.close) (all_stand own.standing)

closed_request : (number : ℕ) (close : RequestClose) (own : StandingRequest) → request_after (Closed number close) own ≡ at_number number (closed_by close) own
closed_request number close own = closed_where (number == own.request.number) close own

gone_where : (b : Bool) (quote : ℕ) (own : StandingRequest)
    → request_with own.request (option_or own.close None) (filter (λ (shown : ShownOffer). not (b && (quote == shown.number))) own.standing ++ []) ≡ cond b (without_some (Some quote) own) own
gone_where true quote own =
    same_parts own.request (option_or own.close None) own.close (filter (λ (shown : ShownOffer). not (quote == shown.number)) own.standing ++ []) (quotes_without (Some quote) own.standing) (or_none own.close)
    (append-nil (filter (λ (shown : ShownOffer). not (quote == shown.number)) own.standing))
gone_where false quote own = same_parts own.request (option_or own.close None) own.close (filter (λ (shown : ShownOffer). true) own.standing ++ []) own.standing (or_none own.close) (all_stand own.standing)

gone_request : (number quote : ℕ) (own : StandingRequest) → request_after (Gone number quote) own ≡ at_number number (without_some (Some quote)) own
gone_request number quote own = gone_where (number == own.request.number) quote own

offered_where : (b : Bool) (shown : ShownOffer) (own : StandingRequest)
    → request_with own.request (option_or own.close None) (filter (λ (other : ShownOffer). true) own.standing ++ cond b (shown ∷ []) []) ≡ cond b (with_offer shown own) own
offered_where true shown own =
    same_parts own.request (option_or own.close None) own.close (filter (λ (other : ShownOffer). true) own.standing ++ shown ∷ []) (own.standing ++ shown ∷ []) (or_none own.close)
    (ap (λ (xs : List ShownOffer). xs ++ shown ∷ []) (filter_all own.standing))
offered_where false shown own = same_parts own.request (option_or own.close None) own.close (filter (λ (other : ShownOffer). true) own.standing ++ []) own.standing (or_none own.close) (all_stand own.standing)

offered_request : (shown : ShownOffer) (own : StandingRequest) → request_after (Offered shown) own ≡ at_number shown.request (with_offer shown) own
offered_request shown own = offered_where (shown.request == own.request.number) shown own

-- The book after each fact.

same_requests : (fact : InvestorFact) (requests : List StandingRequest) → ((own : StandingRequest) → request_after fact own ≡ own) → map (request_after fact) requests ≡ requests
same_requests fact requests same = all_fixed (request_after fact) requests (λ k y at. same y)

-- a book by its parts
abbrev pub the_book : ℕ → List StandingRequest → List ShownOffer → InvestorBook
the_book used requests offers = record { used = used; requests = requests; offers = offers }

pub same_book : (used used2 : ℕ) (requests requests2 : List StandingRequest) (offers offers2 : List ShownOffer) → used ≡ used2 → requests ≡ requests2 → offers ≡ offers2
    → the_book used requests offers ≡ the_book used2 requests2 offers2
same_book used used2 requests requests2 offers offers2 u r o =
    ap (λ (x : ℕ). the_book x requests offers) u
    ∙ ap (λ (x : List StandingRequest). the_book used2 x offers) r
    ∙ ap (λ (x : List ShownOffer). the_book used2 requests2 x) o

pub came_book : (book : InvestorBook) (moment : ℕ) (bytes : List ℕ) (used : Bool) → book_after book (Came moment bytes used) ≡ record book { used = cond used (book.used + 1) book.used }
unfolding book_after
came_book book moment bytes used =
    same_book (cond used (book.used + 1) book.used) (cond used (book.used + 1) book.used) (map (request_after (Came moment bytes used)) book.requests ++ []) book.requests (book.offers ++ []) book.offers
    refl (append-nil (map (request_after (Came moment bytes used)) book.requests) ∙ same_requests (Came moment bytes used) book.requests (came_request moment bytes used)) (append-nil book.offers)

pub asked_book : (book : InvestorBook) (request : AcceptedRequest) → book_after book (Asked request) ≡ record book { requests = book.requests ++ standing_request request [] ∷ [] }
unfolding book_after
asked_book book request =
    same_book book.used book.used (map (request_after (Asked request)) book.requests ++ standing_request request [] ∷ []) (book.requests ++ standing_request request [] ∷ []) (book.offers ++ []) book.offers
    refl (ap (λ (rs : List StandingRequest). rs ++ standing_request request [] ∷ []) (same_requests (Asked request) book.requests (asked_request request))) (append-nil book.offers)

pub offered_book : (book : InvestorBook) (shown : ShownOffer)
    → book_after book (Offered shown) ≡ record book { requests = map (at_number shown.request (with_offer shown)) book.requests; offers = book.offers ++ shown ∷ [] }
unfolding book_after
offered_book book shown =
    same_book book.used book.used (map (request_after (Offered shown)) book.requests ++ []) (map (at_number shown.request (with_offer shown)) book.requests) (book.offers ++ shown ∷ []) (book.offers ++ shown ∷ [])
    refl (append-nil (map (request_after (Offered shown)) book.requests) ∙ same_map (request_after (Offered shown)) (at_number shown.request (with_offer shown)) book.requests (offered_request shown)) refl

pub gone_book : (book : InvestorBook) (number quote : ℕ) → book_after book (Gone number quote) ≡ record book { requests = map (at_number number (without_some (Some quote))) book.requests }
unfolding book_after
gone_book book number quote =
    same_book book.used book.used (map (request_after (Gone number quote)) book.requests ++ []) (map (at_number number (without_some (Some quote))) book.requests) (book.offers ++ []) book.offers
    refl (append-nil (map (request_after (Gone number quote)) book.requests) ∙ same_map (request_after (Gone number quote)) (at_number number (without_some (Some quote))) book.requests (gone_request number quote)) (append-nil book.offers)

pub closed_book : (book : InvestorBook) (number : ℕ) (close : RequestClose) → book_after book (Closed number close) ≡ record book { requests = map (at_number number (closed_by close)) book.requests }
unfolding book_after
closed_book book number close =
    same_book book.used book.used (map (request_after (Closed number close)) book.requests ++ []) (map (at_number number (closed_by close)) book.requests) (book.offers ++ []) book.offers
    refl (append-nil (map (request_after (Closed number close)) book.requests) ∙ same_map (request_after (Closed number close)) (at_number number (closed_by close)) book.requests (closed_request number close)) (append-nil book.offers)
