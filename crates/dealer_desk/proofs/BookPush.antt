-- The book of facts to which one more was put is the book of the others after this fact.
use Rattle.std.proofs.Common.{◌≡◌, ℕ, ◌+◌, Bool, true, false, ◌||◌, cond, List, [], ◌∷◌, ◌++◌}
use Rattle.std.proofs.Common.{length, map, fold, Option, Some, None, refl, sym, ap, ◌∙◌, arith}
use Rattle.std.specs.List.{list_any, count_by}
use Rattle.std.specs.Option.{option_or}
use Rattle.std.proofs.lemmas.List.Sums.{sum_by-append}
use Rattle.std.proofs.lemmas.List.{append-nil, append_assoc}
use Rattle.std.proofs.Math.Bool.{or-false}
use Rattle.market_terms.specs.declared.asks.Ask.{Ask}
use Rattle.dealer_desk.specs.DealerFacts.{DealerFact, Shown, Quoted, DealerBook, book_of}
use Rattle.dealer_desk.specs.DealerFacts.{standing_request, standing_quote, requests_from}
use Rattle.dealer_desk.specs.DealerFacts.{standings, first_said, declines, tells, finds_lifted}
use Rattle.dealer_desk.specs.DealerFacts.{ends, used_number, is_notice}
use Rattle.dealer_desk.specs.BookChanges.{book_after, quote_after, request_after, request_added}
use Rattle.dealer_desk.specs.BookChanges.{quote_added, counted}
use Rattle.dealer_desk.specs.declared.accepted.AcceptedQuote.{AcceptedQuote}
use Rattle.dealer_desk.specs.declared.standing.StandingRequest.{StandingRequest}
use Rattle.dealer_desk.specs.declared.standing.StandingQuote.{StandingQuote}
use Rattle.dealer_desk.specs.declared.standing.QuoteEnd.{QuoteEnd}
use Rattle.dealer_desk.proofs.BookLemmas.{or_none}

-- Counts, tests and first sayings of one fact more.

or_assoc : (a b c : Bool) → (a || (b || c)) ≡ ((a || b) || c)
or_assoc true b c = refl
or_assoc false b c = refl

pub any_push : {A : Type 0} (p : A → Bool) (xs : List A) (x : A) → list_any p (xs ++ x ∷ []) ≡ (list_any p xs || p x)
any_push p [] x = or-false (p x)
any_push p (y ∷ xs) x = ap (λ (b : Bool). p y || b) (any_push p xs x) ∙ or_assoc (p y) (list_any p xs) (p x)

more_where : (b : Bool) (n : ℕ) → n + (0 + cond b 1 0) ≡ counted b n
more_where true n = omega arith
more_where false n = omega arith

pub count_push : {A : Type 0} (p : A → Bool) (xs : List A) (x : A) → count_by p (xs ++ x ∷ []) ≡ counted (p x) (count_by p xs)
count_push p xs x = sum_by-append (λ y. cond (p y) 1 0) xs (x ∷ []) ∙ more_where (p x) (count_by p xs)

or_else : (a b c : Option QuoteEnd) → option_or a (option_or b c) ≡ option_or (option_or a b) c
or_else None b c = refl
or_else (Some x) b c = refl

said_push : (says : DealerFact → Option QuoteEnd) (facts : List DealerFact) (fact : DealerFact) → first_said says (facts ++ fact ∷ []) ≡ option_or (first_said says facts) (says fact)
said_push says [] fact = or_none (says fact)
said_push says (first ∷ facts) fact = ap (λ (o : Option QuoteEnd). option_or (says first) o) (said_push says facts fact) ∙ or_else (says first) (first_said says facts) (says fact)

-- A request and a quote.

pub request_push : (number : ℕ) (ask : Ask) (facts : List DealerFact) (fact : DealerFact) → standing_request number ask (facts ++ fact ∷ []) ≡ request_after fact (standing_request number ask facts)
request_push number ask facts fact =
    ap (λ (b : Bool). record { number = number; ask = ask; is_declined = b; is_told = list_any (tells number) (facts ++ fact ∷ []) }) (any_push (declines number) facts fact)
    ∙ ap (λ (b : Bool). record { number = number; ask = ask; is_declined = list_any (declines number) facts || declines number fact; is_told = b }) (any_push (tells number) facts fact)

pub quote_push : (quote : AcceptedQuote) (facts : List DealerFact) (fact : DealerFact) → standing_quote quote (facts ++ fact ∷ []) ≡ quote_after fact (standing_quote quote facts)
quote_push quote facts fact =
    ap (λ (b : Bool). record { quote = quote; is_known_lifted = b; end = first_said (ends quote) (facts ++ fact ∷ []) }) (any_push (finds_lifted quote.number) facts fact)
    ∙ ap (λ (e : Option QuoteEnd). record { quote = quote; is_known_lifted = list_any (finds_lifted quote.number) facts || finds_lifted quote.number fact; end = e }) (said_push (ends quote) facts fact)

-- All requests.

added_here : (number other : ℕ) (fact : DealerFact) → number ≡ other → requests_from number (fact ∷ []) ≡ request_added other fact
added_here number other (Shown ask moment) same = ap (λ (n : ℕ). standing_request n ask [] ∷ []) same
added_here number other fact same = refl

requests_push : (number : ℕ) (facts : List DealerFact) (fact : DealerFact)
    → requests_from number (facts ++ fact ∷ []) ≡ map (request_after fact) (requests_from number facts) ++ request_added (length (requests_from number facts) + number) fact
requests_push number [] fact = let same : number ≡ 0 + number = omega arith in added_here number (0 + number) fact same
requests_push number (Shown ask moment ∷ facts) fact =
    let first = request_push number ask facts fact in
    let rest = requests_push (number + 1) facts fact in
    let same : length (requests_from (number + 1) facts) + (number + 1) ≡ length (standing_request number ask facts ∷ requests_from (number + 1) facts) + number = omega arith in
    ap (λ (r : StandingRequest). r ∷ requests_from (number + 1) (facts ++ fact ∷ [])) first
    ∙ ap (λ (rs : List StandingRequest). request_after fact (standing_request number ask facts) ∷ rs) rest
    ∙ ap (λ (n : ℕ). request_after fact (standing_request number ask facts) ∷ (map (request_after fact) (requests_from (number + 1) facts) ++ request_added n fact)) same
requests_push number (first ∷ facts) fact = requests_push number facts fact

-- All quotes.

quotes_push : (facts : List DealerFact) (fact : DealerFact) → standings (facts ++ fact ∷ []) ≡ map (quote_after fact) (standings facts) ++ quote_added fact
quotes_push [] (Quoted quote) = refl
quotes_push [] fact = refl
quotes_push (Quoted quote ∷ facts) fact =
    ap (λ (q : StandingQuote). q ∷ standings (facts ++ fact ∷ [])) (quote_push quote facts fact)
    ∙ ap (λ (qs : List StandingQuote). quote_after fact (standing_quote quote facts) ∷ qs) (quotes_push facts fact)
quotes_push (first ∷ facts) fact = quotes_push facts fact

-- The book.

abbrev the_book : ℕ → ℕ → List StandingRequest → List StandingQuote → DealerBook
the_book used notices requests quotes = record { used = used; notices = notices; requests = requests; quotes = quotes }

book_by : (used used2 notices notices2 : ℕ) (requests requests2 : List StandingRequest) (quotes quotes2 : List StandingQuote) → used ≡ used2 → notices ≡ notices2 → requests ≡ requests2 → quotes ≡ quotes2
    → the_book used notices requests quotes ≡ the_book used2 notices2 requests2 quotes2
book_by used used2 notices notices2 requests requests2 quotes quotes2 u n r q =
    ap (λ (x : ℕ). the_book x notices requests quotes) u
    ∙ ap (λ (x : ℕ). the_book used2 x requests quotes) n
    ∙ ap (λ (x : List StandingRequest). the_book used2 notices2 x quotes) r
    ∙ ap (λ (x : List StandingQuote). the_book used2 notices2 requests2 x) q

pub book_push : (facts : List DealerFact) (fact : DealerFact) → book_of (facts ++ fact ∷ []) ≡ book_after (book_of facts) fact
unfolding book_after
book_push facts fact =
    book_by (count_by used_number (facts ++ fact ∷ [])) (counted (used_number fact) (count_by used_number facts))
    (count_by is_notice (facts ++ fact ∷ [])) (counted (is_notice fact) (count_by is_notice facts))
    (requests_from 1 (facts ++ fact ∷ [])) (map (request_after fact) (requests_from 1 facts) ++ request_added (length (requests_from 1 facts) + 1) fact)
    (standings (facts ++ fact ∷ [])) (map (quote_after fact) (standings facts) ++ quote_added fact)
    (count_push used_number facts fact) (count_push is_notice facts fact) (requests_push 1 facts fact) (quotes_push facts fact)

-- a book after some facts more, one by one
pub books_push : (facts added : List DealerFact) → book_of (facts ++ added) ≡ fold book_after (book_of facts) added
books_push facts [] = ap book_of (append-nil facts)
books_push facts (fact ∷ added) =
    ap book_of (sym (append_assoc facts (fact ∷ []) added))
    ∙ books_push (facts ++ fact ∷ []) added
    ∙ ap (λ (b : DealerBook). fold book_after b added) (book_push facts fact)
