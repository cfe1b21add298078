-- The book of facts to which one more was put is the book of the others after this fact.
use Rattle.std.proofs.Common.{◌≡◌, ℕ, ◌+◌, Bool, true, false, ◌&&◌, ◌||◌, ◌==◌, not, cond, List, []}
use Rattle.std.proofs.Common.{◌∷◌, ◌++◌, map, fold, filter, Option, Some, None, refl, sym, ap, ◌∙◌}
use Rattle.std.proofs.Common.{arith}
use Rattle.std.specs.List.{list_any, count_by}
use Rattle.std.specs.Option.{option_or}
use Rattle.std.proofs.lemmas.List.Sums.{sum_by-append}
use Rattle.std.proofs.lemmas.List.{append-nil, append_assoc}
use Rattle.std.proofs.Math.Bool.{or-false}
use Rattle.investor_desk.specs.InvestorFacts.{InvestorFact, Asked, Offered, InvestorBook}
use Rattle.investor_desk.specs.InvestorFacts.{StandingRequest, book_of, standing_request}
use Rattle.investor_desk.specs.InvestorFacts.{requests_of, offers_of, standing_on, first_said}
use Rattle.investor_desk.specs.InvestorFacts.{closes, says_gone, used_number}
use Rattle.investor_desk.specs.BookChanges.{book_after, request_after, request_added, offer_added}
use Rattle.investor_desk.specs.BookChanges.{offered_on, leaves, counted}
use Rattle.investor_desk.specs.declared.standing.AcceptedRequest.{AcceptedRequest}
use Rattle.investor_desk.specs.declared.standing.RequestClose.{RequestClose}
use Rattle.investor_desk.specs.declared.standing.ShownOffer.{ShownOffer}
use Rattle.investor_desk.proofs.BookLemmas.{or_none, same_parts, same_book}

-- Counts, tests and first sayings of one fact more.

or_assoc : (a b c : Bool) → (a || (b || c)) ≡ ((a || b) || c)
or_assoc true b c = refl
or_assoc false b c = refl

any_push : {A : Type 0} (p : A → Bool) (xs : List A) (x : A) → list_any p (xs ++ x ∷ []) ≡ (list_any p xs || p x)
any_push p [] x = or-false (p x)
any_push p (y ∷ xs) x = ap (λ (b : Bool). p y || b) (any_push p xs x) ∙ or_assoc (p y) (list_any p xs) (p x)

more_where : (b : Bool) (n : ℕ) → n + (0 + cond b 1 0) ≡ counted b n
more_where true n = omega arith
more_where false n = omega arith

count_push : {A : Type 0} (p : A → Bool) (xs : List A) (x : A) → count_by p (xs ++ x ∷ []) ≡ counted (p x) (count_by p xs)
count_push p xs x = sum_by-append (λ y. cond (p y) 1 0) xs (x ∷ []) ∙ more_where (p x) (count_by p xs)

or_else : (a b c : Option RequestClose) → option_or a (option_or b c) ≡ option_or (option_or a b) c
or_else None b c = refl
or_else (Some x) b c = refl

said_push : (says : InvestorFact → Option RequestClose) (facts : List InvestorFact) (fact : InvestorFact) → first_said says (facts ++ fact ∷ []) ≡ option_or (first_said says facts) (says fact)
said_push says [] fact = or_none (says fact)
said_push says (first ∷ facts) fact = ap (λ (o : Option RequestClose). option_or (says first) o) (said_push says facts fact) ∙ or_else (says first) (first_said says facts) (says fact)

-- The quotes that stand on a request.

-- one that was shown, by whether it was shown there, whether it was gone before, and whether it is
-- gone now
stands_more : (here gone now : Bool) (shown : ShownOffer) (later2 later added : List ShownOffer) (keeps : ShownOffer → Bool) → keeps shown ≡ not now → later2 ≡ filter keeps later ++ added
    → cond (here && not (gone || now)) (shown ∷ later2) later2 ≡ filter keeps (cond (here && not gone) (shown ∷ later) later) ++ added
stands_more true true now shown later2 later added keeps k h = h
stands_more true false true shown later2 later added keeps k h = rw k h
stands_more true false false shown later2 later added keeps k h = rw k (ap (λ (xs : List ShownOffer). shown ∷ xs) h)
stands_more false gone now shown later2 later added keeps k h = h

chosen : (b : Bool) (shown : ShownOffer) → cond (b && true) (shown ∷ []) [] ≡ cond b (shown ∷ []) []
chosen true shown = refl
chosen false shown = refl

last_offered : (number : ℕ) (fact : InvestorFact) → standing_on number (fact ∷ []) ≡ offered_on number fact
last_offered number (Offered shown) = chosen (shown.request == number) shown
last_offered number fact = refl

standing_push : (number : ℕ) (facts : List InvestorFact) (fact : InvestorFact) → standing_on number (facts ++ fact ∷ []) ≡ filter (leaves number fact) (standing_on number facts) ++ offered_on number fact
standing_push number [] fact = last_offered number fact
standing_push number (Offered shown ∷ facts) fact =
    ap (λ (b : Bool). cond ((shown.request == number) && not b) (shown ∷ standing_on number (facts ++ fact ∷ [])) (standing_on number (facts ++ fact ∷ []))) (any_push (says_gone number shown.number) facts fact)
    ∙ stands_more (shown.request == number) (list_any (says_gone number shown.number) facts) (says_gone number shown.number fact) shown (standing_on number (facts ++ fact ∷ [])) (standing_on number facts) (offered_on number fact)
    (leaves number fact) refl (standing_push number facts fact)
standing_push number (first ∷ facts) fact = standing_push number facts fact

-- All requests, all quotes.

request_push : (request : AcceptedRequest) (facts : List InvestorFact) (fact : InvestorFact) → standing_request request (facts ++ fact ∷ []) ≡ request_after fact (standing_request request facts)
request_push request facts fact =
    same_parts request (first_said (closes request.number) (facts ++ fact ∷ [])) (option_or (first_said (closes request.number) facts) (closes request.number fact))
    (standing_on request.number (facts ++ fact ∷ [])) (filter (leaves request.number fact) (standing_on request.number facts) ++ offered_on request.number fact)
    (said_push (closes request.number) facts fact) (standing_push request.number facts fact)

requests_push : (facts : List InvestorFact) (fact : InvestorFact) → requests_of (facts ++ fact ∷ []) ≡ map (request_after fact) (requests_of facts) ++ request_added fact
requests_push [] (Asked request) = refl
requests_push [] fact = refl
requests_push (Asked request ∷ facts) fact =
    ap (λ (r : StandingRequest). r ∷ requests_of (facts ++ fact ∷ [])) (request_push request facts fact)
    ∙ ap (λ (rs : List StandingRequest). request_after fact (standing_request request facts) ∷ rs) (requests_push facts fact)
requests_push (first ∷ facts) fact = requests_push facts fact

offers_push : (facts : List InvestorFact) (fact : InvestorFact) → offers_of (facts ++ fact ∷ []) ≡ offers_of facts ++ offer_added fact
offers_push [] (Offered shown) = refl
offers_push [] fact = refl
offers_push (Offered shown ∷ facts) fact = ap (λ (xs : List ShownOffer). shown ∷ xs) (offers_push facts fact)
offers_push (first ∷ facts) fact = offers_push facts fact

-- The book.

pub book_push : (facts : List InvestorFact) (fact : InvestorFact) → book_of (facts ++ fact ∷ []) ≡ book_after (book_of facts) fact
unfolding book_after
book_push facts fact =
    same_book (count_by used_number (facts ++ fact ∷ [])) (counted (used_number fact) (count_by used_number facts))
    (requests_of (facts ++ fact ∷ [])) (map (request_after fact) (requests_of facts) ++ request_added fact)
    (offers_of (facts ++ fact ∷ [])) (offers_of facts ++ offer_added fact)
    (count_push used_number facts fact) (requests_push facts fact) (offers_push facts fact)

-- a book after some facts more, one by one
pub books_push : (facts added : List InvestorFact) → book_of (facts ++ added) ≡ fold book_after (book_of facts) added
books_push facts [] = ap book_of (append-nil facts)
books_push facts (fact ∷ added) =
    ap book_of (sym (append_assoc facts (fact ∷ []) added))
    ∙ books_push (facts ++ fact ∷ []) added
    ∙ ap (λ (b : InvestorBook). fold book_after b added) (book_push facts fact)
