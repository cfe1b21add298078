-- The book has one quote of a dealer at most.
use Rattle.std.proofs.Common.{◌≡◌, ◌≢◌, ℕ, Bool, true, false, ◌||◌, ◌==◌, cond, List, [], ◌∷◌, refl}
use Rattle.std.proofs.Common.{arith, AllPairs, All}
use Rattle.std.specs.List.{list_any}
use Rattle.std.proofs.lemmas.Bool.Decides.{nat_tests}
use Rattle.std.proofs.lemmas.List.Elements.{All-nil, All-cons}
use Rattle.std.proofs.lemmas.List.Kept.{AllPairs-cons}
use Rattle.request_room.specs.declared.quotes.PostedQuote.{PostedQuote}
use Rattle.request_room.specs.RoomFacts.{RoomFact, Posted, Unposted}
use Rattle.request_room.specs.Book.{book_of, takes_out}

neither_left : (one other : Bool) → (one || other) ≡ false → one ≡ false
neither_left true other h = absurd (cc)
neither_left false other h = refl

neither_right : (one other : Bool) → (one || other) ≡ false → other ≡ false
neither_right true other h = absurd (cc)
neither_right false other h = h

apart : (dealer other : ℕ) → (dealer == other) ≡ false → dealer ≢ other
apart dealer other h = grind (arith, nat_tests)

-- a quote that no later fact takes out, and the quotes that were posted later
one_apart : (taken : Bool) (quote next : PostedQuote) (book : List PostedQuote)
    → quote.dealer ≢ next.dealer → All (λ other. quote.dealer ≢ other.dealer) book
    → All (λ other. quote.dealer ≢ other.dealer) (cond taken book (next ∷ book))
one_apart true quote next book differs more = more
one_apart false quote next book differs more =
    All-cons (λ other. quote.dealer ≢ other.dealer) next book differs more

all_apart : (quote : PostedQuote) (later : List RoomFact) → list_any (takes_out quote) later
    ≡ false → All (λ other. quote.dealer ≢ other.dealer) (book_of later)
all_apart quote [] h = All-nil (λ other. quote.dealer ≢ other.dealer)
all_apart quote (Posted next ∷ later) h =
    one_apart (list_any (takes_out next) later) quote next (book_of later)
    (apart quote.dealer next.dealer
    (neither_left (quote.dealer == next.dealer) (list_any (takes_out quote) later) h))
    (all_apart quote later (neither_right (quote.dealer == next.dealer)
    (list_any (takes_out quote) later) h))
all_apart quote (Unposted dealer w ∷ later) h =
    all_apart quote later (neither_right (takes_out quote (Unposted dealer w))
    (list_any (takes_out quote) later) h)
all_apart quote (fact ∷ later) h = all_apart quote later h

one_more : (taken : Bool) (quote : PostedQuote) (later : List RoomFact)
    → list_any (takes_out quote) later ≡ taken
    → AllPairs (λ one other. one.dealer ≢ other.dealer) (book_of later)
    → AllPairs (λ one other. one.dealer ≢ other.dealer)
    (cond taken (book_of later) (quote ∷ book_of later))
one_more true quote later h more = more
one_more false quote later h more =
    AllPairs-cons (λ one other. one.dealer ≢ other.dealer) quote (book_of later)
    (all_apart quote later h) more

-- the book has one quote of a dealer at most
pub one_quote_each : (facts : List RoomFact)
    → AllPairs (λ one other. one.dealer ≢ other.dealer) (book_of facts)
one_quote_each [] = λ i j d below within. absurd (omega arith)
one_quote_each (Posted quote ∷ later) =
    one_more (list_any (takes_out quote) later) quote later refl (one_quote_each later)
one_quote_each (fact ∷ later) = one_quote_each later
