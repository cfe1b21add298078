-- What follows from the facts of a room after one fact more.
use Rattle.std.proofs.Common.{◌≡◌, ℕ, Bool, true, false, ◌||◌, not, cond, List, [], ◌∷◌, ◌++◌}
use Rattle.std.proofs.Common.{Option, Some, None, filter, refl, ap, sym, ◌∙◌}
use Rattle.std.proofs.lemmas.List.{append-nil}
use Rattle.std.specs.List.{list_any}
use Rattle.std.specs.Option.{option_or}
use Rattle.std.proofs.Math.Bool.{or-false, or-true, or_assoc}
use Rattle.request_room.specs.declared.quotes.PostedQuote.{PostedQuote}
use Rattle.request_room.specs.declared.requests.RoomRequest.{RoomRequest}
use Rattle.request_room.specs.declared.ends.End.{End}
use Rattle.request_room.specs.RoomFacts.{RoomFact, Opened, Readied, Posted, Unposted, Noted, Ended}
use Rattle.request_room.specs.RoomFacts.{first_said, is_readied, is_ready}
use Rattle.request_room.specs.Book.{book_of, takes_out}

pub or_none : {A : Type 0} (o : Option A) → option_or o None ≡ o
or_none None = refl
or_none (Some x) = refl

option_or_assoc : {A : Type 0} (one two three : Option A) → option_or (option_or one two) three
    ≡ option_or one (option_or two three)
option_or_assoc None two three = refl
option_or_assoc (Some x) two three = refl

-- what is said after one fact more
pub said_after : {A : Type 0} (says : RoomFact → Option A) (facts : List RoomFact) (fact : RoomFact)
    → first_said says (facts ++ fact ∷ []) ≡ option_or (first_said says facts) (says fact)
said_after says [] fact = or_none (says fact)
said_after says (first ∷ later) fact =
    ap (option_or (says first)) (said_after says later fact)
    ∙ sym (option_or_assoc (says first) (first_said says later) (says fact))

-- what is said by facts and more facts
pub said_append : {A : Type 0} (says : RoomFact → Option A) (facts more : List RoomFact)
    → first_said says (facts ++ more) ≡ option_or (first_said says facts) (first_said says more)
said_append says [] more = refl
said_append says (first ∷ later) more =
    ap (option_or (says first)) (said_append says later more)
    ∙ sym (option_or_assoc (says first) (first_said says later) (first_said says more))

-- a fact that says nothing changes nothing of what is said
pub said_by_others : {A : Type 0} (says : RoomFact → Option A) (facts : List RoomFact)
    (fact : RoomFact) → says fact ≡ None → first_said says facts
    ≡ first_said says (facts ++ fact ∷ [])
said_by_others says facts fact none =
    sym (said_after says facts fact ∙ ap (option_or (first_said says facts)) none
    ∙ or_none (first_said says facts))

-- what the first fact to say something says
pub said_first : {A : Type 0} (says : RoomFact → Option A) (facts : List RoomFact) (fact : RoomFact)
    (x : A) → first_said says facts ≡ None → says fact ≡ Some x → Some x
    ≡ first_said says (facts ++ fact ∷ [])
said_first says facts fact x before now =
    sym (said_after says facts fact ∙ ap (λ o. option_or o (says fact)) before ∙ now)

-- a test of any element, after one more
pub any_after : {X : Type 0} (p : X → Bool) (xs : List X) (x : X) → list_any p (xs ++ x ∷ [])
    ≡ (list_any p xs || p x)
any_after p [] x = or-false (p x)
any_after p (first ∷ later) x =
    ap (λ b. p first || b) (any_after p later x)
    ∙ sym (or_assoc (p first) (list_any p later) (p x))

pub ready_as_before : (facts : List RoomFact) (fact : RoomFact) → is_readied fact ≡ false
    → is_ready facts ≡ is_ready (facts ++ fact ∷ [])
ready_as_before facts fact other =
    sym (any_after is_readied facts fact ∙ ap (λ b. is_ready facts || b) other
    ∙ or-false (is_ready facts))

pub ready_now : (facts : List RoomFact) → true ≡ is_ready (facts ++ Readied ∷ [])
ready_now facts = sym (any_after is_readied facts Readied ∙ or-true (is_ready facts))

-- The book.

-- the quotes that a fact leaves in the book
abbrev pub left_by : RoomFact → List PostedQuote → List PostedQuote
left_by fact book = filter (λ quote. not (takes_out quote fact)) book

keep_or_drop : (taken : Bool) (quote : PostedQuote) (left new : List PostedQuote)
    → cond taken (left ++ new) (quote ∷ (left ++ new)) ≡ cond (not taken) (quote ∷ left) left ++ new
keep_or_drop true quote left new = refl
keep_or_drop false quote left new = refl

one_quote : (gone : Bool) (quote : PostedQuote) (book new : List PostedQuote) (fact : RoomFact)
    → cond (gone || takes_out quote fact) (left_by fact book ++ new)
    (quote ∷ (left_by fact book ++ new)) ≡ left_by fact (cond gone book (quote ∷ book)) ++ new
one_quote true quote book new fact = refl
one_quote false quote book new fact =
    keep_or_drop (takes_out quote fact) quote (left_by fact book) new

-- the book after one fact more: what the fact leaves, and what it posts behind it
pub book_after : (facts : List RoomFact) (fact : RoomFact) → book_of (facts ++ fact ∷ [])
    ≡ left_by fact (book_of facts) ++ book_of (fact ∷ [])
book_after [] fact = refl
book_after (Posted quote ∷ later) fact =
    rw (any_after (takes_out quote) later fact, book_after later fact)
    (one_quote (list_any (takes_out quote) later) quote (book_of later) (book_of (fact ∷ [])) fact)
book_after (other ∷ later) fact = book_after later fact

all_left : (book : List PostedQuote) → filter (λ quote. true) book ≡ book
all_left [] = refl
all_left (quote ∷ book) = ap (λ more. quote ∷ more) (all_left book)

-- a fact that takes out nothing and posts nothing
same_book : (book : List PostedQuote) → filter (λ quote. true) book ++ [] ≡ book
same_book book = append-nil (filter (λ quote. true) book) ∙ all_left book

pub book_opened : (facts : List RoomFact) (request : RoomRequest) → book_of facts
    ≡ book_of (facts ++ Opened request ∷ [])
book_opened facts request = sym (book_after facts (Opened request) ∙ same_book (book_of facts))

pub book_readied : (facts : List RoomFact) → book_of facts ≡ book_of (facts ++ Readied ∷ [])
book_readied facts = sym (book_after facts Readied ∙ same_book (book_of facts))

pub book_noted : (facts : List RoomFact) (dealer : ℕ) → book_of facts
    ≡ book_of (facts ++ Noted dealer ∷ [])
book_noted facts dealer = sym (book_after facts (Noted dealer) ∙ same_book (book_of facts))

pub book_ended : (facts : List RoomFact) (end : End) (moment : ℕ) → book_of facts
    ≡ book_of (facts ++ Ended end moment ∷ [])
book_ended facts end moment = sym (book_after facts (Ended end moment) ∙ same_book (book_of facts))

pub book_unposted : (facts : List RoomFact) (dealer w : ℕ)
    → left_by (Unposted dealer w) (book_of facts) ≡ book_of (facts ++ Unposted dealer w ∷ [])
book_unposted facts dealer w =
    sym (book_after facts (Unposted dealer w)
    ∙ append-nil (left_by (Unposted dealer w) (book_of facts)))
