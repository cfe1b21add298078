-- What stands by some facts stands whatever comes behind them.
use Rattle.std.proofs.Common.{◌≡◌, ℕ, zero, suc, ◌+◌, ◌==◌, Bool, true, false, ◌||◌, ◌&&◌, List, []}
use Rattle.std.proofs.Common.{◌∷◌, ◌++◌, length, ◌⊎◌, inl, inr, Option, Some, None, refl, sym, ap}
use Rattle.std.proofs.Common.{◌∙◌, arith, subst}
use Rattle.std.specs.Prelude.{slice_get}
use Rattle.std.specs.List.{list_any}
use Rattle.std.proofs.lemmas.Bool.Decides.{nat_tests}
use Rattle.std.proofs.lemmas.List.Folds.{list_any-append}
use Rattle.std.proofs.lemmas.Option.{same_Some}
use Rattle.market_terms.specs.declared.rooms.RoomRef.{RoomRef}
use Rattle.dealer_desk.specs.DealerOutput.{is_same_room, number_from, number_in}
use Rattle.request_room.specs.RoomFacts.{RoomFact, first_said, request_of, is_named, names}
use Rattle.request_room.specs.RoomFacts.{opened_for}
use Rattle.request_room.specs.declared.requests.RoomRequest.{RoomRequest}
use Rattle.step_replay.specs.Lists.{Every, In}

-- Lists.

pub in_left : {A : Type 0} (x : A) (xs ys : List A) → In x xs → In x (xs ++ ys)
in_left x [] ys is = absurd is
in_left x (y ∷ xs) ys (inl is) = inl is
in_left x (y ∷ xs) ys (inr is) = inr (in_left x xs ys is)

pub in_right : {A : Type 0} (x : A) (xs ys : List A) → In x ys → In x (xs ++ ys)
in_right x [] ys is = is
in_right x (y ∷ xs) ys is = inr (in_right x xs ys is)

pub all_in : {A : Type 0} (P : A → Type 0) (x : A) (xs : List A) → Every P xs → In x xs → P x
all_in P x [] all is = absurd is
all_in P x (y ∷ xs) all (inl is) = subst P is all.0
all_in P x (y ∷ xs) all (inr is) = all_in P x xs all.1 is

pub any_left : {A : Type 0} (test : A → Bool) (xs ys : List A) → list_any test xs ≡ true
    → list_any test (xs ++ ys) ≡ true
any_left test xs ys is = list_any-append test xs ys ∙ rw is refl

pub any_right : {A : Type 0} (test : A → Bool) (xs ys : List A) → list_any test ys ≡ true
    → list_any test (xs ++ ys) ≡ true
any_right test xs ys is = list_any-append test xs ys ∙ rw is (or_true (list_any test xs))
  where
    or_true : (b : Bool) → (b || true) ≡ true
    or_true true = refl
    or_true false = refl

-- Rooms at a desk.

pub number_grown : (first : ℕ) (rooms more : List RoomRef) (room : RoomRef) (number : ℕ)
    → number_from first rooms room ≡ Some number
    → number_from first (rooms ++ more) room ≡ Some number
number_grown first [] more room number is = cc
number_grown first (shown ∷ rooms) more room number is =
    by_test (is_same_room shown room) refl
    (λ found. number_grown (first + 1) rooms more room number found)
  where
    by_test : (b : Bool) → is_same_room shown room ≡ b
        → (number_from (first + 1) rooms room ≡ Some number
        → number_from (first + 1) (rooms ++ more) room ≡ Some number)
        → number_from first (shown ∷ rooms ++ more) room ≡ Some number
    by_test true test later = rw test (rw test at is)
    by_test false test later = rw test (later (rw test at is))

-- two rooms that are one
pub same_room : (one other : RoomRef) → is_same_room one other ≡ true → one ≡ other
same_room one other is =
    by_tests (one.investor == other.investor) refl (one.n == other.n) refl is
  where
    by_tests : (b : Bool) → (one.investor == other.investor) ≡ b → (c : Bool)
        → (one.n == other.n) ≡ c → (b && c) ≡ true → one ≡ other
    by_tests true investors true numbers both =
        let investor : one.investor ≡ other.investor = grind (arith, nat_tests) in
        let n : one.n ≡ other.n = grind (arith, nat_tests) in
        ap (λ (i : ℕ). room_at i one.n) investor ∙ ap (room_at other.investor) n
      where
        room_at : ℕ → ℕ → RoomRef
        room_at i n = record { investor = i; n = n }
    by_tests true investors false numbers both = cc
    by_tests false investors c numbers both = cc

-- a room that was not shown is shown with the next number
pub number_next : (first : ℕ) (rooms : List RoomRef) (room : RoomRef)
    → number_from first rooms room ≡ None → is_same_room room room ≡ true
    → number_from first (rooms ++ room ∷ []) room ≡ Some (first + length rooms)
number_next first [] room none same =
    let sum : first ≡ first + 0 = omega arith in
    rw same (ap (λ (n : ℕ). Some n) sum)
number_next first (shown ∷ rooms) room none same =
    by_test (is_same_room shown room) refl
    (λ missing. number_next (first + 1) rooms room missing same)
  where
    by_test : (b : Bool) → is_same_room shown room ≡ b
        → (number_from (first + 1) rooms room ≡ None
        → number_from (first + 1) (rooms ++ room ∷ []) room ≡ Some (first + 1 + length rooms))
        → number_from first (shown ∷ rooms ++ room ∷ []) room
        ≡ Some (first + length (shown ∷ rooms))
    by_test true test later =
        let clash : Some first ≡ None = rw test at none in
        cc
    by_test false test later =
        let sum : first + 1 + length rooms ≡ first + suc (length rooms) = omega arith in
        rw test (later (rw test at none)
        ∙ ap (λ (n : ℕ). Some n) sum)

-- each room that was shown has its number
abbrev pub AreNumbered : List RoomRef → Type 0
AreNumbered rooms = (place : ℕ) (room : RoomRef) → slice_get rooms place ≡ Some room
    → number_in rooms room ≡ Some (place + 1)

-- a list with one item more
pub get_push : {A : Type 0} (xs : List A) (x y : A) (place : ℕ)
    → slice_get (xs ++ x ∷ []) place ≡ Some y
    → (slice_get xs place ≡ Some y) ⊎ ((place ≡ length xs) × (x ≡ y))
get_push [] x y zero is = inr (refl, same_Some x y is)
get_push [] x y (suc place) is = cc
get_push (z ∷ xs) x y zero is = inl is
get_push (z ∷ xs) x y (suc place) is = later (get_push xs x y place is)
  where
    later : (slice_get xs place ≡ Some y) ⊎ ((place ≡ length xs) × (x ≡ y))
        → (slice_get xs place ≡ Some y) ⊎ ((suc place ≡ suc (length xs)) × (x ≡ y))
    later (inl found) = inl found
    later (inr found) = inr (ap suc found.0, found.1)

pub numbered_push : (rooms : List RoomRef) (room : RoomRef) → AreNumbered rooms
    → number_in rooms room ≡ None → is_same_room room room ≡ true
    → AreNumbered (rooms ++ room ∷ [])
numbered_push rooms room before none same place shown is =
    by_place (get_push rooms room shown place is)
  where
    by_place : (slice_get rooms place ≡ Some shown) ⊎ ((place ≡ length rooms) × (room ≡ shown))
        → number_in (rooms ++ room ∷ []) shown ≡ Some (place + 1)
    by_place (inl found) =
        number_grown 1 rooms (room ∷ []) shown (place + 1) (before place shown found)
    by_place (inr found) =
        let sum : 1 + length rooms ≡ place + 1 = add_one (length rooms) place found.0 in
        ap (number_in (rooms ++ room ∷ [])) (sym found.1)
        ∙ number_next 1 rooms room none same ∙ ap (λ (n : ℕ). Some n) sum
      where
        add_one : (n p : ℕ) → p ≡ n → 1 + n ≡ p + 1
        add_one n p is = omega arith

-- Rooms.

pub said_grown : {A : Type 0} (says : RoomFact → Option A) (facts more : List RoomFact) (x : A)
    → first_said says facts ≡ Some x → first_said says (facts ++ more) ≡ Some x
said_grown says [] more x is = cc
said_grown {A} says (fact ∷ facts) more x is =
    by_said (says fact) refl (λ found. said_grown says facts more x found)
  where
    by_said : (said : Option A) → says fact ≡ said
        → (first_said says facts ≡ Some x → first_said says (facts ++ more) ≡ Some x)
        → first_said says (fact ∷ facts ++ more) ≡ Some x
    by_said (Some y) said later = rw said (rw said at is)
    by_said None said later = rw said (later (rw said at is))

-- what is said first behind facts that say nothing
pub said_after : {A : Type 0} (says : RoomFact → Option A) (facts more : List RoomFact)
    → first_said says facts ≡ None → first_said says (facts ++ more) ≡ first_said says more
said_after says [] more is = refl
said_after {A} says (fact ∷ facts) more is =
    by_said (says fact) refl (λ none. said_after says facts more none)
  where
    by_said : (said : Option A) → says fact ≡ said
        → (first_said says facts ≡ None
        → first_said says (facts ++ more) ≡ first_said says more)
        → first_said says (fact ∷ facts ++ more) ≡ first_said says more
    by_said (Some y) said later =
        let clash : Some y ≡ None = rw said at is in
        cc
    by_said None said later = rw said (later (rw said at is))

pub names_some : (request : Option RoomRequest) (dealer : ℕ) → names request dealer ≡ true
    → (some : RoomRequest) × (request ≡ Some some)
names_some None dealer is = cc
names_some (Some request) dealer is = (request, refl)

pub named_grown : (facts more : List RoomFact) (dealer : ℕ) → is_named facts dealer ≡ true
    → is_named (facts ++ more) dealer ≡ true
named_grown facts more dealer is =
    let some = names_some (request_of facts) dealer is in
    ap (λ (r : Option RoomRequest). names r dealer)
    (said_grown opened_for facts more some.0 some.1 ∙ sym some.1) ∙ is

-- whom the room names is what its first opening names
pub named_before : (facts more : List RoomFact) (request : RoomRequest) (dealer : ℕ)
    → request_of facts ≡ Some request → is_named (facts ++ more) dealer ≡ true
    → is_named facts dealer ≡ true
named_before facts more request dealer is named =
    ap (λ (r : Option RoomRequest). names r dealer)
    (is ∙ sym (said_grown opened_for facts more request is)) ∙ named
