-- Lists and options: what the lemmas on trades take of them.
use Rattle.laws_days.proofs.Common.{Bool, List, Some, ℕ, [], find, inl, inr}
use Rattle.laws_days.proofs.Common.{length, refl, suc, true, zero, ◌++◌, ◌∷◌, ◌≡◌, cases_Bool}
use Rattle.laws_days.proofs.Common.{same_Some, slice_get, In}

-- what stands at a place stays there
pub get_grown : {A : Type 0} (xs more : List A) (place : ℕ) (x : A) → slice_get xs place ≡ Some x
    → slice_get (xs ++ more) place ≡ Some x
get_grown [] more place x is = cc
get_grown (y ∷ xs) more zero x is = is
get_grown (y ∷ xs) more (suc place) x is = get_grown xs more place x is

-- the next one stands at the next place
pub get_next : {A : Type 0} (xs more : List A) (x : A)
    → slice_get (xs ++ x ∷ more) (length xs) ≡ Some x
get_next [] more x = refl
get_next (y ∷ xs) more x = get_next xs more x

-- what stands at a place stands in the list
pub get_in : {A : Type 0} (xs : List A) (place : ℕ) (x : A) → slice_get xs place ≡ Some x → In x xs
get_in [] place x is = cc
get_in (y ∷ xs) zero x is = inl (same_Some y x is)
get_in (y ∷ xs) (suc place) x is = inr (get_in xs place x is)

-- what is found stands in the list
pub find_in : {A : Type 0} (test : A → Bool) (xs : List A) (x : A) → find test xs ≡ Some x → In x xs
find_in test [] x is = cc
find_in test (y ∷ xs) x is = elim (cases_Bool (test y)) [
  | inl passes ↦ inl (same_Some y x (rw passes at is))
  | inr fails ↦ inr (find_in test xs x (rw fails at is))
]

-- what is found by a test is found by one that lets fewer pass, where it passes that
pub find_fewer : {A : Type 0} (wide narrow : A → Bool)
    → ((y : A) → narrow y ≡ true → wide y ≡ true) → (xs : List A) (x : A)
    → find wide xs ≡ Some x → narrow x ≡ true → find narrow xs ≡ Some x
find_fewer wide narrow weaker [] x is passes = cc
find_fewer wide narrow weaker (y ∷ xs) x is passes = elim (cases_Bool (wide y)) [
  | inl test ↦
      let same = same_Some y x (rw test at is) in
      rw same (rw passes refl)
  | inr fails ↦ elim (cases_Bool (narrow y)) [
    | inl also ↦ cc (weaker y also)
    | inr neither ↦ rw neither (find_fewer wide narrow weaker xs x (rw fails at is) passes)
  ]
]
