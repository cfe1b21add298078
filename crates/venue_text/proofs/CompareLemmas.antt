-- Where two lists differ first.
use Rattle.std.proofs.Common.{◌≡◌, ℕ, ◌+◌, ◌≤◌, List, [], ◌∷◌, ◌++◌, length, take, zero, suc, sym}
use Rattle.std.proofs.Common.{ap, ◌∙◌, refl, arith, Bool, Option, Some, None}
use Rattle.std.specs.Prelude.{slice_get, IsTrue, ◌↔◌}
use Rattle.venue_text.specs.ReplayText.{one_at}
use Rattle.venue_text.proofs.DayLemmas.{take_more, one_at_some, one_at_none}

-- the same at a place, as lists of one item or none

pub same_one : {A : Type 0} (one other : List A) (place : ℕ) (item : Option A) → slice_get one place ≡ item → slice_get other place ≡ item
    → one_at place one ≡ one_at place other
same_one one other place None is there = one_at_none one place is ∙ sym (one_at_none other place there)
same_one one other place (Some x) is there = one_at_some one place x is ∙ sym (one_at_some other place x there)

-- lists that are the same before a place and at it are so before the next one
pub same_more : {A : Type 0} (one other : List A) (place : ℕ) → take place one ≡ take place other
    → slice_get one place ≡ slice_get other place → take (place + 1) one ≡ take (place + 1) other
same_more one other place before there =
    take_more one place
    ∙ ap (λ xs. xs ++ one_at place one) before
    ∙ ap (λ xs. take place other ++ xs) (same_one one other place (slice_get other place) there refl)
    ∙ sym (take_more other place)

pub take_whole : {A : Type 0} (xs : List A) (n : ℕ) → length xs ≤ n → take n xs ≡ xs
take_whole [] zero long = refl
take_whole [] (suc n) long = refl
take_whole (x ∷ xs) zero long = absurd (omega arith)
take_whole (x ∷ xs) (suc n) long = ap (λ ys. x ∷ ys) (take_whole xs n (omega arith))

-- lists that are the same before the end of both are equal
pub same_all : {A : Type 0} (one other : List A) (end : ℕ) → length one ≤ end → length other ≤ end
    → take end one ≡ take end other → one ≡ other
same_all one other end one_ends other_ends same =
    sym (take_whole one end one_ends) ∙ same ∙ take_whole other end other_ends

-- whether two lists have the same at a place where both have an item
pub same_found : {A : Type 0} (one other : List A) (place : ℕ) (x y : A) (test : Bool)
    → Some x ≡ slice_get one place → Some y ≡ slice_get other place → IsTrue test ↔ (x ≡ y)
    → IsTrue test ↔ (slice_get one place ≡ slice_get other place)
same_found one other place x y test is there same =
    (λ t. sym is ∙ ap (λ v. Some v) (same.0 t) ∙ there, λ e. same.1 (let equal : x ≡ y = cc in equal))
