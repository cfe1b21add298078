-- Sums modulo 256 of bytes that are added lane by lane.
use Rattle.std.proofs.Common.{◌≡◌, ℕ, ◌+◌, ◌-◌, ◌<◌, ◌≤◌, ◌%◌, List, [], ◌∷◌, ◌++◌, length, sum}
use Rattle.std.proofs.Common.{take, drop, replicate, sym, ap, ◌∙◌, refl, arith}
use Rattle.std.proofs.lemmas.List.{take-append-drop, take-take, drop-take, take_rest}
use Rattle.std.proofs.lemmas.List.Sums.{sum_by-cons, sum_by-append}
use Rattle.std.proofs.lemmas.Simd.{length-zip2, length-chunk}
use Rattle.std.specs.Simd.Lanes.{zip2, fold_l, chunk}

one : (x : ℕ) (xs : List ℕ) → sum (x ∷ xs) ≡ x + sum xs
one x xs = sum_by-cons (λ n. n) x xs

-- what stands in front of a place, and what stands behind it
pub sum_of_parts : (bytes : List ℕ) (i : ℕ)
    → sum bytes ≡ sum (take i bytes) + sum (take (length bytes - i) (drop i bytes))
sum_of_parts bytes i =
    sym (ap sum (take-append-drop i bytes))
    ∙ sum_by-append (λ n. n) (take i bytes) (drop i bytes)
    ∙ ap (λ t. sum (take i bytes) + sum t) (sym (take_rest bytes i))

-- two vectors
added : (xs ys : List ℕ) → length xs ≡ length ys
    → sum (zip2 (λ a b. (a + b) % 256) xs ys) % 256 ≡ (sum xs + sum ys) % 256
added [] [] same = refl
added [] (y ∷ ys) same = absurd (omega (arith, same))
added (x ∷ xs) [] same = absurd (omega (arith, same))
added (x ∷ xs) (y ∷ ys) same =
    let rest = added xs ys (omega (arith, same)) in
    let lanes = zip2 (λ a b. (a + b) % 256) xs ys in
    omega (arith, rest, one ((x + y) % 256) lanes, one x xs, one y ys)

-- the lanes of one
folded : (a : ℕ) (xs : List ℕ) → a < 256 → fold_l (λ s x. (s + x) % 256) a xs ≡ (a + sum xs) % 256
folded a [] small = let none : sum [] ≡ 0 = refl in omega (arith, small, none)
folded a (x ∷ xs) small =
    let rest = folded ((a + x) % 256) xs (omega arith) in omega (arith, rest, one x xs)

-- and of bytes, 16 at a time
pub split_at : (xs : List ℕ) (i : ℕ) → take (i + 16) xs ≡ take i xs ++ take 16 (drop i xs)
split_at xs i =
    sym (take-append-drop i (take (i + 16) xs))
    ∙ ap (λ t. t ++ drop i (take (i + 16) xs)) (take-take i (i + 16) xs (omega arith))
    ∙ ap (λ t. take i xs ++ t) (drop-take i 16 xs)

pub length-added : (lanes bytes : List ℕ) (i : ℕ) → length lanes ≡ 16 → i + 16 ≤ length bytes
    → length (zip2 (λ a b. (a + b) % 256) lanes (chunk i 16 bytes)) ≡ 16
length-added lanes bytes i long fit =
    length-zip2 (λ a b. (a + b) % 256) lanes (chunk i 16 bytes) (long ∙ sym (length-chunk i 16 bytes fit)) ∙ long

pub lanes_more : (lanes bytes : List ℕ) (i : ℕ) → length lanes ≡ 16 → i + 16 ≤ length bytes
    → sum lanes % 256 ≡ sum (take i bytes) % 256
    → sum (zip2 (λ a b. (a + b) % 256) lanes (chunk i 16 bytes)) % 256 ≡ sum (take (i + 16) bytes) % 256
lanes_more lanes bytes i long fit same =
    let block = chunk i 16 bytes in
    let all = added lanes block (long ∙ sym (length-chunk i 16 bytes fit)) in
    let parts : sum (take (i + 16) bytes) ≡ sum (take i bytes) + sum block =
    ap sum (split_at bytes i) ∙ sum_by-append (λ n. n) (take i bytes) block in
    omega (arith, all, same, parts)

pub lanes_begin : (bytes : List ℕ) → sum (replicate 16 0) % 256 ≡ sum (take 0 bytes) % 256
lanes_begin [] = refl
lanes_begin (b ∷ bytes) = refl

pub lanes_folded : (lanes bytes : List ℕ) → sum lanes % 256 ≡ sum bytes % 256
    → fold_l (λ s x. (s + x) % 256) 0 lanes ≡ sum bytes % 256
lanes_folded lanes bytes same =
    let all = folded 0 lanes (omega arith) in omega (arith, all, same)
