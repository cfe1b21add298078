-- A stream, front by front.
use Rattle.std.proofs.Common.{◌≡◌, ◌≤◌, ◌<◌, ◌+◌, ◌-◌, ℕ, zero, suc, List, [], ◌∷◌, length, drop}
use Rattle.std.proofs.Common.{refl, sym, subst, ◌∙◌, ap, arith, length-drop}
use Rattle.std.proofs.lemmas.List.{drop-drop}
use Rattle.fix_sessions.specs.Cuts.{IsThere, found_at, front_of, found_by, found_within, next_message, passed_over, behind}
use Rattle.fix_sessions.specs.declared.cuts.Found.{Found}
use Rattle.fix_sessions.specs.declared.cuts.What.{What}
use Rattle.fix_sessions.specs.declared.cuts.What.TheVariants as what
use Rattle.fix_sessions.specs.declared.cuts.Front.{Front}
use Rattle.fix_sessions.specs.declared.cuts.Front.TheVariants as front

-- there are no more steps than bytes
enough : (a b : ℕ) (bytes : List ℕ) → length bytes ≤ a → length bytes ≤ b → found_within a bytes ≡ found_within b bytes
enough zero zero bytes in_a in_b = refl
enough zero (suc b) [] in_a in_b = refl
enough zero (suc b) (x ∷ xs) in_a in_b = absurd (omega (arith, in_a))
enough (suc a) zero [] in_a in_b = refl
enough (suc a) zero (x ∷ xs) in_a in_b = absurd (omega (arith, in_b))
enough (suc a) (suc b) [] in_a in_b = refl
enough (suc a) (suc b) (x ∷ xs) in_a in_b =
    let n = passed_over (front_of (x ∷ xs)) - 1 in
    let shorter = length-drop n xs in
    ap (λ found. found_by (front_of (x ∷ xs)) found)
    (enough a b (drop n xs) (omega (arith, in_a, shorter)) (omega (arith, in_b, shorter)))

-- the first front, and what is found behind it
step : (x : ℕ) (xs : List ℕ)
    → next_message (x ∷ xs) ≡ found_by (front_of (x ∷ xs)) (next_message (drop (passed_over (front_of (x ∷ xs)) - 1) xs))
unfolding next_message
step x xs =
    let n = passed_over (front_of (x ∷ xs)) - 1 in
    let shorter = length-drop n xs in
    ap (λ found. found_by (front_of (x ∷ xs)) found)
    (enough (length xs) (length (drop n xs)) (drop n xs) (omega (arith, shorter)) (omega arith))

one_less : (n x : ℕ) (xs : List ℕ) → 1 ≤ n → drop (n - 1) xs ≡ drop n (x ∷ xs)
one_less n x xs some =
    let whole : 1 + (n - 1) ≡ n = omega (arith, some) in
    drop-drop (n - 1) 1 (x ∷ xs) ∙ ap (λ k. drop k (x ∷ xs)) whole

abbrev front_passes : Front → ℕ → List ℕ → Found
front_passes f x xs = found_by f (next_message (drop (passed_over f - 1) xs))

-- what is found, by what stands at the front
pub next_garbled : (rest : List ℕ) → 0 < length rest → front_of rest ≡ front.Garbled
    → next_message rest ≡ behind 1 (next_message (drop 1 rest))
next_garbled [] some is = absurd (omega (arith, some))
next_garbled (x ∷ xs) some is = step x xs ∙ ap (λ f. front_passes f x xs) is

pub next_wrong : (rest : List ℕ) (len : ℕ) → 0 < length rest → 1 ≤ len → front_of rest ≡ front.Wrong len
    → next_message rest ≡ behind len (next_message (drop len rest))
next_wrong [] len some more is = absurd (omega (arith, some))
next_wrong (x ∷ xs) len some more is =
    step x xs ∙ ap (λ f. front_passes f x xs) is
    ∙ ap (λ ys. behind len (next_message ys)) (one_less len x xs more)

pub next_begun : (rest : List ℕ) → 0 < length rest → front_of rest ≡ front.Begun
    → next_message rest ≡ found_at 0 what.Nothing
next_begun [] some is = absurd (omega (arith, some))
next_begun (x ∷ xs) some is = step x xs ∙ ap (λ f. front_passes f x xs) is

pub next_whole : (rest : List ℕ) (len : ℕ) → 0 < length rest → front_of rest ≡ front.Whole len
    → next_message rest ≡ found_at 0 (what.Message len)
next_whole [] len some is = absurd (omega (arith, some))
next_whole (x ∷ xs) len some is = step x xs ∙ ap (λ f. front_passes f x xs) is

pub next_long : (rest : List ℕ) → 0 < length rest → front_of rest ≡ front.TooLong
    → next_message rest ≡ found_at 0 what.TooLong
next_long [] some is = absurd (omega (arith, some))
next_long (x ∷ xs) some is = step x xs ∙ ap (λ f. front_passes f x xs) is

behind_twice : (a b : ℕ) (f : Found) → behind a (behind b f) ≡ behind (a + b) f
behind_twice a b f = ap (λ k. record f { skip = k }) (omega arith)

-- behind some bytes, and more
pub goes_on : (bytes : List ℕ) (skip n : ℕ) → next_message bytes ≡ behind skip (next_message (drop skip bytes))
    → next_message (drop skip bytes) ≡ behind n (next_message (drop n (drop skip bytes)))
    → next_message bytes ≡ behind (skip + n) (next_message (drop (skip + n) bytes))
goes_on bytes skip n is next =
    is ∙ ap (behind skip) next ∙ ap (λ ys. behind skip (behind n (next_message ys))) (drop-drop n skip bytes)
    ∙ behind_twice skip n (next_message (drop (skip + n) bytes))

-- and the end
pub ends : (bytes : List ℕ) (skip : ℕ) (w : What) → next_message bytes ≡ behind skip (next_message (drop skip bytes))
    → next_message (drop skip bytes) ≡ found_at 0 w → found_at skip w ≡ next_message bytes
ends bytes skip w is found =
    let whole : skip + 0 ≡ skip = omega arith in
    sym (is ∙ ap (behind skip) found ∙ ap (λ k. found_at k w) whole)

pub next_nothing : (rest : List ℕ) → length rest ≤ 0 → next_message rest ≡ found_at 0 what.Nothing
unfolding next_message
next_nothing [] none = refl
next_nothing (x ∷ xs) none = absurd (omega (arith, none))

pub some_left : (bytes : List ℕ) (skip : ℕ) → skip < length bytes → 0 < length (drop skip bytes)
some_left bytes skip more = omega (arith, more, length-drop skip bytes)

-- what stands at the front behind some bytes, as it was found
pub front_at : (bytes rest : List ℕ) (skip : ℕ) (found f : Front) → rest ≡ drop skip bytes → found ≡ front_of rest → found ≡ f → front_of (drop skip bytes) ≡ f
front_at bytes rest skip found f d is e = sym (is ∙ ap front_of d) ∙ e

pub there_at : (bytes rest : List ℕ) (skip : ℕ) (found : Front) (len : ℕ) → rest ≡ drop skip bytes → found ≡ front.Wrong len → IsThere rest found
    → (1 ≤ len) × (len ≤ length (drop skip bytes))
there_at bytes rest skip found len d e there =
    let wrong : IsThere rest (front.Wrong len) = subst (λ f. IsThere rest f) e there in
    (wrong.0, subst (λ b. len ≤ length b) d wrong.1)
