-- Words as clap reads them, and lists of kinds of errors.
use Rattle.std.proofs.Common.{◌≡◌, ◌∙◌, ◌⊎◌, ◌||◌, ◌&&◌, ◌==◌, ◌<◌, arith, refl, sym, ap, subst}
use Rattle.std.proofs.Common.{inl, inr, ℕ, Bool, true, false, [], ◌∷◌, length, Option, Some, None}
use Rattle.std.proofs.Common.{cond, not, codes}
use Rattle.std.proofs.lemmas.Bool.{eqb-true, false≢true, false_from_ne_true, or_parts}
use Rattle.std.proofs.lemmas.List.Sums.{take_while-cons}
use Rattle.std.proofs.lemmas.Slice.Eq.{bytes_eq-Decides}
use Rattle.std.specs.List.{before_first}
use Rattle.std.specs.Prelude.{if◌then◌else◌, is_some, option_and_then, slice_get}
use Rattle.std.specs.Str.{bytes_eq, chars}
use Rattle.clap.specs.declared.error.kind.ErrorKind.{ErrorKind}
use Rattle.clap.specs.Kinds.{Kinds, or_else}
use Rattle.clap.specs.Lexer.{has_byte, long_of, long_of_rest, name_and_value, short_of}
use Rattle.clap.specs.Lexer.{short_of_rest, strip_byte}
use Rattle.clap.specs.Walk.{Text}
use Rattle.command_arguments.specs.ArgumentWords.{is_dashes, is_flag, spelled}

-- ---- lists of kinds, and tests

pub never : (k : ErrorKind) (ks : Kinds) → ◌≡◌ {A = Kinds} (k ∷ ks) [] → ⊥
never k ks e = cc

pub neither : (a b : Kinds) → or_else a b ≡ [] → (a ≡ []) × (b ≡ [])
neither [] b e = (refl, e)
neither (k ∷ ks) b e = absurd (never k ks e)

pub or_nothing : (a : Kinds) → or_else a [] ≡ a
or_nothing [] = refl
or_nothing (k ∷ ks) = refl

-- ---- the name of a long flag

-- what stands before the first `=`
before_cons : (x : ℕ) (xs : Text) → before_first (λ y. y == 61) (x ∷ xs) ≡ cond (not (x == 61)) (x ∷ before_first (λ y. y == 61) xs) []
before_cons x xs = take_while-cons (λ y. not (y == 61)) x xs

abbrev NameIs : Text → Text → Text → Bool → Type 0
NameIs n text name valued = bytes_eq n text ≡ (bytes_eq n name && not valued)

no_name : (x : ℕ) (xs : Text) (b v : Bool) → (x == 61) ≡ b → NameIs [] (x ∷ xs) (cond (not b) (x ∷ before_first (λ y. y == 61) xs) []) (b || v)
no_name x xs true v is = refl
no_name x xs false v is = refl

and_assoc : (a b c : Bool) → (a && (b && c)) ≡ ((a && b) && c)
and_assoc true b c = refl
and_assoc false b c = refl

-- a name has no `=`, so it is another text than one that begins with it
other_head : (m x : ℕ) (ms xs : Text) → (m == 61) ≡ false → (x == 61) ≡ true → bytes_eq (m ∷ ms) (x ∷ xs) ≡ false
other_head m x ms xs plain is = false_from_ne_true _ (λ same.
    let heads : m ≡ x = let lists = (bytes_eq-Decides (m ∷ ms) (x ∷ xs)).0 same in cc in
    false≢true (sym plain ∙ ap (λ y. y == 61) heads ∙ is))

by_head : (m x : ℕ) (ms xs : Text) (b : Bool) → (m == 61) ≡ false → NameIs ms xs (before_first (λ y. y == 61) xs) (has_byte 61 xs) → (x == 61) ≡ b
    → NameIs (m ∷ ms) (x ∷ xs) (cond (not (x == 61)) (x ∷ before_first (λ y. y == 61) xs) []) ((x == 61) || has_byte 61 xs)
by_head m x ms xs true plain tails is =
    subst (λ b. NameIs (m ∷ ms) (x ∷ xs) (cond (not b) (x ∷ before_first (λ y. y == 61) xs) []) (b || has_byte 61 xs)) (sym is)
    (other_head m x ms xs plain is)
by_head m x ms xs false plain tails is =
    subst (λ b. NameIs (m ∷ ms) (x ∷ xs) (cond (not b) (x ∷ before_first (λ y. y == 61) xs) []) (b || has_byte 61 xs)) (sym is)
    (ap (λ b. (m == x) && b) tails ∙ and_assoc (m == x) _ _)

-- a name, without `=`, is a text where it is what stands before the first `=` and there is none
pub name_is : (n text : Text) → has_byte 61 n ≡ false → NameIs n text (before_first (λ y. y == 61) text) (has_byte 61 text)
name_is [] [] plain = refl
name_is (m ∷ ms) [] plain = refl
name_is [] (x ∷ xs) plain =
    no_name x xs (x == 61) (has_byte 61 xs) refl ∙ ap (λ (t : Text). bytes_eq [] t && not ((x == 61) || has_byte 61 xs)) (sym (before_cons x xs))
name_is (m ∷ ms) (x ∷ xs) plain =
    let parts = or_parts (m == 61) (has_byte 61 ms) plain in
    by_head m x ms xs (x == 61) parts.0 (name_is ms xs parts.1) refl
    ∙ ap (λ (t : Text). bytes_eq (m ∷ ms) t && not ((x == 61) || has_byte 61 xs)) (sym (before_cons x xs))

-- ---- the form of a word

abbrev pub IsLong : Text → Text × Option Text → Type 0
IsLong argument p = (long_of argument ≡ Some p) × (is_dashes argument ≡ false) × (is_flag argument ≡ true)
    × ((n : Text) → has_byte 61 n ≡ false → bytes_eq (spelled n) argument ≡ (bytes_eq n p.0 && not (is_some p.1)))

abbrev pub IsShort : Text → Text → Type 0
IsShort argument flags = (0 < length flags) × (long_of argument ≡ None) × (short_of argument ≡ Some flags) × (is_dashes argument ≡ false)
    × (is_flag argument ≡ is_some (slice_get (chars flags) 0)) × ((n : Text) → bytes_eq (spelled n) argument ≡ false)

abbrev pub IsPlain : Text → Type 0
IsPlain argument = (long_of argument ≡ None) × (short_of argument ≡ None) × (is_dashes argument ≡ false) × (is_flag argument ≡ false)

-- `--`, a long flag, a bundle of short ones, or none of these
abbrev pub HasForm : Text → Type 0
HasForm argument = (argument ≡ codes "--")
    ⊎ (((p : Text × Option Text) × IsLong argument p)
    ⊎ (((flags : Text) × IsShort argument flags)
    ⊎ IsPlain argument))

not_same : (a b : Text) → (a ≡ b → ⊥) → bytes_eq a b ≡ false
not_same a b other = false_from_ne_true (bytes_eq a b) (λ is. other ((bytes_eq-Decides a b).0 is))

abbrev first_is : Text → Bool
first_is [] = false
first_is (y ∷ ys) = y == 45

abbrev second_is : Text → Bool
second_is [] = false
second_is (y ∷ ys) = first_is ys

no_hyphen : (x : ℕ) (rest : Text) → (x == 45) ≡ false → IsPlain (x ∷ rest)
no_hyphen x rest e = (
  ap (λ b. option_and_then long_of_rest (option_and_then (strip_byte 45) (if b then Some rest else None))) e,
  ap (λ b. option_and_then short_of_rest (if b then Some rest else None)) e,
  not_same (x ∷ rest) (codes "--") (λ same. false≢true (sym e ∙ ap first_is same)),
  ap (λ b. b && is_some (slice_get (chars rest) 0)) e,
)

-- what follows one hyphen, by whether another one does
abbrev short_by : Bool → Text → Option Text
short_by b text = if b then None else Some text

one_hyphen : (y : ℕ) (ys : Text) → (y == 45) ≡ false → IsShort (45 ∷ y ∷ ys) (y ∷ ys)
one_hyphen y ys e = (
  omega arith,
  ap (λ b. option_and_then long_of_rest (if b then Some ys else None)) e,
  ap (λ (b : Bool). short_by b (y ∷ ys)) e,
  not_same (45 ∷ y ∷ ys) (codes "--") (λ same. false≢true (sym e ∙ ap second_is same)),
  refl,
  λ n. not_same (spelled n) (45 ∷ y ∷ ys) (λ same. false≢true (sym e ∙ ap second_is (sym same))),
)

-- a flag has a value where its text has a `=`
valued : (b : Bool) (value : Text) → not (is_some (if b then Some value else None)) ≡ not b
valued true value = refl
valued false value = refl

two_hyphens : (z : ℕ) (zs : Text) → IsLong (45 ∷ 45 ∷ z ∷ zs) (name_and_value (z ∷ zs))
unfolding chars
two_hyphens z zs = (
  refl,
  refl,
  refl,
  λ n plain. name_is n (z ∷ zs) plain
      ∙ ap (λ b. bytes_eq n (before_first (λ y. y == 61) (z ∷ zs)) && b) (sym (valued (has_byte 61 (z ∷ zs)) _)),
)

behind_hyphens : (zs : Text) → HasForm (45 ∷ 45 ∷ zs)
behind_hyphens [] = inl refl
behind_hyphens (z ∷ zs) = inr (inl (name_and_value (z ∷ zs), two_hyphens z zs))

behind_hyphen : (rest : Text) → HasForm (45 ∷ rest)
unfolding chars
behind_hyphen [] = inr (inr (inr (refl, refl, refl, refl)))
behind_hyphen (y ∷ ys) = go (y == 45) refl
  where
    go : (b : Bool) → (y == 45) ≡ b → HasForm (45 ∷ y ∷ ys)
    go true is = subst (λ (x : ℕ). HasForm (45 ∷ x ∷ ys)) (sym (eqb-true y 45 is)) (behind_hyphens ys)
    go false is = inr (inr (inl (y ∷ ys, one_hyphen y ys is)))

pub word_form : (argument : Text) → HasForm argument
word_form [] = inr (inr (inr (refl, refl, refl, refl)))
word_form (x ∷ rest) = go (x == 45) refl
  where
    go : (b : Bool) → (x == 45) ≡ b → HasForm (x ∷ rest)
    go true is = subst (λ (y : ℕ). HasForm (y ∷ rest)) (sym (eqb-true x 45 is)) (behind_hyphen rest)
    go false is = inr (inr (inr (no_hyphen x rest is)))
