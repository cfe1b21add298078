-- Lists whose items are changed: who does not ask for the change finds the same.
use Rattle.std.proofs.Common.{◌≡◌, ℕ, ◌+◌, Bool, true, false, cond, List, [], ◌∷◌, map, fold}
use Rattle.std.proofs.Common.{count_by, Option, Some, None, option_map, is_some, find, refl, ap}
use Rattle.std.proofs.Common.{subst, ◌∙◌}
use Rattle.std.specs.List.{list_any}
use Rattle.std.proofs.lemmas.Option.{same_Some}
use Rattle.step_replay.specs.Lists.{Every}

pub map_cond : {X Y : Type 0} (e : X → Y) (b : Bool) (x : X) (rest : Option X)
    → cond b (Some (e x)) (option_map e rest) ≡ option_map e (cond b (Some x) rest)
map_cond e true x rest = refl
map_cond e false x rest = refl

pub some_map : {X Y : Type 0} (e : X → Y) (o : Option X) → is_some (option_map e o) ≡ is_some o
some_map e None = refl
some_map e (Some x) = refl

pub find_changed : {X Y : Type 0} (e : X → Y) (p : X → Bool) (q : Y → Bool)
    → ((x : X) → q (e x) ≡ p x) → (xs : List X) → find q (map e xs) ≡ option_map e (find p xs)
find_changed e p q same [] = refl
find_changed e p q same (x ∷ xs) =
    rw (same x, find_changed e p q same xs) (map_cond e (p x) x (find p xs))

pub any_changed : {X Y : Type 0} (e : X → Y) (p : X → Bool) (q : Y → Bool)
    → ((x : X) → q (e x) ≡ p x) → (xs : List X) → list_any q (map e xs) ≡ list_any p xs
any_changed e p q same [] = refl
any_changed e p q same (x ∷ xs) = rw (same x, any_changed e p q same xs) refl

fold_changed : {X Y : Type 0} (e : X → Y) (f : X → ℕ) (g : Y → ℕ) → ((x : X) → g (e x) ≡ f x)
    → (a : ℕ) (xs : List X)
    → fold (λ (a : ℕ) (y : Y). a + g y) a (map e xs) ≡ fold (λ (a : ℕ) (x : X). a + f x) a xs
fold_changed e f g same a [] = refl
fold_changed e f g same a (x ∷ xs) =
    ap (λ (n : ℕ). fold (λ (a : ℕ) (y : _). a + g y) (a + n) (map e xs)) (same x)
    ∙ fold_changed e f g same (a + f x) xs

pub count_changed : {X Y : Type 0} (e : X → Y) (p : X → Bool) (q : Y → Bool)
    → ((x : X) → q (e x) ≡ p x) → (xs : List X) → count_by q (map e xs) ≡ count_by p xs
count_changed e p q same xs =
    fold_changed e (λ x. cond (p x) 1 0) (λ y. cond (q y) 1 0)
    (λ x. ap (λ (b : Bool). cond b 1 0) (same x)) 0 xs

-- what is found has what each item has
pub found_has : {X : Type 0} (P : X → Type 0) (p : X → Bool) (xs : List X) → Every P xs → (x : X)
    → find p xs ≡ Some x → P x
found_has P p [] every x is = cc
found_has P p (y ∷ ys) every x is = by_test (p y) (found_has P p ys every.1 x) is
  where
    by_test : (b : Bool) → (find p ys ≡ Some x → P x) → cond b (Some y) (find p ys) ≡ Some x → P x
    by_test true later found = subst P (same_Some y x found) every.0
    by_test false later found = later found
