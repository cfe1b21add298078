-- Lists from whose items something is erased: whoever does not ask for it finds the same.
use Rattle.std.proofs.Common.{◌≡◌, ℕ, ◌+◌, Bool, true, false, cond, List, [], ◌∷◌, ◌++◌, map, fold}
use Rattle.std.proofs.Common.{sum_by, count_by, Option, Some, None, option_map, is_some, find, refl}
use Rattle.std.proofs.Common.{ap, ◌∙◌, sym, if◌then◌else◌}
use Rattle.std.specs.List.{list_any}
use Rattle.std.specs.Option.{option_or}
use Rattle.std.proofs.lemmas.List.{length-map, map-append}
use Rattle.std.proofs.lemmas.List.Folds.{fold-map}
use Rattle.market_terms.specs.declared.closes.Close.{Close}
use Rattle.market_terms.specs.declared.closes.Close.TheVariants as closes
use Rattle.market_terms.specs.Unpriced.{uncovered}

-- what is asked of two things that are one without what is erased
pub by_erased : {X Y Z : Type 0} (e : X → Y) (f : X → Z) (g : Y → Z) → ((x : X) → g (e x) ≡ f x)
    → (x y : X) → e x ≡ e y → f x ≡ f y
by_erased e f g law x y same = sym (law x) ∙ ap g same ∙ law y

-- what is erased once is erased
pub twice : (close : Close) → uncovered close ≡ uncovered (uncovered close)
twice closes.Cover = refl
twice other = refl

-- Options.

pub map_cond : {X Y : Type 0} (e : X → Y) (b : Bool) (x : X) (rest : Option X)
    → cond b (Some (e x)) (option_map e rest) ≡ option_map e (cond b (Some x) rest)
map_cond e true x rest = refl
map_cond e false x rest = refl

pub or_map : {X Y : Type 0} (e : X → Y) (one other : Option X)
    → option_or (option_map e one) (option_map e other) ≡ option_map e (option_or one other)
or_map e None other = refl
or_map e (Some x) other = refl

pub some_map : {X Y : Type 0} (e : X → Y) (o : Option X) → is_some (option_map e o) ≡ is_some o
some_map e None = refl
some_map e (Some x) = refl

pub map_twice : {X Y Z : Type 0} (e : X → Y) (f : Y → Z) (o : Option X)
    → option_map f (option_map e o) ≡ option_map (λ x. f (e x)) o
map_twice e f None = refl
map_twice e f (Some x) = refl

-- Lists.

pub if_map : {X Y : Type 0} (e : X → Y) (b : Bool) (x : X) (rest : List X)
    → (if b then e x ∷ map e rest else map e rest) ≡ map e (if b then x ∷ rest else rest)
if_map e true x rest = refl
if_map e false x rest = refl

pub find_map : {X Y : Type 0} (e : X → Y) (q : Y → Bool) (xs : List X)
    → find q (map e xs) ≡ option_map e (find (λ x. q (e x)) xs)
find_map e q [] = refl
find_map e q (x ∷ xs) = rw (find_map e q xs) (map_cond e (q (e x)) x (find (λ x. q (e x)) xs))

pub any_map : {X Y : Type 0} (e : X → Y) (q : Y → Bool) (xs : List X)
    → list_any q (map e xs) ≡ list_any (λ x. q (e x)) xs
any_map e q [] = refl
any_map e q (x ∷ xs) = rw (any_map e q xs)

pub sum_map : {X Y : Type 0} (e : X → Y) (g : Y → ℕ) (xs : List X)
    → sum_by g (map e xs) ≡ sum_by (λ x. g (e x)) xs
sum_map e g xs = fold-map (λ (a : ℕ) (y : _). a + g y) e 0 xs

pub count_map : {X Y : Type 0} (e : X → Y) (q : Y → Bool) (xs : List X)
    → count_by q (map e xs) ≡ count_by (λ x. q (e x)) xs
count_map e q xs = sum_map e (λ y. cond (q y) 1 0) xs

-- what is asked of a list of which something is erased is asked of the list
pub ruleset erased = (find_map, any_map, sum_map, count_map, length-map, some_map, map_twice)

pub append_along : {X Y : Type 0} (e : X → Y) (xs ys xs' ys' : List X) → map e xs ≡ map e xs'
    → map e ys ≡ map e ys' → map e (xs ++ ys) ≡ map e (xs' ++ ys')
append_along e xs ys xs' ys' first second =
    rw (map-append e xs ys, map-append e xs' ys', first, second)
