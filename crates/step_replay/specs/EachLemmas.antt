-- What holds at each place of a list, by what stands before it and behind it.
use Rattle.std.proofs.Common.{◌≡◌, List, [], ◌∷◌, ◌++◌, sym, subst}
use Rattle.std.proofs.lemmas.List.{append-nil, append_assoc}
use Rattle.step_replay.specs.Lists.{Every}

pub every_both : {A : Type 0} (P : A → Type 0) (xs ys : List A) → Every P xs → Every P ys
    → Every P (xs ++ ys)
every_both P [] ys one other = other
every_both P (x ∷ xs) ys one other = (one.0, every_both P xs ys one.1 other)

pub every_weaker : {A : Type 0} (P Q : A → Type 0) → ((x : A) → P x → Q x) → (xs : List A)
    → Every P xs → Every Q xs
every_weaker P Q weaker [] every = tt
every_weaker P Q weaker (x ∷ xs) every = (weaker x every.0, every_weaker P Q weaker xs every.1)

module _ {E : Type 0} (P : List E → E → List E → Type 0) where
  -- it holds at each place of a list that has these items before it
  abbrev pub Each : List E → List E → Type 0
  Each before [] = Unit {0}
  Each before (x ∷ xs) = P before x xs × Each (before ++ x ∷ []) xs

  -- it goes on to hold at a place, whatever comes behind it later
  abbrev pub Stays : Type 0
  Stays = (before : List E) (x : E) (after more : List E) → P before x after
      → P before x (after ++ more)

  pub each_at : (before front : List E) (x : E) (rest : List E)
      → Each before (front ++ x ∷ rest) → P (before ++ front) x rest
  each_at before [] x rest each = subst (λ l. P l x rest) (sym (append-nil before)) each.0
  each_at before (y ∷ front) x rest each =
      subst (λ l. P l x rest) (append_assoc before (y ∷ []) front)
      (each_at (before ++ y ∷ []) front x rest each.1)

  pub each_append : Stays → (before xs ys : List E) → Each before xs → Each (before ++ xs) ys
      → Each before (xs ++ ys)
  each_append stays before [] ys each more =
      subst (λ l. Each l ys) (append-nil before) more
  each_append stays before (x ∷ xs) ys each more = (
    stays before x xs ys each.0,
    each_append stays (before ++ x ∷ []) xs ys each.1
        (subst (λ l. Each l ys) (sym (append_assoc before (x ∷ []) xs)) more),
  )

  -- at the place of an item of the whole list
  pub each_of : (xs front : List E) (x : E) (rest : List E) → Each [] xs
      → xs ≡ front ++ x ∷ rest → P front x rest
  each_of xs front x rest each is = each_at [] front x rest (subst (Each []) is each)

-- what is weaker holds at each place too
pub each_weaker : {E : Type 0} (P Q : List E → E → List E → Type 0)
    → ((before : List E) (x : E) (after : List E) → P before x after → Q before x after)
    → (before xs : List E) → Each P before xs → Each Q before xs
each_weaker P Q weaker before [] each = tt
each_weaker P Q weaker before (x ∷ xs) each =
    (weaker before x xs each.0, each_weaker P Q weaker (before ++ x ∷ []) xs each.1)
