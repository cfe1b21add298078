-- Lists of items of which some say something: what a test leaves of them, and what it finds.
use Rattle.std.proofs.Common.{◌≡◌, Bool, true, false, List, [], ◌∷◌, drop, filter, filter_map, find}
use Rattle.std.proofs.Common.{Option, Some, None, is_some, refl, sym, ap, ◌∙◌, subst, inl, inr, ◌⊎◌}
use Rattle.std.specs.List.{cons_option}
use Rattle.std.proofs.lemmas.Bool.{cases_Bool, false≢true}
use Rattle.step_replay.specs.Lists.{In}
use Rattle.laws_days.proofs.ListLemmas.{cases_some}

abbrev head_or : {A : Type 0} → A → List A → A
head_or x [] = x
head_or x (y ∷ ys) = y

module _ {A B : Type 0} (says : A → Option B) where
  -- where a test leaves all that say something
  pub left_says : (test : A → Bool) (xs : List A)
      → ((x : A) → In x xs → (says x ≡ None) ⊎ (test x ≡ true))
      → filter_map says (filter test xs) ≡ filter_map says xs
  left_says test [] each = refl
  left_says test (x ∷ xs) each =
      let rest : filter_map says (filter test xs) ≡ filter_map says xs =
      left_says test xs (λ y there. each y (inr there)) in
      elim (cases_Bool (test x)) [
        | inl passes ↦ rw passes (ap (λ (l : List B). cons_option (says x) l) rest)
        | inr fails ↦ elim (each x (inl refl)) [
          | inl none ↦ rw (fails, none) rest
          | inr passes ↦ absurd (false≢true (sym fails ∙ passes))
        ]
      ]

  -- where it leaves none of them
  pub none_says : (test : A → Bool) (xs : List A)
      → ((x : A) → In x xs → (says x ≡ None) ⊎ (test x ≡ false))
      → filter_map says (filter test xs) ≡ []
  none_says test [] each = refl
  none_says test (x ∷ xs) each =
      let rest : filter_map says (filter test xs) ≡ [] =
      none_says test xs (λ y there. each y (inr there)) in
      elim (cases_Bool (test x)) [
        | inr fails ↦ rw fails rest
        | inl passes ↦ elim (each x (inl refl)) [
          | inl none ↦ rw (passes, none) rest
          | inr fails ↦ absurd (false≢true (sym fails ∙ passes))
        ]
      ]

  none_in : (xs : List A) → filter_map says xs ≡ [] → (x : A) → In x xs → says x ≡ None
  none_in [] is x there = absurd there
  none_in (y ∷ xs) is x there = elim (cases_some (says y)) [
    | inr some ↦ cc (rw (some.1) at is)
    | inl none ↦ elim there [
      | inl here ↦ subst (λ (a : A). says a ≡ None) here none
      | inr behind ↦ none_in xs (rw none at is) x behind
    ]
  ]

  -- What is found by a test that just those pass that say something.

  pub found_none : (test : A → Bool) (xs : List A)
      → ((x : A) → In x xs → test x ≡ is_some (says x)) → filter_map says xs ≡ []
      → find test xs ≡ None
  found_none test [] each is = refl
  found_none test (x ∷ xs) each is = elim (cases_some (says x)) [
    | inr some ↦ cc (rw (some.1) at is)
    | inl none ↦ rw (each x (inl refl), none)
        (found_none test xs (λ y there. each y (inr there)) (rw none at is))
  ]

  -- the one that it finds, where one alone says something
  pub record FoundOne (test : A → Bool) (xs : List A) (y : B) : Type 0 where
    pub one : A
    pub found : find test xs ≡ Some one
    pub there : In one xs
    pub says_it : says one ≡ Some y
    pub alone : (x : A) → In x xs → (says x ≡ None) ⊎ (x ≡ one)

  pub found_one : (test : A → Bool) (xs : List A) (y : B)
      → ((x : A) → In x xs → test x ≡ is_some (says x)) → filter_map says xs ≡ y ∷ []
      → FoundOne test xs y
  found_one test [] y each is = cc
  found_one test (x ∷ xs) y each is = elim (cases_some (says x)) [
    | inl none ↦
        (let later = found_one test xs y (λ z there. each z (inr there)) (rw none at is) in
        record {
          one = later.one;
          found = rw (each x (inl refl), none) later.found;
          there = inr later.there;
          says_it = later.says_it;
          alone = λ z there. elim there [
            | inl here ↦ inl (subst (λ (a : A). says a ≡ None) here none)
            | inr behind ↦ later.alone z behind
          ];
        })
    | inr some ↦
        (let both : some.0 ∷ filter_map says xs ≡ y ∷ [] = rw (some.1) at is in
        record {
          one = x;
          found = rw (each x (inl refl), some.1) refl;
          there = inl refl;
          says_it = some.1 ∙ ap (λ (l : List B). Some (head_or y l)) both;
          alone = λ z there. elim there [
            | inl here ↦ inr (sym here)
            | inr behind ↦ inl (none_in xs (ap (λ (l : List B). drop 1 l) both) z behind)
          ];
        })
  ]
