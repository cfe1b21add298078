-- Items of a kind, counted: where one alone is of the kind, and where none is but those that are owed.
use Rattle.std.proofs.Common.{◌≡◌, ◌≤◌, refl, ◌∙◌, sym, ap, ℕ, ◌+◌, Bool, true, false, ◌&&◌}
use Rattle.std.proofs.Common.{◌||◌, cond, List, [], ◌∷◌, ◌++◌, count_by, arith}
use Rattle.std.proofs.lemmas.List.Sums.{sum_by-cons}
use Rattle.std.specs.List.{list_any}
use Rattle.step_replay.specs.Lists.{Every}
use Rattle.day_checks.specs.DayPromises.{IsOnly}

-- the one item of a list that is of a kind, of which so much is said
pub record HasOnly {A : Type 0} (is : A → Bool) (Said : A → Type 0) (items : List A) : Type 0 where
  pub item : A
  pub said : Said item
  pub only : IsOnly is item items

-- no item is of two of these
abbrev pub AreApart : {X A : Type 0} → (X → A → Bool) → List X → Type 0
AreApart of [] = Unit {0}
AreApart {X} {A} of (x ∷ later) =
    Every (λ y. (item : A) → of x item ≡ true → of y item ≡ false) later × AreApart of later

-- how many are of a kind, the first one apart
counted : {A : Type 0} (is : A → Bool) (item : A) (later : List A)
    → count_by is (item ∷ later) ≡ cond (is item) 1 0 + count_by is later
counted is item later = sum_by-cons (λ x. cond (is x) 1 0) item later

module _ {A : Type 0} (is : A → Bool) where
  none_first : (x : A) (later : List A) → (count_by is later ≡ 0 → Every (λ y. is y ≡ false) later)
      → (b : Bool) → is x ≡ b → cond b 1 0 + count_by is later ≡ 0
      → Every (λ y. is y ≡ false) (x ∷ later)
  none_first x later so true this e = let no : ⊥ = omega (arith, e) in absurd no
  none_first x later so false this e = (this, so (omega (arith, e)))

  -- where none is counted, none is of the kind
  none_counted : (items : List A) → count_by is items ≡ 0 → Every (λ x. is x ≡ false) items
  none_counted [] e = tt
  none_counted (x ∷ later) e =
      none_first x later (none_counted later) (is x) refl (sym (counted is x later) ∙ e)

  count_of_none : (items : List A) → Every (λ x. is x ≡ false) items → count_by is items ≡ 0
  count_of_none [] e = refl
  count_of_none (x ∷ later) e =
      let rest : count_by is later ≡ 0 = count_of_none later e.1 in
      counted is x later ∙ ap (λ b. cond b 1 0 + count_by is later) e.0 ∙ omega (arith, rest)

  not_both : (x : A) (says : A → Bool) → ((x : A) → says x ≡ true → is x ≡ true) → is x ≡ false
      → says x ≡ true → ⊥
  not_both x says so this said = let no : false ≡ true = sym this ∙ so x said in cc

  unsaid_first : (x : A) (later : List A) (says : A → Bool)
      → ((x : A) → says x ≡ true → is x ≡ true)
      → (count_by is later ≡ 0 → list_any says later ≡ true → ⊥)
      → (b : Bool) → is x ≡ b → (s : Bool) → says x ≡ s → cond b 1 0 + count_by is later ≡ 0
      → (s || list_any says later) ≡ true → ⊥
  unsaid_first x later says so rest true this s said e any = omega (arith, e)
  unsaid_first x later says so rest false this true said e any = not_both x says so this said
  unsaid_first x later says so rest false this false said e any = rest (omega (arith, e)) any

  -- of none that is of the kind is anything said
  none_said : (says : A → Bool) → ((x : A) → says x ≡ true → is x ≡ true) → (items : List A)
      → count_by is items ≡ 0 → list_any says items ≡ true → ⊥
  none_said says so [] none any = cc
  none_said says so (x ∷ later) none any =
      unsaid_first x later says so (none_said says so later) (is x) refl (says x) refl
      (sym (counted is x later) ∙ none) any

  -- one that stands behind another
  only_behind : (says : A → Bool) (x : A) (later : List A) → is x ≡ false
      → HasOnly is (λ y. says y ≡ true) later → HasOnly is (λ y. says y ≡ true) (x ∷ later)
  only_behind says x later this own = record {
    item = own.item;
    said = own.said;
    only = record {
      before = x ∷ own.only.before;
      later = own.only.later;
      stands = ap (λ xs. x ∷ xs) own.only.stands;
      of_kind = own.only.of_kind;
      none_before = (this, own.only.none_before);
      none_later = own.only.none_later;
    };
  }

  only_first : (says : A → Bool) → ((x : A) → says x ≡ true → is x ≡ true) → (x : A)
      (later : List A)
      → (count_by is later ≡ 1 → list_any says later ≡ true
      → HasOnly is (λ y. says y ≡ true) later)
      → (b : Bool) → is x ≡ b → (s : Bool) → says x ≡ s → cond b 1 0 + count_by is later ≡ 1
      → (s || list_any says later) ≡ true → HasOnly is (λ y. says y ≡ true) (x ∷ later)
  only_first says so x later rest true this true said e any = record {
    item = x;
    said = said;
    only = record {
      before = [];
      later = later;
      stands = refl;
      of_kind = this;
      none_before = tt;
      none_later = none_counted later (omega (arith, e));
    };
  }
  only_first says so x later rest true this false said e any =
      absurd (none_said says so later (omega (arith, e)) any)
  only_first says so x later rest false this true said e any =
      absurd (not_both x says so this said)
  only_first says so x later rest false this false said e any =
      only_behind says x later this (rest (omega (arith, e)) any)

  -- where one is of the kind, and of one it is said, there is only that one
  pub only_one : (says : A → Bool) → ((x : A) → says x ≡ true → is x ≡ true) → (items : List A)
      → count_by is items ≡ 1 → list_any says items ≡ true
      → HasOnly is (λ x. says x ≡ true) items
  only_one says so [] one any = cc
  only_one says so (x ∷ later) one any =
      only_first says so x later (only_one says so later) (is x) refl (says x) refl
      (sym (counted is x later) ∙ one) any

  -- the only one is counted once
  counts_once : (item : A) (before later : List A) → is item ≡ true
      → Every (λ x. is x ≡ false) before → Every (λ x. is x ≡ false) later
      → count_by is (before ++ item ∷ later) ≡ 1
  counts_once item [] later this none after =
      let rest : count_by is later ≡ 0 = count_of_none later after in
      counted is item later ∙ ap (λ b. cond b 1 0 + count_by is later) this ∙ omega (arith, rest)
  counts_once item (x ∷ before) later this none after =
      let rest : count_by is (before ++ item ∷ later) ≡ 1 =
      counts_once item before later this none.1 after in
      counted is x (before ++ item ∷ later)
      ∙ ap (λ b. cond b 1 0 + count_by is (before ++ item ∷ later)) none.0 ∙ omega (arith, rest)

  or_true : (a b : Bool) → b ≡ true → (a || b) ≡ true
  or_true true b e = refl
  or_true false b e = e

  any_said : (says : A → Bool) (item : A) (before later : List A) → says item ≡ true
      → list_any says (before ++ item ∷ later) ≡ true
  any_said says item [] later said = ap (λ b. b || list_any says later) said
  any_said says item (x ∷ before) later said =
      or_true (says x) (list_any says (before ++ item ∷ later)) (any_said says item before later said)

  pub only_is_counted : (item : A) (items : List A) → IsOnly is item items → count_by is items ≡ 1
  only_is_counted item items e = ap (count_by is) e.stands
      ∙ counts_once item e.before e.later e.of_kind e.none_before e.none_later

  pub only_is_said : (says : A → Bool) (item : A) (items : List A) → IsOnly is item items
      → says item ≡ true → list_any says items ≡ true
  only_is_said says item items e said = ap (list_any says) e.stands
      ∙ any_said says item e.before e.later said

  -- Two kinds, of which one is narrower.
  module _ (wide : A → Bool) (within : (x : A) → is x ≡ true → wide x ≡ true) where
    fewer_here : (x : A) (b w : Bool) → is x ≡ b → wide x ≡ w → (m n : ℕ) → m ≤ n
        → cond b 1 0 + m ≤ cond w 1 0 + n
    fewer_here x true true this so m n few = omega (arith, few)
    fewer_here x true false this so m n few =
        let no : false ≡ true = sym so ∙ within x this in cc
    fewer_here x false true this so m n few = omega (arith, few)
    fewer_here x false false this so m n few = omega (arith, few)

    fewer : (items : List A) → count_by is items ≤ count_by wide items
    fewer [] = omega arith
    fewer (x ∷ later) =
        let here : cond (is x) 1 0 + count_by is later ≤ cond (wide x) 1 0 + count_by wide later =
        fewer_here x (is x) (wide x) refl refl (count_by is later) (count_by wide later)
        (fewer later) in
        let own = counted is x later in
        let all = counted wide x later in
        omega (arith, here, own, all)

    more_first : (x : A) (later : List A) → count_by is later ≤ count_by wide later
        → (count_by is later ≡ count_by wide later
        → Every (λ y. wide y ≡ true → is y ≡ true) later)
        → (b : Bool) → is x ≡ b → (w : Bool) → wide x ≡ w
        → cond b 1 0 + count_by is later ≡ cond w 1 0 + count_by wide later
        → Every (λ y. wide y ≡ true → is y ≡ true) (x ∷ later)
    more_first x later few rest true this true so e = (λ it. this, rest (omega (arith, e)))
    more_first x later few rest true this false so e =
        let no : false ≡ true = sym so ∙ within x this in cc
    more_first x later few rest false this true so e =
        let no : ⊥ = omega (arith, e, few) in absurd no
    more_first x later few rest false this false so e =
        (λ it. let no : false ≡ true = sym so ∙ it in cc, rest (omega (arith, e)))

    -- where as many are of the narrower kind, the two are one
    pub no_more : (items : List A) → count_by is items ≡ count_by wide items
        → Every (λ x. wide x ≡ true → is x ≡ true) items
    no_more [] e = tt
    no_more (x ∷ later) e =
        more_first x later (fewer later) (no_more later) (is x) refl (wide x) refl
        (sym (counted is x later) ∙ e ∙ counted wide x later)

    same_here : (x : A) (b w : Bool) → is x ≡ b → wide x ≡ w → (wide x ≡ true → is x ≡ true)
        → ◌≡◌ {A = ℕ} (cond b 1 0) (cond w 1 0)
    same_here x true true this so back = refl
    same_here x true false this so back = let no : false ≡ true = sym so ∙ within x this in cc
    same_here x false true this so back = let no : false ≡ true = sym this ∙ back so in cc
    same_here x false false this so back = refl

    pub same_count : (items : List A) → Every (λ x. wide x ≡ true → is x ≡ true) items
        → count_by is items ≡ count_by wide items
    same_count [] e = refl
    same_count (x ∷ later) e =
        let here : ◌≡◌ {A = ℕ} (cond (is x) 1 0) (cond (wide x) 1 0) =
        same_here x (is x) (wide x) refl refl e.0 in
        let rest : count_by is later ≡ count_by wide later = same_count later e.1 in
        let own = counted is x later in
        let all = counted wide x later in
        omega (arith, here, rest, own, all)

-- two numbers each one apart
both_apart : (a b : Bool) (m n : ℕ) → (a ≡ true → b ≡ false)
    → cond (a || b) 1 0 + (m + n) ≡ cond a 1 0 + m + (cond b 1 0 + n)
both_apart true true m n apart = let no : true ≡ false = apart refl in cc
both_apart true false m n apart = omega arith
both_apart false true m n apart = omega arith
both_apart false false m n apart = omega arith

-- Two kinds that no item is of both are counted one by one.
counts_apart : {A : Type 0} (one other : A → Bool) (items : List A)
    → ((x : A) → one x ≡ true → other x ≡ false)
    → count_by (λ x. one x || other x) items ≡ count_by one items + count_by other items
counts_apart one other [] apart = refl
counts_apart one other (x ∷ later) apart =
    counted (λ x. one x || other x) x later
    ∙ ap (λ n. cond (one x || other x) 1 0 + n) (counts_apart one other later apart)
    ∙ both_apart (one x) (other x) (count_by one later) (count_by other later) (apart x)
    ∙ sym (ap (λ n. n + count_by other (x ∷ later)) (counted one x later)
    ∙ ap (λ n. cond (one x) 1 0 + count_by one later + n) (counted other x later))

module _ {X A : Type 0} (of : X → A → Bool) (owes : X → Bool) where
  -- whether an item is of one of these that are owed
  abbrev is_owed : List X → A → Bool
  is_owed xs item = list_any (λ x. owes x && of x item) xs

  not_here : (a b rest : Bool) → b ≡ false → rest ≡ false → ((a && b) || rest) ≡ false
  not_here true b rest none later = ap (λ c. c || rest) none ∙ later
  not_here false b rest none later = later

  -- an item of what is apart from the others is of none of them
  apart_from : (x : X) (later : List X) (item : A)
      → Every (λ y. (item : A) → of x item ≡ true → of y item ≡ false) later
      → of x item ≡ true → is_owed later item ≡ false
  apart_from x [] item apart is = refl
  apart_from x (y ∷ later) item apart is =
      not_here (owes y) (of y item) (is_owed later item) (apart.0 item is)
      (apart_from x later item apart.1 is)

  none_counts : (items : List A) → count_by (λ (item : A). false) items ≡ 0
  none_counts [] = refl
  none_counts (item ∷ later) =
      let rest : count_by (λ (item : A). false) later ≡ 0 = none_counts later in
      counted (λ (item : A). false) item later ∙ omega (arith, rest)

  as_many_first : (x : X) (later : List X) (items : List A)
      → Every (λ y. (item : A) → of x item ≡ true → of y item ≡ false) later
      → (owes x ≡ true → count_by (of x) items ≡ 1)
      → count_by (is_owed later) items ≡ count_by owes later → (b : Bool) → owes x ≡ b
      → count_by (λ item. (owes x && of x item) || is_owed later item) items
      ≡ cond b 1 0 + count_by owes later
  as_many_first x later items apart each rest true this =
      let here : count_by (of x) items ≡ 1 = each this in
      ap (λ b. count_by (λ item. (b && of x item) || is_owed later item) items) this
      ∙ counts_apart (of x) (is_owed later) items (λ item is. apart_from x later item apart is)
      ∙ omega (arith, here, rest)
  as_many_first x later items apart each rest false this =
      ap (λ b. count_by (λ item. (b && of x item) || is_owed later item) items) this
      ∙ rest ∙ omega arith

  -- where of each that is owed there is one item, as many items are owed as there are such
  as_many : (xs : List X) (items : List A) → AreApart of xs
      → Every (λ x. owes x ≡ true → count_by (of x) items ≡ 1) xs
      → count_by (is_owed xs) items ≡ count_by owes xs
  as_many [] items apart each = none_counts items
  as_many (x ∷ later) items apart each =
      as_many_first x later items apart.0 each.0 (as_many later items apart.1 each.1) (owes x) refl
      ∙ sym (counted owes x later)

  -- So where there are as many items of a wider kind as are owed, each of these is owed.
  module _ (wide : A → Bool) (within : (x : X) (item : A) → of x item ≡ true → wide item ≡ true)
    where
      wide_here : (x : X) (item : A) (rest : Bool) → (rest ≡ true → wide item ≡ true) → (a b : Bool)
          → of x item ≡ b → ((a && b) || rest) ≡ true → wide item ≡ true
      wide_here x item rest later true true is e = within x item is
      wide_here x item rest later true false is e = later e
      wide_here x item rest later false b is e = later e

      owed_is_wide : (xs : List X) (item : A) → is_owed xs item ≡ true → wide item ≡ true
      owed_is_wide [] item e = cc
      owed_is_wide (x ∷ later) item e =
          wide_here x item (is_owed later item) (owed_is_wide later item) (owes x) (of x item) refl e

      pub none_other : (xs : List X) (items : List A) → AreApart of xs
          → Every (λ x. owes x ≡ true → count_by (of x) items ≡ 1) xs
          → count_by wide items ≡ count_by owes xs
          → Every (λ item. wide item ≡ true → is_owed xs item ≡ true) items
      none_other xs items apart each many =
          no_more (is_owed xs) wide (owed_is_wide xs) items (as_many xs items apart each ∙ sym many)

      pub no_fewer : (xs : List X) (items : List A) → AreApart of xs
          → Every (λ x. owes x ≡ true → count_by (of x) items ≡ 1) xs
          → Every (λ item. wide item ≡ true → is_owed xs item ≡ true) items
          → count_by wide items ≡ count_by owes xs
      no_fewer xs items apart each all =
          sym (same_count (is_owed xs) wide (owed_is_wide xs) items all) ∙ as_many xs items apart each
