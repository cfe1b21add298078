-- Names of traders, written with one space between each two, and read again.
use Rattle.std.proofs.Common.{◌≡◌, ◌≢◌, ◌<◌, ◌≤◌, ℕ, suc, ◌+◌, ◌-◌, ◌==◌, ◌||◌, ◌&&◌, not, Bool, true}
use Rattle.std.proofs.Common.{false, nat_lt, cond, List, [], ◌∷◌, ◌++◌, length, Some, None}
use Rattle.std.proofs.Common.{slice_index, AllPairs, refl, sym, ap, ap₂, ◌∙◌, arith}
use Rattle.std.proofs.Common.{get_or, slice_get, take, zero, zero-lt-suc}
use Rattle.std.specs.List.{AllByRecursion, join_with_byte, list_all}
use Rattle.std.proofs.lemmas.Bool.{and_from, and_parts, not-true}
use Rattle.std.proofs.lemmas.Bool.Decides.{nat_tests}
use Rattle.std.proofs.lemmas.List.{append-nil, append_assoc, length-append}
use Rattle.std.proofs.lemmas.List.Elements.{recursion_from_All}
use Rattle.std.proofs.lemmas.List.Folds.{list_all_more, list_any-append}
use Rattle.std.proofs.lemmas.Slice.Eq.{bytes_eq-Decides}
use Rattle.venue_rows.specs.Texts.{is_among, is_name, same_text}
use Rattle.step_replay.specs.Lists.{Every}
use Rattle.input_lines.specs.DueLines.{ends_with_space, may_join, traders_of, traders_with}
use Rattle.input_lines.specs.Lines.{parts_of}
use Rattle.venue_text.specs.ReadBack.{is_in_line, is_in_part}
use Rattle.venue_text.proofs.ReadBackParts.{all_append, all_more, in_line, name_in_part}

-- The parts of names.

no_space : (c : ℕ) → is_in_part c ≡ true → (c == 32) ≡ false
no_space c is = not-true (c == 32) (and_parts (not (c == 32)) (not (c == 10)) is).0

part_more : (c : ℕ) (text part : List ℕ) (parts : List (List ℕ)) → (c == 32) ≡ false
    → parts_of 32 text ≡ part ∷ parts → parts_of 32 (c ∷ text) ≡ (c ∷ part) ∷ parts
part_more c text part parts goes is = rw (goes, is) refl

part_first : (part behind : List ℕ) → list_all is_in_part part ≡ true
    → parts_of 32 (part ++ 32 ∷ behind) ≡ part ∷ parts_of 32 behind
part_first [] behind all = refl
part_first (c ∷ part) behind all =
    let tests = and_parts (is_in_part c) (list_all is_in_part part) all in
    part_more c (part ++ 32 ∷ behind) part (parts_of 32 behind) (no_space c tests.0)
    (part_first part behind tests.1)

part_last : (c : ℕ) (part : List ℕ) → list_all is_in_part (c ∷ part) ≡ true
    → parts_of 32 (c ∷ part) ≡ (c ∷ part) ∷ []
part_last c [] all =
    let tests = and_parts (is_in_part c) true all in
    rw (no_space c tests.0) refl
part_last c (d ∷ part) all =
    let tests = and_parts (is_in_part c) (list_all is_in_part (d ∷ part)) all in
    part_more c (d ∷ part) (d ∷ part) [] (no_space c tests.0) (part_last d part tests.1)

names_parted : (name : List ℕ) (names : List (List ℕ)) → list_all is_name (name ∷ names) ≡ true
    → parts_of 32 (join_with_byte 32 (name ∷ names)) ≡ name ∷ names
names_parted [] names is = cc
names_parted (c ∷ name) [] is =
    part_last c name (name_in_part (c ∷ name) (and_parts (is_name (c ∷ name)) true is).0)
names_parted (c ∷ name) (next ∷ names) is =
    let tests = and_parts (is_name (c ∷ name)) (list_all is_name (next ∷ names)) is in
    part_first (c ∷ name) (join_with_byte 32 (next ∷ names)) (name_in_part (c ∷ name) tests.0)
    ∙ ap (λ (l : List (List ℕ)). (c ∷ name) ∷ l) (names_parted next names tests.1)

-- They are on one line, some bytes, and end with no space.

pub names_in_line : (name : List ℕ) (names : List (List ℕ))
    → list_all is_name (name ∷ names) ≡ true
    → list_all is_in_line (join_with_byte 32 (name ∷ names)) ≡ true
names_in_line name [] is =
    in_line name (name_in_part name (and_parts (is_name name) true is).0)
names_in_line name (next ∷ names) is =
    let tests = and_parts (is_name name) (list_all is_name (next ∷ names)) is in
    let behind = join_with_byte 32 (next ∷ names) in
    all_append is_in_line name (32 ∷ behind) (in_line name (name_in_part name tests.0))
    (all_more is_in_line 32 behind refl (names_in_line next names tests.1))

some_names : (name : List ℕ) (names : List (List ℕ)) → list_all is_name (name ∷ names) ≡ true
    → 0 < length (join_with_byte 32 (name ∷ names))
some_names [] names is = cc
some_names (c ∷ name) [] is = zero-lt-suc (length name)
some_names (c ∷ name) (next ∷ names) is =
    zero-lt-suc (length (name ++ 32 ∷ join_with_byte 32 (next ∷ names)))

-- what stands before some bytes is not their end
ends_later : (text more : List ℕ) → 0 < length more
    → ends_with_space (text ++ more) ≡ ends_with_space more
ends_later [] more some = refl
ends_later (c ∷ text) more some =
    let sum : length (text ++ more) ≡ length text + length more = length-append text more in
    let place : length (c ∷ (text ++ more)) - 1 ≡ suc (length (text ++ more) - 1) = omega arith in
    ap (λ (n : ℕ). slice_index (c ∷ (text ++ more)) n == 32) place ∙ ends_later text more some

part_ends : (c : ℕ) (part : List ℕ) → list_all is_in_part (c ∷ part) ≡ true
    → ends_with_space (c ∷ part) ≡ false
part_ends c [] all =
    let tests = and_parts (is_in_part c) true all in
    let place : length (c ∷ []) - 1 ≡ 0 = omega arith in
    ap (λ (n : ℕ). slice_index (c ∷ []) n == 32) place ∙ no_space c tests.0
part_ends c (d ∷ part) all =
    let tests = and_parts (is_in_part c) (list_all is_in_part (d ∷ part)) all in
    ends_later (c ∷ []) (d ∷ part) (zero-lt-suc (length part)) ∙ part_ends d part tests.1

names_end : (name : List ℕ) (names : List (List ℕ)) → list_all is_name (name ∷ names) ≡ true
    → ends_with_space (join_with_byte 32 (name ∷ names)) ≡ false
names_end [] names is = cc
names_end (c ∷ name) [] is =
    part_ends c name (name_in_part (c ∷ name) (and_parts (is_name (c ∷ name)) true is).0)
names_end (c ∷ name) (next ∷ names) is =
    let tests = and_parts (is_name (c ∷ name)) (list_all is_name (next ∷ names)) is in
    let behind = join_with_byte 32 (next ∷ names) in
    ends_later (c ∷ name) (32 ∷ behind) (zero-lt-suc (length behind))
    ∙ ends_later (32 ∷ []) behind (some_names next names tests.1)
    ∙ names_end next names tests.1

-- They may join, one behind the other.

-- none of these is among those before
abbrev AreNew : List (List ℕ) → List (List ℕ) → Type 0
AreNew before names = Every (λ (name : List ℕ). is_among before name ≡ false) names

-- none stands twice
abbrev Differ : List (List ℕ) → Type 0
Differ [] = Unit {0}
Differ (name ∷ names) = AllByRecursion (λ (other : List ℕ). name ≢ other) names × Differ names

differ_by : (names : List (List ℕ)) → AllPairs (λ a b. a ≢ b) names → Differ names
differ_by [] pairs = tt
differ_by (name ∷ names) pairs = (
  recursion_from_All (λ (other : List ℕ). name ≢ other) names
      (λ k d within. pairs 0 (suc k) d (zero-lt-suc k) (more k (length names) within)),
  differ_by names (λ i j d below within.
      pairs (suc i) (suc j) d (more i j below) (more j (length names) within)),
)
  where
    more : (a b : ℕ) → a < b → suc a < suc b
    more a b below = omega arith

names_differ : (one other : List ℕ) → one ≢ other → same_text one other ≡ false
names_differ one other differs = by_test (same_text one other) refl
  where
    by_test : (b : Bool) → same_text one other ≡ b → b ≡ false
    by_test true same = absurd (differs ((bytes_eq-Decides one other).0 same))
    by_test false same = refl

still_new : (before : List (List ℕ)) (name : List ℕ) (names : List (List ℕ))
    → AreNew before names → AllByRecursion (λ (other : List ℕ). name ≢ other) names
    → AreNew (before ++ name ∷ []) names
still_new before name [] new differ = tt
still_new before name (next ∷ names) new differ = (
  list_any-append (λ own. same_text own next) before (name ∷ [])
      ∙ ap₂ (λ (a b : Bool). a || b) new.0
      (ap (λ (b : Bool). b || false) (names_differ name next differ.0)),
  still_new before name names new.1 differ.1,
)

names_join : (before names : List (List ℕ)) → list_all is_name names ≡ true
    → length before + length names ≤ 16 → AreNew before names → Differ names
    → traders_with before names ≡ Some (before ++ names)
names_join before [] is few new differ = ap Some (sym (append-nil before))
names_join before (name ∷ names) is few new differ =
    let tests = and_parts (is_name name) (list_all is_name names) is in
    let now = before ++ name ∷ [] in
    let room : nat_lt (length before) 16 ≡ true = below_most (length before) (length names) few in
    let may : may_join before name ≡ true =
    ap₂ (λ (a b : Bool). a && b) (ap₂ (λ (a b : Bool). a && b) tests.0 room) (ap not new.0) in
    let long : length now ≡ length before + 1 = length-append before (name ∷ []) in
    let fits : length now + length names ≤ 16 = omega arith in
    ap (λ (b : Bool). cond b (traders_with now names) None) may
    ∙ names_join now names tests.1 fits (still_new before name names new.1 differ.0) differ.1
    ∙ ap Some (append_assoc before (name ∷ []) names)
  where
    below_most : (a b : ℕ) → a + suc b ≤ 16 → nat_lt a 16 ≡ true
    below_most a b few =
        let below : a < 16 = omega arith in
        grind (arith, nat_tests)

none_before : (names : List (List ℕ)) → AreNew [] names
none_before [] = tt
none_before (name ∷ names) = (refl, none_before names)

-- so they are read again
pub names_back : (name : List ℕ) (names : List (List ℕ)) → list_all is_name (name ∷ names) ≡ true
    → length (name ∷ names) ≤ 16 → AllPairs (λ a b. a ≢ b) (name ∷ names)
    → traders_of (join_with_byte 32 (name ∷ names)) ≡ Some (name ∷ names)
names_back name names is few pairs =
    let text = join_with_byte 32 (name ∷ names) in
    let some : 0 < length text = some_names name names is in
    let filled : (length text == 0) ≡ false = not_zero (length text) some in
    let fits : length {A = List ℕ} [] + length (name ∷ names) ≤ 16 = omega arith in
    ap (λ (b : Bool). cond b None (cond (ends_with_space text) None
    (traders_with [] (parts_of 32 text)))) filled
    ∙ ap (λ (b : Bool). cond b None (traders_with [] (parts_of 32 text))) (names_end name names is)
    ∙ ap (traders_with []) (names_parted name names is)
    ∙ names_join [] (name ∷ names) is fits (none_before (name ∷ names))
    (differ_by (name ∷ names) pairs)
  where
    not_zero : (n : ℕ) → 0 < n → (n == 0) ≡ false
    not_zero n some = by_test (n == 0) refl
      where
        by_test : (b : Bool) → (n == 0) ≡ b → b ≡ false
        by_test true test =
            let none : n ≡ 0 = grind (arith, nat_tests) in
            absurd (omega arith)
        by_test false test = refl

-- A trader more that has a name.

text_at : (texts : List (List ℕ)) (i : ℕ) → i < length texts
    → slice_get texts i ≡ Some (get_or texts i [])
text_at [] i within = absurd (omega arith)
text_at (text ∷ texts) zero within = refl
text_at (text ∷ texts) (suc i) within =
    let inner : i < length texts = omega arith in
    text_at texts i inner

pub named_more : (names : List (List ℕ)) (i : ℕ) → i < length names
    → list_all is_name (take i names) ≡ true
    → ((name : List ℕ) → slice_get names i ≡ Some name → is_name name ≡ true)
    → list_all is_name (take (i + 1) names) ≡ true
named_more names i within before named =
    list_all_more is_name names i [] within
    ∙ and_from (list_all is_name (take i names)) (is_name (get_or names i [])) before
    (named (get_or names i []) (text_at names i within))
