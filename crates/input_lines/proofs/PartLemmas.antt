-- The parts of an input, and texts that are no UTF-8.
use Rattle.std.proofs.Common.{◌≡◌, ℕ, ◌+◌, ◌-◌, ◌<◌, ◌≤◌, ◌==◌, Bool, true, false, List, [], ◌∷◌}
use Rattle.std.proofs.Common.{◌++◌, length, take, drop, suc, Ok, Err, refl, sym, ap, ◌∙◌, arith}
use Rattle.std.proofs.Common.{inl, inr, append_assoc, add-one}
use Rattle.std.proofs.Math.Nat.{add_comm}
use Rattle.std.specs.List.{list_any, before_first, after_first, position_or_len}
use Rattle.std.specs.Str.{IsUtf8, is_utf8}
use Rattle.std.proofs.lemmas.Bool.{cases_Bool}
use Rattle.std.proofs.lemmas.Bool.Decides.{nat_tests}
use Rattle.std.proofs.lemmas.List.{length-append, append-nil}
use Rattle.std.proofs.Math.Seq.{take-append_seam}
use Rattle.std.proofs.lemmas.Grind.{flat_map-append}
use Rattle.std.proofs.lemmas.List.Folds.{list_any-append}
use Rattle.std.proofs.lemmas.Str.{IsUtf8-from_is_utf8, is_utf8-from_IsUtf8}
use Rattle.input_lines.specs.Lines.{lines_of, parts_of}
use Rattle.input_lines.specs.PartReading.{StandsApart}
use Rattle.input_lines.specs.VenueParts.{is_divider, text_of_lines, divided}
use Rattle.input_lines.specs.declared.faults.ProgramFault.TheVariants.{Parts}
use Rattle.input_lines.proofs.CutLemmas.{parts_of-cut}

-- Texts.

pub is_text : (bytes : List ℕ) → IsUtf8 bytes → is_utf8 bytes ≡ true
is_text bytes lawful = is_utf8-from_IsUtf8 bytes lawful

pub is_no_text : (bytes : List ℕ) → ¬ IsUtf8 bytes → is_utf8 bytes ≡ false
is_no_text bytes other =
    elim (cases_Bool (is_utf8 bytes)) [
      | inl lawful ↦ absurd (other (IsUtf8-from_is_utf8 bytes lawful))
      | inr unlawful ↦ unlawful
    ]

-- The first element of a list that passes a test.

pub stop_here : {X : Type 0} (p : X → Bool) (x : X) (xs : List X) → p x ≡ true → position_or_len p (x ∷ xs) ≡ 0
stop_here p x xs here = rw here refl

pub skip_one : {X : Type 0} (p : X → Bool) (x : X) (xs : List X) → p x ≡ false → position_or_len p (x ∷ xs) ≡ suc (position_or_len p xs)
skip_one p x xs other = rw other (add_comm 1 (position_or_len p xs) ∙ add-one (position_or_len p xs))

pub before_here : {X : Type 0} (p : X → Bool) (x : X) (xs : List X) → p x ≡ true → before_first p (x ∷ xs) ≡ []
before_here p x xs here = ap (λ n. take n (x ∷ xs)) (stop_here p x xs here)

pub after_here : {X : Type 0} (p : X → Bool) (x : X) (xs : List X) → p x ≡ true → after_first p (x ∷ xs) ≡ xs
after_here p x xs here = ap (λ n. drop (n + 1) (x ∷ xs)) (stop_here p x xs here)

pub before_skip : {X : Type 0} (p : X → Bool) (x : X) (xs : List X) → p x ≡ false → before_first p (x ∷ xs) ≡ x ∷ before_first p xs
before_skip p x xs other = ap (λ n. take n (x ∷ xs)) (skip_one p x xs other)

pub after_skip : {X : Type 0} (p : X → Bool) (x : X) (xs : List X) → p x ≡ false → after_first p (x ∷ xs) ≡ after_first p xs
after_skip p x xs other =
    let n = position_or_len p xs in
    let place : position_or_len p (x ∷ xs) + 1 ≡ suc (n + 1) = ap (λ m. m + 1) (skip_one p x xs other) ∙ omega arith in
    ap (λ m. drop m (x ∷ xs)) place

-- behind elements of which none passes it
module _ {X : Type 0} (p : X → Bool) (x : X) (more : List X) (here : p x ≡ true) where
  found : (done : List X) → list_any p done ≡ false
      → (before_first p (done ++ x ∷ more) ≡ done) × (after_first p (done ++ x ∷ more) ≡ more) × (list_any p (done ++ x ∷ more) ≡ true)
  found [] none = (before_here p x more here, after_here p x more here, rw here refl)
  found (d ∷ done) none =
      elim (cases_Bool (p d)) [
        | inl passes ↦ (let never : true ≡ false = rw passes at none in cc)
        | inr passes_not ↦
            (let rest : list_any p done ≡ false = rw passes_not at none in
            let behind = found done rest in (
              before_skip p d (done ++ x ∷ more) passes_not ∙ ap (λ front. d ∷ front) behind.0,
              after_skip p d (done ++ x ∷ more) passes_not ∙ behind.1,
              rw passes_not behind.2,
            ))
      ]

-- Lines.

-- a line that a line feed ends
joined : (rest : List ℕ) → (length (after_first (λ (c : ℕ). c == 10) rest) == 0) ≡ false
    → rest ≡ before_first (λ (c : ℕ). c == 10) rest ++ 10 ∷ after_first (λ (c : ℕ). c == 10) rest
joined [] some = cc
joined (c ∷ rest) some =
    let p = λ (d : ℕ). d == 10 in
    elim (cases_Bool (c == 10)) [
      | inl ends ↦
          (let is : c ≡ 10 = grind (arith, nat_tests) in
          rw (before_here p c rest ends, after_here p c rest ends) (ap (λ d. d ∷ rest) is))
      | inr goes ↦
          (let more : (length (after_first p rest) == 0) ≡ false = rw (after_skip p c rest goes) at some in
          rw (before_skip p c rest goes, after_skip p c rest goes) (ap (λ text. c ∷ text) (joined rest more)))
    ]

onto : (c : ℕ) (text front : List ℕ) (parts : List (List ℕ)) → (c == 10) ≡ false → parts_of 10 text ≡ front ∷ parts → parts_of 10 (c ∷ text) ≡ (c ∷ front) ∷ parts
onto c text front parts goes is = rw (goes, is) refl

line_closed : (rest tail : List ℕ) → parts_of 10 (before_first (λ (c : ℕ). c == 10) rest ++ 10 ∷ tail) ≡ before_first (λ (c : ℕ). c == 10) rest ∷ parts_of 10 tail
line_closed [] tail = refl
line_closed (c ∷ rest) tail =
    let p = λ (d : ℕ). d == 10 in
    elim (cases_Bool (c == 10)) [
      | inl ends ↦ rw (before_here p c rest ends) refl
      | inr goes ↦ rw (before_skip p c rest goes) (onto c (before_first p rest ++ 10 ∷ tail) (before_first p rest) (parts_of 10 tail) goes (line_closed rest tail))
    ]

regroup : (done : List (List ℕ)) (line tail : List ℕ) → text_of_lines (done ++ line ∷ []) ++ tail ≡ text_of_lines done ++ (line ++ 10 ∷ tail)
regroup done line tail =
    let last : text_of_lines (line ∷ []) ≡ line ++ 10 ∷ [] = append-nil (line ++ 10 ∷ []) in
    ap (λ text. text ++ tail) (flat_map-append (λ (l : List ℕ). l ++ 10 ∷ []) done (line ∷ []) ∙ ap (λ text. text_of_lines done ++ text) last)
    ∙ append_assoc (text_of_lines done) (line ++ 10 ∷ []) tail ∙ ap (λ text. text_of_lines done ++ text) (append_assoc line (10 ∷ []) tail)

-- How far the lines of a text were looked at: those that are done divide nothing.
pub record Reached (text : List ℕ) (count : ℕ) (rest : List ℕ) : Type 0 where
  pub done : List (List ℕ)
  pub lines : lines_of text ≡ done ++ lines_of rest
  pub none : list_any is_divider done ≡ false
  pub count_is : count ≡ length done
  pub closed : (tail : List ℕ) → lines_of (text_of_lines done ++ tail) ≡ done ++ lines_of tail
  pub text_is : (length rest == 0) ≡ false → text ≡ text_of_lines done ++ rest
  pub fits : count + length rest ≤ length text

module _ (text : List ℕ) (count : ℕ) (rest line behind : List ℕ) (at : Reached text count rest) (some : (length rest == 0) ≡ false)
    (front : line ≡ before_first (λ (c : ℕ). c == 10) rest) (back : behind ≡ after_first (λ (c : ℕ). c == 10) rest) (shorter : length behind < length rest) where
  lines_then : lines_of text ≡ at.done ++ line ∷ lines_of behind
  lines_then = at.lines ∙ ap (λ lines. at.done ++ lines) (parts_of-cut 10 rest line behind some front back)

  closed_then : (tail : List ℕ) → lines_of (text_of_lines (at.done ++ line ∷ []) ++ tail) ≡ (at.done ++ line ∷ []) ++ lines_of tail
  closed_then tail =
      ap lines_of (regroup at.done line tail) ∙ at.closed (line ++ 10 ∷ tail)
      ∙ ap (λ lines. at.done ++ lines) (ap (λ l. lines_of (l ++ 10 ∷ tail)) front ∙ line_closed rest tail ∙ ap (λ l. l ∷ lines_of tail) (sym front))
      ∙ sym (append_assoc at.done (line ∷ []) (lines_of tail))

  text_then : (length behind == 0) ≡ false → text ≡ text_of_lines (at.done ++ line ∷ []) ++ behind
  text_then more =
      let whole : rest ≡ line ++ 10 ∷ behind = rw (front, back) (joined rest (rw back at more)) in
      at.text_is some ∙ ap (λ t. text_of_lines at.done ++ t) whole ∙ sym (regroup at.done line behind)

  pub reached_next : is_divider line ≡ false → Reached text (count + 1) behind
  reached_next other = record {
    done = at.done ++ line ∷ [];
    lines = lines_then ∙ sym (append_assoc at.done (line ∷ []) (lines_of behind));
    none = rw (list_any-append is_divider at.done (line ∷ []), at.none, other) refl;
    count_is = omega (arith, at.count_is, length-append at.done (line ∷ []));
    closed = closed_then;
    text_is = text_then;
    fits = omega (arith, at.fits, shorter);
  }

  pub reached_divider : is_divider line ≡ true → StandsApart text (take (length text - length rest) text) count behind
  reached_divider here =
      let is = found is_divider line (lines_of behind) here at.done at.none in
      let whole = at.text_is some in
      let long : length text ≡ length (text_of_lines at.done) + length rest = ap length whole ∙ length-append (text_of_lines at.done) rest in
      let n : length text - length rest ≡ length (text_of_lines at.done) = omega (arith, long) in
      let before : take (length text - length rest) text ≡ text_of_lines at.done =
      ap (λ m. take m text) n ∙ ap (λ t. take (length (text_of_lines at.done)) t) whole ∙ take-append_seam (text_of_lines at.done) rest in
      let lines : lines_of (text_of_lines at.done) ≡ at.done = ap lines_of (sym (append-nil (text_of_lines at.done))) ∙ at.closed [] ∙ append-nil at.done in
      let done_is : before_first is_divider (lines_of text) ≡ at.done = ap (before_first is_divider) lines_then ∙ is.0 in
      record {
        is = ap (list_any is_divider) lines_then ∙ is.2;
        closed = before ∙ ap text_of_lines (sym lines) ∙ ap (λ t. text_of_lines (lines_of t)) (sym before);
        lines_before = ap lines_of before ∙ lines ∙ sym done_is;
        count_is = at.count_is ∙ ap length (sym done_is);
        lines_behind = sym (ap (after_first is_divider) lines_then ∙ is.1);
        behind_fits = omega (arith, at.fits, shorter);
        before_fits = omega (arith, ap length before, long);
      }

-- The same of parts.

pub part_is_divided : (first : ℕ) (text before : List ℕ) (count : ℕ) (behind : List ℕ) → StandsApart text before count behind
    → Ok (record { first = first; lines = lines_of before }, record { first = first + count + 1; lines = lines_of behind })
    ≡ divided (record { first = first; lines = lines_of text })
part_is_divided first text before count behind apart = rw (apart.is, apart.lines_before, apart.count_is, apart.lines_behind) refl

pub part_is_whole : (first : ℕ) (text : List ℕ) → list_any is_divider (lines_of text) ≡ false → Err Parts ≡ divided (record { first = first; lines = lines_of text })
part_is_whole first text other = rw other refl
