-- A name of a trade is of one investor, one dealer and one number.
use Rattle.std.proofs.Common.{◌≡◌, ◌&&◌, ℕ, ◌==◌, false, true, List, [], ◌∷◌, ◌++◌, length}
use Rattle.std.proofs.Common.{◌+◌, decimal, drop, Option, Some, refl, sym, ap, ◌∙◌, subst, inl, inr, slice_get}
use Rattle.std.proofs.lemmas.Bool.{and_parts, cases_Bool, eqb-true}
use Rattle.std.proofs.lemmas.Fmt.{decimal_injective}
use Rattle.std.proofs.lemmas.List.{append_assoc, append_cancel_left, append_cancel_right}
use Rattle.std.proofs.lemmas.List.Elements.{All-get_or}
use Rattle.std.proofs.lemmas.Option.{get_or_from_slice_get, same_Some, slice_get_within}
use Rattle.std.specs.List.{list_all}
use Rattle.std.specs.Bool.{IsTrue}
use Rattle.std.specs.Char.{is_ascii_uppercase}
use Rattle.std.specs.Prelude.{not, nat_le, codes}
use Rattle.venue_rows.specs.Rows.{Configuration, KeepsLimits, firm_names}
use Rattle.venue_rows.specs.Texts.{is_among, is_capital_or_digit, is_firm_name, is_name, reserved_names}
use Rattle.note_lines.specs.NoteLines.{trade_line, trade_name}
use Rattle.step_replay.specs.Lists.{Every}

-- no dash
abbrev pub IsPlain : ℕ → Type 0
IsPlain code = (code == 45) ≡ false

capital_plain : (code : ℕ) → is_capital_or_digit code ≡ true → IsPlain code
capital_plain code is = elim (cases_Bool (code == 45)) [
  | inl same ↦ let dash = eqb-true code 45 same in cc (rw dash at is)
  | inr differs ↦ differs
]

all_plain : (text : List ℕ) → list_all is_capital_or_digit text ≡ true → Every IsPlain text
all_plain [] is = tt
all_plain (code ∷ text) is =
    let parts = and_parts (is_capital_or_digit code) (list_all is_capital_or_digit text) is in
    (capital_plain code parts.0, all_plain text parts.1)

capital_first : (code : ℕ) → is_ascii_uppercase code ≡ true → is_capital_or_digit code ≡ true
capital_first code is = rw is refl

name_plain : (text : List ℕ) → is_name text ≡ true → Every IsPlain text
name_plain [] is = tt
name_plain (first ∷ rest) is =
    let parts = and_parts (is_ascii_uppercase first && nat_le (length rest) 7)
    (list_all is_capital_or_digit rest) is in
    let begins = and_parts (is_ascii_uppercase first) (nat_le (length rest) 7) parts.0 in
    (capital_plain first (capital_first first begins.0), all_plain rest parts.1)

-- the name of a firm has no dash
pub firm_plain : (config : Configuration) → KeepsLimits config → (firm : ℕ) (name : List ℕ)
    → slice_get (firm_names config) firm ≡ Some name → Every IsPlain name
firm_plain config limits firm name at =
    let within = slice_get_within (firm_names config) firm name at in
    let is : is_firm_name name ≡ true =
    subst (λ (n : List ℕ). is_firm_name n ≡ true)
    (get_or_from_slice_get (firm_names config) firm name name at)
    (All-get_or (λ (n : List ℕ). IsTrue (is_firm_name n)) (firm_names config) firm name within
    limits.firms_named) in
    name_plain name (and_parts (not (is_among reserved_names name)) (is_name name) is).1

-- two texts before their first dashes
parted : (one other rest more : List ℕ) → Every IsPlain one → Every IsPlain other
    → one ++ 45 ∷ rest ≡ other ++ 45 ∷ more → (one ≡ other) × (rest ≡ more)
parted [] [] rest more plain plain_too is = (refl, ap (drop 1) is)
parted [] (code ∷ other) rest more plain plain_too is =
    let dash : 45 ≡ code = same_Some 45 code (ap (λ (l : List ℕ). slice_get l 0) is) in
    cc (subst IsPlain (sym dash) plain_too.0)
parted (code ∷ one) [] rest more plain plain_too is =
    let dash : code ≡ 45 = same_Some code 45 (ap (λ (l : List ℕ). slice_get l 0) is) in
    cc (subst IsPlain dash plain.0)
parted (code ∷ one) (code_too ∷ other) rest more plain plain_too is =
    let first : code ≡ code_too =
    same_Some code code_too (ap (λ (l : List ℕ). slice_get l 0) is) in
    let later = parted one other rest more plain.1 plain_too.1 (ap (drop 1) is) in (
      ap (λ (c : ℕ). c ∷ one) first ∙ ap (λ (l : List ℕ). code_too ∷ l) later.0,
      later.1,
    )

in_order : (date one other last : List ℕ) → date ++ 45 ∷ one ++ 45 ∷ other ++ 45 ∷ last
    ≡ date ++ (45 ∷ (one ++ (45 ∷ (other ++ (45 ∷ last)))))
in_order date one other last =
    append_assoc (date ++ 45 ∷ one) (45 ∷ other) (45 ∷ last)
    ∙ append_assoc date (45 ∷ one) ((45 ∷ other) ++ (45 ∷ last))

pub one_name : (date investor investor_too dealer dealer_too : List ℕ) (k k_too : ℕ)
    → Every IsPlain investor → Every IsPlain investor_too → Every IsPlain dealer
    → Every IsPlain dealer_too
    → trade_name date investor dealer k ≡ trade_name date investor_too dealer_too k_too
    → (investor ≡ investor_too) × (dealer ≡ dealer_too) × (decimal k ≡ decimal k_too)
one_name date investor investor_too dealer dealer_too k k_too plain plain_too sold sold_too is =
    let same = append_cancel_left date _ _ (sym (in_order date investor dealer (decimal k)) ∙ is
    ∙ in_order date investor_too dealer_too (decimal k_too)) in
    let first = parted investor investor_too (dealer ++ (45 ∷ decimal k))
    (dealer_too ++ (45 ∷ decimal k_too)) plain plain_too (ap (drop 1) same) in
    let second = parted dealer dealer_too (decimal k) (decimal k_too) sold sold_too first.1 in
    (first.0, second.0, second.1)

-- a line of one firm and number is of one name
pub one_line : (own : List ℕ) (number : ℕ) (name name_too : List ℕ)
    → trade_line own number name ≡ trade_line own number name_too → name ≡ name_too
one_line own number name name_too is =
    ap (drop 1) (append_cancel_left (codes "trade" ++ 32 ∷ own ++ 32 ∷ decimal number) _ _
    (append_cancel_right _ _ (10 ∷ []) is))
