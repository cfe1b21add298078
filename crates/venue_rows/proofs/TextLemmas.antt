-- What the forms of names imply: each is ASCII, so it is UTF-8, and has no SOH.
use Rattle.std.proofs.Common.{◌≡◌, ◌≢◌, ◌==◌, ℕ, ◌<◌, ◌≤◌, Bool, true, false, List, [], ◌∷◌, ◌++◌}
use Rattle.std.proofs.Common.{length, ◌&&◌, nat_le, arith, refl, ap, map, ◌||◌, ◌∙◌, Option, Some}
use Rattle.std.proofs.Common.{None, cond, nat_eq, sym}
use Rattle.std.specs.Cmp.Lexicographic.{bytes_decides, pointwise}
use Rattle.std.specs.Cmp.Derive.Mapped.{pointwise-map}
use Rattle.std.specs.List.{list_all, list_any, find}
use Rattle.std.proofs.lemmas.List.Folds.{list_all-append}
use Rattle.arrayvec.specs.ArrayString.{ArrayString}
use Rattle.std.specs.Char.{is_ascii_uppercase}
use Rattle.fix_fields.specs.Frame.{IsValue}
use Rattle.fix_fields.specs.TextLaws.{utf8_if_all, value_if_all}
use Rattle.std.specs.Str.{IsUtf8}
use Rattle.std.proofs.lemmas.Bool.{and_parts}
use Rattle.std.proofs.lemmas.Bool.Decides.{nat_tests}
use Rattle.venue_rows.specs.Texts.{is_name, is_among, same_text, same_texts, text_if}
use Rattle.venue_rows.specs.Texts.{is_capital_or_digit, is_bond_id}

pub capital_or_digit-low : (c : ℕ) → is_capital_or_digit c ≡ true → c < 128
capital_or_digit-low c h = grind (arith, nat_tests)

pub name_is_utf8 : (text : List ℕ) → is_name text ≡ true → IsUtf8 text
name_is_utf8 [] h = cc
name_is_utf8 (first ∷ rest) h =
    let parts = and_parts (is_ascii_uppercase first && nat_le (length rest) 7) (list_all is_capital_or_digit rest) h in
    let lead = and_parts (is_ascii_uppercase first) (nat_le (length rest) 7) parts.0 in
    let capital : is_ascii_uppercase first ≡ true = lead.0 in
    utf8_if_all is_capital_or_digit capital_or_digit-low (first ∷ rest) (rw capital parts.1)

pub name_is_short : (text : List ℕ) → is_name text ≡ true → length text ≤ 8
name_is_short [] h = cc
name_is_short (first ∷ rest) h =
    let parts = and_parts (is_ascii_uppercase first && nat_le (length rest) 7) (list_all is_capital_or_digit rest) h in
    let lead = and_parts (is_ascii_uppercase first) (nat_le (length rest) 7) parts.0 in
    let short : nat_le (length rest) 7 ≡ true = lead.1 in
    grind (arith, nat_tests)

-- a name is among texts of fixed room where it is among their bytes
pub is_among_map : (names : List ArrayString) (name : List ℕ) → list_any (λ own. same_text own.bytes name) names ≡ is_among (map (λ own. own.bytes) names) name
is_among_map [] name = refl
is_among_map (own ∷ names) name = ap (λ b. same_text own.bytes name || b) (is_among_map names name)

capital_or_digit-apart : (c : ℕ) → is_capital_or_digit c ≡ true → c ≢ 1
capital_or_digit-apart c h = λ e. grind (arith, nat_tests)

pub name_is_value : (text : List ℕ) → is_name text ≡ true → IsValue text
name_is_value [] h = cc
name_is_value (first ∷ rest) h =
    let parts = and_parts (is_ascii_uppercase first && nat_le (length rest) 7) (list_all is_capital_or_digit rest) h in
    let lead = and_parts (is_ascii_uppercase first) (nat_le (length rest) 7) parts.0 in
    let capital : is_ascii_uppercase first ≡ true = lead.0 in
    value_if_all is_capital_or_digit capital_or_digit-apart (first ∷ rest) (rw capital parts.1)

pub bond_id_is_value : (text : List ℕ) → is_bond_id text ≡ true → IsValue text
bond_id_is_value text h = value_if_all is_capital_or_digit capital_or_digit-apart text (and_parts (length text == 12) (list_all is_capital_or_digit text) h).1

pub bond_id_is_utf8 : (text : List ℕ) → is_bond_id text ≡ true → IsUtf8 text
bond_id_is_utf8 text h = utf8_if_all is_capital_or_digit capital_or_digit-low text (and_parts (length text == 12) (list_all is_capital_or_digit text) h).1

-- the texts of fixed room are names
abbrev pub are_names : List ArrayString → Bool
are_names names = list_all (λ own. is_name own.bytes) names

-- a text that was found among names is one of them, and so a name
pub record IsFound (names : List ArrayString) (name : List ℕ) (own : ArrayString) : Type 0 where
  pub named : is_name own.bytes ≡ true
  pub same : own.bytes ≡ name
  pub among : is_among (map (λ own. own.bytes) names) name ≡ true

found_at : (names : List ArrayString) (name : List ℕ) (first own : ArrayString) (test : Bool) → same_text first.bytes name ≡ test → is_name first.bytes ≡ true → Some own ≡ cond test (Some first) (find (λ own. same_text own.bytes name) names) → (Some own ≡ find (λ own. same_text own.bytes name) names → IsFound names name own) → IsFound (first ∷ names) name own
found_at names name first own true same named e later =
    let is : own ≡ first = cc in
    record { named = rw is named; same = rw is ((bytes_decides first.bytes name).0 same); among = rw same refl }
found_at names name first own false same named e later =
    let found = later e in
    record { named = found.named; same = found.same; among = rw same found.among }

pub found_name : (names : List ArrayString) (name : List ℕ) (own : ArrayString) → are_names names ≡ true → Some own ≡ find (λ own. same_text own.bytes name) names → IsFound names name own
found_name [] name own named e = cc
found_name (first ∷ names) name own named e =
    let parts = and_parts (is_name first.bytes) (are_names names) named in
    found_at names name first own (same_text first.bytes name) refl parts.0 e (found_name names name own parts.1)

none_more : (test : Bool) (first : ArrayString) (rest : Option ArrayString) (others : Bool) → None ≡ cond test (Some first) rest → (None ≡ rest → others ≡ false) → (test || others) ≡ false
none_more true first rest others e then = cc
none_more false first rest others e then = then e

-- and none is found where it is none of them
pub found_none : (names : List ArrayString) (name : List ℕ) → None ≡ find (λ own. same_text own.bytes name) names → is_among (map (λ own. own.bytes) names) name ≡ false
found_none [] name e = refl
found_none (first ∷ names) name e =
    none_more (same_text first.bytes name) first (find (λ own. same_text own.bytes name) names) (is_among (map (λ own. own.bytes) names) name) e (found_none names name)

-- the answer of a search among names
pub is_found : (names : List ArrayString) (name : List ℕ) (own : ArrayString) → are_names names ≡ true → Some own ≡ find (λ own. same_text own.bytes name) names → Some own.bytes ≡ text_if (is_among (map (λ own. own.bytes) names)) name
is_found names name own named e =
    let found = found_name names name own named e in
    rw found.among (ap Some found.same)

pub is_not_found : (names : List ArrayString) (name : List ℕ) → None ≡ find (λ own. same_text own.bytes name) names → None ≡ text_if (is_among (map (λ own. own.bytes) names)) name
is_not_found names name e = rw (found_none names name e) refl

-- two lists of names are the same where their texts are
pub same_names : (xs ys : List ArrayString) → pointwise (λ s t. pointwise nat_eq s.bytes t.bytes) xs ys ≡ same_texts (map (λ own. own.bytes) xs) (map (λ own. own.bytes) ys)
same_names xs ys = sym (pointwise-map (λ (own : ArrayString). own.bytes) same_text xs ys)

-- names, and one more
pub names_more : (names : List ArrayString) (own : ArrayString) → are_names names ≡ true → is_name own.bytes ≡ true → are_names (names ++ own ∷ []) ≡ true
names_more names own all named = list_all-append (λ name. is_name name.bytes) names (own ∷ []) ∙ rw (all, named) refl
