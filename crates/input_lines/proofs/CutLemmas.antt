-- Cutting a text at the first place of a byte, and the parts that this gives.
use Rattle.std.proofs.Common.{◌≡◌, ℕ, ◌+◌, ◌-◌, ◌≤◌, ◌==◌, Bool, cond, nat_lt, true, false, List}
use Rattle.std.proofs.Common.{[], ◌∷◌, length, take, drop, get_or, sym, ap, ◌∙◌, refl, arith, inl}
use Rattle.std.proofs.Common.{inr, Some, None}
use Rattle.std.proofs.lemmas.Bool.Decides.{nat_tests}
use Rattle.std.specs.List.{before_first, after_first, onto_first, position, position_or_len}
use Rattle.std.proofs.lemmas.Bool.{cases_Bool, false_from_ne_true}
use Rattle.std.proofs.lemmas.List.{take_all, drop_all, length-drop}
use Rattle.std.proofs.lemmas.List.Sums.{position_or_len_is}
use Rattle.memchr.specs.Find.{Nowhere, NoneBefore, Passes, is_byte}
use Rattle.input_lines.specs.FrontLemmas.{after_skip, before_skip, spoken_skip, spoken_stop}
use Rattle.input_lines.specs.Lines.{parts_of, is_skipped, spoken_from}

nowhere_place : (byte : ℕ) (text : List ℕ) → Nowhere (Passes (is_byte byte) text) 0 (length text) → position_or_len (λ (c : ℕ). c == byte) text ≡ length text
nowhere_place byte text none =
    position_or_len_is (λ (c : ℕ). c == byte) text (length text) 0 (omega arith)
    (λ k h. false_from_ne_true (get_or text k 0 == byte) (none k (omega arith) h)) (λ h. absurd (omega arith))

-- a text without the byte
pub nowhere_front : (byte : ℕ) (text : List ℕ) → Nowhere (Passes (is_byte byte) text) 0 (length text) → text ≡ before_first (λ (c : ℕ). c == byte) text
nowhere_front byte text none = rw (nowhere_place byte text none) (sym (take_all (length text) text (omega arith)))

pub nowhere_behind : (byte : ℕ) (text : List ℕ) → Nowhere (Passes (is_byte byte) text) 0 (length text) → [] ≡ after_first (λ (c : ℕ). c == byte) text
nowhere_behind byte text none = rw (nowhere_place byte text none) (sym (drop_all (length text + 1) text (omega arith)))

place_is : (byte i : ℕ) (text : List ℕ) → NoneBefore (Passes (is_byte byte) text) 0 (length text) i → Passes (is_byte byte) text i
    → position_or_len (λ (c : ℕ). c == byte) text ≡ i
place_is byte i text before here =
    position_or_len_is (λ (c : ℕ). c == byte) text i 0 (let h = before.high in omega arith)
    (λ k h. false_from_ne_true (get_or text k 0 == byte) (before.before k (omega arith) h)) (λ _. here)

-- and a text with it
pub place_front : (byte i : ℕ) (text : List ℕ) → NoneBefore (Passes (is_byte byte) text) 0 (length text) i → Passes (is_byte byte) text i
    → take i text ≡ before_first (λ (c : ℕ). c == byte) text
place_front byte i text before here = rw (place_is byte i text before here) refl

pub place_behind : (byte i : ℕ) (text : List ℕ) → NoneBefore (Passes (is_byte byte) text) 0 (length text) i → Passes (is_byte byte) text i
    → take (length text - (i + 1)) (drop (i + 1) text) ≡ after_first (λ (c : ℕ). c == byte) text
place_behind byte i text before here =
    rw (place_is byte i text before here) (take_all (length text - (i + 1)) (drop (i + 1) text) (omega (arith, length-drop (i + 1) text)))

-- the first part of a text, and the parts of what stands behind it
parts_end : (byte c : ℕ) (text : List ℕ) → (c == byte) ≡ true → parts_of byte (c ∷ text)
    ≡ before_first (λ (d : ℕ). d == byte) (c ∷ text) ∷ parts_of byte (after_first (λ (d : ℕ). d == byte) (c ∷ text))
parts_end byte c text ends = rw ends refl

parts_last : (byte c : ℕ) → (c == byte) ≡ false → parts_of byte (c ∷ [])
    ≡ before_first (λ (d : ℕ). d == byte) (c ∷ []) ∷ parts_of byte (after_first (λ (d : ℕ). d == byte) (c ∷ []))
parts_last byte c goes = rw goes refl

parts_more : (byte c : ℕ) (text front : List ℕ) (parts : List (List ℕ)) → (c == byte) ≡ false → parts_of byte text ≡ front ∷ parts
    → parts_of byte (c ∷ text) ≡ (c ∷ front) ∷ parts
parts_more byte c text front parts goes is = rw (goes, is) refl

pub parts_cut : (byte c : ℕ) (text : List ℕ) → parts_of byte (c ∷ text)
    ≡ before_first (λ (d : ℕ). d == byte) (c ∷ text) ∷ parts_of byte (after_first (λ (d : ℕ). d == byte) (c ∷ text))
parts_cut byte c [] =
    elim (cases_Bool (c == byte)) [ inl ends ↦ parts_end byte c [] ends | inr goes ↦ parts_last byte c goes ]
parts_cut byte c (d ∷ text) =
    elim (cases_Bool (c == byte)) [
      | inl ends ↦ parts_end byte c (d ∷ text) ends
      | inr goes ↦
          (let p = λ (e : ℕ). e == byte in
          parts_more byte c (d ∷ text) (before_first p (d ∷ text)) (parts_of byte (after_first p (d ∷ text))) goes (parts_cut byte d text)
          ∙ ap (λ front. front ∷ parts_of byte (after_first p (d ∷ text))) (sym (before_skip byte c (d ∷ text) goes))
          ∙ ap (λ behind. before_first p (c ∷ d ∷ text) ∷ parts_of byte behind) (sym (after_skip byte c (d ∷ text) goes)))
    ]

-- the same of a text that is not empty
pub parts_of-cut : (byte : ℕ) (text front behind : List ℕ) → (length text == 0) ≡ false → front ≡ before_first (λ (d : ℕ). d == byte) text
    → behind ≡ after_first (λ (d : ℕ). d == byte) text → parts_of byte text ≡ front ∷ parts_of byte behind
parts_of-cut byte [] front behind some e f = absurd (grind (arith, nat_tests))
parts_of-cut byte (c ∷ text) front behind some e f = rw (e, f) (parts_cut byte c text)

length-onto : (c : ℕ) (parts : List (List ℕ)) → length (onto_first c parts) ≤ length parts + 1
length-onto c [] = omega arith
length-onto c (part ∷ parts) = omega arith

-- each part has a byte of the text
pub length-parts_of : (byte : ℕ) (text : List ℕ) → length (parts_of byte text) ≤ length text
length-parts_of byte [] = omega arith
length-parts_of byte (c ∷ text) =
    elim (cases_Bool (c == byte)) [
      | inl ends ↦ rw ends (omega (arith, length-parts_of byte text))
      | inr goes ↦ rw goes (omega (arith, length-onto c (parts_of byte text), length-parts_of byte text))
    ]

-- the parts of a text, the first one taken
pub parts_first : (end : ℕ) (rest part behind : List ℕ) (all : List (List ℕ)) → parts_of end rest ≡ all → (length rest == 0) ≡ false
    → part ≡ before_first (λ (d : ℕ). d == end) rest → behind ≡ after_first (λ (d : ℕ). d == end) rest → all ≡ part ∷ parts_of end behind
parts_first end rest part behind all is some e f = sym is ∙ parts_of-cut end rest part behind some e f

-- the lines of a text, the first one taken, whether it is skipped or not
pub spoken_next : (k : ℕ) (rest line behind : List ℕ) (all : List (ℕ × List ℕ)) → all ≡ spoken_from k (parts_of 10 rest) → (length rest == 0) ≡ false
    → line ≡ before_first (λ (d : ℕ). d == 10) rest → behind ≡ after_first (λ (d : ℕ). d == 10) rest → is_skipped line ≡ true
    → all ≡ spoken_from (k + 1) (parts_of 10 behind)
spoken_next k rest line behind all is some e f skipped =
    is ∙ ap (spoken_from k) (parts_of-cut 10 rest line behind some e f) ∙ spoken_skip k line (parts_of 10 behind) skipped

pub spoken_first : (k : ℕ) (rest line behind : List ℕ) (all : List (ℕ × List ℕ)) → all ≡ spoken_from k (parts_of 10 rest) → (length rest == 0) ≡ false
    → line ≡ before_first (λ (d : ℕ). d == 10) rest → behind ≡ after_first (λ (d : ℕ). d == 10) rest → is_skipped line ≡ false
    → all ≡ (k, line) ∷ spoken_from (k + 1) (parts_of 10 behind)
spoken_first k rest line behind all is some e f spoken =
    is ∙ ap (spoken_from k) (parts_of-cut 10 rest line behind some e f) ∙ spoken_stop k line (parts_of 10 behind) spoken

chosen_some : (b : Bool) (n place : ℕ) → cond b (Some n) None ≡ Some place → n ≡ place
chosen_some true n place h = cc
chosen_some false n place h = cc

chosen_none : (b : Bool) (n : ℕ) → cond b (Some n) None ≡ None → b ≡ false
chosen_none true n h = cc
chosen_none false n h = refl

-- a text cut at the first place of a byte, and one that has none
pub cut_there : (byte : ℕ) (text : List ℕ) (place : ℕ) → position (λ (c : ℕ). c == byte) text ≡ Some place
    → (take place text ≡ before_first (λ (c : ℕ). c == byte) text) × (drop (place + 1) text ≡ after_first (λ (c : ℕ). c == byte) text)
cut_there byte text place h =
    let p = λ (c : ℕ). c == byte in
    let found : position_or_len p text ≡ place = chosen_some (nat_lt (position_or_len p text) (length text)) (position_or_len p text) place h in
    rw found (refl, refl)

pub cut_nowhere : (byte : ℕ) (text : List ℕ) → position (λ (c : ℕ). c == byte) text ≡ None
    → (text ≡ before_first (λ (c : ℕ). c == byte) text) × ([] ≡ after_first (λ (c : ℕ). c == byte) text)
cut_nowhere byte text h =
    let p = λ (c : ℕ). c == byte in
    let beyond : nat_lt (position_or_len p text) (length text) ≡ false = chosen_none (nat_lt (position_or_len p text) (length text)) (position_or_len p text) h in
    let within : length text ≤ position_or_len p text = grind (arith, nat_tests) in
    (sym (take_all (position_or_len p text) text within), sym (drop_all (position_or_len p text + 1) text (omega arith)))
