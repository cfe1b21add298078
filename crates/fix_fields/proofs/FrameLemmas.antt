-- A frame is one of one list of fields, and bytes that are no frame have one fault.
use Rattle.std.proofs.Common.{◌≡◌, ℕ, ◌+◌, ◌-◌, ◌<◌, ◌≤◌, List, [], ◌∷◌, ◌++◌, drop, sym, ap, ◌∙◌}
use Rattle.std.proofs.Common.{subst, refl, arith, inl, inr, suc, zero, length-append, zero-add}
use Rattle.std.proofs.Common.{Result, Ok, Err}
use Rattle.std.specs.Prelude.{MatchResult}
use Rattle.std.proofs.lemmas.Bool.{cases_lt}
use Rattle.fix_fields.specs.Frame.{Field, IsFrame, start_text, end_text, fields_text, fields_of}
use Rattle.fix_fields.specs.Garbled.{IsCut, Passes, PassesBefore, IsFault}
use Rattle.fix_fields.specs.declared.fault.Garbled.{Garbled}
use Rattle.fix_fields.specs.declared.fault.Garbled.TheVariants.{TooLong, Start, Length}
use Rattle.fix_fields.specs.declared.fault.Garbled.TheVariants.{Field as NoField, End, Sum}
use Rattle.fix_fields.proofs.FieldsText.{fields_of-text, AreBody-lawful}
use Rattle.fix_fields.proofs.CutLemmas.{cut_once}

-- a frame is cut by BodyLength
pub cut_of_frame : (bytes : List ℕ) (fields : List Field) (is : IsFrame bytes fields)
    → IsCut bytes is.length_digits (fields_text fields) (end_text is.sum_digits)
cut_of_frame bytes fields is = record {
  fits = is.fits;
  length_is = is.length_is;
  text = is.text;
  seven = (let three = is.sum_is.three in omega (arith, length-append is.sum_digits (1 ∷ [])));
}

-- no bytes are a frame of two lists
pub frame_once : (bytes : List ℕ) (xs ys : List Field) → IsFrame bytes xs → IsFrame bytes ys → xs ≡ ys
frame_once bytes xs ys is other =
    let same = (cut_once bytes _ _ _ _ _ _ (cut_of_frame bytes xs is) (cut_of_frame bytes ys other)).body_same in
    sym (fields_of-text xs (AreBody-lawful xs is.body)) ∙ (ap fields_of same ∙ fields_of-text ys (AreBody-lawful ys other.body))

-- The checks by number: bytes that pass one pass those before it.
abbrev rank : Garbled → ℕ
rank TooLong = 0
rank Start = 1
rank Length = 2
rank NoField = 3
rank End = 4
rank Sum = 5

abbrev named : ℕ → Garbled
named zero = TooLong
named (suc zero) = Start
named (suc (suc zero)) = Length
named (suc (suc (suc zero))) = NoField
named (suc (suc (suc (suc zero)))) = End
named (suc (suc (suc (suc (suc n))))) = Sum

named-rank : (fault : Garbled) → named (rank fault) ≡ fault
named-rank TooLong = refl
named-rank Start = refl
named-rank Length = refl
named-rank NoField = refl
named-rank End = refl
named-rank Sum = refl

passes_earlier : (n : ℕ) (bytes : List ℕ) → Passes (named (suc n)) bytes → Passes (named n) bytes
passes_earlier zero bytes p = p.fits
passes_earlier (suc zero) bytes p =
    record { fits = p.3.fits; rest = drop 13 bytes; text = p.3.text ∙ ap (λ t. start_text ++ t) (sym (ap (drop 13) p.3.text)) }
passes_earlier (suc (suc zero)) bytes p = (p.0, fields_text p.2, p.1, p.4)
passes_earlier (suc (suc (suc zero))) bytes p = (p.0, end_text p.1, p.2, p.3, p.5)
passes_earlier (suc (suc (suc (suc zero)))) bytes p =
    (p.1.length_digits, p.1.sum_digits, p.0, p.1.body, p.1.sum_is, cut_of_frame bytes p.0 p.1)
passes_earlier (suc (suc (suc (suc (suc n))))) bytes p = p

passes_down : (k n : ℕ) (bytes : List ℕ) → Passes (named (k + n)) bytes → Passes (named n) bytes
passes_down zero n bytes p = subst (λ m. Passes (named m) bytes) (zero-add n) p
passes_down (suc k) n bytes p =
    let next : suc k + n ≡ suc (k + n) = omega arith in
    passes_down k n bytes (passes_earlier (k + n) bytes (subst (λ m. Passes (named m) bytes) next p))

passes_below : (fault other : Garbled) (bytes : List ℕ) → rank fault ≤ rank other → Passes other bytes → Passes fault bytes
passes_below fault other bytes below p =
    let long : rank other ≡ rank other - rank fault + rank fault = omega arith in
    let up : Passes (named (rank other - rank fault + rank fault)) bytes =
    subst (λ m. Passes (named m) bytes) long (subst (λ f. Passes f bytes) (sym (named-rank other)) p) in
    subst (λ f. Passes f bytes) (named-rank fault) (passes_down (rank other - rank fault) (rank fault) bytes up)

-- a frame passes all checks
pub frame_passes : (bytes : List ℕ) (fields : List Field) → IsFrame bytes fields → (fault : Garbled) → Passes fault bytes
frame_passes bytes fields is fault = passes_below fault Sum bytes (go fault) (fields, is) where
  go : (fault : Garbled) → rank fault ≤ 5
  go TooLong = omega arith
  go Start = omega arith
  go Length = omega arith
  go NoField = omega arith
  go End = omega arith
  go Sum = omega arith

-- bytes that pass the checks before one pass each of those
passes_before : (fault other : Garbled) (bytes : List ℕ) → rank fault < rank other → PassesBefore other bytes → Passes fault bytes
passes_before fault TooLong bytes below p = absurd (omega arith)
passes_before fault Start bytes below p = passes_below fault TooLong bytes (omega arith) p
passes_before fault Length bytes below p = passes_below fault Start bytes (omega arith) p
passes_before fault NoField bytes below p = passes_below fault Length bytes (omega arith) p
passes_before fault End bytes below p = passes_below fault NoField bytes (omega arith) p
passes_before fault Sum bytes below p = passes_below fault End bytes (omega arith) p

-- a fault is one
pub fault_once : (bytes : List ℕ) (fault other : Garbled) → IsFault fault bytes → IsFault other bytes → fault ≡ other
fault_once bytes fault other is that =
    elim (cases_lt (rank fault) (rank other)) [
      | inl below ↦ absurd (is.1 (passes_before fault other bytes below that.0))
      | inr above ↦ elim (cases_lt (rank other) (rank fault)) [
        | inl below ↦ absurd (that.1 (passes_before other fault bytes below is.0))
        | inr same ↦ sym (named-rank fault) ∙ (let level : rank fault ≡ rank other = omega arith in ap named level ∙ named-rank other)
      ]
    ]

-- the answer of a reader says which bytes are frames, and which fault others have
pub reads_frame : (bytes : List ℕ) (r : Result (List Field) Garbled) → MatchResult r (λ fields. IsFrame bytes fields) (λ fault. IsFault fault bytes)
    → (fields : List Field) → IsFrame bytes fields → r ≡ Ok fields
reads_frame bytes (Ok found) is fields frame = ap (λ fs. Ok fs) (frame_once bytes found fields is frame)
reads_frame bytes (Err fault) is fields frame = absurd (is.1 (frame_passes bytes fields frame fault))

pub is_frame_read : (bytes : List ℕ) (r : Result (List Field) Garbled) → MatchResult r (λ fields. IsFrame bytes fields) (λ fault. IsFault fault bytes)
    → (fields : List Field) → r ≡ Ok fields → IsFrame bytes fields
is_frame_read bytes r is fields same = subst (λ s. MatchResult s (λ fs. IsFrame bytes fs) (λ fault. IsFault fault bytes)) same is

pub reads_fault : (bytes : List ℕ) (r : Result (List Field) Garbled) → MatchResult r (λ fields. IsFrame bytes fields) (λ fault. IsFault fault bytes)
    → (fault : Garbled) → IsFault fault bytes → r ≡ Err fault
reads_fault bytes (Ok found) is fault that = absurd (that.1 (frame_passes bytes found is fault))
reads_fault bytes (Err found) is fault that = ap (λ f. Err f) (fault_once bytes found fault is that)

pub is_fault_read : (bytes : List ℕ) (r : Result (List Field) Garbled) → MatchResult r (λ fields. IsFrame bytes fields) (λ fault. IsFault fault bytes)
    → (fault : Garbled) → r ≡ Err fault → IsFault fault bytes
is_fault_read bytes r is fault same = subst (λ s. MatchResult s (λ fs. IsFrame bytes fs) (λ f. IsFault f bytes)) same is
