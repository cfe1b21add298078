-- Where the parts of a frame stand: `frame_of` finds them, and what has such parts is a frame.
use Rattle.std.proofs.Common.{◌≡◌, ℕ, ◌+◌, ◌-◌, ◌%◌, ◌<◌, ◌≤◌, true, cond, List, [], ◌∷◌, ◌++◌}
use Rattle.std.proofs.Common.{length, take, drop, sum, sym, ap, ◌∙◌, subst, refl, arith, inl, inr}
use Rattle.std.proofs.Common.{append_assoc, length-append, Option, Some, None, Result, Ok, Err}
use Rattle.std.specs.Prelude.{codes, is_some, MatchResult}
use Rattle.std.specs.Result.{result_ok}
use Rattle.std.specs.Str.Parse.{AllDigits, digits_value}
use Rattle.std.proofs.lemmas.Bool.{cases_Bool, false≢true}
use Rattle.std.proofs.lemmas.List.{take_rest}
use Rattle.std.proofs.lemmas.List.Prefix.{end_rest}
use Rattle.std.proofs.Math.Seq.{take-append_seam, drop-append-add}
use Rattle.fix_fields.specs.Frame.{Field, AreBody, IsLength, IsFrame, front_text, end_text}
use Rattle.fix_fields.specs.Frame.{fields_text, fields_of, builds, length_digits_of, body_of}
use Rattle.fix_fields.specs.Frame.{sum_digits_of, frame_of}
use Rattle.fix_fields.specs.Scan.{IsEnd, IsBodyText}
use Rattle.fix_fields.specs.Garbled.{IsCut, IsFault}
use Rattle.fix_fields.specs.declared.fault.Garbled.{Garbled}
use Rattle.fix_fields.proofs.FieldsText.{fields_of-text, AreBody-lawful, is_body_text}
use Rattle.fix_fields.proofs.PlaceLemmas.{place_of, place_behind, free_digits}
use Rattle.fix_fields.proofs.CutLemmas.{rest_of_cut, cut_once, end_once, body_fits}
use Rattle.fix_fields.proofs.FrameLemmas.{cut_of_frame, frame_passes}
use Rattle.fix_fields.proofs.FrameTests.{builds_decides}

-- where the parts of a frame stand
rest_of_frame : (bytes : List ℕ) (fields : List Field) (is : IsFrame bytes fields)
    → drop 13 bytes ≡ is.length_digits ++ (1 ∷ (fields_text fields ++ end_text is.sum_digits))
rest_of_frame bytes fields is = rest_of_cut bytes is.length_digits (fields_text fields) (end_text is.sum_digits) is.text

length_at : (digits behind : List ℕ) → AllDigits 10 digits → place_of 1 (digits ++ (1 ∷ behind)) ≡ length digits
length_at digits behind all = place_behind 1 digits behind (free_digits 1 digits (inl (omega arith)) all)

length_digits_of-frame : (bytes : List ℕ) (fields : List Field) (is : IsFrame bytes fields) → length_digits_of bytes ≡ is.length_digits
unfolding length_digits_of
length_digits_of-frame bytes fields is =
    let behind = fields_text fields ++ end_text is.sum_digits in
    rw (rest_of_frame bytes fields is, length_at is.length_digits behind is.length_is.all_digits) (take-append_seam is.length_digits (1 ∷ behind))

body_of-frame : (bytes : List ℕ) (fields : List Field) → IsFrame bytes fields → body_of bytes ≡ fields_text fields
unfolding body_of
body_of-frame bytes fields is =
    let body = fields_text fields in
    let ending = end_text is.sum_digits in
    let behind = body ++ ending in
    let three = is.sum_is.three in
    let n : length behind - 7 ≡ length body = omega (arith, length-append body ending, length-append is.sum_digits (1 ∷ [])) in
    rw (rest_of_frame bytes fields is, length_at is.length_digits behind is.length_is.all_digits, drop-append-add is.length_digits (1 ∷ behind) 1, n)
    (take-append_seam body ending)

sum_digits_of-frame : (bytes : List ℕ) (fields : List Field) (is : IsFrame bytes fields) → sum_digits_of bytes ≡ is.sum_digits
unfolding sum_digits_of
sum_digits_of-frame bytes fields is =
    let three = is.sum_is.three in
    let last = is.sum_digits ++ (1 ∷ []) in
    let front = front_text is.length_digits (fields_text fields) in
    let four : length last ≡ 4 = omega (arith, length-append is.sum_digits (1 ∷ [])) in
    let regrouped : bytes ≡ (front ++ codes "10=") ++ last = is.text ∙ sym (append_assoc front (codes "10=") last) in
    let at : drop (length bytes - 4) bytes ≡ last = subst (λ k. drop (length bytes - k) bytes ≡ last) four (end_rest bytes last (front ++ codes "10=") regrouped) in
    rw at (subst (λ k. take k last ≡ is.sum_digits) three (take-append_seam is.sum_digits (1 ∷ [])))

-- `frame_of` gives the fields of a frame, and nothing of other bytes
pub frame_of-frame : (bytes : List ℕ) (fields : List Field) → IsFrame bytes fields → frame_of bytes ≡ Some fields
unfolding frame_of
frame_of-frame bytes fields is =
    let cut : fields_of (body_of bytes) ≡ fields = ap fields_of (body_of-frame bytes fields is) ∙ fields_of-text fields (AreBody-lawful fields is.body) in
    let test : builds bytes is.length_digits is.sum_digits fields ≡ true =
    (builds_decides bytes is.length_digits is.sum_digits fields).1
    (record { body = is.body; length_is = is.length_is; sum_is = is.sum_is; sum_value = is.sum_value; text = is.text; fits = is.fits }) in
    rw (cut, length_digits_of-frame bytes fields is, sum_digits_of-frame bytes fields is, test) refl

pub is_frame_of : (bytes : List ℕ) (fields : List Field) → frame_of bytes ≡ Some fields → IsFrame bytes fields
unfolding frame_of
is_frame_of bytes fields is =
    let ld = length_digits_of bytes in
    let sd = sum_digits_of bytes in
    let cut = fields_of (body_of bytes) in
    elim (cases_Bool (builds bytes ld sd cut)) [
      | inl true-is ↦
          (let same : Some cut ≡ Some fields = subst (λ b. cond b (Some cut) None ≡ Some fields) true-is is in
          let built = (builds_decides bytes ld sd cut).0 true-is in
          let frame : IsFrame bytes cut = record {
            body = built.body;
            length_digits = ld;
            sum_digits = sd;
            length_is = built.length_is;
            sum_is = built.sum_is;
            sum_value = built.sum_value;
            text = built.text;
            fits = built.fits;
          } in
          let own : cut ≡ fields = cc in
          subst (λ fs. IsFrame bytes fs) own frame)
      | inr false-is ↦ (let none : None ≡ Some fields = subst (λ b. cond b (Some cut) None ≡ Some fields) false-is is in cc)
    ]

pub reads_exactly : (bytes : List ℕ) (r : Result (List Field) Garbled) → MatchResult r (λ fields. IsFrame bytes fields) (λ fault. IsFault fault bytes)
    → result_ok r ≡ frame_of bytes
reads_exactly bytes (Ok fields) is = sym (frame_of-frame bytes fields is)
reads_exactly bytes (Err fault) is = go (frame_of bytes) refl where
  go : (o : Option (List Field)) → frame_of bytes ≡ o → None ≡ o
  go None same = refl
  go (Some fields) same = absurd (is.1 (frame_passes bytes fields (is_frame_of bytes fields same) fault))

-- the frame of parts that were found
pub frame_of_parts : (bytes digits body tail sum_digits : List ℕ) (fields : List Field) → IsCut bytes digits body tail → AreBody fields
    → body ≡ fields_text fields → IsEnd tail sum_digits → digits_value 10 sum_digits ≡ sum (front_text digits body) % 256 → IsFrame bytes fields
frame_of_parts bytes digits body tail sum_digits fields cut lawful is end value = record {
  body = lawful;
  length_digits = digits;
  sum_digits = sum_digits;
  length_is = subst (λ t. IsLength digits (length t)) is cut.length_is;
  sum_is = end.lawful;
  sum_value = value ∙ ap (λ t. sum (front_text digits t) % 256) is;
  text = cut.text ∙ (ap (λ t. front_text digits t ++ tail) is ∙ ap (λ t. front_text digits (fields_text fields) ++ t) end.is);
  fits = cut.fits;
}

-- a cut of the body's fields and of CheckSum
pub cut_of_fields : (bytes digits body tail : List ℕ) (fields : List Field) → IsCut bytes digits body tail → body ≡ fields_text fields
    → IsCut bytes digits (fields_text fields) tail
cut_of_fields bytes digits body tail fields cut is = subst (λ t. IsCut bytes digits t tail) is cut

pub cut_of_end : (bytes digits body tail sum_digits : List ℕ) → IsCut bytes digits body tail → IsEnd tail sum_digits
    → IsCut bytes digits body (end_text sum_digits)
cut_of_end bytes digits body tail sum_digits cut end = subst (λ t. IsCut bytes digits body t) end.is cut

-- the number of a frame's CheckSum is that of the digits that were found
pub sum_of_frame : (bytes digits body tail sum_digits : List ℕ) (fields : List Field) → IsCut bytes digits body tail → IsEnd tail sum_digits
    → IsFrame bytes fields → digits_value 10 sum_digits ≡ sum (front_text digits body) % 256
sum_of_frame bytes digits body tail sum_digits fields cut end frame =
    let same = cut_once bytes _ _ _ _ _ _ cut (cut_of_frame bytes fields frame) in
    let own = end_once sum_digits frame.sum_digits (sym end.is ∙ same.tail_same) in
    rw (own, same.digits_same, same.body_same) frame.sum_value

-- where the body of bytes that are a frame stands: behind the first SOH behind BodyLength's tag
abbrev pub behind_length_of : List ℕ → List ℕ
behind_length_of bytes = drop (place_of 1 (drop 13 bytes) + 1) (drop 13 bytes)

abbrev pub body_in : List ℕ → List ℕ
body_in bytes = take (length (behind_length_of bytes) - 7) (behind_length_of bytes)

-- the same as it is cut off the front
pub behind_cut : (bytes rest : List ℕ) (n : ℕ) → rest ≡ drop 13 bytes → n ≡ place_of 1 rest
    → take (length rest - (n + 1)) (drop (n + 1) rest) ≡ behind_length_of bytes
behind_cut bytes rest n rest_is n_is =
    take_rest rest (n + 1) ∙ ap (λ k. drop (k + 1) rest) n_is ∙ ap (λ t. drop (place_of 1 t + 1) t) rest_is

pub record HasBody (bytes : List ℕ) : Type 0 where
  pub ended : place_of 1 (drop 13 bytes) < length (drop 13 bytes)
  pub seven : 7 ≤ length (behind_length_of bytes)
  pub body : IsBodyText (body_in bytes)
  pub frame : frame_of bytes ≡ Some (fields_of (body_in bytes))

body_stands : (bytes : List ℕ) (fields : List Field) → IsFrame bytes fields → HasBody bytes
unfolding body_of
body_stands bytes fields is =
    let body = fields_text fields in
    let ending = end_text is.sum_digits in
    let behind = body ++ ending in
    let three = is.sum_is.three in
    let rest = rest_of_frame bytes fields is in
    let place : place_of 1 (drop 13 bytes) ≡ length is.length_digits = rw rest (length_at is.length_digits behind is.length_is.all_digits) in
    let after : behind_length_of bytes ≡ behind =
    rw (rest, length_at is.length_digits behind is.length_is.all_digits) (drop-append-add is.length_digits (1 ∷ behind) 1) in
    let own : body_in bytes ≡ body = body_of-frame bytes fields is in
    let fits = body_fits bytes is.length_digits body ending (cut_of_frame bytes fields is) in
    record {
      ended = omega (arith, place, ap length rest, length-append is.length_digits (1 ∷ behind));
      seven = omega (arith, ap length after, length-append body ending, length-append is.sum_digits (1 ∷ []));
      body = subst IsBodyText (sym own) (is_body_text body fits (record { fields = fields; body = is.body; is = refl }));
      frame = frame_of-frame bytes fields is ∙ ap Some (sym (ap fields_of own ∙ fields_of-text fields (AreBody-lawful fields is.body)));
    }

pub has_body : (bytes : List ℕ) → is_some (frame_of bytes) ≡ true → HasBody bytes
has_body bytes some = go (frame_of bytes) refl some where
  go : (o : Option (List Field)) → frame_of bytes ≡ o → is_some o ≡ true → HasBody bytes
  go None is none = absurd (false≢true none)
  go (Some fields) is found = body_stands bytes fields (is_frame_of bytes fields is)
