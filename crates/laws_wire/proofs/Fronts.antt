-- A whole message of FIXT.1.1: where its parts stand, for the session and for the translation.
use Rattle.std.proofs.Common.{◌≡◌, ◌≤◌, ◌<◌, ◌+◌, ◌-◌, ◌==◌, ℕ, Bool, true, false, not, ◌&&◌, nat_le, nat_lt, List, [], ◌∷◌, ◌++◌, length, take, drop, codes, if◌then◌else◌}
use Rattle.std.proofs.Common.{refl, sym, ◌∙◌, ap, arith, inl, inr, append_assoc, length-append, length-drop, length-take}
use Rattle.std.specs.List.{list_all}
use Rattle.std.specs.Char.{is_ascii_digit}
use Rattle.std.specs.Str.Parse.{digits_value}
use Rattle.std.proofs.lemmas.Bool.{cases_Bool, false≢true, and_parts}
use Rattle.std.proofs.lemmas.Bool.Decides.{nat_tests}
use Rattle.std.proofs.lemmas.List.{drop_at, take_all, take-append-drop}
use Rattle.std.proofs.lemmas.Slice.Eq.{bytes_eq-Decides}
use Rattle.fix_fields.specs.Frame.{start_text}
use Rattle.fix_fields.specs.Frame as frame
use Rattle.fix_fields.proofs.PlaceLemmas.{IsFree, place_of, place_behind, cut_at, free_before}
use Rattle.fix_sessions.specs.Cuts.{agrees, has_soh, near_version, version_of, behind_version, near_length, length_text, behind_length, body_of, is_version, are_digits, whole_len, is_end, end_of, has_sum, sum_of, front_of, is_whole}
use Rattle.fix_sessions.specs.Fields.{front_piece}
use Rattle.fix_sessions.specs.Heard.{is_fixt}
use Rattle.fix_sessions.specs.declared.cuts.Front.{Front}
use Rattle.fix_sessions.specs.declared.cuts.Front.TheVariants as front
use Rattle.fix_sessions.specs.declared.cuts.TheConstants.{MOST_MESSAGE}

-- Choices whose first side is fails whole message.

past : (b : Bool) (x y : Front) (len : ℕ) → (x ≡ front.Whole len → ⊥) → (if b then x else y) ≡ front.Whole len
    → (b ≡ false) × (y ≡ front.Whole len)
past true x y len other h = absurd (other h)
past false x y len other h = (refl, h)

not_begun : (len : ℕ) → front.Begun ≡ front.Whole len → ⊥
not_begun len h = cc

not_garbled : (len : ℕ) → front.Garbled ≡ front.Whole len → ⊥
not_garbled len h = cc

not_long : (b : Bool) (len : ℕ) → (if b then front.Begun else front.TooLong) ≡ front.Whole len → ⊥
not_long true len h = cc
not_long false len h = cc

is_not : (b : Bool) → not b ≡ false → b ≡ true
is_not true h = refl
is_not false h = cc

-- What a whole message passed.
pub record IsPassed (bytes : List ℕ) (len : ℕ) : Type 0 where
  pub begins : agrees bytes (codes "8=") ≡ true
  pub some : nat_le (length bytes) 2 ≡ false
  pub version : is_version (version_of bytes) ≡ true
  pub version_ends : has_soh (near_version bytes) ≡ true
  pub nine : agrees (behind_version bytes) (codes "9=") ≡ true
  pub digits : are_digits (length_text bytes) ≡ true
  pub digits_end : has_soh (near_length bytes) ≡ true
  pub len_is : whole_len bytes ≡ len

whole_by : (b : Bool) (n len : ℕ) → (if b then front.Whole n else front.Wrong n) ≡ front.Whole len → n ≡ len
whole_by true n len h = cc
whole_by false n len h = cc

pub passed : (bytes : List ℕ) (len : ℕ) → front_of bytes ≡ front.Whole len → IsPassed bytes len
unfolding front_of
passed bytes len h =
    let a = past (not (agrees bytes (codes "8="))) _ _ len (not_garbled len) h in
    let b = past (nat_le (length bytes) 2) _ _ len (not_begun len) a.1 in
    let c = past (not (is_version (version_of bytes))) _ _ len (not_garbled len) b.1 in
    let d = past (not (has_soh (near_version bytes))) _ _ len (not_begun len) c.1 in
    let e = past (not (agrees (behind_version bytes) (codes "9=") && are_digits (length_text bytes))) _ _ len (not_garbled len) d.1 in
    let f = past (not (has_soh (near_length bytes))) _ _ len (not_begun len) e.1 in
    let g = past (length (length_text bytes) == 0) _ _ len (not_garbled len) f.1 in
    let i = past (nat_lt MOST_MESSAGE (whole_len bytes)) _ _ len (not_long (nat_lt (length bytes) MOST_MESSAGE) len) g.1 in
    let j = past (nat_lt 6 (length (length_text bytes))) _ _ len (not_garbled len) i.1 in
    let k = past (nat_lt (length bytes) (whole_len bytes)) _ _ len (not_begun len) j.1 in
    let l = past (not (is_end (end_of bytes))) _ _ len (not_garbled len) k.1 in
    let both = and_parts (agrees (behind_version bytes) (codes "9=")) (are_digits (length_text bytes)) (is_not _ e.0) in
    record {
      begins = is_not _ a.0;
      some = b.0;
      version = is_not _ c.0;
      version_ends = is_not _ d.0;
      nine = both.0;
      digits = both.1;
      digits_end = is_not _ f.0;
      len_is = whole_by (has_sum (end_of bytes) (sum_of bytes)) (whole_len bytes) len l.1;
    }

-- one message, and nothing more
pub alone : (bytes : List ℕ) → is_whole (front_of bytes) bytes ≡ true → IsPassed bytes (length bytes)
alone bytes h = go (front_of bytes) refl h where
  go : (f : Front) → front_of bytes ≡ f → is_whole f bytes ≡ true → IsPassed bytes (length bytes)
  go front.Begun is h = cc
  go front.Garbled is h = cc
  go (front.Wrong len) is h = cc
  go front.TooLong is h = cc
  go (front.Whole len) is h =
      let same : len ≡ length bytes = grind (arith, nat_tests) in
      passed bytes (length bytes) (is ∙ ap front.Whole same)

-- Pieces near the front of a text.

pub record IsNear (n : ℕ) (text : List ℕ) : Type 0 where
  pub behind : List ℕ
  pub is : text ≡ front_piece (take n text) ++ (1 ∷ behind)
  pub free : IsFree 1 (front_piece (take n text))

near_cut : (n : ℕ) (text : List ℕ) → has_soh (take n text) ≡ true → IsNear n text
near_cut n text h =
    let near = take n text in
    let place = place_of 1 near in
    let apart : (length (front_piece near) == length near) ≡ false = elim (cases_Bool (length (front_piece near) == length near)) [
      | inl same ↦ absurd (false≢true (sym (ap not same) ∙ h))
      | inr other ↦ other
    ] in
    let short = length-take place near in
    let inside : place < length near = grind (arith, nat_tests) in
    record {
      behind = drop (place + 1) near ++ drop n text;
      is = sym (take-append-drop n text) ∙ ap (λ t. t ++ drop n text) (cut_at 1 near inside)
          ∙ append_assoc (front_piece near) (1 ∷ drop (place + 1) near) (drop n text);
      free = free_before 1 near;
    }

-- what stands behind a piece and its SOH
past_piece : (t more : List ℕ) → drop (length t + 1) (t ++ (1 ∷ more)) ≡ more
past_piece t more =
    ap (λ whole. drop (length t + 1) whole) (sym (append_assoc t (1 ∷ []) more))
    ∙ drop_at (t ++ (1 ∷ [])) more (length t + 1) (length-append t (1 ∷ []))

-- a text of two bytes that stands at the front
two_there : (bytes text : List ℕ) → length text ≡ 2 → 2 ≤ length bytes → agrees bytes text ≡ true → bytes ≡ text ++ drop 2 bytes
two_there bytes text two long h =
    let same = (bytes_eq-Decides (take (length text) bytes) (take (length bytes) text)).0 h in
    let front : take 2 bytes ≡ text =
    ap (λ n. take n bytes) (sym two) ∙ same ∙ take_all (length bytes) text (omega (arith, two, long)) in
    sym (take-append-drop 2 bytes) ∙ ap (λ t. t ++ drop 2 bytes) front

-- The parts of a message of FIXT.1.1.
pub record HasParts (bytes : List ℕ) : Type 0 where
  pub begins : bytes ≡ start_text ++ drop 13 bytes
  pub body : frame.body_of bytes ≡ body_of bytes
  pub long : length bytes ≡ length (length_text bytes) + length (body_of bytes) + 21
  pub digits : list_all is_ascii_digit (length_text bytes) ≡ true
  pub value : length (body_of bytes) ≡ digits_value 10 (length_text bytes)

pub parts_of : (bytes : List ℕ) → is_whole (front_of bytes) bytes ≡ true → is_fixt (version_of bytes) ≡ true → HasParts bytes
unfolding frame.body_of
parts_of bytes whole fixt =
    let p = alone bytes whole in
    let some : 2 ≤ length bytes = (let t = p.some in grind (arith, nat_tests)) in
    let version : version_of bytes ≡ codes "FIXT.1.1" = (bytes_eq-Decides (version_of bytes) (codes "FIXT.1.1")).0 fixt in
    let eight : bytes ≡ codes "8=" ++ drop 2 bytes = two_there bytes (codes "8=") refl some p.begins in
    let first = near_cut 17 (drop 2 bytes) p.version_ends in
    let one : drop 2 bytes ≡ codes "FIXT.1.1" ++ (1 ∷ first.behind) = first.is ∙ ap (λ v. v ++ (1 ∷ first.behind)) version in
    let behind : behind_version bytes ≡ first.behind =
    ap (λ t. drop (length (version_of bytes) + 1) t) first.is ∙ past_piece (version_of bytes) first.behind in
    let second = near_cut 10 (drop 2 (behind_version bytes)) p.digits_end in
    let z = drop 2 (behind_version bytes) in
    let lt = length_text bytes in
    let z_long : length z ≡ length lt + (1 + length second.behind) = ap length second.is ∙ length-append lt (1 ∷ second.behind) ∙ omega arith in
    let nine : behind_version bytes ≡ codes "9=" ++ z =
    two_there (behind_version bytes) (codes "9=") refl (omega (arith, z_long, length-drop 2 (behind_version bytes))) p.nine in
    let all : bytes ≡ start_text ++ z =
    eight ∙ ap (λ t. codes "8=" ++ t) (one ∙ ap (λ t. codes "FIXT.1.1" ++ (1 ∷ t)) (sym behind ∙ nine)) in
    let thirteen : drop 13 bytes ≡ z = ap (drop 13) all ∙ drop_at start_text z 13 refl in
    let rest : behind_length bytes ≡ second.behind = ap (λ t. drop (length lt + 1) t) second.is ∙ past_piece lt second.behind in
    let bytes_long : length bytes ≡ 13 + length z = ap length all ∙ length-append start_text z in
    let v_long : length (version_of bytes) ≡ 8 = ap length version in
    let len = p.len_is in
    let dv = digits_value 10 lt in
    let rest_long : length second.behind ≡ dv + 7 = omega (arith, bytes_long, z_long, v_long, len) in
    let body_long : length (body_of bytes) ≡ dv = omega (arith, length-take dv (behind_length bytes), ap length rest, rest_long) in
    let place : place_of 1 (drop 13 bytes) ≡ length lt =
    ap (place_of 1) (thirteen ∙ second.is) ∙ place_behind 1 lt second.behind second.free in
    let after : drop (place_of 1 (drop 13 bytes) + 1) (drop 13 bytes) ≡ second.behind =
    ap (λ n. drop (n + 1) (drop 13 bytes)) place ∙ ap (λ t. drop (length lt + 1) t) (thirteen ∙ second.is) ∙ past_piece lt second.behind in
    let seven : length second.behind - 7 ≡ dv = omega (arith, rest_long) in
    record {
      begins = all ∙ ap (λ t. start_text ++ t) (sym thirteen);
      body = ap (λ t. take (length t - 7) t) after ∙ ap (λ n. take n second.behind) seven ∙ ap (take dv) (sym rest);
      long = omega (arith, bytes_long, z_long, rest_long, body_long);
      digits = (and_parts (nat_le (length lt) 9) (list_all is_ascii_digit lt) p.digits).1;
      value = body_long;
    }
