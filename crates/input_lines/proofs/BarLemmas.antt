-- Bars in the place of SOH: in words without one, and put into bytes one by one and 16 at a time.
use Rattle.std.proofs.Common.{◌≡◌, ℕ, ◌+◌, ◌-◌, ◌<◌, ◌≤◌, true, Bool, List, [], ◌∷◌, ◌++◌, length}
use Rattle.std.proofs.Common.{take, drop, map, get_or, set, sym, ap, ◌∙◌, refl, arith, drop-drop}
use Rattle.std.proofs.Common.{cond, eqb, replicate}
use Rattle.std.proofs.lemmas.List.{take_more_set, drop-set-lt, take_all, map_more, get_or-drop}
use Rattle.std.proofs.lemmas.List.{take-append-drop, length-take-le, length-map, map-append}
use Rattle.std.proofs.lemmas.List.{append-nil, drop_all, length-drop, take_rest}
use Rattle.std.proofs.lemmas.Slice.{drop-append-drop}
use Rattle.std.proofs.lemmas.Simd.{take_more_put_chunk, put_chunk_is, length-chunk, zip2_splat}
use Rattle.std.proofs.lemmas.Simd.{splat_is_map}
use Rattle.std.proofs.Math.Seq.{drop-append-add}
use borrow.Rule.Slice.PartMut.{put_mid}
use Rattle.std.specs.Simd.Lanes.{chunk, put_chunk, sel_l, zip2}
use Rattle.input_lines.specs.BarLaws.{barred_value}
use Rattle.input_lines.specs.SayLine.{is_plain_value, with_bar}
use Rattle.input_lines.proofs.TagLemmas.{value_is_plain}
use Rattle.fix_fields.proofs.SumLemmas.{split_at}

pub barred_plain : (part : List ℕ) → is_plain_value part ≡ true → map with_bar part ≡ part
barred_plain part plain = barred_value part (value_is_plain part plain)

-- bytes of which those in front of a place have their bars already
pub record IsBarred (was : List ℕ) (i : ℕ) (now : List ℕ) : Type 0 where
  pub front : take i now ≡ map with_bar (take i was)
  pub behind : drop i now ≡ drop i was

pub barred_more : (was now : List ℕ) (i : ℕ) → i < length now → length now ≡ length was → IsBarred was i now
    → IsBarred was (i + 1) (set now i (with_bar (get_or now i 0)))
barred_more was now i inside long barred =
    let here : i + 0 ≡ i = omega arith in
    let same : get_or now i 0 ≡ get_or was i 0 =
    sym (get_or-drop i now 0 0 ∙ ap (λ k. get_or now k 0) here)
    ∙ ap (λ t. get_or t 0 0) barred.behind
    ∙ get_or-drop i was 0 0 ∙ ap (λ k. get_or was k 0) here in
    record {
      front = take_more_set now i (with_bar (get_or now i 0)) inside
          ∙ ap (λ t. t ++ with_bar (get_or now i 0) ∷ []) barred.front
          ∙ ap (λ c. map with_bar (take i was) ++ with_bar c ∷ []) same
          ∙ sym (map_more with_bar was i 0 (omega arith));
      behind = drop-set-lt (i + 1) now i (with_bar (get_or now i 0)) (omega arith)
          ∙ sym (drop-drop 1 i now) ∙ ap (drop 1) barred.behind ∙ drop-drop 1 i was;
    }

pub barred_all : (was now : List ℕ) (i : ℕ) → length now ≤ i → length now ≡ length was → IsBarred was i now → now ≡ map with_bar was
barred_all was now i end long barred =
    sym (take_all i now end) ∙ barred.front ∙ ap (map with_bar) (take_all i was (omega arith))

pub barred_none : (was : List ℕ) → IsBarred was 0 was
barred_none was = record { front = refl; behind = refl }

behind_block : (xs ys : List ℕ) (i : ℕ) → length ys ≡ 16 → i + 16 ≤ length xs → drop (i + 16) (put_chunk i xs ys) ≡ drop 16 (drop i xs)
behind_block xs ys i long fit =
    let rest = ys ++ drop (length ys) (drop i xs) in
    ap (drop (i + 16)) (put_chunk_is i xs ys (omega (arith, long)))
    ∙ ap (λ k. drop (k + 16) (take i xs ++ rest)) (sym (length-take-le i xs (omega arith)))
    ∙ drop-append-add (take i xs) rest 16
    ∙ drop-append-drop (length ys) (drop i xs) ys 16 (omega (arith, long)) refl

pub length-barred : (xs ys : List ℕ) (i : ℕ) → i + 16 ≤ length xs → ys ≡ map with_bar (chunk i 16 xs) → length ys ≡ 16
length-barred xs ys i fit is = ap length is ∙ length-map (chunk i 16 xs) with_bar ∙ length-chunk i 16 xs fit

pub block_more : (was now ys : List ℕ) (i : ℕ) → i + 16 ≤ length now → length ys ≡ 16 → ys ≡ map with_bar (chunk i 16 now) → IsBarred was i now
    → IsBarred was (i + 16) (put_chunk i now ys)
block_more was now ys i fit long is barred = record {
  front = take_more_put_chunk i now ys (i + 16) (omega (arith, long)) fit
      ∙ ap (λ t. t ++ ys) barred.front
      ∙ ap (λ t. map with_bar (take i was) ++ t) (is ∙ ap (λ t. map with_bar (take 16 t)) barred.behind)
      ∙ sym (map-append with_bar (take i was) (take 16 (drop i was)))
      ∙ ap (map with_bar) (sym (split_at was i));
  behind = behind_block now ys i long fit ∙ ap (drop 16) barred.behind ∙ drop-drop 16 i was;
}

-- what is done and what is done behind it
barred_both : (was now : List ℕ) (i : ℕ) → take i now ≡ map with_bar (take i was) → drop i now ≡ drop i was
    → take i now ++ map with_bar (drop i now) ≡ map with_bar was
barred_both was now i front behind =
    ap (λ t. t ++ map with_bar (drop i now)) front
    ∙ ap (λ t. map with_bar (take i was) ++ map with_bar t) behind
    ∙ sym (map-append with_bar (take i was) (drop i was))
    ∙ ap (map with_bar) (take-append-drop i was)

pub barred_put : (was now ys : List ℕ) (i : ℕ) → take i now ≡ map with_bar (take i was) → drop i now ≡ drop i was
    → ys ≡ map with_bar (take (length now - i) (drop i now)) → put_mid i (length now - i) now ys ≡ map with_bar was
barred_put was now ys i front behind is =
    ap (λ t. take i now ++ (ys ++ t)) (drop_all (length now - i) (drop i now) (omega (arith, length-drop i now)))
    ∙ ap (λ t. take i now ++ t) (append-nil ys ∙ is ∙ ap (map with_bar) (take_rest now i))
    ∙ barred_both was now i front behind

-- and of the lanes of a vector
chosen : (p : ℕ → Bool) (y : ℕ) (xs : List ℕ) → sel_l (map p xs) (map (λ _. y) xs) xs ≡ map (λ x. cond (p x) y x) xs
chosen p y [] = refl
chosen p y (x ∷ xs) = ap (λ t. cond (p x) y x ∷ t) (chosen p y xs)

pub barred_lanes : (xs : List ℕ) → length xs ≡ 16 → sel_l (zip2 eqb xs (replicate 16 1)) (replicate 16 124) xs ≡ map with_bar xs
barred_lanes xs sixteen =
    ap (λ ms. sel_l ms (replicate 16 124) xs) (zip2_splat eqb xs 16 1 sixteen)
    ∙ ap (λ t. sel_l (map (λ x. eqb x 1) xs) t xs) (splat_is_map xs 16 124 sixteen)
    ∙ chosen (λ x. eqb x 1) 124 xs
