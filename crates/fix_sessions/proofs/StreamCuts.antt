-- What is found in a stream, and what is passed over.
use Rattle.std.proofs.Common.{◌≡◌, ◌≤◌, ◌<◌, ◌+◌, ◌-◌, ◌%◌, ◌&&◌, ◌⊎◌, ℕ, zero, suc, true, nat_le, List, [], ◌∷◌, ◌++◌, length, take, drop, sum, codes, inl, inr}
use Rattle.std.proofs.Common.{refl, sym, ◌∙◌, ap, arith, append_assoc, length-append, length-drop}
use Rattle.std.proofs.lemmas.Bool.{cases_Bool, and_parts}
use Rattle.std.proofs.lemmas.Bool.Decides.{nat_tests}
use Rattle.std.proofs.lemmas.List.{drop-drop, drop_at}
use Rattle.std.proofs.lemmas.Slice.Eq.{bytes_eq-Decides}
use Rattle.std.specs.List.{list_all}
use Rattle.std.specs.Char.{is_ascii_digit}
use Rattle.std.specs.Str.{bytes_eq}
use Rattle.fix_fields.specs.Frame.{end_text, three_digits}
use Rattle.fix_sessions.specs.Cuts.{found_at, front_of, next_message, is_end, behind as passed_by}
use Rattle.fix_sessions.specs.Streams.{begun, BeginNothing, IsMessage, IsSpoilt, IsWithinSpoilt}
use Rattle.fix_sessions.specs.declared.cuts.Found.{Found}
use Rattle.fix_sessions.specs.declared.cuts.What.{What}
use Rattle.fix_sessions.specs.declared.cuts.What.TheVariants as what
use Rattle.fix_sessions.specs.declared.cuts.Front.{Front}
use Rattle.fix_sessions.specs.declared.cuts.Front.TheVariants as front
use Rattle.fix_sessions.proofs.StreamFinds.{whole_is_message, wrong_len}
use Rattle.fix_sessions.proofs.StreamFronts.{begun_more, front_right, front_wrong, sum_closes}
use Rattle.fix_sessions.proofs.StreamLemmas.{next_begun, next_garbled, next_long, next_nothing, next_whole, next_wrong}

-- a message at the front
pub message_there : (m behind : List ℕ) → IsMessage m → front_of (m ++ behind) ≡ front.Whole (length m)
message_there m behind is =
    let v = is.version in
    let d = is.digits in
    let b = is.body in
    let closing = end_text (three_digits (sum (begun v d b) % 256)) in
    let closes : is_end closing ≡ true = sum_closes (sum (begun v d b) % 256) (omega arith) in
    let text : m ++ behind ≡ begun v d (b ++ (closing ++ behind)) =
    ap (λ t. t ++ behind) is.text ∙ append_assoc (begun v d b) closing behind ∙ begun_more v d b (closing ++ behind) in
    let len : length m ≡ length (begun v d b) + 7 = ap length is.text ∙ length-append (begun v d b) closing in
    ap front_of text ∙ front_right v d b closing behind is.parts refl closes refl ∙ ap front.Whole (sym len)

some_message : (m behind : List ℕ) → IsMessage m → 0 < length (m ++ behind)
some_message m behind is =
    let len : length m ≡ length (begun is.version is.digits is.body) + 7 =
    ap length is.text ∙ length-append (begun is.version is.digits is.body) (end_text (three_digits (sum (begun is.version is.digits is.body) % 256))) in
    omega (arith, len, length-append m behind)

pub found_first : (m behind : List ℕ) → IsMessage m → next_message (m ++ behind) ≡ found_at 0 (what.Message (length m))
found_first m behind is = next_whole (m ++ behind) (length m) (some_message m behind is) (message_there m behind is)

-- Behind bytes that begin nothing, and behind a message with a wrong sum.

pub found_behind : (before m behind : List ℕ) → IsMessage m → BeginNothing before (m ++ behind)
    → next_message (before ++ (m ++ behind)) ≡ found_at (length before) (what.Message (length m))
found_behind [] m behind is none = found_first m behind is
found_behind (x ∷ xs) m behind is none =
    next_garbled (x ∷ (xs ++ (m ++ behind))) (omega arith) none.0
    ∙ ap (passed_by 1) (found_behind xs m behind is none.1)
    ∙ ap (λ k. found_at k (what.Message (length m))) (omega arith)

ends_in_one : (text : List ℕ) → is_end text ≡ true → length text ≡ 7
ends_in_one text closes =
    let parts = and_parts (bytes_eq (take 3 text) (codes "10=") && list_all is_ascii_digit (take 3 (drop 3 text))) (bytes_eq (drop 6 text) (1 ∷ [])) closes in
    let one : length (drop 6 text) ≡ 1 = ap length ((bytes_eq-Decides (drop 6 text) (1 ∷ [])).0 parts.1) in
    omega (arith, one, length-drop 6 text)

pub spoilt_passed : (m behind : List ℕ) → IsSpoilt m
    → next_message (m ++ behind) ≡ passed_by (length m) (next_message behind)
spoilt_passed m behind is =
    let v = is.version in
    let d = is.digits in
    let b = is.body in
    let seven = ends_in_one is.closing is.closes in
    let text : m ++ behind ≡ begun v d (b ++ (is.closing ++ behind)) =
    ap (λ t. t ++ behind) is.text ∙ append_assoc (begun v d b) is.closing behind ∙ begun_more v d b (is.closing ++ behind) in
    let len : length m ≡ length (begun v d b) + 7 =
    ap length is.text ∙ length-append (begun v d b) is.closing ∙ ap (λ n. length (begun v d b) + n) seven in
    let front_is : front_of (m ++ behind) ≡ front.Wrong (length m) =
    ap front_of text ∙ front_wrong v d b is.closing behind is.parts seven is.closes is.wrong ∙ ap front.Wrong (sym len) in
    let some : 0 < length (m ++ behind) = omega (arith, len, length-append m behind) in
    next_wrong (m ++ behind) (length m) some (omega (arith, len)) front_is
    ∙ ap (λ t. passed_by (length m) (next_message t)) (drop_at m behind (length m) refl)

-- Step by step.

what_number : What → ℕ
what_number what.Nothing = 0
what_number (what.Message len) = 1
what_number what.TooLong = 2

abbrev message_len : What → ℕ
message_len (what.Message len) = len
message_len other = 0

nothing_not : (len : ℕ) → what.Nothing ≡ what.Message len → ⊥
unfolding what_number
nothing_not len h = (let never : 0 ≡ 1 = ap what_number h in absurd (omega (arith, never)))

long_not : (len : ℕ) → what.TooLong ≡ what.Message len → ⊥
unfolding what_number
long_not len h = (let never : 2 ≡ 1 = ap what_number h in absurd (omega (arith, never)))

-- what is found is whole, in bytes of at most this length
abbrev IsWholeTo : ℕ → Type 0
IsWholeTo n = (bytes : List ℕ) (skip len : ℕ) → length bytes ≤ n
    → next_message bytes ≡ found_at skip (what.Message len) → front_of (drop skip bytes) ≡ front.Whole len

found_later : (n x : ℕ) (xs : List ℕ) (skip len k : ℕ) → IsWholeTo n → length (x ∷ xs) ≤ suc n
    → next_message (x ∷ xs) ≡ found_at skip (what.Message len) → 1 ≤ k
    → next_message (x ∷ xs) ≡ passed_by k (next_message (drop k (x ∷ xs)))
    → front_of (drop skip (x ∷ xs)) ≡ front.Whole len
found_later n x xs skip len k ih few h some is =
    let rest = next_message (drop k (x ∷ xs)) in
    let both : passed_by k rest ≡ found_at skip (what.Message len) = sym is ∙ h in
    let where_is : k + rest.skip ≡ skip = ap (λ (f : Found). f.skip) both in
    let what_is : rest.what ≡ what.Message len = ap (λ (f : Found). f.what) both in
    let shorter : length (drop k (x ∷ xs)) ≤ n = omega (arith, few, some, length-drop k (x ∷ xs)) in
    let found = ih (drop k (x ∷ xs)) rest.skip len shorter (ap (λ w. found_at rest.skip w) what_is) in
    ap front_of (ap (λ s. drop s (x ∷ xs)) (sym where_is) ∙ sym (drop-drop rest.skip k (x ∷ xs))) ∙ found

found_by_front : (n x : ℕ) (xs : List ℕ) (skip len : ℕ) → IsWholeTo n → length (x ∷ xs) ≤ suc n
    → next_message (x ∷ xs) ≡ found_at skip (what.Message len) → (f : Front) → front_of (x ∷ xs) ≡ f
    → front_of (drop skip (x ∷ xs)) ≡ front.Whole len
found_by_front n x xs skip len ih few h front.Begun is =
    absurd (nothing_not len (ap (λ (f : Found). f.what) (sym (next_begun (x ∷ xs) (omega arith) is) ∙ h)))
found_by_front n x xs skip len ih few h front.Garbled is =
    found_later n x xs skip len 1 ih few h (omega arith) (next_garbled (x ∷ xs) (omega arith) is)
found_by_front n x xs skip len ih few h (front.Wrong k) is =
    let some : 1 ≤ k = (let w = wrong_len (x ∷ xs) k is in omega (arith, w)) in
    found_later n x xs skip len k ih few h some (next_wrong (x ∷ xs) k (omega arith) some is)
found_by_front n x xs skip len ih few h (front.Whole k) is =
    let both : found_at 0 (what.Message k) ≡ found_at skip (what.Message len) = sym (next_whole (x ∷ xs) k (omega arith) is) ∙ h in
    let here : 0 ≡ skip = ap (λ (f : Found). f.skip) both in
    let same : k ≡ len = ap (λ (f : Found). message_len f.what) both in
    ap (λ s. front_of (drop s (x ∷ xs))) (sym here) ∙ is ∙ ap front.Whole same
found_by_front n x xs skip len ih few h front.TooLong is =
    absurd (long_not len (ap (λ (f : Found). f.what) (sym (next_long (x ∷ xs) (omega arith) is) ∙ h)))

found_none : (skip len : ℕ) → next_message [] ≡ found_at skip (what.Message len) → front_of (drop skip []) ≡ front.Whole len
found_none skip len h = absurd (nothing_not len (ap (λ (f : Found). f.what) (sym (next_nothing [] (omega arith)) ∙ h)))

pub found_whole : (n : ℕ) (bytes : List ℕ) (skip len : ℕ) → length bytes ≤ n
    → next_message bytes ≡ found_at skip (what.Message len) → front_of (drop skip bytes) ≡ front.Whole len
found_whole zero [] skip len few h = found_none skip len h
found_whole zero (x ∷ xs) skip len few h = absurd (omega (arith, few))
found_whole (suc n) [] skip len few h = found_none skip len h
found_whole (suc n) (x ∷ xs) skip len few h =
    found_by_front n x xs skip len (found_whole n) few h (front_of (x ∷ xs)) refl

pub found_is_message : (bytes : List ℕ) (skip len : ℕ) → next_message bytes ≡ found_at skip (what.Message len)
    → IsMessage (take len (drop skip bytes)) × (skip + len ≤ length bytes)
found_is_message bytes skip len h =
    let is = whole_is_message (drop skip bytes) len (found_whole (length bytes) bytes skip len (omega arith) h) in
    (is.0, omega (arith, is.1.0, is.1.1, length-drop skip bytes))

-- A message that stands somewhere is not passed over, but within one with a wrong sum.

nearer : (bytes : List ℕ) (k place : ℕ) → k ≤ place → IsWithinSpoilt (drop k bytes) (place - k) → IsWithinSpoilt bytes place
nearer bytes k place less is = record {
  start = k + is.start;
  len = is.len;
  wrong = ap front_of (sym (drop-drop is.start k bytes)) ∙ is.wrong;
  behind_start = (let b = is.behind_start in omega (arith, b, less));
  before_end = (let e = is.before_end in omega (arith, e, less));
}

abbrev Passed : List ℕ → ℕ → Type 0
Passed bytes place = ((next_message bytes).skip ≤ place) ⊎ IsWithinSpoilt bytes place

abbrev IsPassedTo : ℕ → Type 0
IsPassedTo n = (bytes : List ℕ) (place len : ℕ) → length bytes ≤ n
    → front_of (drop place bytes) ≡ front.Whole len → Passed bytes place

at_once : (bytes : List ℕ) (place : ℕ) (w : What) → next_message bytes ≡ found_at 0 w → Passed bytes place
at_once bytes place w is =
    let here : (next_message bytes).skip ≡ 0 = ap (λ (f : Found). f.skip) is in
    inl (omega (arith, here))

passed_later : (n x : ℕ) (xs : List ℕ) (place len k : ℕ) → IsPassedTo n → length (x ∷ xs) ≤ suc n
    → front_of (drop place (x ∷ xs)) ≡ front.Whole len → 1 ≤ k → k ≤ place
    → next_message (x ∷ xs) ≡ passed_by k (next_message (drop k (x ∷ xs))) → Passed (x ∷ xs) place
passed_later n x xs place len k ih few there some less is =
    let rest = drop k (x ∷ xs) in
    let shorter : length rest ≤ n = omega (arith, few, some, length-drop k (x ∷ xs)) in
    let whole : k + (place - k) ≡ place = omega (arith, less) in
    let stands : front_of (drop (place - k) rest) ≡ front.Whole len =
    ap front_of (drop-drop (place - k) k (x ∷ xs)) ∙ ap (λ s. front_of (drop s (x ∷ xs))) whole ∙ there in
    let skip : (next_message (x ∷ xs)).skip ≡ k + (next_message rest).skip = ap (λ (f : Found). f.skip) is in
    elim (ih rest (place - k) len shorter stands) [
      | inl before ↦ inl (omega (arith, before, skip, less))
      | inr within ↦ inr (nearer (x ∷ xs) k place less within)
    ]

passed_over_wrong : (n x : ℕ) (xs : List ℕ) (place len k : ℕ) → IsPassedTo n → length (x ∷ xs) ≤ suc n
    → front_of (drop place (x ∷ xs)) ≡ front.Whole len → 1 ≤ place → front_of (x ∷ xs) ≡ front.Wrong k → Passed (x ∷ xs) place
passed_over_wrong n x xs place len k ih few there later is =
    let some : 1 ≤ k = (let w = wrong_len (x ∷ xs) k is in omega (arith, w)) in
    elim (cases_Bool (nat_le k place)) [
      | inl less ↦
          passed_later n x xs place len k ih few there some (grind (arith, nat_tests)) (next_wrong (x ∷ xs) k (omega arith) some is)
      | inr more ↦
          (let within : place < k = grind (arith, nat_tests) in
          inr (record { start = 0; len = k; wrong = is; behind_start = omega (arith, later); before_end = omega (arith, within) }))
    ]

passed_by_front : (n x : ℕ) (xs : List ℕ) (place len : ℕ) → IsPassedTo n → length (x ∷ xs) ≤ suc n
    → front_of (drop place (x ∷ xs)) ≡ front.Whole len → 1 ≤ place → (f : Front) → front_of (x ∷ xs) ≡ f → Passed (x ∷ xs) place
passed_by_front n x xs place len ih few there later front.Begun is =
    at_once (x ∷ xs) place what.Nothing (next_begun (x ∷ xs) (omega arith) is)
passed_by_front n x xs place len ih few there later front.Garbled is =
    passed_later n x xs place len 1 ih few there (omega arith) later (next_garbled (x ∷ xs) (omega arith) is)
passed_by_front n x xs place len ih few there later (front.Wrong k) is =
    passed_over_wrong n x xs place len k ih few there later is
passed_by_front n x xs place len ih few there later (front.Whole k) is =
    at_once (x ∷ xs) place (what.Message k) (next_whole (x ∷ xs) k (omega arith) is)
passed_by_front n x xs place len ih few there later front.TooLong is =
    at_once (x ∷ xs) place what.TooLong (next_long (x ∷ xs) (omega arith) is)

pub not_passed : (n : ℕ) (bytes : List ℕ) (place len : ℕ) → length bytes ≤ n
    → front_of (drop place bytes) ≡ front.Whole len → Passed bytes place
not_passed zero [] place len few there = at_once [] place what.Nothing (next_nothing [] (omega arith))
not_passed zero (x ∷ xs) place len few there = absurd (omega (arith, few))
not_passed (suc n) [] place len few there = at_once [] place what.Nothing (next_nothing [] (omega arith))
not_passed (suc n) (x ∷ xs) zero len few there = at_once (x ∷ xs) 0 (what.Message len) (next_whole (x ∷ xs) len (omega arith) there)
not_passed (suc n) (x ∷ xs) (suc place) len few there =
    passed_by_front n x xs (suc place) len (not_passed n) few there (omega arith) (front_of (x ∷ xs)) refl

pub message_not_passed : (before m behind : List ℕ) → IsMessage m
    → ((next_message (before ++ (m ++ behind))).skip ≤ length before) ⊎ IsWithinSpoilt (before ++ (m ++ behind)) (length before)
message_not_passed before m behind is =
    let bytes = before ++ (m ++ behind) in
    not_passed (length bytes) bytes (length before) (length m) (omega arith)
    (ap front_of (drop_at before (m ++ behind) (length before) refl) ∙ message_there m behind is)
