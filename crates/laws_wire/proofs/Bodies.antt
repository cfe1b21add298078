-- A body without a fault is lawful fields, one behind the other, and the session reads these fields.
use Rattle.std.proofs.Common.{◌≡◌, ◌≢◌, ◌≤◌, ◌<◌, ◌+◌, ◌-◌, ◌==◌, ℕ, zero, suc, Bool, true, false, not, ◌&&◌, ◌||◌, nat_le, List, [], ◌∷◌, ◌++◌, length, take, drop, get_or, Option, Some, None, if◌then◌else◌}
use Rattle.std.proofs.Common.{refl, sym, ◌∙◌, ap, subst, arith, inl, inr, append_assoc, length-append, length-drop, length-take}
use Rattle.std.specs.Prelude.{decimal}
use Rattle.std.specs.List.{AllByRecursion, position_or_len}
use Rattle.std.proofs.lemmas.Bool.{cases_Bool, false≢true}
use Rattle.std.proofs.lemmas.Bool.Decides.{nat_tests}
use Rattle.std.proofs.lemmas.List.{drop-drop, get_or-drop}
use Rattle.fix_fields.specs.Frame.{Field, IsTag, IsValue, IsField, AreBody, field_text, fields_text, times_of}
use Rattle.fix_fields.proofs.PlaceLemmas.{IsFree, place_of, cut_at, free_before}
use Rattle.fix_sessions.specs.Fields.{front_piece, behind_piece, piece_field, onto_fields, fields_within, fields_in}
use Rattle.fix_sessions.specs.Flaws.{added_len, added_within, field_flaw, flaw_from, form_flaw, is_added, is_closed, is_outside, piece_flaw, piece_flaw_as}
use Rattle.laws_wire.proofs.Choices.{neither_told, not_told, one_side, other_side}
use Rattle.laws_wire.proofs.Pieces.{piece_is}

-- what a resend adds to fields, in bytes
abbrev pub added_sum : List Field → ℕ
added_sum [] = 0
added_sum (field ∷ fields) = (if is_added field.0 then length (field_text field) else 0) + added_sum fields

-- a text is lawful fields, and is read as these
pub record IsRead (text : List ℕ) : Type 0 where
  pub fields : List Field
  pub lawful : AllByRecursion IsField fields
  pub is : text ≡ fields_text fields
  pub same : fields_in text ≡ fields
  pub added : added_within (length text) text ≡ added_sum fields

-- Steps of the session's reading.

behind_is_shorter : (byte : ℕ) (bytes : List ℕ) → length (behind_piece (byte ∷ bytes)) ≤ length bytes
behind_is_shorter byte bytes =
    omega (arith, length-drop (position_or_len (λ b. b == 1) (byte ∷ bytes) + 1) (byte ∷ bytes))

enough_fields : (a b : ℕ) (body : List ℕ) → length body ≤ a → length body ≤ b → fields_within a body ≡ fields_within b body
enough_fields zero zero body in_a in_b = refl
enough_fields zero (suc b) [] in_a in_b = refl
enough_fields zero (suc b) (x ∷ xs) in_a in_b = absurd (omega (arith, in_a))
enough_fields (suc a) zero [] in_a in_b = refl
enough_fields (suc a) zero (x ∷ xs) in_a in_b = absurd (omega (arith, in_b))
enough_fields (suc a) (suc b) [] in_a in_b = refl
enough_fields (suc a) (suc b) (x ∷ xs) in_a in_b =
    let shorter = behind_is_shorter x xs in
    ap (λ fields. onto_fields (piece_field (front_piece (x ∷ xs))) fields)
    (enough_fields a b (behind_piece (x ∷ xs)) (omega (arith, in_a, shorter)) (omega (arith, in_b, shorter)))

fields_step : (text : List ℕ) → 0 < length text
    → fields_in text ≡ onto_fields (piece_field (front_piece text)) (fields_in (behind_piece text))
unfolding fields_in
fields_step [] some = absurd (omega (arith, some))
fields_step (x ∷ xs) some =
    let behind = behind_piece (x ∷ xs) in
    let shorter = behind_is_shorter x xs in
    ap (λ fields. onto_fields (piece_field (front_piece (x ∷ xs))) fields)
    (enough_fields (length xs) (length behind) behind shorter (omega arith))

enough_added : (a b : ℕ) (body : List ℕ) → length body ≤ a → length body ≤ b → added_within a body ≡ added_within b body
enough_added zero zero body in_a in_b = refl
enough_added zero (suc b) [] in_a in_b = refl
enough_added zero (suc b) (x ∷ xs) in_a in_b = absurd (omega (arith, in_a))
enough_added (suc a) zero [] in_a in_b = refl
enough_added (suc a) zero (x ∷ xs) in_a in_b = absurd (omega (arith, in_b))
enough_added (suc a) (suc b) [] in_a in_b = refl
enough_added (suc a) (suc b) (x ∷ xs) in_a in_b =
    let rest = x ∷ xs in
    let shorter = behind_is_shorter x xs in
    ap (λ n. added_len (length rest - length (behind_piece rest)) (piece_field (front_piece rest)) + n)
    (enough_added a b (behind_piece rest) (omega (arith, in_a, shorter)) (omega (arith, in_b, shorter)))

added_step : (rest : List ℕ) → 0 < length rest
    → added_within (length rest) rest
    ≡ added_len (length rest - length (behind_piece rest)) (piece_field (front_piece rest))
    + added_within (length (behind_piece rest)) (behind_piece rest)
added_step [] some = absurd (omega (arith, some))
added_step (x ∷ xs) some =
    let rest = x ∷ xs in
    let shorter = behind_is_shorter x xs in
    ap (λ n. added_len (length rest - length (behind_piece rest)) (piece_field (front_piece rest)) + n)
    (enough_added (length xs) (length (behind_piece rest)) (behind_piece rest) shorter (omega arith))

-- Where an SOH stands.

soh_inside : (xs : List ℕ) (k : ℕ) → k < length xs → get_or xs k 0 ≡ 1 → place_of 1 xs < length xs
soh_inside [] k less is = absurd (omega (arith, less))
soh_inside (x ∷ xs) zero less is =
    let here : (x == 1) ≡ true = grind (arith, nat_tests) in
    rw here (omega arith)
soh_inside (x ∷ xs) (suc k) less is =
    elim (cases_Bool (x == 1)) [
      | inl here ↦ rw here (omega arith)
      | inr other ↦ (let rest = soh_inside xs k (omega (arith, less)) is in rw other (omega (arith, rest)))
    ]

free_drop : (n : ℕ) (xs : List ℕ) → IsFree 1 xs → IsFree 1 (drop n xs)
free_drop zero xs free = free
free_drop (suc n) [] free = tt
free_drop (suc n) (x ∷ xs) free = free_drop n xs free.1

-- A field without a fault is lawful.

-- what holds of a field in which nothing is found behind these bytes
record IsUnflawed (before : List ℕ) (field : Field) : Type 0 where
  pub first : ((length before == 0) && not (field.0 == 35)) ≡ false
  pub inside : is_outside field.0 ≡ false

unflawed : (before : List ℕ) (field : Field) → field_flaw before field ≡ None → IsUnflawed before field
unflawed before field h =
    let one = not_told ((length before == 0) && not (field.0 == 35)) _ _ h in
    let two = not_told (is_outside field.0) _ _ one.1 in
    record { first = one.0; inside = two.0 }

tag_of : (tag : ℕ) → 0 < tag → tag < 1000000000 → is_outside tag ≡ false → IsTag tag
tag_of tag some small inside = (some, small, apart 8 refl, apart 9 refl, apart 10 refl) where
  apart : (n : ℕ) → is_outside n ≡ true → tag ≢ n
  apart n out = λ e. false≢true (sym inside ∙ ap is_outside e ∙ out)

-- The first piece of a text.

-- a field, and what stands behind it
record IsCut (before text : List ℕ) : Type 0 where
  pub field : Field
  pub lawful : IsField field
  pub found : piece_field (front_piece text) ≡ Some field
  pub is : text ≡ field_text field ++ behind_piece text
  pub long : length (front_piece text) ≡ place_of 1 text
  pub unflawed : IsUnflawed before field

first_cut : (before text : List ℕ) → place_of 1 text < length text → piece_flaw before (front_piece text) ≡ None
    → IsCut before text
first_cut before text inside none = go (piece_field (front_piece text)) refl none where
  go : (found : Option Field) → piece_field (front_piece text) ≡ found → piece_flaw_as before (front_piece text) found ≡ None
      → IsCut before text
  go None is h = cc
  go (Some field) is h =
      let piece = front_piece text in
      let p = piece_is piece field is in
      let u = unflawed before field h in
      let free : IsFree 1 piece = free_before 1 text in
      let value : IsValue field.1 = subst (λ v. IsFree 1 v) (sym p.value.1) (free_drop p.value.0 piece free) in
      let cut : text ≡ piece ++ (1 ∷ behind_piece text) = cut_at 1 text inside in
      record {
        field = field;
        lawful = (tag_of field.0 p.some p.small u.inside, value);
        found = is;
        is = cut ∙ ap (λ t. t ++ (1 ∷ behind_piece text)) p.text ∙ joined field (behind_piece text);
        long = omega (arith, length-take (place_of 1 text) text, inside);
        unflawed = u;
      }
    where
      joined : (field : Field) (rest : List ℕ)
          → (decimal field.0 ++ (61 ∷ field.1)) ++ (1 ∷ rest) ≡ field_text field ++ rest
      joined field rest = simp (append_assoc)

-- All of them.

at_end : (text : List ℕ) → length text ≤ 0 → IsRead text
unfolding fields_in
at_end [] none = record { fields = []; lawful = tt; is = refl; same = refl; added = refl }
at_end (x ∷ xs) none = absurd (omega (arith, none))

text_len : (field : Field) → 0 < length (field_text field)
text_len field = omega (arith, length-append (decimal field.0) (61 ∷ (field.1 ++ (1 ∷ []))))

onto_read : (before text : List ℕ) → 0 < length text → IsCut before text → IsRead (behind_piece text) → IsRead text
onto_read before text some cut rest =
    let behind = behind_piece text in
    let whole = ap length cut.is ∙ length-append (field_text cut.field) behind in
    let took : length text - length behind ≡ length (field_text cut.field) = omega (arith, whole) in
    record {
      fields = cut.field ∷ rest.fields;
      lawful = (cut.lawful, rest.lawful);
      is = cut.is ∙ ap (λ t. field_text cut.field ++ t) rest.is;
      same = fields_step text some ∙ ap (λ f. onto_fields f (fields_in behind)) cut.found
          ∙ ap (λ fs. cut.field ∷ fs) rest.same;
      added = added_step text some
          ∙ ap (λ f. added_len (length text - length behind) f + added_within (length behind) behind) cut.found
          ∙ ap (λ n. added_len n (Some cut.field) + added_within (length behind) behind) took
          ∙ ap (λ n. added_len (length (field_text cut.field)) (Some cut.field) + n) rest.added;
    }

-- a body whose last byte is SOH
abbrev Ends : List ℕ → Type 0
Ends body = get_or body (length body - 1) 0 ≡ 1

ends_inside : (body : List ℕ) (at : ℕ) → Ends body → at < length body → place_of 1 (drop at body) < length (drop at body)
ends_inside body at ends within =
    let long = length-drop at body in
    let k = length body - 1 - at in
    let there : at + k ≡ length body - 1 = omega (arith, within) in
    soh_inside (drop at body) k (omega (arith, long, within))
    (get_or-drop at body k 0 ∙ ap (λ n. get_or body n 0) there ∙ ends)

pub read_from : (most : ℕ) (body : List ℕ) (at : ℕ) → Ends body → length body ≤ most + at → flaw_from most body at ≡ None
    → IsRead (drop at body)
read_from zero body at ends in_most none = at_end (drop at body) (omega (arith, in_most, length-drop at body))
read_from (suc most) body at ends in_most none =
    let rest = drop at body in
    let next = at + (length (front_piece rest) + 1) in
    elim (cases_Bool (nat_le (length body) at)) [
      | inl over ↦
          (let past : length body ≤ at = grind (arith, nat_tests) in
          at_end rest (omega (arith, past, length-drop at body)))
      | inr within ↦
          (let here : at < length body = grind (arith, nat_tests) in
          let inside = ends_inside body at ends here in
          let both = neither_told (piece_flaw (take at body) (front_piece rest)) (flaw_from most body next)
          (other_side (nat_le (length body) at) _ none within) in
          let cut = first_cut (take at body) rest inside both.0 in
          let long = cut.long in
          let behind : drop next body ≡ behind_piece rest =
          sym (drop-drop (length (front_piece rest) + 1) at body) ∙ ap (λ n. drop (n + 1) rest) long in
          let later = read_from most body next ends (omega (arith, in_most)) both.1 in
          onto_read (take at body) rest (omega (arith, length-drop at body, here)) cut (subst IsRead behind later))
    ]

-- A body.

pub record IsBody (body : List ℕ) : Type 0 where
  pub read : IsRead body
  pub are : AreBody read.fields

or_right : (a b : Bool) → a || b ≡ true → a ≡ false → b ≡ true
or_right true b h none = cc
or_right false b h none = h

not_and : (b : Bool) → (true && not b) ≡ false → b ≡ true
not_and true h = refl
not_and false h = cc

-- an empty body has fails MsgType (35)
empty_none : (times_of 35 (fields_in []) == 0) ≡ true
unfolding fields_in
empty_none = refl

pub body_of_none : (body : List ℕ) → form_flaw body ≡ None → IsBody body
body_of_none [] h =
    let one = not_told (times_of 35 (fields_in []) == 0) _ _ h in
    absurd (false≢true (sym one.0 ∙ empty_none))
body_of_none (x ∷ xs) h =
    let body = x ∷ xs in
    let one = not_told (times_of 35 (fields_in body) == 0) _ _ h in
    let two = neither_told (flaw_from (length body) body 0) _ one.1 in
    let closed = one_side (is_closed body) _ two.1 in
    let some : (length body == 0) ≡ false = grind (arith, nat_tests) in
    let last = or_right (length body == 0) _ closed some in
    let ends : Ends body = grind (arith, nat_tests) in
    let read = read_from (length body) body 0 ends (omega arith) two.0 in
    let inside = ends_inside body 0 ends (omega arith) in
    let more : nat_le (length body) 0 ≡ false = grind (arith, nat_tests) in
    let piece = neither_told (piece_flaw [] (front_piece body)) _ (other_side (nat_le (length body) 0) _ two.0 more) in
    let cut = first_cut [] body inside piece.0 in
    let first : read.fields ≡ cut.field ∷ fields_in (behind_piece body) =
    sym read.same ∙ fields_step body (omega arith) ∙ ap (λ f. onto_fields f (fields_in (behind_piece body))) cut.found in
    let type_is : cut.field.0 ≡ 35 = (let t = not_and (cut.field.0 == 35) cut.unflawed.first in grind (arith, nat_tests)) in
    record {
      read = read;
      are = subst AreBody (sym first) (type_is, subst (λ fs. AllByRecursion IsField fs) first read.lawful);
    }
