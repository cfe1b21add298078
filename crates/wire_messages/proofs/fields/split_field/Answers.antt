use Rattle.std.proofs.Common.{◌≡◌, ◌+◌, ◌<◌, length, drop, ap, ◌∙◌, arith, inl, inr, refl}
use Rattle.std.proofs.lemmas.List.{take_rest}
use Rattle.fix_fields.proofs.FieldLemmas.{HasParts, parts_of, field_at}
use Rattle.fix_fields.proofs.PlaceLemmas.{place_of}
use Rattle.wire_messages.proofs.fields.split_field.Goals as goal

pub returns-then-digits-eq0 : goal.returns-then-digits-eq0
returns-then-digits-eq0 c = λ begins.
    let p = parts_of c.args.text.now c.leading_number-tag.result.1 _ c.leading_number-tag.ensures.count refl begins in
    absurd (elim c.then-digits-eq0.either [ inl none ↦ omega arith | inr all ↦ omega arith ])

pub returns-then-text-eq48 : goal.returns-then-text-eq48
returns-then-text-eq48 c = λ begins.
    let p = parts_of c.args.text.now c.leading_number-tag.result.1 _ c.leading_number-tag.ensures.count refl begins in
    absurd (grind arith)

pub returns-then-tag-eq8 : goal.returns-then-tag-eq8
returns-then-tag-eq8 c = λ begins.
    let p = parts_of c.args.text.now c.leading_number-tag.result.1 _ c.leading_number-tag.ensures.count refl begins in
    let v = c.leading_number-tag.ensures.value in
    absurd (grind arith)

pub returns-then-len-behind : goal.returns-then-len-behind
returns-then-len-behind c = λ begins.
    let text = c.args.text.now in
    let n = c.leading_number-tag.result.1 in
    let behind = take_rest text (n + 1) in
    let place : c.value_len-len.result ≡ place_of 1 (drop (n + 1) text) = c.value_len-len.ensures.place ∙ ap (λ xs. place_of 1 xs) behind in
    let p = parts_of text n c.value_len-len.result c.leading_number-tag.ensures.count place begins in
    absurd (omega (arith, ap length behind))

pub returns : goal.returns
returns c =
    let text = c.args.text.now in
    let n = c.leading_number-tag.result.1 in
    let behind = take_rest text (n + 1) in
    let m = c.value_len-len.result in
    let v = c.leading_number-tag.ensures.value in
    let place : m ≡ place_of 1 (drop (n + 1) text) = c.value_len-len.ensures.place ∙ ap (λ xs. place_of 1 xs) behind in
    let ended : m < length (drop (n + 1) text) = omega (arith, ap length behind) in
    let parts : HasParts text n m = record {
      some = omega arith;
      more = omega arith;
      first = c.if-text-eq48.false;
      equals = c.if-text-digits-ne61.false;
      not_8 = λ e. c.if-tag-eq8.false (v ∙ e);
      not_9 = λ e. c.if-tag-eq9.false (v ∙ e);
      not_10 = λ e. c.if-tag-eq10.false (v ∙ e);
      ended = ended;
    } in
    let at = field_at text n m c.leading_number-tag.ensures.count place parts in
    rw (behind, take_rest (drop (n + 1) text) (m + 1), v) (at.lawful, at.is)
