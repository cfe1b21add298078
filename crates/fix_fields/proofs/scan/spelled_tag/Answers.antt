use Rattle.std.proofs.Common.{◌∙◌, arith, inl, inr}
use Rattle.fix_fields.proofs.SpelledLemmas.{HasTag, tag_stands, spelled_at}
use Rattle.fix_fields.proofs.scan.spelled_tag.Goals as goal

pub returns-then-digits-eq0 : goal.returns-then-digits-eq0
returns-then-digits-eq0 c = λ tag spells.
    let p = tag_stands c.args.text.now c.leading_number-tag.result.1 tag c.leading_number-tag.ensures.count spells in
    absurd (elim c.then-digits-eq0.either [ inl none ↦ omega arith | inr all ↦ omega arith ])

pub returns-then-text-eq48 : goal.returns-then-text-eq48
returns-then-text-eq48 c = λ tag spells.
    let p = tag_stands c.args.text.now c.leading_number-tag.result.1 tag c.leading_number-tag.ensures.count spells in
    absurd (grind arith)

pub returns-then-tag-eq8 : goal.returns-then-tag-eq8
returns-then-tag-eq8 c = λ tag spells.
    let p = tag_stands c.args.text.now c.leading_number-tag.result.1 tag c.leading_number-tag.ensures.count spells in
    let v = c.leading_number-tag.ensures.value in
    absurd (grind arith)

pub returns : goal.returns
returns c =
    let text = c.args.text.now in
    let n = c.leading_number-tag.result.1 in
    let v = c.leading_number-tag.ensures.value in
    let parts : HasTag text n = record {
      some = omega arith;
      more = omega arith;
      first = c.if-text-eq48.false;
      equals = c.if-text-digits-ne61.false;
      not_8 = λ e. c.if-tag-eq8.false (v ∙ e);
      not_9 = λ e. c.if-tag-eq9.false (v ∙ e);
      not_10 = λ e. c.if-tag-eq10.false (v ∙ e);
    } in
    rw v (spelled_at text n c.leading_number-tag.ensures.count c.requires parts)
