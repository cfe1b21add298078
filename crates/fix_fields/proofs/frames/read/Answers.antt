use Rattle.std.proofs.Common.{◌≡◌, true, false, sym, ap, ◌∙◌, subst, rules, sum, ◌%◌}
use Rattle.std.proofs.lemmas.Bool.{false≢true}
use Rattle.fix_fields.specs.Frame.{IsFrame}
use Rattle.fix_fields.proofs.FieldsText.{text_of_fields, AreBody-lawful, is_body_text}
use Rattle.fix_fields.proofs.CutLemmas.{cut_once, body_fits, front_of_cut}
use Rattle.fix_fields.proofs.FrameParts.{frame_of_parts, cut_of_fields, cut_of_end, sum_of_frame}
use Rattle.fix_fields.proofs.frames.read.Goals as goal

pub returns-then-not-is_body : goal.returns-then-not-is_body
returns-then-not-is_body c =
    let ok = c.in_ok-body.ensures.ok in
    let no : c.is_body.result ≡ false = search rules in (
      (ok.0, c.in_ok-body.body.now, c.in_ok-body.tail.now, ok.1),
      λ p. (let same = cut_once c.args.bytes.now _ _ _ _ _ _ ok.1 p.4 in
          absurd (false≢true (sym no ∙ c.is_body.ensures.1 (record { fields = p.2; body = p.3; is = same.body_same })))),
    )

pub returns-in_default : goal.returns-in_default
returns-in_default c =
    let ok = c.in_ok-body.ensures.ok in
    let yes-body : c.is_body.result ≡ true = search rules in
    let holds = c.is_body.ensures.0 yes-body in (
      (ok.0, c.in_ok-body.tail.now, holds.fields, holds.body, cut_of_fields _ _ _ _ holds.fields ok.1 holds.is),
      λ p. (let same = cut_once c.args.bytes.now _ _ _ _ _ _ ok.1 p.5 in
          absurd (c.in_default.ensures p.1 (record { lawful = p.4; is = same.tail_same }))),
    )

pub returns-then-sum-checksum : goal.returns-then-sum-checksum
returns-then-sum-checksum c =
    let ok = c.in_ok-body.ensures.ok in
    let end = c.in-Some.ensures in
    let yes-body : c.is_body.result ≡ true = search rules in
    let holds = c.is_body.ensures.0 yes-body in (
      (ok.0, end.0, holds.fields, holds.body, end.1.lawful, cut_of_end _ _ _ _ end.0 (cut_of_fields _ _ _ _ holds.fields ok.1 holds.is) end.1),
      λ p. (let value = sum_of_frame c.args.bytes.now _ _ _ end.0 p.0 ok.1 end.1 p.1 in
          absurd (c.if-sum-checksum.true (sym end.2 ∙ (value ∙ sym (c.checksum.ensures ∙ ap (λ t. sum t % 256) (front_of_cut c.args.bytes.now _ _ _ ok.1)))))),
    )

pub invariant_of-result : goal.invariant_of-result
invariant_of-result c =
    let ok = c.in_ok-body.ensures.ok in
    let yes-body : c.is_body.result ≡ true = search rules in
    is_body_text c.in_ok-body.body.now (body_fits _ _ _ _ ok.1) (c.is_body.ensures.0 yes-body)

pub returns : goal.returns
returns c =
    let ok = c.in_ok-body.ensures.ok in
    let end = c.in-Some.ensures in
    let yes-body : c.is_body.result ≡ true = search rules in
    let holds = c.is_body.ensures.0 yes-body in
    let frame : IsFrame c.args.bytes.now holds.fields = frame_of_parts c.args.bytes.now _ _ _ end.0 holds.fields ok.1 holds.body holds.is end.1
    (end.2 ∙ (c.if-sum-checksum.false ∙ (c.checksum.ensures ∙ ap (λ t. sum t % 256) (front_of_cut c.args.bytes.now _ _ _ ok.1)))) in
    let same = text_of_fields c.in_ok-body.body.now holds.fields (AreBody-lawful holds.fields holds.body) holds.is in
    subst (λ fields. IsFrame c.args.bytes.now fields) (sym same) frame
