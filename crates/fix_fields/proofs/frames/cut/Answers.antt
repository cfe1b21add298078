use Rattle.std.proofs.Common.{◌+◌, ◌-◌, ◌++◌, length, take, drop, sym, ap, ◌∙◌, arith, inl, inr}
use Rattle.std.proofs.lemmas.List.{take_rest}
use Rattle.fix_fields.specs.Frame.{start_text}
use Rattle.fix_fields.proofs.CutLemmas.{HasLength, length_of_cut, cut_of_length, seven_of_cut}
use Rattle.fix_fields.proofs.CutLemmas.{starts_of, begins_of}
use Rattle.fix_fields.proofs.frames.cut.Goals as goal

pub returns-then-digits-eq0-clause-err : goal.returns-then-digits-eq0-clause-err
returns-then-digits-eq0-clause-err c =
    let bytes = c.args.bytes.now in (
      starts_of bytes (omega arith) c.starts_with.result c.starts_with.ensures.value c.if-not-starts_with.false,
      λ cut. (let has = length_of_cut bytes cut.0 cut.1 cut.2 _ c.leading_number-len.result.1 (take_rest bytes 13) c.leading_number-len.ensures.count cut.3 in
          absurd (elim c.then-digits-eq0.either [ inl none ↦ omega arith | inr all ↦ omega arith ])),
    )

pub returns-then-rest-digits-ne-SOH-clause-err : goal.returns-then-rest-digits-ne-SOH-clause-err
returns-then-rest-digits-ne-SOH-clause-err c =
    let bytes = c.args.bytes.now in (
      starts_of bytes (omega arith) c.starts_with.result c.starts_with.ensures.value c.if-not-starts_with.false,
      λ cut. (let has = length_of_cut bytes cut.0 cut.1 cut.2 _ c.leading_number-len.result.1 (take_rest bytes 13) c.leading_number-len.ensures.count cut.3 in
          absurd (c.if-rest-digits-ne-SOH.true has.ended)),
    )

pub returns-then-behind-len-clause-err : goal.returns-then-behind-len-clause-err
returns-then-behind-len-clause-err c =
    let bytes = c.args.bytes.now in
    let rest = take (length bytes - 13) (drop 13 bytes) in
    let n = c.leading_number-len.result.1 in
    let v = c.leading_number-len.ensures.value in (
      starts_of bytes (omega arith) c.starts_with.result c.starts_with.ensures.value c.if-not-starts_with.false,
      λ cut. (let has = length_of_cut bytes cut.0 cut.1 cut.2 rest n (take_rest bytes 13) c.leading_number-len.ensures.count cut.3 in
          absurd (c.if-behind-len.true (ap length (take_rest rest (n + 1)) ∙ (has.seven ∙ ap (λ k. k + 7) (sym v))))),
    )

pub returns-clause-ok : goal.returns-clause-ok
returns-clause-ok c =
    let bytes = c.args.bytes.now in
    let rest = take (length bytes - 13) (drop 13 bytes) in
    let n = c.leading_number-len.result.1 in
    let v = c.leading_number-len.ensures.value in
    let begins = begins_of bytes c.starts_with.result c.starts_with.ensures.value c.if-not-starts_with.false in
    let has : HasLength rest n = record {
      some = omega arith;
      more = omega arith;
      ended = c.if-rest-digits-ne-SOH.false;
      seven = sym (ap length (take_rest rest (n + 1))) ∙ (c.if-behind-len.false ∙ ap (λ k. k + 7) v);
    } in
    let cut = cut_of_length bytes rest n (begins ∙ ap (λ t. start_text ++ t) (sym (take_rest bytes 13))) (omega arith)
    (c.leading_number-len.ensures.count) has in
    (take n rest, rw (c.split_at.ensures.front, c.split_at.ensures.back, take_rest rest (n + 1), v) cut)

pub returns-clause-seven : goal.returns-clause-seven
returns-clause-seven c = (returns-clause-ok c).1.seven

pub returns-clause-long : goal.returns-clause-long
returns-clause-long c =
    let cut = returns-clause-ok c in seven_of_cut c.args.bytes.now cut.0 c.split_at.result.0.now c.split_at.result.1.now cut.1
