use Rattle.std.proofs.Common.{◌≡◌, ◌-◌, length, take, drop, sym, ap, ◌∙◌}
use Rattle.std.proofs.lemmas.List.{take_rest}
use Rattle.std.proofs.lemmas.Bool.Decides.{Decides-eqb}
use Rattle.std.proofs.lemmas.Slice.Eq.{starts_is}
use Rattle.std.specs.Char.{is_ascii_digit}
use Rattle.std.specs.List.{prefix_len}
use Rattle.std.specs.Str.Parse.{digits_value}
use Rattle.fix_fields.proofs.CutLemmas.{end_parts, end_of_parts, end_begins}
use Rattle.fix_fields.proofs.frames.sum_of_end.Goals as goal
use Rattle.fix_fields.proofs.frames.sum_of_end.Goals.{then-digits-ne3-via-then-digits-ne3}
use Rattle.fix_fields.proofs.frames.sum_of_end.Goals.{then-digits-ne3-via-else-digits-ne3+then-tail-ne-SOH}

pub returns-then-digits-ne3 : goal.returns-then-digits-ne3
returns-then-digits-ne3 c = λ digits end.
    let tail = c.args.tail.now in
    let parts = end_parts tail digits _ c.leading_number-sum.result.1 (take_rest tail 3) c.leading_number-sum.ensures.count end in
    absurd (elim c.then-digits-ne3.branch [
      | then-digits-ne3-via-then-digits-ne3 w ↦ w.if-digits-ne3.true parts.0
      | then-digits-ne3-via-else-digits-ne3+then-tail-ne-SOH w ↦ w.if-tail-ne-SOH.true parts.1
    ])

pub returns : goal.returns
returns c =
    let tail = c.args.tail.now in
    let three = c.if-digits-ne3.false in
    let rest = take_rest tail 3 in
    let starts = (starts_is Decides-eqb tail end_begins c.starts_with.result c.starts_with.ensures.value).0 c.if-not-starts_with.false in
    let count : prefix_len is_ascii_digit (take 3 (drop 3 tail)) ≡ 3 =
    sym (ap (λ t. prefix_len is_ascii_digit (take 3 t)) rest) ∙ (sym c.leading_number-sum.ensures.count ∙ three) in (
      take 3 (drop 3 tail),
      end_of_parts tail c.requires starts count c.if-tail-ne-SOH.false,
      sym (c.leading_number-sum.ensures.value ∙ (ap (λ k. digits_value 10 (take k (take (length tail - 3) (drop 3 tail)))) three ∙ ap (λ t. digits_value 10 (take 3 t)) rest)),
    )
