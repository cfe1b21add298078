use Rattle.std.proofs.Common.{◌≡◌, ◌+◌, ◌-◌, take, drop, sym, ap, ◌∙◌, arith, inl, inr}
use Rattle.std.proofs.lemmas.Bool.{false≢true}
use Rattle.std.proofs.lemmas.Bool.Decides.{Decides-eqb}
use Rattle.std.proofs.lemmas.Slice.Eq.{starts_is}
use Rattle.fix_fields.specs.Frame.{start_text}
use Rattle.fix_fields.proofs.FoundLemmas.{counted_in, found_departs, found_digits, found_no_length}
use Rattle.fix_fields.proofs.FoundLemmas.{head_at, found_too_long, found_begun, found_no_end}
use Rattle.fix_fields.proofs.FoundLemmas.{found_whole}
use Rattle.fix_fields.proofs.fronts.front_of.Goals as goal
use Rattle.fix_fields.proofs.fronts.front_of.Goals.{then-digits-eq0-via-then-digits-eq0}
use Rattle.fix_fields.proofs.fronts.front_of.Goals.{then-digits-eq0-via-else-digits-eq0+then-rest-digits-ne-SOH}

pub returns-then-not-starts_with : goal.returns-then-not-starts_with
returns-then-not-starts_with c =
    let bytes = c.args.bytes.now in
    let starts = starts_is Decides-eqb bytes start_text c.starts_with.result c.starts_with.ensures.value in
    found_departs bytes (omega arith) (λ more is. false≢true (sym c.if-not-starts_with.true ∙ starts.1 more is))

pub returns-then-digits-rest : goal.returns-then-digits-rest
returns-then-digits-rest c =
    let are = counted_in c.args.bytes.now _ _ c.starts_with.ensures.value c.if-not-starts_with.false c.leading_number-body_len.ensures.count in
    found_digits c.args.bytes.now _ _ are c.if-digits-rest.true

pub returns-then-digits-eq0 : goal.returns-then-digits-eq0
returns-then-digits-eq0 c =
    let are = counted_in c.args.bytes.now _ _ c.starts_with.ensures.value c.if-not-starts_with.false c.leading_number-body_len.ensures.count in
    found_no_length c.args.bytes.now _ _ are (omega arith) (elim c.then-digits-eq0.branch [
      | then-digits-eq0-via-then-digits-eq0 w ↦ inl w.if-digits-eq0.true
      | then-digits-eq0-via-else-digits-eq0+then-rest-digits-ne-SOH w ↦ inr w.if-rest-digits-ne-SOH.true
    ])

pub returns-then-end-gt-MOST_FRAME : goal.returns-then-end-gt-MOST_FRAME
returns-then-end-gt-MOST_FRAME c =
    let are = counted_in c.args.bytes.now _ _ c.starts_with.ensures.value c.if-not-starts_with.false c.leading_number-body_len.ensures.count in
    let head = head_at c.args.bytes.now _ _ _ are (omega arith) (omega arith) c.if-rest-digits-ne-SOH.false c.leading_number-body_len.ensures.value in
    found_too_long c.args.bytes.now _ _ _ _ head c.if-end-gt-MOST_FRAME.true

pub returns-then-bytes-end : goal.returns-then-bytes-end
returns-then-bytes-end c =
    let are = counted_in c.args.bytes.now _ _ c.starts_with.ensures.value c.if-not-starts_with.false c.leading_number-body_len.ensures.count in
    let head = head_at c.args.bytes.now _ _ _ are (omega arith) (omega arith) c.if-rest-digits-ne-SOH.false c.leading_number-body_len.ensures.value in
    found_begun c.args.bytes.now _ _ _ _ head c.if-end-gt-MOST_FRAME.false c.if-bytes-end.true

pub returns-in_default : goal.returns-in_default
returns-in_default c =
    let bytes = c.args.bytes.now in
    let end = 13 + c.leading_number-body_len.result.1 + 1 + c.leading_number-body_len.result.0 in
    let are = counted_in bytes _ _ c.starts_with.ensures.value c.if-not-starts_with.false c.leading_number-body_len.ensures.count in
    let head = head_at bytes _ _ _ are (omega arith) (omega arith) c.if-rest-digits-ne-SOH.false c.leading_number-body_len.ensures.value in
    let seven : end + 7 - end ≡ 7 = omega arith in
    found_no_end bytes _ _ _ _ _ head c.if-end-gt-MOST_FRAME.false c.if-bytes-end.false (ap (λ k. take k (drop end bytes)) seven) c.in_default.ensures

pub returns : goal.returns
returns c =
    let bytes = c.args.bytes.now in
    let end = 13 + c.leading_number-body_len.result.1 + 1 + c.leading_number-body_len.result.0 in
    let are = counted_in bytes _ _ c.starts_with.ensures.value c.if-not-starts_with.false c.leading_number-body_len.ensures.count in
    let head = head_at bytes _ _ _ are (omega arith) (omega arith) c.if-rest-digits-ne-SOH.false c.leading_number-body_len.ensures.value in
    let seven : end + 7 - end ≡ 7 = omega arith in
    found_whole bytes _ _ _ c.in-Some.ensures.0 _ _ head c.if-end-gt-MOST_FRAME.false c.if-bytes-end.false (ap (λ k. take k (drop end bytes)) seven) c.in-Some.ensures.1
