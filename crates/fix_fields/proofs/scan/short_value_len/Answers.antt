use Rattle.std.proofs.Common.{ℕ, ◌==◌, sym, arith}
use Rattle.std.proofs.lemmas.Bool.Decides.{nat_tests}
use Rattle.std.proofs.lemmas.List.Sums.{position_or_len_is}
use Rattle.fix_fields.proofs.scan.short_value_len.Goals as goal

pub returns-then-text-len-eq-SOH-clause-place : goal.returns-then-text-len-eq-SOH-clause-place
returns-then-text-len-eq-SOH-clause-place c =
    let here = c.if-text-len-eq-SOH.true in
    sym (position_or_len_is (λ (b : ℕ). b == 1) c.args.text.now c.loop-len.len 0 c.loop-len.invariant.0 c.loop-len.invariant.1
    (λ _. grind (arith, nat_tests)))

pub returns-clause-place : goal.returns-clause-place
returns-clause-place c =
    sym (position_or_len_is (λ (b : ℕ). b == 1) c.args.text.now c.loop-len.len 0 c.loop-len.invariant.0 c.loop-len.invariant.1
    (λ less. absurd (omega arith)))
