use Rattle.std.proofs.Common.{◌≡◌, ◌+◌, ◌<◌, ◌≤◌, length, sym, ap, ◌∙◌, arith}
use Rattle.std.proofs.lemmas.Bool.Decides.{nat_tests}
use Rattle.std.proofs.lemmas.List.{take_rest}
use Rattle.fix_fields.proofs.BlockLemmas.{none_in_block, place_in_block}
use Rattle.fix_fields.proofs.PlaceLemmas.{place_of, place_from}
use Rattle.fix_fields.proofs.scan.value_len.Goals as goal

pub returns-then-before-ne-BLOCK-clause-place : goal.returns-then-before-ne-BLOCK-clause-place
returns-then-before-ne-BLOCK-clause-place c =
    let text = c.args.text.now in
    let before = c.len_in_block-before in
    let room : c.loop-len.len + 16 ≤ length text = grind (arith, nat_tests, c.loop-len-test.true) in
    let short : before.result < 16 = omega (arith, before.ensures.few) in
    place_in_block 1 text c.loop-len.len before.result room c.loop-len.invariant.1 before.ensures.place short

pub loop-len-preserved : goal.loop-len-preserved
loop-len-preserved c =
    let text = c.args.text.now in
    let room : c.loop-len.len + 16 ≤ length text = grind (arith, nat_tests, c.loop-len-test.true) in
    let whole : c.len_in_block-before.result ≡ 16 = omega arith in
    (room, none_in_block 1 text c.loop-len.len 16 room c.loop-len.invariant.1 (sym whole ∙ c.len_in_block-before.ensures.place))

pub returns-clause-place : goal.returns-clause-place
returns-clause-place c =
    let text = c.args.text.now in
    let n = c.loop-len.len in
    ap (λ m. n + m) (c.short_value_len.ensures.place ∙ ap (λ t. place_of 1 t) (take_rest text n))
    ∙ place_from 1 n text c.loop-len.invariant.0 c.loop-len.invariant.1
