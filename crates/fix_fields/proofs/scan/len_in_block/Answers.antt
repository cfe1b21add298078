use Rattle.std.proofs.Common.{eqb, not, sym, ap, ◌∙◌, arith, w8}
use lib.Count.{count_trailing_zeros}
use Rattle.std.proofs.lemmas.List.Sums.{prefix_len-le-length}
use Rattle.std.proofs.lemmas.Simd.{length-chunk, bitmask_splat, leading_from_mask_l, trailing_mask_l}
use Rattle.std.specs.Simd.Lanes.{chunk}
use Rattle.fix_fields.proofs.scan.len_in_block.Goals as goal

pub returns-then-found-eq0-clause-place : goal.returns-then-found-eq0-clause-place
returns-then-found-eq0-clause-place c =
    let block = chunk c.args.at 16 c.args.text.now in
    let long = length-chunk c.args.at 16 c.args.text.now c.requires in
    let found = bitmask_splat w8 eqb block 16 1 long (omega arith) in
    sym (leading_from_mask_l (λ x. eqb x 1) block (sym found ∙ c.if-found-eq0.true) ∙ long)

pub returns-clause-place : goal.returns-clause-place
returns-clause-place c =
    let block = chunk c.args.at 16 c.args.text.now in
    let long = length-chunk c.args.at 16 c.args.text.now c.requires in
    let found = bitmask_splat w8 eqb block 16 1 long (omega arith) in
    ap (count_trailing_zeros 64) found
    ∙ trailing_mask_l (λ x. eqb x 1) 64 block (omega arith) (omega arith)

pub returns-clause-few : goal.returns-clause-few
returns-clause-few c =
    let block = chunk c.args.at 16 c.args.text.now in
    let long = length-chunk c.args.at 16 c.args.text.now c.requires in
    omega (arith, returns-clause-place c, prefix_len-le-length (λ x. not (eqb x 1)) block)
