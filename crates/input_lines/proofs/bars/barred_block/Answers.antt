use Rattle.std.proofs.Common.{◌≡◌, eqb, map, replicate, sym, subst, w8}
use Rattle.std.proofs.lemmas.Simd.{tops_compared}
use Rattle.std.specs.Simd.Lanes.{sel_l}
use Rattle.input_lines.specs.SayLine.{with_bar}
use Rattle.input_lines.proofs.BarLemmas.{barred_lanes}
use Rattle.input_lines.proofs.bars.barred_block.Goals as goal

pub returns : goal.returns
returns c =
    let v = c.args.block in
    subst (λ ms. sel_l ms (replicate 16 124) v ≡ map with_bar v) (sym (tops_compared w8 eqb v (replicate 16 1)))
    (barred_lanes v c.requires)
