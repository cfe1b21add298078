use Rattle.std.proofs.Common.{arith}
use Rattle.fix_fields.proofs.scan.len_before_soh.Goals as goal

pub returns-clause-inside : goal.returns-clause-inside
returns-clause-inside c =
    let inside = c.requires in
    omega (arith, c.value_len.ensures.place)
