use Rattle.std.proofs.Common.{◌≤◌, subst}
use Rattle.std.proofs.lemmas.Fmt.{length-decimal-le}
use Rattle.fix_fields.proofs.WriterLemmas.{length-decimal}
use Rattle.fix_fields.proofs.laws.decimal_len_is_the_length.Goals as goal

pub returns-clause-length : goal.returns-clause-length
returns-clause-length c = λ n small. length-decimal n small

pub returns-clause-digits : goal.returns-clause-digits
returns-clause-digits c = λ k n some below small.
    subst (λ len. len ≤ k) (length-decimal n small) (length-decimal-le k n some below small)
