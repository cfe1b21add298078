use Rattle.std.proofs.Common.{◌≡◌, length, ap, sym, ◌∙◌, rules}
use Rattle.fix_fields.specs.Frame as spec
use Rattle.fix_fields.proofs.WriterLemmas.{length-decimal}
use Rattle.fix_fields.proofs.writer.decimal_len.Goals as goal

pub returns-then-n-lt10-clause-digits : goal.returns-then-n-lt10-clause-digits
returns-then-n-lt10-clause-digits c =
    let short : 1 ≡ spec.decimal_len c.args.n = search rules in short ∙ sym (length-decimal c.args.n (search rules))

pub returns-then-n-lt100-clause-digits : goal.returns-then-n-lt100-clause-digits
returns-then-n-lt100-clause-digits c =
    let short : 2 ≡ spec.decimal_len c.args.n = search rules in short ∙ sym (length-decimal c.args.n (search rules))

pub returns-then-n-lt1000-clause-digits : goal.returns-then-n-lt1000-clause-digits
returns-then-n-lt1000-clause-digits c =
    let short : 3 ≡ spec.decimal_len c.args.n = search rules in short ∙ sym (length-decimal c.args.n (search rules))

pub returns-clause-value : goal.returns-clause-value
returns-clause-value c = ap length c.format.ensures.text ∙ length-decimal c.args.n (search rules)
