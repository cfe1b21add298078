use Rattle.std.proofs.Common.{sym, ap, ◌∙◌, subst, rules}
use Rattle.fix_fields.specs.Frame.{IsValue}
use Rattle.fix_fields.specs.UtcTimestamp.{moment_of}
use Rattle.fix_fields.proofs.moments.moment_text.Goals as goal

pub unreachable-requires : goal.unreachable-requires
unreachable-requires c =
    let utf8 = c.in_default.ensures.variant.1 c.moment_bytes-bytes.ensures.utf8 in
    search (rules, utf8)

pub returns-clause-text : goal.returns-clause-text
returns-clause-text c = c.in-Ok.ensures.ok ∙ c.moment_bytes-bytes.ensures.text

pub returns-clause-read_back : goal.returns-clause-read_back
returns-clause-read_back c =
    ap (λ t. moment_of c.args.date.now t) c.in-Ok.ensures.ok ∙ c.moment_bytes-bytes.ensures.read_back

pub returns-clause-value : goal.returns-clause-value
returns-clause-value c = subst IsValue (sym c.in-Ok.ensures.ok) c.moment_bytes-bytes.ensures.value
