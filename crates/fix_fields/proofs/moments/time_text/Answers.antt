use Rattle.std.proofs.Common.{◌≡◌, sym, ap, ◌∙◌, ◌∷◌, ◌++◌, subst, arith, rules}
use Rattle.std.specs.Str.{IsUtf8}
use Rattle.fix_fields.specs.TimeOfDay as time
use Rattle.fix_fields.proofs.WrittenClock.{dated, time_utf8}
use Rattle.fix_fields.proofs.moments.time_text.Goals as goal

pub unreachable-requires : goal.unreachable-requires
unreachable-requires c =
    let n = c.args.moment in
    let utf8 = c.in_default.ensures.variant.1 (subst IsUtf8 (sym c.time_bytes-bytes.ensures) (time_utf8 n (omega arith))) in
    search (rules, utf8)

text_is : (c : goal.In-Ok) → c.in-Ok.text.bytes ≡ time.time_text c.args.moment
text_is c = c.in-Ok.ensures.ok ∙ c.time_bytes-bytes.ensures

pub returns-clause-text : goal.returns-clause-text
returns-clause-text c = text_is c

pub returns-clause-of_a_timestamp : goal.returns-clause-of_a_timestamp
returns-clause-of_a_timestamp c = λ date.
    dated date c.args.moment ∙ ap (λ t. date ++ 45 ∷ t) (sym (text_is c))
