use Rattle.std.proofs.Common.{sym, ap, ◌∙◌, subst, arith, rules, length, refl, inl}
use Rattle.std.specs.Str.{IsUtf8}
use Rattle.fix_fields.specs.TimeOfDay.{time_text}
use Rattle.fix_fields.specs.UtcTimestamp.{IsDate, timestamp_text, moment_of}
use Rattle.fix_fields.proofs.MomentLemmas.{moment_of-own}
use Rattle.fix_fields.proofs.WrittenClock.{written_behind, timestamp_utf8}
use Rattle.fix_fields.proofs.moments.moment_bytes.Goals as goal

pub returns-clause-text : goal.returns-clause-text
returns-clause-text c =
    let day = c.digits-d.result.now in
    let date : IsDate day = subst IsDate (sym c.digits-d.ensures.digits) c.digits-d.ensures.date in
    written_behind day c.time_bytes-t.result c.args.moment (ap length date.text) c.time_bytes-t.ensures
    ∙ ap (λ d. timestamp_text d c.args.moment) c.digits-d.ensures.digits

pub returns-clause-read_back : goal.returns-clause-read_back
returns-clause-read_back c =
    ap (λ t. moment_of c.args.date.now t) (returns-clause-text c)
    ∙ moment_of-own c.args.date.now c.args.moment (timestamp_text c.args.date.now c.args.moment)
    (record { date_is = c.digits-d.ensures.date; moment = omega arith; spelling = inl refl })

pub returns-clause-value : goal.returns-clause-value
unfolding time_text
returns-clause-value c =
    let time = c.time_bytes-t.ensures in
    search (rules, time)

pub returns-clause-utf8 : goal.returns-clause-utf8
returns-clause-utf8 c =
    subst IsUtf8 (sym (returns-clause-text c))
    (timestamp_utf8 c.args.date.now c.args.moment c.digits-d.ensures.date (omega arith))
