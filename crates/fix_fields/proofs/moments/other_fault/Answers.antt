use Rattle.std.proofs.Common.{take, drop, ◌∙◌, sym, subst}
use Rattle.fix_fields.specs.UtcTimestamp.{IsDate}
use Rattle.fix_fields.specs.Clock.{IsClock}
use Rattle.fix_fields.proofs.MomentLemmas.{clock_of, timestamp_of, moment_of-other}
use Rattle.fix_fields.proofs.MomentLemmas.{moment_of-other_day}
use Rattle.fix_fields.proofs.moments.other_fault.Goals as goal

pub returns-in_default : goal.returns-in_default
returns-in_default c = λ date text other front back.
    moment_of-other date text (λ day n spelled.
    absurd (c.in_default.ensures.read (subst IsDate (sym (clock_of day n text spelled).0 ∙ front) spelled.date_is)))

pub returns-in_default-read_clock : goal.returns-in_default-read_clock
returns-in_default-read_clock c = λ date text other front back.
    moment_of-other date text (λ day n spelled.
    absurd (c.in_default-read_clock.ensures n (subst (λ t. IsClock n t) back (clock_of day n text spelled).1)))

pub returns : goal.returns
returns c = λ date text other front back.
    let day_is : IsDate (take 8 text) = subst IsDate (sym front) c.in-Some.ensures.read.0 in
    let clock : IsClock c.in-Some-read_clock.field-0 (drop 8 text) = subst (λ t. IsClock c.in-Some-read_clock.field-0 t) (sym back) c.in-Some-read_clock.ensures in
    moment_of-other_day date (take 8 text) c.in-Some-read_clock.field-0 text (λ same. other (sym same ∙ front))
    (timestamp_of text c.in-Some-read_clock.field-0 day_is clock)
