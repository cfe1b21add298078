use Rattle.std.proofs.Common.{◌≡◌, ◌≢◌, true, false, not, length, take, drop, sym, ap, ◌∙◌, subst}
use Rattle.std.proofs.Common.{arith}
use Rattle.std.specs.Str.{bytes_eq}
use Rattle.std.proofs.lemmas.Bool.{false≢true, not-false}
use Rattle.std.proofs.lemmas.List.{length-take}
use Rattle.std.proofs.lemmas.Slice.Eq.{bytes_eq-Decides}
use Rattle.fix_fields.specs.UtcTimestamp.{IsDate, UtcTimestamp}
use Rattle.fix_fields.specs.Clock.{IsClock}
use Rattle.fix_fields.proofs.MomentLemmas.{clock_of, timestamp_of, moment_of-other, moment_of-own}
use Rattle.fix_fields.proofs.moments.read.Goals as goal

pub returns-then-text-lt8 : goal.returns-then-text-lt8
returns-then-text-lt8 c =
    let text = c.args.text.now in
    sym (moment_of-other c.args.date.now text (λ day n spelled.
    (let own = (clock_of day n text spelled).0 in
    absurd (omega (arith, ap length (own ∙ spelled.date_is.text), length-take 8 text)))))

pub returns-in_default : goal.returns-in_default
returns-in_default c =
    let text = c.args.text.now in
    sym (moment_of-other c.args.date.now text (λ day n spelled.
    (let clock = (clock_of day n text spelled).1 in
    absurd (c.in_default.ensures n (subst (λ t. IsClock n t) (sym c.split_at.ensures.back) clock)))))

pub returns-then-ne : goal.returns-then-ne
returns-then-ne c =
    let own = c.as_slice.result.now in
    let day = c.split_at.result.0.now in
    let date_is : own ≡ c.args.date.now = c.as_slice.ensures ∙ c.digits.ensures.digits in
    let other : own ≢ day = λ same. false≢true (sym (ap not ((bytes_eq-Decides own day).1 same)) ∙ (sym c.ne.ensures ∙ c.if-ne.true)) in
    sym (c.other_fault.ensures c.args.date.now c.args.text.now (λ same. other (date_is ∙ same)) (sym c.split_at.ensures.front) (sym c.split_at.ensures.back))

pub returns : goal.returns
returns c =
    let own = c.as_slice.result.now in
    let day = c.split_at.result.0.now in
    let date = c.args.date.now in
    let text = c.args.text.now in
    let n = c.in-Some.moment in
    let date_is : own ≡ date = c.as_slice.ensures ∙ c.digits.ensures.digits in
    let same : own ≡ day = (bytes_eq-Decides own day).0 (not-false (bytes_eq own day) (sym c.ne.ensures ∙ c.if-ne.false)) in
    let front : take 8 text ≡ date = sym c.split_at.ensures.front ∙ (sym same ∙ date_is) in
    let clock : IsClock n (drop 8 text) = subst (λ t. IsClock n t) c.split_at.ensures.back c.in-Some.ensures in
    sym (moment_of-own date n text (subst (λ d. UtcTimestamp d n text) front (timestamp_of text n (subst IsDate (sym front) c.digits.ensures.date) clock)))
