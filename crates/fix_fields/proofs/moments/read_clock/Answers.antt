use Rattle.std.proofs.Common.{◌≡◌, ◌-◌, get_or, length, sym, ◌∙◌, arith, inl, inr}
use Rattle.fix_fields.proofs.ClockLemmas.{time_of_clock, short_clock, long_clock}
use Rattle.std.proofs.lemmas.Str.Parse.{digit_from_value}
use Rattle.fix_fields.proofs.Digits.{digit_is}
use Rattle.fix_fields.proofs.moments.read_clock.Goals as goal
use Rattle.fix_fields.proofs.moments.read_clock.Goals.{else-text-ne9-via-then-text-ne9+else-text-ne13}
use Rattle.fix_fields.proofs.moments.read_clock.Goals.{else-text-ne9-via-else-text-ne9}

pub returns-in_err-hours : goal.returns-in_err-hours
returns-in_err-hours c =
    rw c.from_residual.ensures (λ n is. absurd (c.in_err-hours.ensures _ (time_of_clock n c.args.text.now is).hours))

pub returns-in_err-minutes : goal.returns-in_err-minutes
returns-in_err-minutes c =
    rw c.from_residual-in_err-minutes.ensures (λ n is. absurd (c.in_err-minutes.ensures _ (time_of_clock n c.args.text.now is).minutes))

pub returns-in_err-seconds : goal.returns-in_err-seconds
returns-in_err-seconds c =
    rw c.from_residual-in_err-seconds.ensures (λ n is. absurd (c.in_err-seconds.ensures _ (time_of_clock n c.args.text.now is).seconds))

pub returns-then-text-eq9 : goal.returns-then-text-eq9
returns-then-text-eq9 c =
    short_clock c.args.text.now c.in_ok-hours.hours c.in_ok-minutes.minutes c.in_ok-seconds.seconds (omega arith)
    c.if-text-ne45.false c.if-text-ne58.false c.if-text-ne58-2.false c.in_ok-hours.ensures c.in_ok-minutes.ensures c.in_ok-seconds.ensures
    (omega arith) (omega arith) (omega arith)

pub returns-in_err-rest : goal.returns-in_err-rest
returns-in_err-rest c =
    rw c.from_residual-in_err-rest.ensures (λ n is. absurd (elim (time_of_clock n c.args.text.now is).rest [
      | inl nine ↦ c.if-text-eq9.false nine
      | inr two ↦ c.in_err-rest.ensures _ two
    ]))

pub returns : goal.returns
returns c =
    let text = c.args.text.now in
    let long : length text ≡ 13 = elim c.else-text-ne9.branch [
      | else-text-ne9-via-then-text-ne9+else-text-ne13 w ↦ w.if-text-ne13.false
      | else-text-ne9-via-else-text-ne9 w ↦ absurd (c.if-text-eq9.false w.if-text-ne9.false)
    ] in
    let hundreds = digit_from_value (get_or text 10 0) (digit_is (get_or text 10 0) (sym c.is_ascii_digit.ensures.value ∙ c.if-not-is_ascii_digit.false)) in
    long_clock text c.in_ok-hours.hours c.in_ok-minutes.minutes c.in_ok-seconds.seconds (get_or text 10 0 - 48) c.in_ok-rest.rest long
    c.if-text-ne45.false c.if-text-ne58.false c.if-text-ne58-2.false c.if-text-ne46.false
    c.in_ok-hours.ensures c.in_ok-minutes.ensures c.in_ok-seconds.ensures c.in_ok-rest.ensures
    (omega arith) (omega arith) (omega arith) (omega arith) (omega arith)
