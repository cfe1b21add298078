use Rattle.std.proofs.Common.{◌≡◌, ◌∙◌, ap, sym, Some, false, nat_lt}
use Rattle.std.specs.Option.{option_copied}
use Rattle.fix_fields.specs.Frame.{value_of, times_of}
use Rattle.quote_messages.proofs.SlotLemmas.{stands_readable}
use Rattle.quote_messages.proofs.arrivals.sequence_number.Goals as goal

pub returns : goal.returns
returns c =
    let fields = c.args.message.now in
    let first : value_of 34 fields ≡ Some c.in_ok-value.value.now =
    sym (ap (λ found. found.first) c.at-slot.ensures) ∙ ap option_copied c.in_ok-value.was in
    let once : nat_lt 1 (times_of 34 fields) ≡ false =
    sym (ap (λ found. found.is_repeated) c.at-slot.ensures) ∙ c.if-slot.false in
    c.new.ensures ∙ sym (stands_readable fields c.in_ok-value.value.now first once)
