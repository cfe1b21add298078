use Rattle.std.proofs.Common.{◌∙◌, ap, refl}
use Rattle.fix_fields.specs.TimeOfDay as time
use Rattle.fix_fields.proofs.WrittenClock.{written}
use Rattle.fix_fields.proofs.moments.time_bytes.Goals as goal

pub returns : goal.returns
returns c =
    written c.digits_of-h.result c.digits_of-m.result c.digits_of-s.result c.digits_of-rest.result _ c.get-n.result
    c.digits_of-h.ensures c.digits_of-m.ensures c.digits_of-s.ensures refl c.digits_of-rest.ensures
    ∙ ap (λ n. time.time_text n) c.get-n.ensures.value
