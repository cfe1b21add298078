use Rattle.std.proofs.Common.{drop, ap, sym, ◌∙◌}
use Rattle.std.proofs.lemmas.List.{drop-drop}
use Rattle.fix_fields_c.proofs.fields_from.Goals as goal

pub loop-preserved : goal.loop-preserved
loop-preserved c =
    ap (λ fields. drop 1 fields) (sym c.in-Some.ensures.steps ∙ c.loop.invariant)
    ∙ drop-drop 1 c.loop.counter c.fields-fields.result
