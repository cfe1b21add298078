use Rattle.std.proofs.Common.{◌≡◌, ◌==◌, length, ap, sym, ◌∙◌}
use Rattle.fix_fields.specs.Frame as spec
use Rattle.fix_fields.proofs.PlaceLemmas.{value_by_place}
use Rattle.fix_fields.proofs.FrameTests.{value_decides}
use Rattle.fix_fields.proofs.writer.is_value.Goals as goal

exactly : (c : goal.After-value_len) → (c.value_len.result == length c.args.value.now) ≡ spec.is_value c.args.value.now
exactly c = ap (λ n. n == length c.args.value.now) c.value_len.ensures.place ∙ value_by_place c.args.value.now

pub returns-clause-exact : goal.returns-clause-exact
returns-clause-exact c = exactly c

pub returns-clause-lawful : goal.returns-clause-lawful
returns-clause-lawful c =
    let decides = value_decides c.args.value.now in
    let same = exactly c in
    (λ yes. decides.0 (sym same ∙ yes), λ is. same ∙ decides.1 is)
