use Rattle.std.proofs.Common.{length, arith, ap}
use Rattle.fix_fields.specs.Frame.{fields_of}
use Rattle.fix_fields.proofs.FieldsText.{few_fields}
use Rattle.fix_fields.proofs.frames.Frame.fields.Goals as goal

pub returns-clause-few : goal.returns-clause-few
returns-clause-few c =
    let fits = c.self.invariant.fits in
    omega (arith, few_fields (fields_of c.self.inside.body.now), ap length c.self.invariant.is, ap length c.self.view_is)
