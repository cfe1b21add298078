use Rattle.std.proofs.Common.{◌≡◌, Some, sym, ap, ◌∙◌, arith}
use Rattle.fix_fields.specs.Frame.{value_of}
use Rattle.fix_fields.proofs.FieldsText.{value_in, value_here, AreBody-lawful}
use Rattle.fix_fields.proofs.frames.Frame.get.Goals as goal

first : (c : goal.Then-found-tag) → value_of c.args.tag c.args.self.now ≡ Some c.in-Some.value.now
first c =
    sym c.loop-found.invariant.2 ∙ (ap (λ fields. value_of c.args.tag fields) c.in-Some.ensures.steps
    ∙ value_here c.args.tag c.in-Some.found c.in-Some.value.now c.next.new.self c.if-found-tag.true)

pub returns-then-found-tag-clause-value : goal.returns-then-found-tag-clause-value
returns-then-found-tag-clause-value c =
    (value_in c.args.tag c.args.self.now c.in-Some.value.now (AreBody-lawful _ c.fields-found-items.ensures.body) (first c)).0

pub returns-then-found-tag-clause-fits : goal.returns-then-found-tag-clause-fits
returns-then-found-tag-clause-fits c =
    let long = (value_in c.args.tag c.args.self.now c.in-Some.value.now (AreBody-lawful _ c.fields-found-items.ensures.body) (first c)).1 in
    omega (arith, long)
