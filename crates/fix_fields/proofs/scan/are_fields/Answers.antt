use Rattle.std.proofs.Common.{rules}
use Rattle.std.proofs.lemmas.Bool.{false≢true}
use Rattle.fix_fields.specs.Frame.{Field}
use Rattle.fix_fields.proofs.FieldLemmas.{none_left, holds_behind, holds_before}
use Rattle.fix_fields.proofs.scan.are_fields.Goals as goal

pub returns-in_default : goal.returns-in_default
returns-in_default c = (
  λ never. absurd (false≢true never),
  λ holds. absurd (none_left c.loop-rest.rest.now (search rules) c.in_default.ensures (c.loop-rest.invariant.0 holds)),
)

pub loop-rest-preserved : goal.loop-rest-preserved
loop-rest-preserved c =
    let rest = c.loop-rest.rest.now in
    let behind = c.in-Some.behind.now in
    let field : Field = (c.in-Some.field-0-0, c.in-Some.field-0-1.now) in
    let e = c.in-Some.ensures in (
      λ holds. holds_behind rest field behind e.0 e.1 (c.loop-rest.invariant.0 holds),
      λ holds. c.loop-rest.invariant.1 (holds_before rest field behind e.0 e.1 holds),
    )
