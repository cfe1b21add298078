use Rattle.std.proofs.Common.{◌<◌, length, rules}
use Rattle.fix_fields.specs.Frame.{Field}
use Rattle.fix_fields.proofs.FieldLemmas.{holds_before, holds_behind, none_left}
use Rattle.wire_messages.proofs.for_venue.are_fields.Goals as goal

pub returns-in_default-clause-no : goal.returns-in_default-clause-no
returns-in_default-clause-no c =
    let some : 0 < length c.loop-rest.rest.now = search rules in
    λ _ holds. none_left c.loop-rest.rest.now some c.in_default.ensures (c.loop-rest.invariant.holds holds)

pub loop-rest-preserved : goal.loop-rest-preserved
loop-rest-preserved c =
    let rest = c.loop-rest.rest.now in
    let behind = c.in-Some.behind.now in
    let field : Field = (c.in-Some.field-0-0, c.in-Some.field-0-1.now) in
    let e = c.in-Some.ensures in
    record {
      held = λ holds. c.loop-rest.invariant.held (holds_before rest field behind e.0 e.1 holds);
      holds = λ holds. holds_behind rest field behind e.0 e.1 (c.loop-rest.invariant.holds holds);
    }
