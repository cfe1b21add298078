use Rattle.std.proofs.Common.{◌∷◌}
use Rattle.fix_fields.specs.Frame.{fields_of}
use Rattle.wire_messages.specs.ToVenue.{to_venue}
use Rattle.wire_messages.proofs.GivenLemmas.{given_of, not_for_venue}
use Rattle.wire_messages.proofs.for_venue.to_venue.Goals as goal

pub returns-in-Ok : goal.returns-in-Ok
returns-in-Ok c =
    let e = c.in-Ok.ensures in
    given_of c.args.number c.in-Ok.given.items c.args.bytes.now c.in-Some.kind.now c.in-Some.rest.now
    c.in-Some.ensures e.held e.frame.0 e.frame.1

pub returns-in-Err : goal.returns-in-Err
returns-in-Err c =
    let kind = c.in-Some.kind.now in
    let rest = c.in-Some.rest.now in
    let n = c.args.number in
    let e = c.in-Err.ensures in
    not_for_venue c.first_fault.result n c.args.bytes.now kind rest c.in-Some.ensures
    (c.first_fault.ensures ((35, kind) ∷ to_venue n (fields_of rest)) e.frame)
