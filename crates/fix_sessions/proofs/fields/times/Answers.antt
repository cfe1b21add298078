use Rattle.std.proofs.Common.{◌≡◌, ◌≤◌, ◌<◌, ◌==◌, true, false, length, Some, None, ap, subst, arith, rules}
use Rattle.fix_fields.specs.Frame.{times_of}
use Rattle.fix_sessions.specs.Fields.{fields_in, front_piece, piece_field}
use Rattle.fix_sessions.proofs.FieldLemmas.{times_here, times_past_other, times_past_none, no_fields}
use Rattle.fix_sessions.proofs.FlawLemmas.{behind_shorter}
use Rattle.fix_sessions.proofs.fields.times.Goals as goal

pub loop-rest-preserved-then-found-tag : goal.loop-rest-preserved-then-found-tag
loop-rest-preserved-then-found-tag c =
    let rest = c.loop-rest.rest.now in
    let value = c.in-Some.field-0-1.now in
    let some : 0 < length rest = search rules in
    let here : piece_field (front_piece rest) ≡ Some (c.in-Some.found, value) =
    subst (λ p. piece_field p ≡ Some (c.in-Some.found, value)) c.split_piece.ensures.front c.in-Some.ensures in
    let same : (c.in-Some.found == c.args.tag) ≡ true = search rules in
    let counted = times_here c.args.tag c.in-Some.found value rest some here same in
    let behind = ap (λ b. times_of c.args.tag (fields_in b)) c.split_piece.ensures.behind in (
      omega (arith, c.loop-rest.invariant.0, counted, behind),
      omega (arith, c.loop-rest.invariant.1, behind_shorter rest some, ap length c.split_piece.ensures.behind),
    )

pub loop-rest-preserved-else-found-tag : goal.loop-rest-preserved-else-found-tag
loop-rest-preserved-else-found-tag c =
    let rest = c.loop-rest.rest.now in
    let value = c.in-Some.field-0-1.now in
    let some : 0 < length rest = search rules in
    let here : piece_field (front_piece rest) ≡ Some (c.in-Some.found, value) =
    subst (λ p. piece_field p ≡ Some (c.in-Some.found, value)) c.split_piece.ensures.front c.in-Some.ensures in
    let other : (c.in-Some.found == c.args.tag) ≡ false = search rules in
    let passed = times_past_other c.args.tag c.in-Some.found value rest some here other in
    let behind = ap (λ b. times_of c.args.tag (fields_in b)) c.split_piece.ensures.behind in (
      omega (arith, c.loop-rest.invariant.0, passed, behind),
      omega (arith, c.loop-rest.invariant.1, behind_shorter rest some, ap length c.split_piece.ensures.behind),
    )

pub loop-rest-preserved : goal.loop-rest-preserved
loop-rest-preserved c =
    let rest = c.loop-rest.rest.now in
    let some : 0 < length rest = search rules in
    let here : piece_field (front_piece rest) ≡ None =
    subst (λ p. piece_field p ≡ None) c.split_piece.ensures.front c.in_default.ensures in
    let passed = times_past_none c.args.tag rest some here in
    let behind = ap (λ b. times_of c.args.tag (fields_in b)) c.split_piece.ensures.behind in (
      omega (arith, c.loop-rest.invariant.0, passed, behind),
      omega (arith, c.loop-rest.invariant.1, behind_shorter rest some, ap length c.split_piece.ensures.behind),
    )

pub returns-clause-value : goal.returns-clause-value
returns-clause-value c =
    let none : length c.loop-rest.rest.now ≤ 0 = search rules in
    let no_more = ap (times_of c.args.tag) (no_fields c.loop-rest.rest.now none) in
    omega (arith, c.loop-rest.invariant.0, no_more)
