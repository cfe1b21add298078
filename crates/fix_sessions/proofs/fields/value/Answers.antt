use Rattle.std.proofs.Common.{◌≡◌, ◌≤◌, ◌<◌, ◌==◌, true, false, length, Some, ap, sym, subst, ◌∙◌, rules}
use Rattle.fix_fields.specs.Frame.{value_of}
use Rattle.fix_sessions.specs.Fields.{fields_in, front_piece, piece_field}
use Rattle.fix_sessions.proofs.FieldLemmas.{value_here, value_past_other, no_fields}
use Rattle.fix_sessions.proofs.fields.value.Goals as goal

pub returns-then-found-tag : goal.returns-then-found-tag
returns-then-found-tag c =
    let rest = c.loop-rest.rest.now in
    let some : 0 < length rest = search rules in
    let here : piece_field (front_piece rest) ≡ Some (c.in-Some.found, c.in-Some.value.now) =
    subst (λ p. piece_field p ≡ Some (c.in-Some.found, c.in-Some.value.now)) c.split_piece.ensures.front c.in-Some.ensures in
    let same : (c.in-Some.found == c.args.tag) ≡ true = search rules in
    sym (c.loop-rest.invariant ∙ value_here c.args.tag c.in-Some.found c.in-Some.value.now rest some here same)

pub loop-rest-preserved-else-found-tag : goal.loop-rest-preserved-else-found-tag
loop-rest-preserved-else-found-tag c =
    let rest = c.loop-rest.rest.now in
    let some : 0 < length rest = search rules in
    let here : piece_field (front_piece rest) ≡ Some (c.in-Some.found, c.in-Some.value.now) =
    subst (λ p. piece_field p ≡ Some (c.in-Some.found, c.in-Some.value.now)) c.split_piece.ensures.front c.in-Some.ensures in
    let other : (c.in-Some.found == c.args.tag) ≡ false = search rules in
    c.loop-rest.invariant ∙ value_past_other c.args.tag c.in-Some.found c.in-Some.value.now rest some here other
    ∙ ap (λ b. value_of c.args.tag (fields_in b)) (sym c.split_piece.ensures.behind)

pub returns : goal.returns
returns c =
    let none : length c.loop-rest.rest.now ≤ 0 = search rules in
    sym (c.loop-rest.invariant ∙ ap (value_of c.args.tag) (no_fields c.loop-rest.rest.now none))
