use Rattle.std.proofs.Common.{◌≡◌, ◌≤◌, ◌<◌, length, Some, ap, sym, subst, ◌∙◌, rules}
use Rattle.fix_sessions.specs.Fields.{fields_in, front_piece, piece_field}
use Rattle.fix_sessions.specs.Flaws.{last_of}
use Rattle.fix_sessions.proofs.FieldLemmas.{no_fields}
use Rattle.fix_sessions.proofs.FlawLemmas.{last_past_some}
use Rattle.fix_sessions.proofs.fields.last_tag.Goals as goal

pub loop-rest-preserved-in-Some : goal.loop-rest-preserved-in-Some
loop-rest-preserved-in-Some c =
    let rest = c.loop-rest.rest.now in
    let value = c.in-Some.field-0-1.now in
    let some : 0 < length rest = search rules in
    let here : piece_field (front_piece rest) ≡ Some (c.in-Some.found, value) =
    subst (λ p. piece_field p ≡ Some (c.in-Some.found, value)) c.split_piece.ensures.front c.in-Some.ensures in
    c.loop-rest.invariant ∙ last_past_some c.loop-rest.last c.in-Some.found value rest some here
    ∙ ap (λ b. last_of (Some c.in-Some.found) (fields_in b)) (sym c.split_piece.ensures.behind)

pub returns : goal.returns
returns c =
    let none : length c.loop-rest.rest.now ≤ 0 = search rules in
    sym (c.loop-rest.invariant ∙ ap (last_of c.loop-rest.last) (no_fields c.loop-rest.rest.now none))
