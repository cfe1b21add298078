use Rattle.std.proofs.Common.{◌≤◌, ◌+◌, [], ◌∷◌, ◌++◌, length, ap, sym, ◌∙◌, append_assoc, arith}
use Rattle.std.specs.List.{AllByRecursion}
use Rattle.fix_fields.specs.Frame.{Field, IsField, field_len, fields_text, left_of}
use Rattle.fix_sessions.proofs.WrittenLemmas.{next_is_lawful, next_fits}
use Rattle.fix_sessions.proofs.writing.put_body.Goals as goal

parts : (c : goal.After-text-arg-1) → IsField (c.in-Some.tag, c.in-Some.value.now) × AllByRecursion IsField c.next.new.self
parts c = next_is_lawful c.in-Some.tag c.in-Some.value.now c.next.new.self c.loop-tag.tag-iterator c.in-Some.ensures.steps c.loop-tag.invariant.lawful

fits : (c : goal.After-text-arg-1) → field_len c.in-Some.tag (length c.in-Some.value.now) + length (fields_text c.next.new.self) ≤ left_of c.loop-tag.writer
fits c =
    next_fits c.in-Some.tag (left_of c.loop-tag.writer) c.in-Some.value.now c.next.new.self c.loop-tag.tag-iterator c.in-Some.ensures.steps
    (parts c).0.0 c.loop-tag.invariant.room

pub text-requires-clause-tag : goal.text-requires-clause-tag
text-requires-clause-tag c = (parts c).0.0

pub text-requires-clause-value : goal.text-requires-clause-value
text-requires-clause-value c = (parts c).0.1

pub text-requires-clause-room : goal.text-requires-clause-room
text-requires-clause-room c = omega (arith, fits c)

pub loop-tag-preserved : goal.loop-tag-preserved
loop-tag-preserved c =
    let field : Field = (c.in-Some.tag, c.in-Some.value.now) in
    let lawful = next_is_lawful c.in-Some.tag c.in-Some.value.now c.next.new.self c.loop-tag.tag-iterator c.in-Some.ensures.steps c.loop-tag.invariant.lawful in
    let room = next_fits c.in-Some.tag (left_of c.loop-tag.writer) c.in-Some.value.now c.next.new.self c.loop-tag.tag-iterator c.in-Some.ensures.steps lawful.0.0 c.loop-tag.invariant.room in
    record {
      fields = ap (λ w. w ++ c.next.new.self) c.in_ok-text.ensures.ok
          ∙ append_assoc c.loop-tag.writer (field ∷ []) c.next.new.self
          ∙ ap (λ fs. c.loop-tag.writer ++ fs) (sym c.in-Some.ensures.steps) ∙ c.loop-tag.invariant.fields;
      lawful = lawful.1;
      room = omega (arith, room, c.in_ok-text.ensures.left);
    }
