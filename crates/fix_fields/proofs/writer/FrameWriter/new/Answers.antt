use Rattle.std.proofs.Common.{◌≡◌, ◌++◌, arith, length, sym, ap, ◌∙◌, subst, lit<}
use Rattle.fix_fields.specs.Frame.{field_text, fields_of}
use Rattle.fix_fields.specs.Scan.{IsBodyText}
use Rattle.fix_fields.proofs.WriterLemmas.{fields_of-first, is_body_first, left_of-body}
use Rattle.fix_fields.proofs.WriterLemmas.{length-field_text}
use Rattle.fix_fields.proofs.writer.FrameWriter.new.Goals as goal

items_are : (c : goal.In_ok-push_field) → c.push_field.new.body.items ≡ field_text (35, c.args.msg_type.now)
items_are c = c.in_ok-push_field.ensures.ok ∙ ap (λ t. t ++ field_text (35, c.args.msg_type.now)) c.in_ok-body.ensures.items

is_text : (c : goal.In_ok-push_field) → IsBodyText c.push_field.new.body.items
is_text c =
    let room = c.requires.room in
    subst IsBodyText (sym (items_are c)) (is_body_first c.args.msg_type.now c.requires.value
    (omega (arith, length-field_text 35 c.args.msg_type.now (lit< tt))))

pub invariant_of-result : goal.invariant_of-result
invariant_of-result c = is_text c

pub returns-clause-fields : goal.returns-clause-fields
returns-clause-fields c = ap fields_of (items_are c) ∙ fields_of-first c.args.msg_type.now c.requires.value

pub returns-clause-left : goal.returns-clause-left
returns-clause-left c =
    let room = c.requires.room in
    omega (arith, left_of-body c.push_field.new.body.items (is_text c), ap length (items_are c), length-field_text 35 c.args.msg_type.now (lit< tt))
