use Rattle.std.proofs.Common.{◌≡◌, ◌+◌, ◌≤◌, ◌++◌, sym, ap, ◌∙◌, subst, rules}
use Rattle.std.specs.Prelude.{decimal}
use Rattle.fix_fields.specs.Frame.{field_text, field_len, left_of, fields_of}
use Rattle.fix_fields.specs.TextLaws.{number_is_value}
use Rattle.fix_fields.proofs.WriterLemmas.{IsPushed, pushed, length-decimal}
use Rattle.fix_fields.proofs.writer.FrameWriter.number.Goals as goal

after : (c : goal.In_ok-push_field) → IsPushed c.args.self.now c.args.tag (decimal c.args.value) c.push_field.new.body.items
after c =
    let digits : c.as_bytes-digits.result.now ≡ decimal c.args.value = c.as_bytes-digits.ensures.value ∙ c.format.ensures.text in
    let long = length-decimal c.args.value (search rules) in
    pushed c.self.inside.body.items c.push_field.new.body.items (decimal c.args.value) c.args.self.now c.args.tag c.self.view_is c.self.invariant
    (c.requires.tag, number_is_value c.args.value (search rules))
    (subst (λ n. field_len c.args.tag n ≤ left_of c.args.self.now) (sym long) c.requires.room)
    (c.in_ok-push_field.ensures.ok ∙ ap (λ d. c.self.inside.body.items ++ field_text (c.args.tag, d)) digits)

pub invariant_of-self-2 : goal.invariant_of-self-2
invariant_of-self-2 c = (after c).text

pub returns-clause-ok : goal.returns-clause-ok
returns-clause-ok c = (after c).fields_are

pub returns-clause-left : goal.returns-clause-left
returns-clause-left c =
    subst (λ n. left_of (fields_of c.push_field.new.body.items) + field_len c.args.tag n ≡ left_of c.args.self.now)
    (length-decimal c.args.value (search rules)) (after c).left
