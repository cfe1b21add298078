use Rattle.std.proofs.Common.{◌≤◌, ◌++◌, ap, ◌∙◌, length, arith}
use Rattle.fix_fields.specs.Frame.{field_len, left_of}
use Rattle.fix_fields.proofs.SpelledLemmas.{spelled_len, spelled_text}
use Rattle.fix_fields.proofs.WriterLemmas.{IsPushed, pushed, room_is}
use Rattle.fix_fields.proofs.writer.FrameWriter.spelled.Goals as goal

pub push_spelled-requires : goal.push_spelled-requires
push_spelled-requires c =
    let room = c.requires.room in
    omega (arith, room_is c.self.inside.body.items c.args.self.now c.self.view_is c.self.invariant)

after : (c : goal.In_ok-push_spelled) → IsPushed c.args.self.now c.in-Some.tag c.in-Some.ensures.value c.push_spelled.new.body.items
after c =
    let text = c.args.text.now in
    let room = c.requires.room in
    let fits : field_len c.in-Some.tag (length c.in-Some.ensures.value) ≤ left_of c.args.self.now =
    omega (arith, spelled_len text c.in-Some.tag c.in-Some.ensures) in
    pushed c.self.inside.body.items c.push_spelled.new.body.items c.in-Some.ensures.value c.args.self.now c.in-Some.tag c.self.view_is c.self.invariant
    c.in-Some.ensures.lawful fits
    (c.in_ok-push_spelled.ensures.ok ∙ ap (λ t. c.self.inside.body.items ++ t) (spelled_text text c.in-Some.tag c.in-Some.ensures))

pub invariant_of-self-2 : goal.invariant_of-self-2
invariant_of-self-2 c = (after c).text

pub returns-clause-ok : goal.returns-clause-ok
returns-clause-ok c = (c.in-Some.ensures, (after c).fields_are)
