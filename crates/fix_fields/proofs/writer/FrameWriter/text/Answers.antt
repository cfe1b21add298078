use Rattle.std.proofs.Common.{arith}
use Rattle.fix_fields.proofs.WriterLemmas.{IsPushed, pushed, room_is}
use Rattle.fix_fields.proofs.writer.FrameWriter.text.Goals as goal

pub push_field-requires : goal.push_field-requires
push_field-requires c =
    let room = c.requires.room in
    omega (arith, room_is c.self.inside.body.items c.args.self.now c.self.view_is c.self.invariant)

after : (c : goal.In_ok-push_field) → IsPushed c.args.self.now c.args.tag c.args.value.now c.push_field.new.body.items
after c =
    pushed c.self.inside.body.items c.push_field.new.body.items c.args.value.now c.args.self.now c.args.tag c.self.view_is c.self.invariant
    (c.requires.tag, c.requires.value) c.requires.room c.in_ok-push_field.ensures.ok

pub invariant_of-self-2 : goal.invariant_of-self-2
invariant_of-self-2 c = (after c).text

pub returns-clause-ok : goal.returns-clause-ok
returns-clause-ok c = (after c).fields_are

pub returns-clause-left : goal.returns-clause-left
returns-clause-left c = (after c).left
