use Rattle.std.proofs.Common.{◌≡◌, length, arith, rules}
use Rattle.fix_fields.proofs.WriterLemmas.{room_is}
use Rattle.fix_fields.proofs.writer.FrameWriter.left.Goals as goal

pub returns : goal.returns
returns c =
    let long : c.len.result ≡ length c.self.inside.body.items = search rules in
    omega (arith, room_is c.self.inside.body.items c.args.self.now c.self.view_is c.self.invariant)
