use Rattle.std.proofs.Common.{length, refl}
use Rattle.wire_messages.proofs.UnwrittenLemmas.{no_room}
use Rattle.wire_messages.proofs.writing.put.Goals as goal

pub returns-then-not-fits : goal.returns-then-not-fits
returns-then-not-fits c =
    no_room c.fits.result c.args.writer.now c.args.tag c.args.value.now (length c.args.value.now) c.left.result
    c.requires.tag c.left.ensures refl c.fits.ensures c.if-not-fits.true
