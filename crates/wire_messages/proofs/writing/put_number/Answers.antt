use Rattle.std.specs.Prelude.{decimal}
use Rattle.wire_messages.proofs.UnwrittenLemmas.{no_room}
use Rattle.wire_messages.proofs.writing.put_number.Goals as goal

pub returns-then-not-fits : goal.returns-then-not-fits
returns-then-not-fits c =
    no_room c.fits.result c.args.writer.now c.args.tag (decimal c.args.number) c.decimal_len.result c.left.result
    c.requires c.left.ensures c.decimal_len.ensures.digits c.fits.ensures c.if-not-fits.true
