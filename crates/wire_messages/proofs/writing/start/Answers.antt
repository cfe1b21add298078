use Rattle.wire_messages.proofs.UnwrittenLemmas.{no_room_first}
use Rattle.wire_messages.proofs.writing.start.Goals as goal

pub returns-then-not-fits : goal.returns-then-not-fits
returns-then-not-fits c = no_room_first c.fits.result c.args.kind.now c.fits.ensures c.if-not-fits.true
