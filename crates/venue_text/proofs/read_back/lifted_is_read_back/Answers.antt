use Rattle.venue_text.proofs.ReadBackItems.{lifted_back}
use Rattle.venue_text.proofs.read_back.lifted_is_read_back.Goals as goal

pub returns : goal.returns
returns c short = lifted_back c.args.date.now c.args.quote short
