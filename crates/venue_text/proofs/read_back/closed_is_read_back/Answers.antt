use Rattle.venue_text.proofs.ReadBackItems.{closed_back}
use Rattle.venue_text.proofs.read_back.closed_is_read_back.Goals as goal

pub returns : goal.returns
returns c short =
    closed_back c.args.date.now c.args.request c.args.close c.args.moment short
    c.time_is_read_back.ensures
