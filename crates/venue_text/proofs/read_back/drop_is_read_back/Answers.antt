use Rattle.venue_text.proofs.ReadBackItems.{drop_back}
use Rattle.venue_text.proofs.read_back.drop_is_read_back.Goals as goal

pub returns : goal.returns
returns c short =
    drop_back c.args.date.now c.args.last c.args.moment short c.time_is_read_back.ensures
