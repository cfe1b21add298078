use Rattle.investor_texts.proofs.ReadBackReplies.{expired_back}
use Rattle.investor_texts.proofs.read_back.expired_is_read_back.Goals as goal

pub returns : goal.returns
returns c short =
    expired_back c.args.date.now c.args.request c.args.moment short c.time_is_read_back.ensures
