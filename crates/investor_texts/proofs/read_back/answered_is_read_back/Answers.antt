use Rattle.std.proofs.lemmas.Bool.{and_parts}
use Rattle.venue_text.specs.ReadBack.{is_short}
use Rattle.investor_texts.specs.ReadBack.{is_short_if}
use Rattle.investor_texts.proofs.ReadBackReplies.{answered_back}
use Rattle.investor_texts.proofs.read_back.answered_is_read_back.Goals as goal

pub returns : goal.returns
returns c sayable =
    let parts = and_parts (is_short c.args.request) (is_short_if c.args.response.now.k) sayable in
    answered_back c.args.date.now c.args.request c.args.response.now c.args.reply c.args.moment
    parts.0 parts.1 c.as_bytes.ensures.id c.time_is_read_back.ensures
