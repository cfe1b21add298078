use Rattle.std.proofs.lemmas.Bool.{and_parts}
use Rattle.venue_text.specs.ReadBack.{is_short}
use Rattle.investor_texts.proofs.ReadBackQuotes.{gone_back}
use Rattle.investor_texts.proofs.read_back.gone_is_read_back.Goals as goal

pub returns : goal.returns
returns c sayable =
    let parts = and_parts (is_short c.args.request) (is_short c.args.quote) sayable in
    gone_back c.args.date.now c.args.request c.args.quote c.args.moment parts.0 parts.1
    c.time_is_read_back.ensures
