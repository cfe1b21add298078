use Rattle.std.proofs.lemmas.Bool.{and_parts}
use Rattle.venue_rows.specs.Texts.{is_firm_name}
use Rattle.venue_text.specs.ReadBack.{is_short}
use Rattle.investor_texts.proofs.ReadBackQuotes.{declined_back}
use Rattle.investor_texts.proofs.read_back.declined_is_read_back.Goals as goal

pub returns : goal.returns
returns c sayable =
    let parts = and_parts (is_short c.args.request) (is_firm_name c.args.dealer.now) sayable in
    declined_back c.args.date.now c.args.request c.args.dealer.now c.args.moment parts.0 parts.1
    c.time_is_read_back.ensures
