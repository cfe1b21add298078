use Rattle.std.proofs.Common.{ap, sym, ◌∙◌}
use Rattle.fix_fields.specs.UtcTimestamp.{moment_of}
use Rattle.venue_text.proofs.ReadBackParts.{time_back}
use Rattle.investor_texts.proofs.read_back.time_is_read_back.Goals as goal

pub returns : goal.returns
returns c =
    time_back c.args.date.now c.args.moment
    (ap (moment_of c.args.date.now) (sym c.moment_text.ensures.text) ∙ c.moment_text.ensures.read_back)
