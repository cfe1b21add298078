use Rattle.venue_text.specs.KeptDays.{meant}
use Rattle.venue_text.proofs.KeptLemmas.{opened}
use Rattle.venue_text.proofs.kept_days.KeptDay.open.Goals as goal

pub returns-clause-ok : goal.returns-clause-ok
returns-clause-ok c =
    opened (meant c.args.wanted) _ c.args.text.now _ c.in_ok-day.ensures.ok c.in_ok-asked.ensures.is
