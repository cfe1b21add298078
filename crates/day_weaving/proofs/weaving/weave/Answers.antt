use Rattle.std.proofs.Common.{ap, is_some}
use Rattle.day_weaving.specs.DayForm.{IsMalformed}
use Rattle.day_weaving.proofs.WayLemmas.{if_none}
use Rattle.day_weaving.proofs.weaving.weave.Goals as goal

pub returns-in_default-clause-fault : goal.returns-in_default-clause-fault
returns-in_default-clause-fault c =
    if_none c.in_ok-places.field-0 (IsMalformed c.args.config.now c.args.day.now)
    (ap is_some c.in_default.is) c.in_ok-places.ensures.no
