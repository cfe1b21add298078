use Rattle.day_weaving.proofs.DayFormLemmas.{never_both}
use Rattle.day_weaving.proofs.order_laws.well_formed_days_are_not_malformed.Goals as goal

pub returns : goal.returns
returns c config day well malformed = never_both config day well malformed
