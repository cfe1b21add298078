use Rattle.std.proofs.Common.{[]}
use Rattle.recorded_days.proofs.DayDueLemmas.{answered_more}
use Rattle.recorded_days.proofs.day_dues.events_are_settled_one_by_one.Goals as goal

pub returns-clause-more : goal.returns-clause-more
returns-clause-more c desk now before is =
    answered_more (record desk { events = [] }) desk.events now before is
