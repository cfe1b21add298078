use Rattle.std.proofs.Common.{◌<◌, ap, arith, is_some}
use Rattle.step_replay.specs.StepFaults.{firms_of}
use Rattle.day_weaving.proofs.RecordRoomLemmas.{firm_within}
use Rattle.day_weaving.proofs.day_form.are_firms_days.Goals as goal

pub returns-then-not-is_firms_day-clause-no : goal.returns-then-not-is_firms_day-clause-no
returns-then-not-is_firms_day-clause-no c told =
    c.is_firms_day.ensures.no c.if-not-is_firms_day.true c.args.config.now

pub returns-clause-yes : goal.returns-clause-yes
returns-clause-yes c told firm lists is =
    let known : firm < firms_of c.args.config.now =
    firm_within c.args.config.now c.args.day.now c.requires firm (ap is_some is) in
    let below : firm < c.loop-firm.firm = omega arith in
    c.loop-firm.invariant firm below lists is
