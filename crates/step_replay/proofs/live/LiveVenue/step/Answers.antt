use Rattle.step_replay.proofs.Common.{List, ◌++◌, ap, sym, ◌∙◌, append-nil, Sent, live_trail}
use Rattle.step_replay.proofs.Common.{messages_in}
use Rattle.step_replay.proofs.LiveLemmas.{answered}
use Rattle.step_replay.proofs.StartLemmas.{any_place}
use Rattle.step_replay.proofs.live.LiveVenue.step.Goals as goal

pub returns-clause-ok : goal.returns-clause-ok
returns-clause-ok c steps at =
    let config = c.args.config.now in
    let trail = live_trail config steps in
    let start = messages_in config trail.facts in
    answered config steps c.args.step.now _ c.send_all.new.told.items at.clock_idle
    (c.in_ok-send_all.ensures config trail start
    (any_place config 1 c.args.step.now (sym c.in_default.ensures)) at.stands
    (sym (ap (λ (l : List Sent). start ++ l) c.new-told.ensures.items ∙ append-nil start)))
