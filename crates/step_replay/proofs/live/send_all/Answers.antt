use Rattle.step_replay.proofs.Common.{true, ◌≡◌, ap, ◌∙◌, after_step, is_known}
use Rattle.step_replay.proofs.LiveLemmas.{actor_known}
use Rattle.step_replay.proofs.live.send_all.Goals as goal

pub returns : goal.returns
returns c config trail start none stood told =
    let next = c.args.step.now in
    let first = c.in_ok-do_step.ensures config trail start none stood told in
    let known : is_known config c.actor_of.result ≡ true =
    ap (is_known config) c.actor_of.ensures ∙ actor_known config next none in
    rw c.actor_of.ensures at (c.in_ok-send_duties.ensures config (after_step config trail next) start
    known first.stands first.told_is)
