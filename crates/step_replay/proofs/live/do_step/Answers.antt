use Rattle.step_replay.proofs.Common.{refl}
use Rattle.step_replay.proofs.LiveLemmas.{step_told}
use Rattle.step_replay.proofs.live.do_step.Goals as goal

pub returns-in-Nowhere : goal.returns-in-Nowhere
returns-in-Nowhere c config trail start none stood told =
    step_told config trail c.args.step.now c.args.venue.now _ start c.args.told.now.items
    c.args.told.now.items c.in_ok-done.done stood told
    (c.in_ok-done.ensures.follows config trail none stood.replay_stands)
    (c.in_ok-done.ensures.done config trail none stood.replay_stands)
    (rw c.in-Nowhere.is (refl, refl))

pub returns-in_ok-push_behind-in-AtDesk : goal.returns-in_ok-push_behind-in-AtDesk
returns-in_ok-push_behind-in-AtDesk c config trail start none stood told =
    step_told config trail c.args.step.now c.args.venue.now _ start c.args.told.now.items
    c.push_behind.new.told.items c.in_ok-done.done stood told
    (c.in_ok-done.ensures.follows config trail none stood.replay_stands)
    (c.in_ok-done.ensures.done config trail none stood.replay_stands)
    (rw c.in-AtDesk.is (c.in_ok-push_behind-in-AtDesk.ensures, refl))

pub returns-in_ok-note-in-InRoom : goal.returns-in_ok-note-in-InRoom
returns-in_ok-note-in-InRoom c config trail start none stood told =
    step_told config trail c.args.step.now c.args.venue.now _ start c.args.told.now.items
    c.args.told.now.items c.in_ok-done.done stood told
    (c.in_ok-done.ensures.follows config trail none stood.replay_stands)
    (c.in_ok-done.ensures.done config trail none stood.replay_stands)
    (rw c.in-InRoom.is (refl, c.in_ok-note-in-InRoom.ensures))
