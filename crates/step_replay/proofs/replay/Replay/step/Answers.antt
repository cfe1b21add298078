use Rattle.step_replay.proofs.Common.{refl}
use Rattle.step_replay.proofs.StartLemmas.{known_firm, known_actor, said, swept, turned}
use Rattle.step_replay.proofs.replay.Replay.step.Goals as goal

pub returns-in_ok-done-in-In-clause-follows : goal.returns-in_ok-done-in-In-clause-follows
returns-in_ok-done-in-In-clause-follows c config trail none before =
    let known = known_firm config 0 c.in-In.firm (rw c.in-In.is at none) in
    rw (
      c.in-In.is,
      said config trail c.in-In.firm c.in-In.moment c.in-In.message,
      ← c.as_bytes.ensures,
    )
    (c.in_ok-done-in-In.ensures.follows config trail known before)

pub returns-in_ok-done-in-In-clause-done : goal.returns-in_ok-done-in-In-clause-done
returns-in_ok-done-in-In-clause-done c config trail none before =
    let known = known_firm config 0 c.in-In.firm (rw c.in-In.is at none) in
    rw c.in-In.is (c.in_ok-done-in-In.ensures.done config trail known before)

pub returns-in_ok-done-in-Turn-clause-follows : goal.returns-in_ok-done-in-Turn-clause-follows
returns-in_ok-done-in-Turn-clause-follows c config trail none before =
    let known = known_actor config 0 c.in-Turn.by (rw c.in-Turn.is at none) in
    rw (c.in-Turn.is, turned config trail c.in-Turn.by)
    (c.in_ok-done-in-Turn.ensures.follows config trail known before)

pub returns-in_ok-done-in-Turn-clause-done : goal.returns-in_ok-done-in-Turn-clause-done
returns-in_ok-done-in-Turn-clause-done c config trail none before =
    let known = known_actor config 0 c.in-Turn.by (rw c.in-Turn.is at none) in
    rw c.in-Turn.is (c.in_ok-done-in-Turn.ensures.done config trail known before)

pub returns-in_ok-done-in-Expire-clause-follows : goal.returns-in_ok-done-in-Expire-clause-follows
returns-in_ok-done-in-Expire-clause-follows c config trail none before =
    rw (c.in-Expire.is, swept config trail c.in-Expire.room c.in-Expire.moment)
    (c.in_ok-done-in-Expire.ensures.follows config trail refl before)

pub returns-in_ok-done-in-Expire-clause-done : goal.returns-in_ok-done-in-Expire-clause-done
returns-in_ok-done-in-Expire-clause-done c config trail none before =
    rw c.in-Expire.is (c.in_ok-done-in-Expire.ensures.done config trail refl before)
