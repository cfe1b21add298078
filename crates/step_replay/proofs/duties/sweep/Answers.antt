use Rattle.step_replay.proofs.Common.{Option, subst, IsDone, Placement, swept}
use Rattle.step_replay.proofs.ComingLemmas.{sweep_comes, nothing_comes, something_comes}
use Rattle.step_replay.proofs.duties.sweep.Goals as goal

pub returns-in_default-clause-acts : goal.returns-in_default-clause-acts
returns-in_default-clause-acts c =
    nothing_comes (λ config. swept config c.args.room c.args.moment)
    (λ config facts. sweep_comes config facts c.args.room c.args.moment) c.args.floor.now
    c.idle.result.duties.items c.in_default.ensures c.idle.ensures.duties

pub returns-in_default-clause-done : goal.returns-in_default-clause-done
returns-in_default-clause-done c =
    subst (λ (coming : Option Placement).
    IsDone c.args.floor.now c.args.floor.now coming c.idle.result.done) c.in_default.ensures
    c.idle.ensures.done

pub returns-clause-acts : goal.returns-clause-acts
returns-clause-acts c =
    something_comes (λ config. swept config c.args.room c.args.moment)
    (λ config facts. sweep_comes config facts c.args.room c.args.moment) c.args.floor.now
    c.bring.new.floor c.in_ok-acted.acted.duties.items c.in-Some.arrival c.in-Some.ensures
    c.in_ok-acted.ensures.acts

pub returns-clause-done : goal.returns-clause-done
returns-clause-done c =
    subst (λ (coming : Option Placement).
    IsDone c.args.floor.now c.bring.new.floor coming c.in_ok-acted.acted.done) c.in-Some.ensures
    c.in_ok-acted.ensures.done
