use Rattle.std.proofs.Common.{refl, ap, subst, sym}
use Rattle.step_replay.specs.declared.steps.Step.TheVariants as step
use Rattle.recorded_days.specs.Kinds.{is_expire, is_in}
use Rattle.day_weaving.specs.Weaving.{IsStepOfKind}
use Rattle.recorded_days.specs.declared.actions.Kind.{Kind}
use Rattle.day_weaving.proofs.MessageLemmas.{came_more, came_stays, is_message, no_message}
use Rattle.day_weaving.proofs.MessageLemmas.{turn_is}
use Rattle.day_weaving.proofs.InboxLemmas.{has_message, swept_room}
use Rattle.day_weaving.proofs.woven_steps.put_step.Goals as goal

pub returns-in_ok-put_message-in-In-clause-step : goal.returns-in_ok-put_message-in-In-clause-step
returns-in_ok-put_message-in-In-clause-step c before stand next =
    let action = c.in-Some.action.now in
    let has =
    has_message c.requires.well_formed.0 c.args.day.now before c.args.slot.now action
    c.args.came.now c.requires.well_formed.1 c.in-Some.ensures next (ap is_in c.in-In.is) stand in
    let found = is_message c.args.day.now before c.args.slot.now c.args.came.now
    c.put_message.new.came c.args.steps.now.items c.put_message.new.steps.items next stand
    (c.in_ok-put_message-in-In.ensures has.firm has.inbound has.by_firm has.there) in (
      found.0,
      found.1,
      record {
        action = action;
        action_is = sym c.in-Some.ensures;
        step_is = subst (λ (of_kind : Kind). IsStepOfKind c.args.day.now of_kind c.args.slot.now
            action.moment found.0) (sym c.in-In.is) found.2;
      },
    )

pub returns-in_ok-put_message-in-In-clause-came : goal.returns-in_ok-put_message-in-In-clause-came
returns-in_ok-put_message-in-In-clause-came c before stand next =
    let action = c.in-Some.action.now in
    let has =
    has_message c.requires.well_formed.0 c.args.day.now before c.args.slot.now action
    c.args.came.now c.requires.well_formed.1 c.in-Some.ensures next (ap is_in c.in-In.is) stand in
    let takes =
    c.in_ok-put_message-in-In.ensures has.firm has.inbound has.by_firm has.there in
    came_more c.args.day.now before c.args.slot.now action c.in-Some.ensures next c.args.came.now
    c.put_message.new.came takes.firm (ap is_in c.in-In.is) takes.by_firm takes.counted stand

pub put_sweep-requires : goal.put_sweep-requires
put_sweep-requires c =
    swept_room c.requires.well_formed.0 c.args.day.now c.args.slot.now c.in-Some.action.now
    c.requires.well_formed.1 c.requires.slot c.in-Some.ensures (ap is_expire c.in-Expire.is)

pub returns-in_ok-put_sweep-in-Expire-clause-came :
    goal.returns-in_ok-put_sweep-in-Expire-clause-came
returns-in_ok-put_sweep-in-Expire-clause-came c before stand next =
    came_stays c.args.day.now before c.args.slot.now c.in-Some.action.now c.in-Some.ensures next
    c.args.came.now (ap is_in c.in-Expire.is) stand

pub returns-in_ok-push-in_default-kind : goal.returns-in_ok-push-in_default-kind
returns-in_ok-push-in_default-kind c = record {
  step = λ before stand next. (
    step.Turn c.args.slot.now.action.0,
    c.in_ok-push-in_default-kind.ensures.items,
    record {
      action = c.in-Some.action.now;
      action_is = sym c.in-Some.ensures;
      step_is = turn_is c.args.day.now c.in-Some.action.now.kind c.args.slot.now
          c.in-Some.action.now.moment (step.Turn c.args.slot.now.action.0)
          c.in_default-kind.not-In c.in_default-kind.not-Expire refl;
    },
  );
  came = λ before stand next. came_stays c.args.day.now before c.args.slot.now
      c.in-Some.action.now c.in-Some.ensures next c.args.came.now
      (no_message c.in-Some.action.now.kind c.in_default-kind.not-In) stand;
}
