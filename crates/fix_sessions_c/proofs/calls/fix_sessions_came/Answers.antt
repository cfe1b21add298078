use Rattle.std.proofs.Common.{◌∙◌, ap}
use Rattle.fix_sessions.specs.Steps.{came}
use Rattle.fix_sessions_c.proofs.ToldLemmas.{clock_as, told_as}
use Rattle.fix_sessions_c.proofs.calls.fix_sessions_came.Goals as goal

pub returns-clause-done : goal.returns-clause-done
returns-clause-done c done =
    let setting = c.in-Some.setting in
    let denial = c.in-Some-denial_of.denial in (
      denial,
      c.in-Some-denial_of.ensures,
      setting.names,
      c.in-Some.ensures.names,
      c.clock.result,
      clock_as setting.date c.args.date.now setting.moment c.args.moment c.clock.result
          c.in-Some.ensures.date c.in-Some.ensures.moment c.clock.ensures,
      told_as setting.names setting.date c.args.date.now setting.moment c.args.moment
          c.came-turn.result _ c.tell.new.session c.tell.new.out c.tell.new.report
          c.in-Some.ensures.date c.in-Some.ensures.moment
          (c.came-turn.ensures
          ∙ ap (λ s. came setting.names s c.args.connection c.clock.result c.args.bytes.now c.args.is_known denial)
          c.read-before.ensures)
          (c.tell.ensures.done done),
    )
