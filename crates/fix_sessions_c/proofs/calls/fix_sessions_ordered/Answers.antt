use Rattle.std.proofs.Common.{◌∙◌, ap, sym}
use Rattle.fix_sessions.specs.Steps.{ordered}
use Rattle.fix_sessions_c.proofs.ToldLemmas.{clock_as, told_as}
use Rattle.fix_sessions_c.proofs.calls.fix_sessions_ordered.Goals as goal

pub returns-clause-done : goal.returns-clause-done
returns-clause-done c done =
    let setting = c.in-Some.setting in (
      c.in-Some-order.order,
      sym c.in-Some-order.ensures,
      setting.names,
      c.in-Some.ensures.names,
      c.clock.result,
      clock_as setting.date c.args.date.now setting.moment c.args.moment c.clock.result
          c.in-Some.ensures.date c.in-Some.ensures.moment c.clock.ensures,
      told_as setting.names setting.date c.args.date.now setting.moment c.args.moment
          c.ordered-turn.result _ c.tell.new.session c.tell.new.out c.tell.new.report
          c.in-Some.ensures.date c.in-Some.ensures.moment
          (c.ordered-turn.ensures
          ∙ ap (λ s. ordered s c.clock.result c.in-Some-order.order) c.read-before.ensures)
          (c.tell.ensures.done done),
    )
