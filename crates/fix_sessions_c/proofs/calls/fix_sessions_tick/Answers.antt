use Rattle.std.proofs.Common.{◌∙◌, ap}
use Rattle.fix_sessions.specs.Steps.{tick}
use Rattle.fix_sessions_c.specs.States.{read}
use Rattle.fix_sessions_c.proofs.ToldLemmas.{told_as}
use Rattle.fix_sessions_c.proofs.calls.fix_sessions_tick.Goals as goal

pub returns-clause-done : goal.returns-clause-done
returns-clause-done c done =
    let setting = c.in-Some.setting in (
      setting.names,
      c.in-Some.ensures.names,
      told_as setting.names setting.date c.args.date.now setting.moment c.args.moment
          c.tick-turn.result _ c.tell.new.session c.tell.new.out c.tell.new.report
          c.in-Some.ensures.date c.in-Some.ensures.moment
          (c.tick-turn.ensures
          ∙ ap (λ s. tick s c.clock.result.moment) c.read-before.ensures
          ∙ ap (λ m. tick (read c.args.session.now) m) (c.clock.ensures.1 ∙ c.in-Some.ensures.moment))
          (c.tell.ensures.done done),
    )
