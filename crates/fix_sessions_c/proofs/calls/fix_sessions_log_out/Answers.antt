use Rattle.std.proofs.Common.{◌∙◌, ap}
use Rattle.fix_sessions.specs.Steps.{log_out}
use Rattle.fix_sessions_c.specs.States.{read}
use Rattle.fix_sessions_c.proofs.ToldLemmas.{told_as}
use Rattle.fix_sessions_c.proofs.calls.fix_sessions_log_out.Goals as goal

pub returns-clause-done : goal.returns-clause-done
returns-clause-done c done =
    let setting = c.in-Some.setting in
    let text = c.in-Some-said_text.text in (
      setting.names,
      c.in-Some.ensures.names,
      told_as setting.names setting.date c.args.date.now setting.moment c.args.moment
          c.log_out-turn.result _ c.tell.new.session c.tell.new.out c.tell.new.report
          c.in-Some.ensures.date c.in-Some.ensures.moment
          (c.log_out-turn.ensures
          ∙ ap (λ s. log_out s c.clock.result.moment text) c.read-before.ensures
          ∙ ap (λ m. log_out (read c.args.session.now) m text) (c.clock.ensures.1 ∙ c.in-Some.ensures.moment)
          ∙ ap (λ t. log_out (read c.args.session.now) c.args.moment t) c.in-Some-said_text.ensures.0)
          (c.tell.ensures.done done),
    )
