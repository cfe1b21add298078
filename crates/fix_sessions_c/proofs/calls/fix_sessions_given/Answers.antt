use Rattle.std.proofs.Common.{◌∙◌, ap, sym, nat_le, Some}
use Rattle.fix_fields.specs.Frame.{fields_len}
use Rattle.fix_sessions.specs.Steps.{given}
use Rattle.fix_sessions.specs.declared.bodies.TheConstants.{MOST_KEPT}
use Rattle.fix_sessions_c.specs.States.{read}
use Rattle.fix_sessions_c.proofs.ToldLemmas.{body_is, told_as}
use Rattle.fix_sessions_c.proofs.calls.fix_sessions_given.Goals as goal

pub returns-clause-done : goal.returns-clause-done
returns-clause-done c done =
    let setting = c.in-Some.setting in
    let frame = c.in-Ok.frame in
    let body = c.in-Some-new.body in
    let same = body_is (nat_le (fields_len frame) MOST_KEPT) frame body c.in-Some-new.ensures in (
      body,
      sym c.in-Ok.ensures.exact ∙ ap Some same,
      setting.names,
      c.in-Some.ensures.names,
      told_as setting.names setting.date c.args.date.now setting.moment c.args.moment
          c.given-turn.result _ c.tell.new.session c.tell.new.out c.tell.new.report
          c.in-Some.ensures.date c.in-Some.ensures.moment
          (c.given-turn.ensures
          ∙ ap (λ s. given s c.clock.result.moment body) c.read-before.ensures
          ∙ ap (λ m. given (read c.args.session.now) m body) (c.clock.ensures.1 ∙ c.in-Some.ensures.moment))
          (c.tell.ensures.done done),
    )
