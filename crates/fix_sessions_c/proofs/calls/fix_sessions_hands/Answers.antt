use Rattle.std.proofs.Common.{◌∙◌, ap, refl, sym, nat_le, None, Some}
use Rattle.fix_fields.specs.Frame.{fields_len}
use Rattle.fix_sessions.specs.Sending.{hands}
use Rattle.fix_sessions.specs.declared.bodies.TheConstants.{MOST_KEPT}
use Rattle.fix_sessions.specs.declared.turns.Stored.{Stored}
use Rattle.fix_sessions_c.specs.States.{read}
use Rattle.fix_sessions_c.proofs.ToldLemmas.{body_is, empty_is, told_as}
use Rattle.fix_sessions_c.proofs.calls.fix_sessions_hands.Goals as goal

pub returns-then-is_empty-clause-done : goal.returns-then-is_empty-clause-done
returns-then-is_empty-clause-done c done =
    let setting = c.in-Some.setting in (
      None,
      empty_is c.args.frame.now c.if-is_empty.ensures,
      setting.names,
      c.in-Some.ensures.names,
      told_as setting.names setting.date c.args.date.now setting.moment c.args.moment
          c.hands-turn.result _ c.tell.new.session c.tell.new.out c.tell.new.report
          c.in-Some.ensures.date c.in-Some.ensures.moment
          (c.hands-turn.ensures
          ∙ ap (λ s. hands s c.clock.result.moment c.args.next_kept None) c.read-before.ensures
          ∙ ap (λ m. hands (read c.args.session.now) m c.args.next_kept None) (c.clock.ensures.1 ∙ c.in-Some.ensures.moment))
          (c.tell.ensures.done done),
    )

pub returns-clause-done : goal.returns-clause-done
returns-clause-done c done =
    let setting = c.in-Some.setting in
    let frame = c.in-Ok.frame in
    let body = c.in-Some-new-2.body in
    let same = body_is (nat_le (fields_len frame) MOST_KEPT) frame body c.in-Some-new-2.ensures in
    let stored : Stored = record { body = body; first = c.in-Some-new.first; is_copy = c.args.is_copy } in (
      Some stored,
      (sym c.in-Ok.ensures.exact ∙ ap Some same, (search (c.in-Some-new.ensures), refl)),
      setting.names,
      c.in-Some.ensures.names,
      told_as setting.names setting.date c.args.date.now setting.moment c.args.moment
          c.hands-turn-2.result _ c.tell-2.new.session c.tell-2.new.out c.tell-2.new.report
          c.in-Some.ensures.date c.in-Some.ensures.moment
          (c.hands-turn-2.ensures
          ∙ ap (λ s. hands s c.clock-2.result.moment c.args.next_kept (Some stored)) c.read-before.ensures
          ∙ ap (λ m. hands (read c.args.session.now) m c.args.next_kept (Some stored)) (c.clock-2.ensures.1 ∙ c.in-Some.ensures.moment))
          (c.tell-2.ensures.done done),
    )
