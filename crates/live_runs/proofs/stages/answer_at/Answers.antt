use Rattle.std.proofs.Common.{◌≡◌, Some, refl, rules, subst, sym}
use Rattle.live_runs.specs.LineForms.{meant_form}
use Rattle.live_runs.specs.LiveCalls.{IsNext}
use Rattle.live_runs.specs.declared.stages.Stage.TheVariants as stage
use Rattle.live_runs.proofs.GainLemmas.{same_fault}
use Rattle.live_runs.proofs.StageLemmas.{stage_bad, stage_between, stage_keeps, stage_of_both}
use Rattle.live_runs.proofs.StageLemmas.{stage_of_first, stage_opens, stage_refused_as_it_was}
use Rattle.live_runs.proofs.TurnLemmas.{stage_long_between, stage_turn_fails, stage_turns}
use Rattle.live_runs.proofs.stages.answer_at.Goals as goal

pub returns-in_err-turn-clause-err : goal.returns-in_err-turn-clause-err
returns-in_err-turn-clause-err g c =
    same_fault _ c.from_residual.result c.in_err-turn.field-0.0 c.from_residual.ensures.1
    (stage_turn_fails (meant_form c.args.form) c.args.number c.args.line.now c.args.stage.now c.in_err-turn.field-0.0
    (g.W.Write.contents c.args.out.now) (g.E.Write.contents c.args.err.now) (sym c.if-is_turn.ensures) c.in_err-turn.ensures.err)

pub returns-then-is_turn-clause-ok : goal.returns-then-is_turn-clause-ok
returns-then-is_turn-clause-ok g c =
    stage_turns (meant_form c.args.form) c.args.number c.args.line.now c.args.stage.now c.turn.new.stage
    (g.W.Write.contents c.args.out.now) (g.E.Write.contents c.args.err.now) (sym c.if-is_turn.ensures) c.in_ok-turn.ensures.ok

pub returns-in_err-next-in-Configuration-clause-err : goal.returns-in_err-next-in-Configuration-clause-err
returns-in_err-next-in-Configuration-clause-err g c =
    let was : c.args.stage.now ≡ stage.Configuration c.in-Configuration.text = search rules in
    same_fault _ c.from_residual-in_err-next-in-Configuration.result c.in_err-next-in-Configuration.field-0.0
    c.from_residual-in_err-next-in-Configuration.ensures.1
    (stage_bad (meant_form c.args.form) c.args.number c.args.line.now c.args.stage.now c.in-Configuration.text
    c.in_err-next-in-Configuration.field-0.0 (g.W.Write.contents c.args.out.now) (g.E.Write.contents c.args.err.now) was
    c.in_err-next-in-Configuration.ensures.err)

pub returns-in-Some-clause-ok : goal.returns-in-Some-clause-ok
returns-in-Some-clause-ok g c =
    let was : c.args.stage.now ≡ stage.Configuration c.in-Configuration.text = search rules in
    let is : c.in_ok-next-in-Configuration.field-0 ≡ Some c.in-Some.next = search rules in
    stage_opens (meant_form c.args.form) c.args.number c.args.line.now c.args.stage.now c.in-Some.next c.in-Configuration.text
    c.next_stage.new.text.items (g.W.Write.contents c.args.out.now) (g.E.Write.contents c.args.err.now) was
    (subst (λ o. IsNext (meant_form c.args.form) c.args.line.now c.in-Configuration.text.items c.next_stage.new.text.items o) is
    c.in_ok-next-in-Configuration.ensures.ok)

pub returns-in_err-keep_step-in-Kept-clause-err : goal.returns-in_err-keep_step-in-Kept-clause-err
returns-in_err-keep_step-in-Kept-clause-err g c =
    same_fault _ c.from_residual-in_err-keep_step-in-Kept.result c.in_err-keep_step-in-Kept.field-0.0
    c.from_residual-in_err-keep_step-in-Kept.ensures.1
    (stage_refused_as_it_was (meant_form c.args.form) c.args.number c.args.line.now c.args.stage.now c.in_err-keep_step-in-Kept.field-0.0
    (g.W.Write.contents c.args.out.now) (g.E.Write.contents c.args.err.now) (g.E.Write.contents c.keep_step.new.err)
    c.in_err-keep_step-in-Kept.ensures.err)

pub returns-in_ok-keep_step-in-Kept-clause-ok : goal.returns-in_ok-keep_step-in-Kept-clause-ok
returns-in_ok-keep_step-in-Kept-clause-ok g c =
    let was : c.args.stage.now ≡ stage.Kept c.in-Kept.day = search rules in
    stage_keeps (meant_form c.args.form) c.args.number c.args.line.now c.args.stage.now _ c.in-Kept.day c.keep_step.new.day
    (g.W.Write.contents c.args.out.now) (g.E.Write.contents c.args.err.now) (g.E.Write.contents c.keep_step.new.err) was refl
    c.in_ok-keep_step-in-Kept.ensures.ok

pub returns-in_err-keep_step-in-First-clause-err : goal.returns-in_err-keep_step-in-First-clause-err
returns-in_err-keep_step-in-First-clause-err g c =
    same_fault _ c.from_residual-in_err-keep_step-in-First.result c.in_err-keep_step-in-First.field-0.0
    c.from_residual-in_err-keep_step-in-First.ensures.1
    (stage_refused_as_it_was (meant_form c.args.form) c.args.number c.args.line.now c.args.stage.now c.in_err-keep_step-in-First.field-0.0
    (g.W.Write.contents c.args.out.now) (g.E.Write.contents c.args.err.now) (g.E.Write.contents c.keep_step-in-First.new.err)
    c.in_err-keep_step-in-First.ensures.err)

pub returns-in_ok-keep_step-in-First-clause-ok : goal.returns-in_ok-keep_step-in-First-clause-ok
returns-in_ok-keep_step-in-First-clause-ok g c =
    let was : c.args.stage.now ≡ stage.First c.in-First.day = search rules in
    stage_of_first (meant_form c.args.form) c.args.number c.args.line.now c.args.stage.now _ c.in-First.day c.keep_step-in-First.new.day
    (g.W.Write.contents c.args.out.now) (g.E.Write.contents c.args.err.now) (g.E.Write.contents c.keep_step-in-First.new.err) was
    (sym c.if-is_turn.ensures) refl c.in_ok-keep_step-in-First.ensures.ok

pub returns-in_err-put_line-in-Between-clause-err : goal.returns-in_err-put_line-in-Between-clause-err
returns-in_err-put_line-in-Between-clause-err g c =
    let was : c.args.stage.now ≡ stage.Between c.in-Between.field-0 c.in-Between.text = search rules in
    same_fault _ c.from_residual-in_err-put_line-in-Between.result c.in_err-put_line-in-Between.field-0.0
    c.from_residual-in_err-put_line-in-Between.ensures.1
    (stage_long_between (meant_form c.args.form) c.args.number c.args.line.now c.args.stage.now c.in-Between.field-0 c.in-Between.text
    c.in_err-put_line-in-Between.field-0.0 (g.W.Write.contents c.args.out.now) (g.E.Write.contents c.args.err.now) was
    (sym c.if-is_turn.ensures) c.in_err-put_line-in-Between.ensures.err)

pub returns-in_ok-put_line-in-Between-clause-ok : goal.returns-in_ok-put_line-in-Between-clause-ok
returns-in_ok-put_line-in-Between-clause-ok g c =
    let was : c.args.stage.now ≡ stage.Between c.in-Between.field-0 c.in-Between.text = search rules in
    stage_between (meant_form c.args.form) c.args.number c.args.line.now c.args.stage.now _ c.in-Between.field-0 c.in-Between.text
    c.put_line.new.text (g.W.Write.contents c.args.out.now) (g.E.Write.contents c.args.err.now) was (sym c.if-is_turn.ensures) refl
    c.in_ok-put_line-in-Between.ensures.ok c.in_ok-put_line-in-Between.ensures.short

pub returns-in_err-keep_step-in-Both-clause-err : goal.returns-in_err-keep_step-in-Both-clause-err
returns-in_err-keep_step-in-Both-clause-err g c =
    same_fault _ c.from_residual-in_err-keep_step-in-Both.result c.in_err-keep_step-in-Both.field-0.0
    c.from_residual-in_err-keep_step-in-Both.ensures.1
    (stage_refused_as_it_was (meant_form c.args.form) c.args.number c.args.line.now c.args.stage.now c.in_err-keep_step-in-Both.field-0.0
    (g.W.Write.contents c.args.out.now) (g.E.Write.contents c.args.err.now) (g.E.Write.contents c.keep_step-in-Both.new.err)
    c.in_err-keep_step-in-Both.ensures.err)

pub returns-in_ok-keep_step-in-Both-clause-ok : goal.returns-in_ok-keep_step-in-Both-clause-ok
returns-in_ok-keep_step-in-Both-clause-ok g c =
    let was : c.args.stage.now ≡ stage.Both c.in-Both.field-0 c.in-Both.day = search rules in
    stage_of_both (meant_form c.args.form) c.args.number c.args.line.now c.args.stage.now _ c.in-Both.field-0 c.in-Both.day
    c.keep_step-in-Both.new.day (g.W.Write.contents c.args.out.now) (g.E.Write.contents c.args.err.now)
    (g.E.Write.contents c.keep_step-in-Both.new.err) was refl c.in_ok-keep_step-in-Both.ensures.ok
