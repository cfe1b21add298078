use Rattle.std.proofs.Common.{◌≡◌, ◌||◌, ◌++◌, [], ◌∷◌, map, ap, ◌∙◌, append_assoc}
use Rattle.fix_fields.specs.Frame.{Field}
use Rattle.wire_messages.specs.ToFirm.{referred, time_before, time_stands_before, timed_from, wire_behind}
use Rattle.wire_messages.proofs.UnwrittenLemmas.{failed, stopped}
use Rattle.wire_messages.proofs.WireLemmas.{at_field}
use Rattle.wire_messages.proofs.for_firms.put_behind.Goals as goal

pub returns-in_err-is_timed : goal.returns-in_err-is_timed
returns-in_err-is_timed c =
    let why = c.in_err-is_timed.field-0.0 in
    let m = c.args.message.now in
    let r = c.args.reference in
    let before = c.loop-tag.writer in
    let timed = c.loop-tag.is_timed in
    let field : Field = (c.in-Some.tag, c.in-Some.value.now) in
    let rest = c.next.new.self in
    let whole = c.args.writer.now ++ wire_behind r m in
    let more = referred m.kind r field ∷ map (referred m.kind r) (timed_from (timed || time_stands_before m.kind field.0) m.kind m.moment rest) in
    failed _ _ c.from_residual.result why c.from_residual.ensures.1
    (stopped 4071 why (before ++ time_before timed m.kind m.moment field.0) more whole
    (at_field before whole timed m.kind m.moment r field rest c.loop-tag.tag-iterator c.in-Some.ensures.steps c.loop-tag.invariant.fields)
    c.in_err-is_timed.ensures)

pub returns-in_err-put_referred : goal.returns-in_err-put_referred
returns-in_err-put_referred c =
    let why = c.in_err-put_referred.field-0.0 in
    let m = c.args.message.now in
    let r = c.args.reference in
    let before = c.loop-tag.writer in
    let timed = c.loop-tag.is_timed in
    let field : Field = (c.in-Some.tag, c.in-Some.value.now) in
    let rest = c.next.new.self in
    let whole = c.args.writer.now ++ wire_behind r m in
    let written = c.put_time_before.new.writer in
    let kind = c.kind.result.now in
    let more = map (referred m.kind r) (timed_from (timed || time_stands_before m.kind field.0) m.kind m.moment rest) in
    let same : (written ++ referred kind r field ∷ []) ++ more ≡ whole =
    append_assoc written (referred kind r field ∷ []) more
    ∙ ap (λ w. w ++ referred kind r field ∷ more) c.in_ok-is_timed.ensures.1
    ∙ ap (λ k. (before ++ time_before timed m.kind m.moment field.0) ++ referred k r field ∷ more) c.kind.ensures.value
    ∙ at_field before whole timed m.kind m.moment r field rest c.loop-tag.tag-iterator c.in-Some.ensures.steps c.loop-tag.invariant.fields in
    failed _ _ c.from_residual-in_err-put_referred.result why c.from_residual-in_err-put_referred.ensures.1
    (stopped 4071 why (written ++ referred kind r field ∷ []) more whole same c.in_err-put_referred.ensures)
