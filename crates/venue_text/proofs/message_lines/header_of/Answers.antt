use Rattle.std.proofs.Common.{ℕ, Bor, List, [], ◌∷◌, map, ap, ◌∙◌, arith}
use Rattle.std.proofs.lemmas.List.{map-append}
use Rattle.fix_fields.specs.Frame.{Field}
use Rattle.venue_text.proofs.FieldLemmas.{taken_more, taken_all}
use Rattle.venue_text.proofs.message_lines.header_of.Goals as goal

pub returns-in_default-clause-header : goal.returns-in_default-clause-header
returns-in_default-clause-header c =
    (taken_all c.args.fields.now (map (λ field. (field.0, field.1.now)) c.loop.header.items) c.loop.counter 5 c.loop.fields c.next.new.self c.loop.invariant (omega (arith, c.loop-test.true)) c.in_default.ensures.steps).0

pub returns-in_default-clause-behind : goal.returns-in_default-clause-behind
returns-in_default-clause-behind c =
    (taken_all c.args.fields.now (map (λ field. (field.0, field.1.now)) c.loop.header.items) c.loop.counter 5 c.loop.fields c.next.new.self c.loop.invariant (omega (arith, c.loop-test.true)) c.in_default.ensures.steps).1

pub loop-preserved : goal.loop-preserved
loop-preserved c =
    let view : ℕ × Bor (List ℕ) → Field = λ field. (field.0, field.1.now) in
    let more = taken_more c.args.fields.now (map view c.loop.header.items) c.loop.counter c.loop.fields c.next.new.self (view c.in-Some.field) c.loop.invariant c.in-Some.ensures.steps in
    (ap (map view) c.push.ensures.items ∙ map-append view c.loop.header.items (c.in-Some.field ∷ []) ∙ more.0, more.1)
