use Rattle.std.proofs.Common.{◌≡◌, ◌++◌, sym, ◌∙◌}
use Rattle.fix_fields.specs.Frame.{body_of, field_text}
use Rattle.wire_messages.proofs.GivenLemmas.{begins_with_type}
use Rattle.wire_messages.proofs.for_venue.begin_of.Goals as goal

pub returns-then-tag-ne35 : goal.returns-then-tag-ne35
returns-then-tag-ne35 c = λ message.
    let bytes = c.args.bytes.now in
    let tag = c.in_ok-tag.tag in
    let kind = c.in_ok-tag.kind.now in
    let rest = c.in_ok-tag.rest.now in
    let e = c.in_ok-tag.ensures in
    let body : body_of bytes ≡ field_text (tag, kind) ++ rest = sym c.body_of.ensures ∙ e.1 in
    c.if-tag-ne35.true (begins_with_type bytes rest kind tag e.0 body message)
