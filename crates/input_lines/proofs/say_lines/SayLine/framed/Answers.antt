use Rattle.std.proofs.Common.{ap, ◌∙◌, refl, rules}
use Rattle.input_lines.proofs.SpellLemmas.{said_message_is}
use Rattle.fix_fields.specs.TextLaws.{number_is_value}
use Rattle.input_lines.proofs.say_lines.SayLine.framed.Goals as goal

pub with_header_field-requires-3-clause-value : goal.with_header_field-requires-3-clause-value
with_header_field-requires-3-clause-value c = rw (c.as_bytes-digits.ensures.value, c.format.ensures.text) (number_is_value c.args.number (search rules))

pub returns : goal.returns
returns c =
    let view = c.self.view_is in
    said_message_is c.args.date.now c.args.firm.now c.args.number c.args.self.now
    c.in_ok-typed.typed c.in_ok-sender.sender c.in_ok-target.target c.in_ok-numbered.numbered c.in_ok-timed.timed c.in_ok-header.header c.in_ok-whole.whole
    c.in_ok-message.message c.self.inside.msg_type.now c.args.firm.now _ c.as_bytes-digits.result.now c.moment_bytes-time.result c.self.inside.trader.now
    c.deref.result.now c.deref-2.result.now c.deref-3.result.now c.deref-4.result.now c.deref-5.result.now c.deref-6.result.now
    (ap (λ s. s.msg_type) view) refl (search rules) (search rules) (search rules) (ap (λ s. s.trader) view)
    (c.deref.ensures.value ∙ ap (λ s. s.fields) view) (c.deref-2.ensures.value ∙ ap (λ s. s.fields) view)
    (c.deref-3.ensures.value ∙ ap (λ s. s.fields) view) (c.deref-4.ensures.value ∙ ap (λ s. s.fields) view)
    (c.deref-5.ensures.value ∙ ap (λ s. s.fields) view) (c.deref-6.ensures.value ∙ ap (λ s. s.fields) view)
    c.in_ok-typed.ensures c.in_ok-sender.ensures c.in_ok-target.ensures c.in_ok-numbered.ensures c.in_ok-timed.ensures c.in_ok-header.ensures c.in_ok-whole.ensures
    c.in_ok-message.ensures
