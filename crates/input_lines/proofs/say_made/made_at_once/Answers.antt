use Rattle.std.proofs.Common.{◌∙◌, Some, ap, rules}
use Rattle.input_lines.proofs.MadeLemmas.{made_at_once}
use Rattle.input_lines.proofs.say_made.made_at_once.Goals as goal

pub returns : goal.returns
returns c =
    let parts = c.said_parts-parts in
    made_at_once c.args.date.now c.args.firm.now c.args.text.now c.args.number c.in-Some.moment parts.result.trader.now
    parts.result.time.now parts.result.msg_type.now parts.result.body.now (Some c.in-Some-header.frame) (Some c.push_texts.new.frame)
    c.of_frame.result
    parts.ensures.trader parts.ensures.time parts.ensures.msg_type parts.ensures.body (search rules) (search rules) (search rules)
    (search rules) (search rules) (c.in_ok-put.ensures c.if-not-put.false)
    (ap Some (c.of_frame.ensures ∙ c.new.ensures ∙ c.in_ok-bytes.ensures.text))
