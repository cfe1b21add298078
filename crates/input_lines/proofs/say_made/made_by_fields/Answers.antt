use Rattle.std.proofs.Common.{rules}
use Rattle.input_lines.proofs.MadeLemmas.{made_said}
use Rattle.input_lines.proofs.say_made.made_by_fields.Goals as goal

pub returns : goal.returns
returns c =
    made_said c.args.date.now c.args.firm.now c.args.text.now c.args.number c.moment.result c.in-Some.said c.new.result
    c.is_numbered.result c.moment.ensures c.is_numbered.ensures (search rules) (search rules)
