use Rattle.std.proofs.Common.{rules}
use Rattle.fix_fields.specs.TextLaws.{number_is_value}
use Rattle.input_lines.specs.SayReading.{whole_header}
use Rattle.input_lines.proofs.TextLemmas.{header_put}
use Rattle.input_lines.proofs.say_made.header_frame.Goals as goal

pub text-requires-3-clause-value : goal.text-requires-3-clause-value
text-requires-3-clause-value c = rw (c.as_bytes-digits.ensures.value, c.format.ensures.text) (number_is_value c.args.number (search rules))

pub returns : goal.returns
returns c =
    header_put c.text-5.new.self
    (whole_header c.args.date.now c.args.firm.now c.args.number c.args.moment c.args.trader.now c.args.msg_type.now)
    (search rules) (search rules)
