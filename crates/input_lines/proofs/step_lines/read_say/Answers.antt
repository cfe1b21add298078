use Rattle.std.proofs.Common.{rules}
use Rattle.venue_rows.specs.Rows.{values_of}
use Rattle.input_lines.proofs.SayLemmas.{made_ok, made_none, made_unknown}
use Rattle.input_lines.proofs.step_lines.read_say.Goals as goal

pub returns-in_default-clause-err : goal.returns-in_default-clause-err
returns-in_default-clause-err c = λ _.
    made_none (values_of c.args.config.now) c.args.heard.now c.args.line c.args.text.now (search rules) (search rules)

pub returns-in_default-firm-clause-err : goal.returns-in_default-firm-clause-err
returns-in_default-firm-clause-err c = λ _.
    made_unknown (values_of c.args.config.now) c.args.heard.now c.args.line c.args.text.now (search rules)
    c.in-Some.made (search rules) (search rules)

pub returns-clause-ok : goal.returns-clause-ok
returns-clause-ok c =
    rw c.into_message-message.ensures
    (made_ok (values_of c.args.config.now) c.args.heard.now c.args.line c.args.text.now (search rules)
    c.in-Some.made c.in-Some-firm.firm (search rules) (search rules))
