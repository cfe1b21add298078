use Rattle.std.proofs.Common.{rules}
use Rattle.input_lines.proofs.SayLemmas.{due_made, due_none}
use Rattle.input_lines.proofs.due_text.read_said.Goals as goal

pub returns-in_default-clause-due : goal.returns-in_default-clause-due
returns-in_default-clause-due c =
    due_none c.args.date.now c.args.firm.now c.args.text.now c.args.number (search rules)

pub returns-clause-due : goal.returns-clause-due
returns-clause-due c =
    rw c.next_number-next.ensures.value
    (due_made c.args.date.now c.args.firm.now c.args.text.now c.args.number c.in-Some.made (search rules))
