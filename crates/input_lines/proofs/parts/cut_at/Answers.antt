use Rattle.input_lines.proofs.CutLemmas.{nowhere_front, nowhere_behind, place_front, place_behind}
use Rattle.input_lines.proofs.parts.cut_at.Goals as goal

pub returns-in_default-clause-front : goal.returns-in_default-clause-front
returns-in_default-clause-front c = nowhere_front c.args.byte c.args.text.now c.in_default.ensures

pub returns-in_default-clause-behind : goal.returns-in_default-clause-behind
returns-in_default-clause-behind c = nowhere_behind c.args.byte c.args.text.now c.in_default.ensures

pub returns-clause-front : goal.returns-clause-front
returns-clause-front c = place_front c.args.byte c.in-Some.place c.args.text.now c.in-Some.ensures.0 c.in-Some.ensures.1

pub returns-clause-behind : goal.returns-clause-behind
returns-clause-behind c = place_behind c.args.byte c.in-Some.place c.args.text.now c.in-Some.ensures.0 c.in-Some.ensures.1
