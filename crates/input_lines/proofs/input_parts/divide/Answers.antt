use Rattle.std.proofs.Common.{rules}
use Rattle.input_lines.proofs.PartLemmas.{reached_next, reached_divider}
use Rattle.input_lines.proofs.input_parts.divide.Goals as goal

pub returns-then-same_text-clause-apart : goal.returns-then-same_text-clause-apart
returns-then-same_text-clause-apart c =
    reached_divider c.args.text.now c.loop-rest.count c.loop-rest.rest.now c.cut_at.result.0.now c.cut_at.result.1.now c.loop-rest.invariant
    (search rules) c.cut_at.ensures.front c.cut_at.ensures.behind (search (rules, c.cut_at.ensures.shorter)) (search rules)

pub loop-rest-preserved : goal.loop-rest-preserved
loop-rest-preserved c =
    reached_next c.args.text.now c.loop-rest.count c.loop-rest.rest.now c.cut_at.result.0.now c.cut_at.result.1.now c.loop-rest.invariant
    (search rules) c.cut_at.ensures.front c.cut_at.ensures.behind (search (rules, c.cut_at.ensures.shorter)) (search rules)
