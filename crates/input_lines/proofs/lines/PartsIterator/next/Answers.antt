use Rattle.std.proofs.Common.{length, ap, rules}
use Rattle.input_lines.proofs.CutLemmas.{parts_first}
use Rattle.input_lines.proofs.lines.PartsIterator.next.Goals as goal

pub returns-clause-steps : goal.returns-clause-steps
returns-clause-steps c =
    parts_first c.self.inside.end c.self.inside.rest.now c.cut_at.result.0.now c.cut_at.result.1.now c.args.self.now c.self.view_is (search rules)
    c.cut_at.ensures.front c.cut_at.ensures.behind

pub returns-clause-goes : goal.returns-clause-goes
returns-clause-goes c =
    let shorter = ap length (parts_first c.self.inside.end c.self.inside.rest.now c.cut_at.result.0.now c.cut_at.result.1.now c.args.self.now
    c.self.view_is (search rules) c.cut_at.ensures.front c.cut_at.ensures.behind) in
    search rules
