use Rattle.std.proofs.Common.{length, ap, rules}
use Rattle.input_lines.proofs.CutLemmas.{spoken_first, spoken_next}
use Rattle.input_lines.proofs.lines.NumberedLinesIterator.next.Goals as goal

pub loop-self-preserved : goal.loop-self-preserved
loop-self-preserved c = record {
  same = spoken_next c.loop-self.self-inside.number c.loop-self.self-inside.rest.now c.cut_at.result.0.now c.cut_at.result.1.now c.args.self.now
      c.loop-self.invariant.same (search rules) c.cut_at.ensures.front c.cut_at.ensures.behind (search rules);
  within = search (rules, c.cut_at.ensures.shorter);
}

pub returns-then-not-is_skipped-clause-steps : goal.returns-then-not-is_skipped-clause-steps
returns-then-not-is_skipped-clause-steps c =
    spoken_first c.loop-self.self-inside.number c.loop-self.self-inside.rest.now c.cut_at.result.0.now c.cut_at.result.1.now c.args.self.now
    c.loop-self.invariant.same (search rules) c.cut_at.ensures.front c.cut_at.ensures.behind (search rules)

pub returns-then-not-is_skipped-clause-goes : goal.returns-then-not-is_skipped-clause-goes
returns-then-not-is_skipped-clause-goes c =
    let shorter = ap length (spoken_first c.loop-self.self-inside.number c.loop-self.self-inside.rest.now c.cut_at.result.0.now c.cut_at.result.1.now c.args.self.now
    c.loop-self.invariant.same (search rules) c.cut_at.ensures.front c.cut_at.ensures.behind (search rules)) in
    search rules
