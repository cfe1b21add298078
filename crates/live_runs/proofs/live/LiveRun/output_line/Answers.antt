use Rattle.live_runs.proofs.ByteLemmas.{line_past}
use Rattle.live_runs.proofs.live.LiveRun.output_line.Goals as goal

pub returns-then-number-gt-MOST_LINES-clause-err : goal.returns-then-number-gt-MOST_LINES-clause-err
returns-then-number-gt-MOST_LINES-clause-err g c = line_past c.args.self.now _ _ c.if-number-gt-MOST_LINES.true
