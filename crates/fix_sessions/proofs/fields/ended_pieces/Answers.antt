use Rattle.std.proofs.Common.{rules}
use Rattle.fix_sessions.proofs.CutLemmas.{cut_at_last, cut_at_none}
use Rattle.fix_sessions.proofs.fields.ended_pieces.Goals as goal

pub returns-in-Some : goal.returns-in-Some
returns-in-Some c =
    cut_at_last 1 c.args.bytes.now c.in-Some.place (search rules) (search rules) (search rules)

pub returns-in-None : goal.returns-in-None
returns-in-None c = cut_at_none 1 c.args.bytes.now (search rules)
