use Rattle.std.proofs.Common.{inl, inr, rules}
use Rattle.input_lines.proofs.StreamLemmas.{rest_faulty}
use Rattle.input_lines.proofs.firm_streams.feed_once.Goals as goal

pub returns-clause-rest : goal.returns-clause-rest
returns-clause-rest c =
    elim (c.in-Err.ensures.err.1) [
      | inl memory ↦ absurd (search (rules, memory))
      | inr faulty ↦ rest_faulty c.args.stream.now c.feed.new.self c.in-Err.fault c.args.piece.now faulty c.in-Err.ensures.err.0
    ]
