use Rattle.std.proofs.Common.{inl, inr, rules}
use Rattle.day_checks.proofs.InboxLemmas.{nothing_brought, rest_faulty}
use Rattle.day_checks.proofs.inbox.take_piece.Goals as goal

pub returns-clause-messages : goal.returns-clause-messages
returns-clause-messages c =
    elim (c.in-Err.ensures.err.1) [
      | inl memory ↦ absurd (search (rules, memory))
      | inr faulty ↦ nothing_brought c.args.stream.now c.feed.new.self c.in-Err.fault c.args.piece.now.moment c.args.piece.now.bytes
          c.args.inbox.now.items faulty
    ]

pub returns-clause-rest : goal.returns-clause-rest
returns-clause-rest c =
    elim (c.in-Err.ensures.err.1) [
      | inl memory ↦ absurd (search (rules, memory))
      | inr faulty ↦ rest_faulty c.args.stream.now c.feed.new.self c.in-Err.fault c.args.piece.now.bytes faulty c.in-Err.ensures.err.0
    ]
