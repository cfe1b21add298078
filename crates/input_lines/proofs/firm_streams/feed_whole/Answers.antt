use Rattle.std.proofs.Common.{rules}
use Rattle.input_lines.proofs.StreamLemmas.{first_none, rest_after}
use Rattle.input_lines.proofs.firm_streams.feed_whole.Goals as goal

pub returns-in_default-clause-messages : goal.returns-in_default-clause-messages
returns-in_default-clause-messages c = first_none c.args.stream.now c.args.piece.now (search rules)

pub returns-in_default-2-clause-rest : goal.returns-in_default-2-clause-rest
returns-in_default-2-clause-rest c =
    rest_after c.args.stream.now c.feed_once.new.stream c.feed_once-2.new.stream c.args.piece.now c.in_ok-messages.ensures.rest c.in_ok-feed_once.ensures.rest

pub returns-clause-rest : goal.returns-clause-rest
returns-clause-rest c =
    rest_after c.args.stream.now c.feed_once.new.stream c.feed_once-2.new.stream c.args.piece.now c.in_ok-messages.ensures.rest c.in_ok-feed_once.ensures.rest
