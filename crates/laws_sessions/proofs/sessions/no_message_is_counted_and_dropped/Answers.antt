use Rattle.laws_sessions.proofs.MovedDays.{nothing_marked, others_still}
use Rattle.laws_sessions.proofs.MovedCame.{came_moves}
use Rattle.laws_sessions.proofs.sessions.no_message_is_counted_and_dropped.Goals as goal

pub returns-clause-bytes : goal.returns-clause-bytes
returns-clause-bytes c = came_moves

pub returns-clause-others : goal.returns-clause-others
returns-clause-others c = others_still

pub returns-clause-marked : goal.returns-clause-marked
returns-clause-marked c = nothing_marked
