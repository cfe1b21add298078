use Rattle.laws_sessions.proofs.Leaving.{leaves_ever, stands_at_next}
use Rattle.laws_sessions.proofs.Placed.{leaves_as_given}
use Rattle.laws_sessions.proofs.recovery.what_left_stands.Goals as goal

pub returns-clause-given : goal.returns-clause-given
returns-clause-given c = leaves_as_given

pub returns-clause-stays : goal.returns-clause-stays
returns-clause-stays c = leaves_ever

pub returns-clause-next : goal.returns-clause-next
returns-clause-next c = stands_at_next
