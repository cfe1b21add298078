use Rattle.laws_wire.proofs.Crossing.{crosses, sound}
use Rattle.laws_wire.proofs.crossed.what_is_taken_crosses.Goals as goal

pub returns-clause-sound : goal.returns-clause-sound
returns-clause-sound c = sound

pub returns-clause-crosses : goal.returns-clause-crosses
returns-clause-crosses c = crosses
