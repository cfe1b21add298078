use Rattle.fix_fields.proofs.FrameLemmas.{frame_once}
use Rattle.fix_fields.proofs.laws.frames_have_one_reading.Goals as goal

pub returns : goal.returns
returns c = λ bytes fields others is other. frame_once bytes fields others is other
