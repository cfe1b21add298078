use Rattle.step_replay.proofs.Common.{is_sent_its_view}
use Rattle.step_replay.proofs.laws.dealers_are_sent_their_view.Goals as goal

pub returns : goal.returns
returns c config steps dealer row is = is_sent_its_view config steps dealer row is
