use Rattle.laws_sessions.proofs.Stamps.{header_alone}
use Rattle.laws_sessions.proofs.sessions.what_leaves_is_what_is_kept.Goals as goal

pub returns : goal.returns
returns c = header_alone
