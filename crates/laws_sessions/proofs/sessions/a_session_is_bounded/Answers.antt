use Rattle.laws_sessions.proofs.BoundedDays.{days_fit, days_turn_fit, new_fits, two_sent}
use Rattle.laws_sessions.proofs.BoundedFrames.{frame_fits}
use Rattle.laws_sessions.proofs.sessions.a_session_is_bounded.Goals as goal

pub returns-clause-two : goal.returns-clause-two
returns-clause-two c = two_sent

pub returns-clause-numbers : goal.returns-clause-numbers
returns-clause-numbers c = days_fit

pub returns-clause-said : goal.returns-clause-said
returns-clause-said c = days_turn_fit

pub returns-clause-begins : goal.returns-clause-begins
returns-clause-begins c = new_fits

pub returns-clause-framed : goal.returns-clause-framed
returns-clause-framed c = frame_fits
