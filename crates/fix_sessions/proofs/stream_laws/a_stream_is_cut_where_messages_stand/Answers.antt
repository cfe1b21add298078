use Rattle.fix_sessions.proofs.StreamCuts.{found_behind, found_first, found_is_message, message_not_passed, spoilt_passed}
use Rattle.fix_sessions.proofs.StreamWaits.{waits_short}
use Rattle.fix_sessions.proofs.stream_laws.a_stream_is_cut_where_messages_stand.Goals as goal

pub returns-clause-found : goal.returns-clause-found
returns-clause-found c = found_is_message

pub returns-clause-first : goal.returns-clause-first
returns-clause-first c = found_first

pub returns-clause-again : goal.returns-clause-again
returns-clause-again c = found_behind

pub returns-clause-spoilt : goal.returns-clause-spoilt
returns-clause-spoilt c = spoilt_passed

pub returns-clause-none_passed : goal.returns-clause-none_passed
returns-clause-none_passed c = message_not_passed

pub returns-clause-waits : goal.returns-clause-waits
returns-clause-waits c = waits_short
