use Rattle.laws_wire.proofs.MessageLemmas.{no_answer, of_a_type, sent_written}
use Rattle.laws_wire.proofs.messages.each_message_is_of_a_type_of_the_venue.Goals as goal

pub returns-clause-written : goal.returns-clause-written
returns-clause-written c = sent_written

pub returns-clause-typed : goal.returns-clause-typed
returns-clause-typed c config steps firm bytes fields sent read =
    of_a_type bytes fields (sent_written config steps firm bytes sent) read

pub returns-clause-kept : goal.returns-clause-kept
returns-clause-kept c config steps firm bytes number told body sent made =
    no_answer bytes number told body (sent_written config steps firm bytes sent) made
