use Rattle.laws_wire.proofs.CountedLemmas.{dealer_counts, investor_counts}
use Rattle.laws_wire.proofs.counting.what_a_session_takes_is_counted.Goals as goal

pub returns-clause-dealer : goal.returns-clause-dealer
returns-clause-dealer c names s connection clock bytes given is_known denial number date row book moment takes most is =
    dealer_counts bytes given number (c.what_is_taken_crosses.ensures.sound names s connection clock bytes is_known denial number takes)
    date row book moment most is

pub returns-clause-investor : goal.returns-clause-investor
returns-clause-investor c names s connection clock bytes given is_known denial number market book moment takes most is =
    investor_counts bytes given number (c.what_is_taken_crosses.ensures.sound names s connection clock bytes is_known denial number takes)
    market book moment most is
