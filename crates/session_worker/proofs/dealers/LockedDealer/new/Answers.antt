use Rattle.session_worker.proofs.DealerLockLemmas.{opening_keeps}
use Rattle.session_worker.proofs.dealers.LockedDealer.new.Goals as goal

-- no word was asked yet
pub invariant_of-result : goal.invariant_of-result
invariant_of-result g c = opening_keeps g.J.Naming.board g.J.Naming.config c.args.config.now
    c.args.firm c.args.first_word c.in_ok-desk.desk c.date.result.now c.args.row.now c.copy.result
    c.args.seen c.in_ok-desk.ensures c.date.ensures c.copy.ensures c.requires.config c.requires.row
    c.requires.first c.requires.seen
