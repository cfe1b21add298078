use Rattle.std.proofs.Common.{rules, ◌≡◌, [], sym, subst}
use Rattle.session_worker.specs.Locks.{KeepsInvestor}
use Rattle.session_worker.proofs.LockLemmas.{opened_keeps}
use Rattle.session_worker.proofs.investors.LockedInvestor.new.Goals as goal

-- the desk is that of an investor of the configuration, and no response was left there
pub invariant_of-result : goal.invariant_of-result
invariant_of-result g c =
    let none : c.new-2.result.items ≡ [] = search rules in
    subst (KeepsInvestor g.J.Naming.config c.in_ok-desk.desk) (sym none)
    (opened_keeps g.J.Naming.config c.args.config.now c.args.firm c.in_ok-desk.desk
    c.requires.config c.in_ok-desk.ensures)
