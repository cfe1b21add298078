use Rattle.session_worker.proofs.BroughtLemmas.{investor_brought}
use Rattle.session_worker.proofs.investors.LockedInvestor.bring.Goals as goal

-- the market of the desk and the responses that were left stay
pub invariant_of-self-2 : goal.invariant_of-self-2
invariant_of-self-2 g c = investor_brought g.J.Naming.config c.self.inside.desk
    c.bring_to_investor.new.desk c.self.inside.left.items c.args.what c.self.invariant
    c.in_ok-duties.ensures.ok
