use Rattle.std.proofs.Common.{rules, ◌≡◌, ◌∙◌, sym, ap, subst, [], ◌∷◌, ◌++◌, Some, None}
use Rattle.std.proofs.lemmas.List.{append-nil}
use Rattle.day_checks.specs.LeftResponseWords.{response_in}
use Rattle.session_worker.specs.Locks.{KeepsInvestor}
use Rattle.session_worker.proofs.LockLemmas.{own_kept}
use Rattle.session_worker.proofs.investors.LockedInvestor.receive.Goals as goal

-- no response was left
pub invariant_of-self-in_default : goal.invariant_of-self-in_default
invariant_of-self-in_default g c =
    let left = c.self.inside.left.items in
    let same : c.reserve-2.new.self.items ≡ left = search rules in
    let found : None ≡ response_in c.in_ok-duties.duties.items =
    sym c.in_default.is ∙ c.response_in.ensures ∙ ap response_in c.deref.ensures.value in
    subst (KeepsInvestor g.J.Naming.config c.own_investor.new.desk) (append-nil left ∙ sym same)
    (own_kept g.J.Naming.config c.self.inside.desk c.own_investor.new.desk left c.args.moment
    c.args.bytes.now c.in_ok-duties.duties.items None c.self.invariant c.in_ok-duties.ensures.ok
    c.in_ok-duties.ensures.duties found)

-- one was
pub invariant_of-self-2 : goal.invariant_of-self-2
invariant_of-self-2 g c =
    let left = c.self.inside.left.items in
    let response = c.in-Some.response in
    let same : c.reserve-2.new.self.items ≡ left = search rules in
    let more : c.push-2.new.self.items ≡ c.reserve-2.new.self.items ++ response ∷ [] =
    search rules in
    let found : Some response ≡ response_in c.in_ok-duties.duties.items =
    sym c.in-Some.is ∙ c.response_in.ensures ∙ ap response_in c.deref.ensures.value in
    subst (KeepsInvestor g.J.Naming.config c.own_investor.new.desk)
    (ap (λ own. own ++ response ∷ []) (sym same) ∙ sym more)
    (own_kept g.J.Naming.config c.self.inside.desk c.own_investor.new.desk left c.args.moment
    c.args.bytes.now c.in_ok-duties.duties.items (Some response) c.self.invariant
    c.in_ok-duties.ensures.ok c.in_ok-duties.ensures.duties found)
