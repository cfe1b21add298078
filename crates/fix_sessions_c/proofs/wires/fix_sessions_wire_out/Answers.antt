use Rattle.std.proofs.Common.{◌<◌, ℕ, List, length, sym, ◌∙◌, subst, inr}
use Rattle.wire_messages.specs.ToFirm.{IsOfVenue}
use Rattle.fix_sessions_c.proofs.wires.fix_sessions_wire_out.Goals as goal

pub returns-then-not-copy-clause-not_done : goal.returns-then-not-copy-clause-not_done
returns-then-not-copy-clause-not_done c = λ _.
    let e = c.in-Ok.ensures in
    let short = c.copy.ensures.not_done c.if-not-copy.true in
    inr (
      c.in-Some.told,
      sym c.told_of.ensures ∙ c.in-Some.is,
      inr (e.0, subst (λ (n : ℕ). IsOfVenue c.args.frame.now n e.0) c.from.ensures e.1, subst (λ (text : List ℕ). length c.args.out.now < length text) (c.deref.ensures.value ∙ e.2.text) short),
    )
