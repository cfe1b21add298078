use Rattle.std.proofs.Common.{◌≡◌, sym, subst}
use Rattle.std.specs.Prelude.{OnOk}
use Rattle.venue_steps.specs.Brought.{investor_with}
use Rattle.venue_steps.specs.declared.arrivals.ForInvestor.{ForInvestor}
use Rattle.venue_steps.proofs.bringing.bring_to_investor.Goals as goal

pub returns-in-Relay-clause-ok : goal.returns-in-Relay-clause-ok
unfolding investor_with
returns-in-Relay-clause-ok c =
    subst (λ (what : ForInvestor). OnOk c.do_relay.result (c.do_relay.new.desk ≡ investor_with c.args.desk.now what))
    (sym c.in-Relay.is) c.do_relay.ensures.ok

pub returns-in-Gone-clause-ok : goal.returns-in-Gone-clause-ok
unfolding investor_with
returns-in-Gone-clause-ok c =
    subst (λ (what : ForInvestor). OnOk c.do_gone.result (c.do_gone.new.desk ≡ investor_with c.args.desk.now what))
    (sym c.in-Gone.is) c.do_gone.ensures.ok

pub returns-in-Declined-clause-ok : goal.returns-in-Declined-clause-ok
unfolding investor_with
returns-in-Declined-clause-ok c =
    subst (λ (what : ForInvestor). OnOk c.do_declined.result (c.do_declined.new.desk ≡ investor_with c.args.desk.now what))
    (sym c.in-Declined.is) c.do_declined.ensures.ok

pub returns-in-Answer-clause-ok : goal.returns-in-Answer-clause-ok
unfolding investor_with
returns-in-Answer-clause-ok c =
    subst (λ (what : ForInvestor). OnOk c.do_answer.result (c.do_answer.new.desk ≡ investor_with c.args.desk.now what))
    (sym c.in-Answer.is) c.do_answer.ensures.ok

pub returns-in-Close-clause-ok : goal.returns-in-Close-clause-ok
unfolding investor_with
returns-in-Close-clause-ok c =
    subst (λ (what : ForInvestor). OnOk c.do_close.result (c.do_close.new.desk ≡ investor_with c.args.desk.now what))
    (sym c.in-Close.is) c.do_close.ensures.ok
