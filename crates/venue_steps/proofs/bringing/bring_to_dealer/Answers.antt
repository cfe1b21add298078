use Rattle.std.proofs.Common.{◌≡◌, sym, subst}
use Rattle.std.specs.Prelude.{OnOk}
use Rattle.venue_steps.specs.Brought.{dealer_with}
use Rattle.venue_steps.specs.declared.arrivals.ForDealer.{ForDealer}
use Rattle.venue_steps.proofs.bringing.bring_to_dealer.Goals as goal

pub returns-in-Show-clause-ok : goal.returns-in-Show-clause-ok
unfolding dealer_with
returns-in-Show-clause-ok c =
    subst (λ (what : ForDealer). OnOk c.do_show.result (c.do_show.new.desk ≡ dealer_with c.args.desk.now what))
    (sym c.in-Show.is) c.do_show.ensures.ok

pub returns-in-Tell-clause-ok : goal.returns-in-Tell-clause-ok
unfolding dealer_with
returns-in-Tell-clause-ok c =
    subst (λ (what : ForDealer). OnOk c.do_tell.result (c.do_tell.new.desk ≡ dealer_with c.args.desk.now what))
    (sym c.in-Tell.is) c.do_tell.ensures.ok
