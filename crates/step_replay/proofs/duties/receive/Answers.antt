use Rattle.step_replay.proofs.Common.{◌≡◌, ◌<◌, ◌≤◌, length, arith, ap, false, is_some, nat_tests}
use Rattle.step_replay.proofs.Common.{dealer_numbered, message_effect}
use Rattle.step_replay.proofs.ComingLemmas.{dealer_here}
use Rattle.step_replay.proofs.FoundDealers.{no_dealer}
use Rattle.step_replay.proofs.duties.receive.Goals as goal

pub returns-then-from-len-clause-acts : goal.returns-then-from-len-clause-acts
unfolding message_effect
returns-then-from-len-clause-acts c config facts stands =
    let within : c.args.firm < length c.args.floor.now.dealers.items =
    grind (arith, nat_tests, c.if-from-len.true, c.from.ensures, c.len.ensures) in
    rw (dealer_here c.args.firm stands within) (c.in_ok-duties.ensures config facts stands)

pub returns-clause-acts : goal.returns-clause-acts
unfolding message_effect
returns-clause-acts c config facts stands =
    let beyond : length c.args.floor.now.dealers.items ≤ c.args.firm =
    grind (arith, nat_tests, c.if-from-len.false, c.from.ensures, c.len.ensures) in
    let none : is_some (dealer_numbered config c.args.firm) ≡ false =
    ap is_some (no_dealer config facts c.args.floor.now c.args.firm stands beyond) in
    rw none (c.in_ok-duties-2.ensures config facts stands)
