use Rattle.std.proofs.Common.{◌≡◌, ◌∷◌, false, true, length, sym, ap, ◌∙◌, arith, rules}
use Rattle.day_checks.specs.ShownRequests.{is_shown}
use Rattle.day_checks.proofs.CheckLemmas.{unshown_here, unshown_behind}
use Rattle.day_checks.proofs.shown_checks.shown_fault.Goals as goal

-- the first dealer that was not shown what it is to be shown
pub returns-then-not-branch : goal.returns-then-not-branch
returns-then-not-branch c =
    let dealer = c.in-Some.dealer.now in
    let later = c.in-Some.later.now in
    let first : c.loop-dealer.rest.now ≡ dealer ∷ later = search rules in
    let unshown : is_shown c.args.rooms.now c.loop-dealer.number dealer.events ≡ false =
    search rules in
    sym (c.loop-dealer.invariant.same
    ∙ unshown_here c.args.rooms.now c.loop-dealer.number c.loop-dealer.rest.now dealer later first
    unshown)

-- the next dealer
pub loop-dealer-preserved : goal.loop-dealer-preserved
loop-dealer-preserved c =
    let dealer = c.in-Some.dealer.now in
    let later = c.in-Some.later.now in
    let first : c.loop-dealer.rest.now ≡ dealer ∷ later = search rules in
    let shown : is_shown c.args.rooms.now c.loop-dealer.number dealer.events ≡ true =
    search rules in
    record {
      same = c.loop-dealer.invariant.same
          ∙ unshown_behind c.args.rooms.now c.loop-dealer.number c.loop-dealer.rest.now dealer later
          first shown;
      counted = omega (arith, ap length first);
    }
