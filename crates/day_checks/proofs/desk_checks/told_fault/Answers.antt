use Rattle.std.proofs.Common.{◌≡◌, ◌∷◌, false, true, length, sym, ap, ◌∙◌, arith, rules}
use Rattle.day_checks.specs.DayChecks.{is_told}
use Rattle.day_checks.proofs.CheckLemmas.{untold_here, untold_behind}
use Rattle.day_checks.proofs.desk_checks.told_fault.Goals as goal

pub returns-then-not-branch : goal.returns-then-not-branch
returns-then-not-branch c =
    let first : c.loop-dealer.rest.now ≡ c.in-Some.dealer.now ∷ c.in-Some.later.now = search rules in
    let untold : is_told c.args.rooms.now c.loop-dealer.number c.in-Some.dealer.now.events ≡ false = search rules in
    sym (c.loop-dealer.invariant.same
    ∙ untold_here c.args.rooms.now c.loop-dealer.number c.loop-dealer.rest.now c.in-Some.dealer.now c.in-Some.later.now first untold)

pub loop-dealer-preserved : goal.loop-dealer-preserved
loop-dealer-preserved c =
    let first : c.loop-dealer.rest.now ≡ c.in-Some.dealer.now ∷ c.in-Some.later.now = search rules in
    let told : is_told c.args.rooms.now c.loop-dealer.number c.in-Some.dealer.now.events ≡ true = search rules in
    record {
      same = c.loop-dealer.invariant.same
          ∙ untold_behind c.args.rooms.now c.loop-dealer.number c.loop-dealer.rest.now c.in-Some.dealer.now c.in-Some.later.now first told;
      counted = omega (arith, ap length first);
    }
