use Rattle.step_replay.proofs.Common.{◌≤◌, Option, length, refl, sym, ap, ◌∙◌, subst, arith}
use Rattle.step_replay.proofs.Common.{DealerRow, audit_trail, first_fault}
use Rattle.step_replay.specs.StepFaults.{IsFirstOrMemory, due_fault_where}
use Rattle.step_replay.specs.declared.faults.ReplayFault.TheVariants as fault
use Rattle.step_replay.proofs.FoundDealers.{found_read, no_dealer}
use Rattle.step_replay.proofs.world.due.Goals as goal

pub returns-in_default-get-clause-err : goal.returns-in_default-get-clause-err
returns-in_default-get-clause-err c =
    let config = c.args.config.now in
    let floor = c.in_ok-floor.floor in
    let past : length floor.dealers.items ≤ c.args.dealer =
    omega (arith, c.from.ensures, c.in_default-get.ensures.lookup.3, ap length c.deref.ensures.value) in
    subst (λ (row : Option DealerRow). IsFirstOrMemory (fault.UnknownFirm 0)
    (due_fault_where row (first_fault config c.args.steps.now)))
    (sym (no_dealer config (audit_trail config c.args.steps.now).facts floor c.args.dealer
    c.in_ok-floor.ensures past)) refl

pub returns-clause-ok : goal.returns-clause-ok
returns-clause-ok c =
    let found = found_read c.args.config.now
    (audit_trail c.args.config.now c.args.steps.now).facts c.in_ok-floor.floor c.args.dealer
    c.from.result c.deref.result.now c.in-Some-get.place.now c.in_ok-floor.ensures c.from.ensures
    c.deref.ensures.value c.in-Some-get.ensures.lookup.3.0 c.in-Some-get.ensures.lookup.1 in
    c.in_ok-dues.ensures ∙ found.stands.dues_are
