use Rattle.std.proofs.Common.{◌≡◌, ◌≤◌, ◌*◌, ℕ, arith, length, refl, subst}
use Rattle.std.proofs.lemmas.Option.{slice_get_read}
use Rattle.day_weaving.specs.OrderSearch.{HasCome, steps_left}
use Rattle.day_weaving.specs.declared.weave_plan.Slot.{Slot}
use Rattle.day_weaving.proofs.WaitLemmas.{come_of}
use Rattle.day_weaving.proofs.SearchEnds.{few_steps, no_steps}
use Rattle.day_weaving.proofs.WaySteps.{same_slot}
use Rattle.day_weaving.proofs.weave_search.Search.bring.Goals as goal

pub loop-init : goal.loop-init
loop-init c =
    let marks = c.args.self.now.marks.items in
    let slots = c.args.table.now.slots.items in
    let few : steps_left c.args.self.now ≤ 2 * length slots =
    subst (λ (n : ℕ). steps_left c.args.self.now ≤ 2 * n) c.requires.stands.long
    (few_steps marks) in
    record {
      stands = c.requires.stands;
      grows = λ key. omega arith;
      less = omega (arith, few);
    }

pub returns-then-has_come-clause-come : goal.returns-then-has_come-clause-come
returns-then-has_come-clause-come c slot there =
    let done = c.loop.self.done in
    let one = c.index.result.now in
    subst (λ (s : Slot). HasCome done s.action)
    (same_slot c.args.table.now.slots.items c.args.index one slot c.requires.within c.index.ensures
    there) (come_of done one.action c.has_come.result c.has_come.ensures c.if-has_come.true)

pub step-requires-clause-is_action : goal.step-requires-clause-is_action
step-requires-clause-is_action c =
    let slots = c.args.table.now.slots.items in
    (c.requires.table.built.right c.args.index c.index.result.now
    (slice_get_read slots (length slots) c.args.index c.index.result.now refl c.requires.within
    c.index.ensures)).is_action

pub returns-clause-come : goal.returns-clause-come
returns-clause-come c slot there =
    let none : steps_left c.loop.self ≡ 0 =
    omega (arith, c.loop.invariant.less, c.args.table.now.slots.ok.0) in
    no_steps c.args.day.now c.args.table.now c.loop.self slot.action c.requires.table
    c.loop.invariant.stands (c.requires.table.built.right c.args.index slot there).is_action none
