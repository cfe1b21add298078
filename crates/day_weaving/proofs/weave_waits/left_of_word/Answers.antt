use Rattle.std.proofs.Common.{◌≡◌, ◌<◌, ◌≤◌, ◌-◌, Some, ap, arith, length, refl, slice_get, sym, ◌∙◌}
use Rattle.std.proofs.lemmas.Option.{slice_get_read}
use Rattle.day_weaving.proofs.WaitLemmas.{before_of_word, come_of, head_next, left_of, own_word}
use Rattle.day_weaving.proofs.weave_waits.left_of_word.Goals as goal

pub returns-then-not-has_come-clause-some : goal.returns-then-not-has_come-clause-some
returns-then-not-has_come-clause-some c =
    let day = c.args.day.now in
    let slots = c.args.table.now.slots.items in
    let slot = c.index.result.now in
    let place = c.in_ok-place.place in
    let bound = c.loop.bound in
    let word = c.in_ok-word.word in
    let least : 0 < bound = omega (arith, c.in_ok-place.ensures.0) in
    let place_is : place ≡ bound - 1 = omega (arith, c.in_ok-place.ensures.1) in
    let within : place < length slots =
    omega (arith, least, place_is, c.loop.invariant.less) in
    let there : slice_get slots place ≡ Some slot =
    slice_get_read slots (length slots) place slot refl within c.index.ensures in
    let there_too : slice_get slots (bound - 1) ≡ Some slot =
    ap (slice_get slots) (sym place_is) ∙ there in (
      before_of_word day c.args.done.now slot c.args.action c.in_ok-action_in.field-0.now word
          (c.loop.invariant.head.granted slot least there_too) c.in_ok-action_in.ensures
          (c.in_ok-word.ensures word ∙ own_word word),
      (c.requires.built.right place slot there).is_action,
      left_of c.args.done.now slot.action c.has_come.result c.has_come.ensures
          c.if-not-has_come.true,
    )

pub loop-preserved : goal.loop-preserved
loop-preserved c =
    let slots = c.args.table.now.slots.items in
    let below = c.args.table.now.below.items in
    let slot = c.index.result.now in
    let next = c.index-bound.result.now in
    let place = c.in_ok-place.place in
    let bound = c.loop.bound in
    let least : 0 < bound = omega (arith, c.in_ok-place.ensures.0) in
    let place_is : place ≡ bound - 1 = omega (arith, c.in_ok-place.ensures.1) in
    let within : place < length slots =
    omega (arith, least, place_is, c.loop.invariant.less) in
    let long : length below ≡ length slots = c.requires.built.chain.long in
    let within_too : place < length below = omega (arith, within, long) in
    let there : slice_get slots (bound - 1) ≡ Some slot =
    ap (slice_get slots) (sym place_is)
    ∙ slice_get_read slots (length slots) place slot refl within c.index.ensures in
    let linked : slice_get below (bound - 1) ≡ Some next =
    ap (slice_get below) (sym place_is)
    ∙ slice_get_read below (length below) place next refl within_too c.index-bound.ensures in
    let step =
    head_next c.args.day.now c.args.table.now c.args.done.now c.in_ok-word.word bound next slot
    c.requires c.loop.invariant.head least there linked
    (come_of c.args.done.now slot.action c.has_come.result c.has_come.ensures
    c.if-not-has_come.false) in
    let less : next ≤ bound - 1 = step.1 in
    record {
      head = step.0;
      less = omega (arith, less, least, c.loop.invariant.less);
    }
