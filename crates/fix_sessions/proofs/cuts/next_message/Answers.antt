use Rattle.std.proofs.Common.{◌≤◌, length, drop, ◌∙◌, arith, length-drop}
use Rattle.fix_sessions.specs.declared.cuts.What.TheVariants as what
use Rattle.fix_sessions.specs.declared.cuts.Front.TheVariants as front
use Rattle.fix_sessions.proofs.StreamLemmas.{next_garbled, next_wrong, next_begun, next_whole, next_long, next_nothing, goes_on, ends, some_left, front_at, there_at}
use Rattle.fix_sessions.proofs.cuts.next_message.Goals as goal

pub loop-skip-preserved-in-Garbled : goal.loop-skip-preserved-in-Garbled
loop-skip-preserved-in-Garbled c =
    let bytes = c.args.bytes.now in
    let skip = c.loop-skip.skip in
    let here = front_at bytes c.past.result.now skip c.front_of.result (front.Garbled) c.past.ensures.value c.front_of.ensures.value c.in-Garbled.is in (
      omega (arith, c.loop-skip-test.true),
      goes_on bytes skip 1 c.loop-skip.invariant.1
          (next_garbled (drop skip bytes) (some_left bytes skip c.loop-skip-test.true) here),
    )

pub loop-skip-preserved : goal.loop-skip-preserved
loop-skip-preserved c =
    let bytes = c.args.bytes.now in
    let skip = c.loop-skip.skip in
    let here = front_at bytes c.past.result.now skip c.front_of.result (front.Wrong c.in-Wrong.len) c.past.ensures.value c.front_of.ensures.value c.in-Wrong.is in
    let len = c.in-Wrong.len in
    let there = there_at bytes c.past.result.now skip c.front_of.result len c.past.ensures.value c.in-Wrong.is c.front_of.ensures.there in (
      omega (arith, c.loop-skip-test.true, there.1, length-drop skip bytes),
      goes_on bytes skip len c.loop-skip.invariant.1
          (next_wrong (drop skip bytes) len (some_left bytes skip c.loop-skip-test.true) there.0 here),
    )

pub returns-in-Begun : goal.returns-in-Begun
returns-in-Begun c =
    let bytes = c.args.bytes.now in
    let skip = c.loop-skip.skip in
    let here = front_at bytes c.past.result.now skip c.front_of.result (front.Begun) c.past.ensures.value c.front_of.ensures.value c.in-Begun.is in
    c.found_at.ensures ∙ ends bytes skip what.Nothing c.loop-skip.invariant.1
    (next_begun (drop skip bytes) (some_left bytes skip c.loop-skip-test.true) here)

pub returns-in-Whole : goal.returns-in-Whole
returns-in-Whole c =
    let bytes = c.args.bytes.now in
    let skip = c.loop-skip.skip in
    let here = front_at bytes c.past.result.now skip c.front_of.result (front.Whole c.in-Whole.len) c.past.ensures.value c.front_of.ensures.value c.in-Whole.is in
    c.found_at-in-Whole.ensures ∙ ends bytes skip (what.Message c.in-Whole.len) c.loop-skip.invariant.1
    (next_whole (drop skip bytes) c.in-Whole.len (some_left bytes skip c.loop-skip-test.true) here)

pub returns-in-TooLong : goal.returns-in-TooLong
returns-in-TooLong c =
    let bytes = c.args.bytes.now in
    let skip = c.loop-skip.skip in
    let here = front_at bytes c.past.result.now skip c.front_of.result (front.TooLong) c.past.ensures.value c.front_of.ensures.value c.in-TooLong.is in
    c.found_at-in-TooLong.ensures ∙ ends bytes skip what.TooLong c.loop-skip.invariant.1
    (next_long (drop skip bytes) (some_left bytes skip c.loop-skip-test.true) here)

pub returns : goal.returns
returns c =
    let bytes = c.args.bytes.now in
    let skip = c.loop-skip.skip in
    let none : length (drop skip bytes) ≤ 0 = omega (arith, c.loop-skip-test.false, length-drop skip bytes) in
    c.found_at-2.ensures ∙ ends bytes skip what.Nothing c.loop-skip.invariant.1 (next_nothing (drop skip bytes) none)
