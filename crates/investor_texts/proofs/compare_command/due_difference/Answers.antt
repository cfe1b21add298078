use Rattle.std.proofs.Common.{length, arith}
use Rattle.std.proofs.Math.Nat.{le-max_left, le-max_right}
use Rattle.investor_texts.proofs.compare_command.due_difference.Goals as goal
use Rattle.venue_text.proofs.CompareLemmas.{same_more, same_all}

pub loop-place-preserved : goal.loop-place-preserved
loop-place-preserved c =
    same_more c.args.one.now c.args.other.now c.loop-place.place c.loop-place.invariant
    (c.is_same_due_at.ensures.0 c.if-not-is_same_due_at.false)

pub returns : goal.returns
returns c =
    let longest = c.max-longest.ensures in
    let end = c.loop-place-test.false in
    let one = le-max_left (length c.args.one.now) (length c.args.other.now) in
    let other = le-max_right (length c.args.one.now) (length c.args.other.now) in
    same_all c.args.one.now c.args.other.now c.loop-place.place
    (omega (arith, longest, end, one)) (omega (arith, longest, end, other)) c.loop-place.invariant
