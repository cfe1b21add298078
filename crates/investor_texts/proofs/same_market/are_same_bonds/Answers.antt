use Rattle.std.proofs.Common.{length, arith}
use Rattle.std.proofs.Math.Nat.{le-max_left, le-max_right}
use Rattle.venue_text.proofs.CompareLemmas.{same_more, same_all}
use Rattle.investor_texts.proofs.MarketLemmas.{apart_at, is_one}
use Rattle.investor_texts.proofs.same_market.are_same_bonds.Goals as goal

pub loop-place-preserved : goal.loop-place-preserved
loop-place-preserved c =
    same_more c.args.one.now c.args.other.now c.loop-place.place c.loop-place.invariant
    (c.is_same_bond_at.ensures.0 c.if-not-is_same_bond_at.false)

pub returns-then-not-is_same_bond_at : goal.returns-then-not-is_same_bond_at
returns-then-not-is_same_bond_at c =
    apart_at c.args.one.now c.args.other.now c.loop-place.place c.is_same_bond_at.result
    c.is_same_bond_at.ensures c.if-not-is_same_bond_at.true

pub returns : goal.returns
returns c =
    let longest = c.max-longest.ensures in
    let end = c.loop-place-test.false in
    let one = le-max_left (length c.args.one.now) (length c.args.other.now) in
    let other = le-max_right (length c.args.one.now) (length c.args.other.now) in
    is_one c.args.one.now c.args.other.now
    (same_all c.args.one.now c.args.other.now c.loop-place.place
    (omega (arith, longest, end, one)) (omega (arith, longest, end, other)) c.loop-place.invariant)
