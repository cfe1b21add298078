use Rattle.std.proofs.Common.{arith}
use Rattle.std.proofs.Math.Nat.{le-max_left, le-max_right}
use Rattle.venue_text.proofs.CompareLemmas.{same_more, same_all}
use Rattle.investor_texts.proofs.MarketLemmas.{apart_at, is_one}
use Rattle.investor_texts.proofs.same_market.are_same_traders.Goals as goal

pub loop-place-preserved : goal.loop-place-preserved
loop-place-preserved c =
    same_more c.args.one.now c.args.other.now c.loop-place.place c.loop-place.invariant
    (c.is_same_trader_at.ensures.0 c.if-not-is_same_trader_at.false)

pub returns-then-not-is_same_trader_at : goal.returns-then-not-is_same_trader_at
returns-then-not-is_same_trader_at c =
    apart_at c.args.one.now c.args.other.now c.loop-place.place c.is_same_trader_at.result
    c.is_same_trader_at.ensures c.if-not-is_same_trader_at.true

pub returns : goal.returns
returns c =
    let longest = c.max-longest.ensures in
    let end = c.loop-place-test.false in
    let first = c.len.ensures.value in
    let second = c.len-2.ensures.value in
    let one = le-max_left c.len.result c.len-2.result in
    let other = le-max_right c.len.result c.len-2.result in
    is_one c.args.one.now c.args.other.now
    (same_all c.args.one.now c.args.other.now c.loop-place.place
    (omega (arith, longest, end, first, one)) (omega (arith, longest, end, second, other))
    c.loop-place.invariant)
