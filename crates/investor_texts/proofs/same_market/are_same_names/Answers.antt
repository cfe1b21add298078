use Rattle.std.proofs.Common.{length, arith}
use Rattle.std.proofs.Math.Nat.{le-max_left, le-max_right}
use Rattle.std.proofs.lemmas.List.{length-map}
use Rattle.venue_rows.specs.declared.dealer_rows.DealerRow.{DealerRow}
use Rattle.investor_texts.specs.DealerNames.{names_of}
use Rattle.venue_text.proofs.CompareLemmas.{same_more, same_all}
use Rattle.investor_texts.proofs.MarketLemmas.{apart_by_name, is_one, same_name}
use Rattle.investor_texts.proofs.same_market.are_same_names.Goals as goal

pub loop-place-preserved : goal.loop-place-preserved
loop-place-preserved c =
    same_more (names_of c.args.one.now) (names_of c.args.other.now) c.loop-place.place
    c.loop-place.invariant
    (same_name c.args.one.now c.args.other.now c.loop-place.place
    (c.is_same_name_at.ensures.0 c.if-not-is_same_name_at.false))

pub returns-then-not-is_same_name_at : goal.returns-then-not-is_same_name_at
returns-then-not-is_same_name_at c =
    apart_by_name c.args.one.now c.args.other.now c.loop-place.place c.is_same_name_at.result
    c.is_same_name_at.ensures c.if-not-is_same_name_at.true

pub returns : goal.returns
returns c =
    let longest = c.max-longest.ensures in
    let end = c.loop-place-test.false in
    let one = le-max_left (length c.args.one.now) (length c.args.other.now) in
    let other = le-max_right (length c.args.one.now) (length c.args.other.now) in
    let name = λ (dealer : DealerRow). dealer.name in
    let first = length-map c.args.one.now name in
    let second = length-map c.args.other.now name in
    is_one (names_of c.args.one.now) (names_of c.args.other.now)
    (same_all (names_of c.args.one.now) (names_of c.args.other.now) c.loop-place.place
    (omega (arith, longest, end, one, first)) (omega (arith, longest, end, other, second))
    c.loop-place.invariant)
