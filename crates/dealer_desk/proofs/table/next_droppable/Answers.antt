use Rattle.std.proofs.Common.{◌≡◌, ◌<◌, false, Some, slice_get, sym, ap, ◌∙◌, arith}
use borrow.Author.Count.{below_more}
use Rattle.dealer_desk.specs.DealerFacts.{is_droppable}
use Rattle.dealer_desk.specs.declared.standing.StandingQuote.{StandingQuote}
use Rattle.std.proofs.lemmas.Option.{get_or_from_slice_get}
use Rattle.dealer_desk.proofs.ListLemmas.{first_place, no_place}
use Rattle.dealer_desk.proofs.table.next_droppable.Goals as goal

pub loop-i-preserved : goal.loop-i-preserved
loop-i-preserved c = λ k own below at.
    below_more (λ j. (y : StandingQuote) → slice_get c.args.quotes.now j ≡ Some y → is_droppable y ≡ false) c.loop-i.i
    (λ j under y there. c.loop-i.invariant j y under there)
    (λ y there.
    let here : c.index-quotes-i.result ≡ y = c.index-quotes-i.is ∙ get_or_from_slice_get c.args.quotes.now c.loop-i.i y c.index-quotes-i.result there in
    ap is_droppable (sym here) ∙ sym (c.if-is_droppable.ensures))
    k below own at

pub returns-then-is_droppable : goal.returns-then-is_droppable
returns-then-is_droppable c =
    first_place is_droppable c.args.quotes.now c.loop-i.i c.index-quotes-i.result c.loop-i-test.true
    (λ k y below at. c.loop-i.invariant k y below at)
    (ap is_droppable (sym c.index-quotes-i.is) ∙ sym c.if-is_droppable.ensures)

pub returns : goal.returns
returns c = no_place is_droppable c.args.quotes.now (λ k y below at. let less : k < c.loop-i.i = omega arith in c.loop-i.invariant k y less at)
