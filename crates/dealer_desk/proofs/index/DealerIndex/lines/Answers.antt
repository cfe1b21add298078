use Rattle.std.proofs.Common.{◌∙◌, ap}
use Rattle.dealer_desk.specs.QuoteLines.{lines_of}
use Rattle.dealer_desk.specs.DealerTable.{IndexView}
use Rattle.dealer_desk.proofs.index.DealerIndex.lines.Goals as goal

pub returns : goal.returns
unfolding lines_of
returns c = c.as_slice.ensures.value ∙ c.self.invariant.table.lines_are ∙ ap (λ (v : IndexView). lines_of v.book) c.self.view_is
