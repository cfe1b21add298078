use Rattle.std.proofs.Common.{◌∙◌, ap}
use Rattle.dealer_desk.specs.QuoteLines.{lines_of}
use Rattle.dealer_desk.specs.DealerTable.{IndexView}
use Rattle.dealer_desk.proofs.index.DealerIndex.into_lines.Goals as goal

-- the lines are those of the quotes, which are the book's
pub returns : goal.returns
unfolding lines_of
returns c = c.self.invariant.table.lines_are
    ∙ ap (λ (index : IndexView). lines_of index.book) c.self.view_is
