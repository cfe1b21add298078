use Rattle.std.proofs.Common.{◌∙◌, ap}
use Rattle.investor_desk.specs.RequestLines.{lines_of}
use Rattle.investor_desk.proofs.index.InvestorIndex.into_lines.Goals as goal

-- the lines are those of the requests, which are the book's
pub returns : goal.returns
unfolding lines_of
returns c = c.self.invariant.lines_are ∙ ap lines_of c.self.view_is
