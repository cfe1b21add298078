use Rattle.std.proofs.Common.{◌∙◌, ap}
use Rattle.investor_desk.specs.RequestLines.{lines_of}
use Rattle.investor_desk.proofs.index.InvestorIndex.lines.Goals as goal

pub returns : goal.returns
unfolding lines_of
returns c = c.as_slice.ensures.value ∙ c.self.invariant.lines_are ∙ ap lines_of c.self.view_is
