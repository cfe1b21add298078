use Rattle.std.proofs.Common.{◌∙◌, ap}
use Rattle.dealer_desk.specs.DealerFacts.{exposure_of}
use Rattle.dealer_desk.specs.DealerTable.{IndexView}
use Rattle.dealer_desk.proofs.index.DealerIndex.exposure.Goals as goal

pub returns-clause-value : goal.returns-clause-value
unfolding exposure_of
returns-clause-value c = c.self.invariant.table.exposure_is ∙ ap (λ (v : IndexView). exposure_of v.book) c.self.view_is
