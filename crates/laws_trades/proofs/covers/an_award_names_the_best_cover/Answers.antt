use Rattle.laws_trades.proofs.AwardLemmas.{award_covered}
use Rattle.laws_trades.proofs.covers.an_award_names_the_best_cover.Goals as goal

pub returns : goal.returns
returns c config steps room before after award moment is kind =
    award_covered config room c.the_cover_is_the_best_other_quote.ensures.best
    c.the_cover_is_the_best_other_quote.ensures.none steps before after award moment is kind
