use Rattle.venue_text.proofs.DayLemmas.{block_more}
use Rattle.venue_text.proofs.long_text.LongText.push.Goals as goal

pub returns-clause-ok : goal.returns-clause-ok
returns-clause-ok c =
    block_more (λ block. block.items) c.self.inside.blocks.items _ c.args.block c.args.self.now
    c.self.view_is c.in_ok-push.ensures.items
