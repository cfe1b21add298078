use Rattle.venue_text.proofs.LiveLemmas.{told_sweeps}
use Rattle.venue_text.proofs.live_lines.swept.Goals as goal

pub returns : goal.returns
returns c taken at =
    let config = c.args.config.now in
    told_sweeps config taken c.args.moment _ c.in_ok-told.told.items
    (c.in_ok-told.ensures config taken at)
