use Rattle.std.proofs.Common.{◌∙◌, sym, ap, fold}
use Rattle.venue_text.specs.LiveLines.{nothing_taken, with_line}
use Rattle.venue_text.proofs.LiveInputLemmas.{part_by_part}
use Rattle.venue_text.proofs.live_laws.lines_bring_the_same_however_they_come.Goals as goal

pub returns : goal.returns
returns c config parts others same =
    part_by_part config (nothing_taken config) parts
    ∙ ap (fold (with_line config) (nothing_taken config)) same
    ∙ sym (part_by_part config (nothing_taken config) others)
